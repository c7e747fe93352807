-- What each step keeps.
use Rattle.std.proofs.Common.{◌≡◌, ℕ, ◌+◌, ◌<◌, ◌≤◌, ◌⊎◌, sym, ap, ◌∙◌, subst, inl, inr, ⊎_elim, arith}
use Rattle.std.proofs.lemmas.Bool.{cases_lt}
use Rattle.sharing_store.specs.Views.{View, Filled, Linked, Sound}

abbrev pub refilled : View → (ℕ → ℕ) → View
refilled v h = record { first = v.first; size = v.size; held = h; root = v.root; last = v.last; previous = v.previous }

abbrev pub relisted : View → (ℕ → ℕ) → View
relisted v l = record { first = v.first; size = v.size; held = v.held; root = v.root; last = l; previous = v.previous }

-- some objects are filled
module _ (v : View) (h : ℕ → ℕ) (n : ℕ) (fills : (k : ℕ) → (h k ≡ v.held k) ⊎ (h k ≡ v.first k)) where
  stays : (k : ℕ) → Filled v k → h k ≡ v.first k
  stays k f = ⊎_elim (λ e. e ∙ f) (λ e. e) (fills k)

  pub refill : Sound v n → Sound (refilled v h) n
  refill s k lt =
      let e = s k lt in
      record {
        root_low = e.root_low;
        root_size = e.root_size;
        root_filled = stays (v.root k) e.root_filled;
        held_in = ⊎_elim (λ same. ⊎_elim (λ f. inl (same ∙ f)) (λ g. inr (same ∙ g)) e.held_in) (λ now. inl now) (fills k);
        last_low = e.last_low;
        last_ours = e.last_ours;
        previous_low = e.previous_low;
        previous_falls = e.previous_falls;
        previous_ours = e.previous_ours;
        listed = ⊎_elim (λ f. inl (stays k f)) inr e.listed;
        listed_before = λ j low same. ⊎_elim (λ f. inl (stays j f)) inr (e.listed_before j low same);
      }

-- the list of an object with which none shares is emptied
pub unlist : (v : View) (l : ℕ → ℕ) (n s : ℕ) → s < n → ((k : ℕ) → (l k ≡ v.last k) ⊎ ((k ≡ s) × (l k ≡ s))) → ((k : ℕ) → k < n → v.root k ≡ s → Filled v k) → Sound v n → Sound (relisted v l) n
unlist v l n s in_use lasts alone sd k lt =
    let e = sd k lt in
    record {
      root_low = e.root_low;
      root_size = e.root_size;
      root_filled = e.root_filled;
      held_in = e.held_in;
      last_low = ⊎_elim (λ same. rw same e.last_low) (λ t. rw t.1 in_use) (lasts k);
      last_ours = ⊎_elim (λ same. rw same e.last_ours) (λ t. inl (t.1 ∙ sym t.0)) (lasts k);
      previous_low = e.previous_low;
      previous_falls = e.previous_falls;
      previous_ours = e.previous_ours;
      listed = ⊎_elim (λ same. rw same e.listed) (λ t. inl (alone k lt t.0)) (lasts (v.root k));
      listed_before = e.listed_before;
    }

-- one object more
pub record Agrees (v w : View) (k : ℕ) : Type 0 where
  pub first_is : w.first k ≡ v.first k
  pub size_is : w.size k ≡ v.size k
  pub held_is : w.held k ≡ v.held k
  pub root_is : w.root k ≡ v.root k
  pub previous_is : w.previous k ≡ v.previous k

-- w is v below n; m is n, or one more
module _ (v w : View) (n m : ℕ) (up : n ≤ m) (same : (k : ℕ) → k < n → Agrees v w k) (lasts : (k : ℕ) → k < n → (w.last k ≡ v.last k) ⊎ ((w.last k ≡ n) × (w.root n ≡ k) × (n < m))) (sd : Sound v n) where
  module _ (k : ℕ) (lt : k < n) where
    e : Linked v n k
    e = sd k lt

    a : Agrees v w k
    a = same k lt

    root_lt : v.root k < n
    root_lt = omega (arith, e.root_low)

    r : Agrees v w (v.root k)
    r = same (v.root k) root_lt

    at_root : (f : ℕ → ℕ) → f (w.root k) ≡ f (v.root k)
    at_root f = ap f a.root_is

    still : Filled v k → Filled w k
    still f = a.held_is ∙ f ∙ sym a.first_is

    last_still : (w.last k ≡ k) ⊎ (w.root (w.last k) ≡ k)
    last_still = ⊎_elim
        (λ q. ⊎_elim (λ x. inl (q ∙ x)) (λ x. inr (ap w.root q ∙ (same (v.last k) e.last_low).root_is ∙ x)) e.last_ours)
        (λ q. inr (ap w.root q.0 ∙ q.1)) (lasts k lt)

    listed_still : Filled w k ⊎ (k ≤ w.last (w.root k))
    listed_still = ⊎_elim
        (λ f. inl (still f))
        (λ x. ⊎_elim (λ q. inr (omega (arith, x, q, at_root w.last))) (λ q. inr (omega (arith, q.0, at_root w.last))) (lasts (v.root k) root_lt))
        e.listed

    pub old : Linked w m k
    old =
        let p = same (v.previous k) (omega (arith, e.previous_low)) in
        record {
          root_low = omega (arith, a.root_is, e.root_low);
          root_size = at_root w.size ∙ r.size_is ∙ e.root_size ∙ sym a.size_is;
          root_filled = at_root w.held ∙ r.held_is ∙ e.root_filled ∙ sym (at_root w.first ∙ r.first_is);
          held_in = ⊎_elim (λ f. inl (still f)) (λ g. inr (a.held_is ∙ g ∙ sym (at_root w.first ∙ r.first_is))) e.held_in;
          last_low = ⊎_elim (λ q. omega (arith, q, e.last_low)) (λ q. omega (arith, q.0, q.2)) (lasts k lt);
          last_ours = last_still;
          previous_low = omega (arith, a.previous_is, e.previous_low);
          previous_falls = ⊎_elim (λ x. inl (a.root_is ∙ x)) (λ x. inr (omega (arith, a.previous_is))) e.previous_falls;
          previous_ours = ⊎_elim (λ x. inl (a.previous_is ∙ x ∙ sym a.root_is)) (λ x. inr (ap w.root a.previous_is ∙ p.root_is ∙ x ∙ sym a.root_is)) e.previous_ours;
          listed = listed_still;
          listed_before = λ j low q.
              let b = same j (omega arith) in
              ⊎_elim (λ f. inl (b.held_is ∙ f ∙ sym b.first_is)) (λ x. inr (omega (arith, a.previous_is))) (e.listed_before j low (sym b.root_is ∙ q ∙ a.root_is));
        }

pub push : (v w : View) (n : ℕ) → ((k : ℕ) → k < n → Agrees v w k) → ((k : ℕ) → k < n → (w.last k ≡ v.last k) ⊎ ((w.last k ≡ n) × (w.root n ≡ k))) → Sound v n → Linked w (n + 1) n → Sound w (n + 1)
push v w n same lasts sd new k lt =
    ⊎_elim
    (λ low. old v w n (n + 1) (omega arith) same (λ x h. ⊎_elim inl (λ q. inr (q.0, q.1, omega arith)) (lasts x h)) sd k low)
    (λ high. let q : n ≡ k = omega arith in subst (λ (x : ℕ). Linked w (n + 1) x) q new)
    (cases_lt k n)
