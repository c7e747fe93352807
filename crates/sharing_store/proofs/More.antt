-- One object more.
use Rattle.std.proofs.Common.{◌≡◌, ℕ, ◌+◌, ◌<◌, ◌≢◌, List, length, set, sym, refl, ap, ◌∙◌, subst, inl, inr, ⊎_elim, arith, length-set, get_or-set_other, get_or-set_same}
use Rattle.std.proofs.lemmas.Bool.{cases_eq}
use Rattle.sharing_store.specs.declared.entries.SharedEntry.{SharedEntry}
use Rattle.sharing_store.specs.declared.table.SharingStore.{SharingStore}
use Rattle.sharing_store.specs.Views.{no_entry, entry_at, View, view, Filled, Sound}
use Rattle.sharing_store.specs.States.{entry, shown, RootOf}
use Rattle.sharing_store.proofs.Steps.{Agrees, push}
use Rattle.sharing_store.proofs.Walks.{with_last, sd_of}

-- the new object is one of its own
pub made_sound : (v w : View) (n : ℕ) → ((k : ℕ) → k < n → Agrees v w k) → ((k : ℕ) → k < n → w.last k ≡ v.last k) → Sound v n → Filled w n → w.root n ≡ n → w.last n ≡ n → w.previous n ≡ n → Sound w (n + 1)
made_sound v w n same lasts sd full root last previous =
    push v w n same (λ k lt. inl (lasts k lt)) sd (record {
      root_low = omega arith;
      root_size = ap w.size root;
      root_filled = ap w.held root ∙ full ∙ sym (ap w.first root);
      held_in = inl full;
      last_low = omega arith;
      last_ours = inl last;
      previous_low = omega arith;
      previous_falls = inl root;
      previous_ours = inl (previous ∙ sym root);
      listed = inl full;
      listed_before = λ j low q. absurd (omega (arith, q, root, (same j low).root_is, (sd j low).root_low));
    })

-- the new object shares with r
pub record CloneOf (v w : View) (n r : ℕ) : Type 0 where
  pub root_in : r < n
  pub root_is : w.root n ≡ r
  pub size_is : w.size n ≡ v.size r
  pub held_is : w.held n ≡ v.first r
  pub root_filled : Filled v r
  pub last_is : w.last n ≡ n
  pub last_root : w.last r ≡ n
  pub previous_is : w.previous n ≡ v.last r

pub cloned_sound : (v w : View) (n r : ℕ) → ((k : ℕ) → k < n → Agrees v w k) → ((k : ℕ) → k < n → k ≢ r → w.last k ≡ v.last k) → Sound v n → CloneOf v w n r → Sound w (n + 1)
cloned_sound v w n r same lasts sd c =
    let a = same r c.root_in in
    let e = sd r c.root_in in
    let root_first : w.first (w.root n) ≡ v.first r = ap w.first c.root_is ∙ a.first_is in
    push v w n same
    (λ k lt. ⊎_elim (λ q. inr (ap w.last q ∙ c.last_root, c.root_is ∙ sym q)) (λ ne. inl (lasts k lt ne)) (cases_eq k r))
    sd
    (record {
      root_low = omega (arith, c.root_is, c.root_in);
      root_size = ap w.size c.root_is ∙ a.size_is ∙ sym c.size_is;
      root_filled = ap w.held c.root_is ∙ a.held_is ∙ c.root_filled ∙ sym root_first;
      held_in = inr (c.held_is ∙ sym root_first);
      last_low = omega (arith, c.last_is);
      last_ours = inl c.last_is;
      previous_low = omega (arith, c.previous_is, e.last_low);
      previous_falls = inr (omega (arith, c.previous_is, e.last_low));
      previous_ours = ⊎_elim
          (λ q. inl (c.previous_is ∙ q ∙ sym c.root_is))
          (λ q. inr (ap w.root c.previous_is ∙ (same (v.last r) e.last_low).root_is ∙ q ∙ sym c.root_is))
          e.last_ours;
      listed = inr (omega (arith, ap w.last c.root_is, c.last_root));
      listed_before = λ j low q.
          let b = same j low in
          let j_root : v.root j ≡ r = sym b.root_is ∙ q ∙ c.root_is in
          ⊎_elim
          (λ f. inl (b.held_is ∙ f ∙ sym b.first_is))
          (λ h. inr (omega (arith, h, ap v.last j_root, c.previous_is)))
          (sd j low).listed;
    })

module _ (es fs : List SharedEntry) (k x : ℕ) (p : entry_at fs k ≡ with_last (entry_at es k) x) where
  pub agrees : Agrees (view es) (view fs) k
  agrees = record {
    first_is = ap (λ (e : SharedEntry). e.first) p;
    size_is = ap (λ (e : SharedEntry). e.size) p;
    held_is = ap (λ (e : SharedEntry). e.held) p;
    root_is = ap (λ (e : SharedEntry). e.root) p;
    previous_is = ap (λ (e : SharedEntry). e.previous) p;
  }

-- an entry is put past the objects
module _ (es : List SharedEntry) (n : ℕ) (room : n < length es) (new : SharedEntry) where
  pub put_at : entry_at (set es n new) n ≡ new
  put_at = get_or-set_same es n new no_entry room

  pub put_other : (k : ℕ) → k < n → entry_at (set es n new) k ≡ entry_at es k
  put_other k lt = get_or-set_other es n k new no_entry (omega arith)

  pub put_agrees : (k : ℕ) → k < n → Agrees (view es) (view (set es n new)) k
  put_agrees k lt = agrees es (set es n new) k (entry_at es k).last (put_other k lt)

  pub put_lasts : (k : ℕ) → k < n → (entry_at (set es n new) k).last ≡ (entry_at es k).last
  put_lasts k lt = ap (λ (e : SharedEntry). e.last) (put_other k lt)

  -- and is the last of those that share with r
  module _ (r : ℕ) (in_use : r < n) where
    abbrev listing : SharedEntry
    listing = with_last (entry_at es r) n

    abbrev pub joined : List SharedEntry
    joined = set (set es r listing) n new

    pub join_at : entry_at joined n ≡ new
    join_at = get_or-set_same (set es r listing) n new no_entry (omega (arith, length-set es r listing))

    join_root : entry_at joined r ≡ listing
    join_root = get_or-set_other (set es r listing) n r new no_entry (omega arith) ∙ get_or-set_same es r listing no_entry (omega arith)

    join_other : (k : ℕ) → k < n → k ≢ r → entry_at joined k ≡ entry_at es k
    join_other k lt ne = get_or-set_other (set es r listing) n k new no_entry (omega arith) ∙ get_or-set_other es r k listing no_entry ne

    pub join_agrees : (k : ℕ) → k < n → Agrees (view es) (view joined) k
    join_agrees k lt = ⊎_elim
        (λ q. subst (λ (x : ℕ). Agrees (view es) (view joined) x) (sym q) (agrees es joined r n join_root))
        (λ ne. agrees es joined k (entry_at es k).last (join_other k lt ne))
        (cases_eq k r)

    pub join_room : n < length joined
    join_room = omega (arith, length-set es r listing, length-set (set es r listing) n new)

    pub join_sound : new.root ≡ r → new.size ≡ (entry_at es r).size → new.held ≡ (entry_at es r).first → new.last ≡ n → new.previous ≡ (entry_at es r).last → Filled (view es) r → Sound (view es) n → Sound (view joined) (n + 1)
    join_sound root size held last previous full sd =
        cloned_sound (view es) (view joined) n r join_agrees (λ k lt ne. ap (λ (e : SharedEntry). e.last) (join_other k lt ne)) sd (record {
          root_in = in_use;
          root_is = ap (λ (e : SharedEntry). e.root) join_at ∙ root;
          size_is = ap (λ (e : SharedEntry). e.size) join_at ∙ size;
          held_is = ap (λ (e : SharedEntry). e.held) join_at ∙ held;
          root_filled = full;
          last_is = ap (λ (e : SharedEntry). e.last) join_at ∙ last;
          last_root = ap (λ (e : SharedEntry). e.last) join_root;
          previous_is = ap (λ (e : SharedEntry). e.previous) join_at ∙ previous;
        })

  pub put_made : Sound (view es) n → new.held ≡ new.first → new.root ≡ n → new.last ≡ n → new.previous ≡ n → Sound (view (set es n new)) (n + 1)
  put_made sd full root last previous =
      made_sound (view es) (view (set es n new)) n put_agrees put_lasts sd
      (ap (λ (e : SharedEntry). e.held) put_at ∙ full ∙ sym (ap (λ (e : SharedEntry). e.first) put_at))
      (ap (λ (e : SharedEntry). e.root) put_at ∙ root)
      (ap (λ (e : SharedEntry). e.last) put_at ∙ last)
      (ap (λ (e : SharedEntry). e.previous) put_at ∙ previous)

module _ (s : SharingStore) (l : ℕ) (lt : l < s.areas.object_count) where
  pub root_itself : Filled (shown s) l → RootOf s l l
  root_itself f = record { low = omega arith; root_filled = f; root_size = refl; root_first = f }

  pub root_shared : (Filled (shown s) l → ⊥) → RootOf s l (entry s l).root
  root_shared un =
      let e = sd_of s l lt in
      record { low = e.root_low; root_filled = e.root_filled; root_size = sym e.root_size; root_first = ⊎_elim (λ f. absurd (un f)) (λ q. q) e.held_in }
