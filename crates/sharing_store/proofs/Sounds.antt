-- The test says what it should.
use Rattle.std.proofs.Common.{◌≡◌, ℕ, ◌<◌, ◌≤◌, Bool, true, false, not, ◌||◌, eqb, leb, ◌⊎◌, List, Decides, refl}
use Rattle.std.proofs.lemmas.Bool.{leb-true, le-leb, false≢true}
use Rattle.std.proofs.lemmas.Bool.Decides.{Decides-eqb, Decides-ltb, Decides-and, Decides-or, Decides-like, Decides-below_and}
use Rattle.sharing_store.specs.declared.entries.SharedEntry.{SharedEntry}
use Rattle.sharing_store.specs.Views.{View, view, Filled, Linked, Sound, filled, before, linked, all_linked, sound}

decides_leb : (a b : ℕ) → Decides (leb a b) (a ≤ b)
decides_leb a b = (leb-true a b, le-leb a b)

decides_if : {P Q : Type 0} (x y : Bool) → Decides x P → Decides y Q → Decides (not x || y) (P → Q)
decides_if true y d e = (λ h p. e.0 h, λ f. e.1 (f (d.0 refl)))
decides_if false y d e = (λ h p. absurd (false≢true (d.1 p)), λ f. refl)

module _ (v : View) where
  decides_filled : (k : ℕ) → Decides (filled v k) (Filled v k)
  decides_filled k = Decides-eqb (v.held k) (v.first k)

  abbrev Before : ℕ → ℕ → Type 0
  Before k j = v.root j ≡ v.root k → Filled v j ⊎ (j ≤ v.previous k)

  decides_before : (k n : ℕ) → Decides (before v k n) ((j : ℕ) → j < n → Before k j)
  unfolding before
  decides_before k n =
      Decides-below_and (λ j. not (eqb (v.root j) (v.root k)) || (filled v j || leb j (v.previous k))) (Before k) (before v k)
      (λ j. decides_if (eqb (v.root j) (v.root k)) (filled v j || leb j (v.previous k)) (Decides-eqb (v.root j) (v.root k)) (Decides-or (filled v j) (leb j (v.previous k)) (decides_filled j) (decides_leb j (v.previous k))))
      refl (λ _. refl) n

  decides_linked : (n k : ℕ) → Decides (linked v n k) (Linked v n k)
  unfolding linked
  decides_linked n k =
      let r = v.root k in
      let l = v.last k in
      let p = v.previous k in
      let d = Decides-and _ _ (decides_leb r k) (
      Decides-and _ _ (Decides-eqb (v.size r) (v.size k)) (
      Decides-and _ _ (decides_filled r) (
      Decides-and _ _ (Decides-or _ _ (decides_filled k) (Decides-eqb (v.held k) (v.first r))) (
      Decides-and _ _ (Decides-ltb l n) (
      Decides-and _ _ (Decides-or _ _ (Decides-eqb l k) (Decides-eqb (v.root l) k)) (
      Decides-and _ _ (decides_leb p k) (
      Decides-and _ _ (Decides-or _ _ (Decides-eqb r k) (Decides-ltb p k)) (
      Decides-and _ _ (Decides-or _ _ (Decides-eqb p r) (Decides-eqb (v.root p) r)) (
      Decides-and _ _ (Decides-or _ _ (decides_filled k) (decides_leb k (v.last r))) (decides_before k k)))))))))) in
      Decides-like (linked v n k)
      (λ t. record {
        root_low = t.0;
        root_size = t.1.0;
        root_filled = t.1.1.0;
        held_in = t.1.1.1.0;
        last_low = t.1.1.1.1.0;
        last_ours = t.1.1.1.1.1.0;
        previous_low = t.1.1.1.1.1.1.0;
        previous_falls = t.1.1.1.1.1.1.1.0;
        previous_ours = t.1.1.1.1.1.1.1.1.0;
        listed = t.1.1.1.1.1.1.1.1.1.0;
        listed_before = t.1.1.1.1.1.1.1.1.1.1;
      })
      (λ e. (e.root_low, (e.root_size, (e.root_filled, (e.held_in, (e.last_low, (e.last_ours, (e.previous_low, (e.previous_falls, (e.previous_ours, (e.listed, e.listed_before)))))))))))
      d

  decides_all : (n m : ℕ) → Decides (all_linked v n m) ((k : ℕ) → k < m → Linked v n k)
  unfolding all_linked
  decides_all n m = Decides-below_and (linked v n) (Linked v n) (all_linked v n) (decides_linked n) refl (λ _. refl) m

pub sound_tells : (es : List SharedEntry) (n : ℕ) → sound es n ≡ true → Sound (view es) n
unfolding sound
sound_tells es n = (decides_all (view es) n n).0

pub sound_from : (es : List SharedEntry) (n : ℕ) → Sound (view es) n → sound es n ≡ true
unfolding sound
sound_from es n = (decides_all (view es) n n).1
