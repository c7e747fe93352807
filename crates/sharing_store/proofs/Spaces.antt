-- Where the objects of a sharing store lie, and that they lie apart.
use Rattle.std.proofs.Common.{◌≡◌, ℕ, ◌+◌, ◌<◌, ◌≤◌, true, ◌≢◌, ◌⊎◌, List, length, inl, inr, ⊎_elim, arith}
use Rattle.std.proofs.lemmas.Bool.{cases_order, cases_eq}
use Rattle.store.proofs.Objects.{own_in, own_order}
use Rattle.sharing_store.specs.declared.entries.SharedEntry.{SharedEntry}
use Rattle.sharing_store.specs.Views.{no_entry, entry_at, own_span, laid_out, view, Filled, Sound}

module _ (es : List SharedEntry) (n : ℕ) (fits : n ≤ length es) (end : ℕ) (ok : laid_out es n end ≡ true) where
  pub space_in : (k : ℕ) → k < n → (entry_at es k).first + (entry_at es k).size ≤ end
  space_in = own_in no_entry es n fits own_span end ok

  pub in_order : (j k : ℕ) → j < k → k < n → (entry_at es j).first + (entry_at es j).size ≤ (entry_at es k).first
  in_order = own_order no_entry es n fits own_span end ok

  own_apart : (k l : ℕ) → k < n → l < n → k ≢ l → ((entry_at es k).first + (entry_at es k).size ≤ (entry_at es l).first) ⊎ ((entry_at es l).first + (entry_at es l).size ≤ (entry_at es k).first)
  own_apart k l lt lt' other = ⊎_elim (λ q. absurd (other q)) (λ o. ⊎_elim (λ low. inl (in_order k l low lt')) (λ high. inr (in_order l k high lt)) o) (cases_order k l)

  module _ (sd : Sound (view es) n) where
    pub held_in_use : (k : ℕ) → k < n → (entry_at es k).held + (entry_at es k).size ≤ end
    held_in_use k lt =
        let e = sd k lt in
        let o = space_in k lt in
        let r = space_in (entry_at es k).root (omega (arith, e.root_low)) in
        ⊎_elim (λ f. omega (arith, o, f)) (λ f. omega (arith, r, f, e.root_size)) e.held_in

    -- the methods of k lie apart from the space of l, with which it does not share
    pub lie_apart : (k l : ℕ) → k < n → l < n → k ≢ l → ((entry_at es k).root ≡ l → Filled (view es) k) → ((entry_at es k).held + (entry_at es k).size ≤ (entry_at es l).first) ⊎ ((entry_at es l).first + (entry_at es l).size ≤ (entry_at es k).held)
    lie_apart k l lt lt' other alone =
        let e = sd k lt in
        let r = (entry_at es k).root in
        let full : Filled (view es) k → ((entry_at es k).held + (entry_at es k).size ≤ (entry_at es l).first) ⊎ ((entry_at es l).first + (entry_at es l).size ≤ (entry_at es k).held) = λ f. ⊎_elim (λ a. inl (omega (arith, a, f))) (λ a. inr (omega (arith, a, f))) (own_apart k l lt lt' other) in
        ⊎_elim full
        (λ f. ⊎_elim (λ q. full (alone q))
        (λ ne. ⊎_elim (λ a. inl (omega (arith, a, f, e.root_size))) (λ a. inr (omega (arith, a, f, e.root_size))) (own_apart r l (omega (arith, e.root_low)) lt' ne))
        (cases_eq r l))
        e.held_in
