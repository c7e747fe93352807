-- One object is filled.
use Rattle.std.proofs.Common.{◌≡◌, ℕ, ◌<◌, ◌≤◌, true, ◌≢◌, ◌⊎◌, List, [], length, set, sym, ap, ◌∙◌, subst, inl, inr, ⊎_elim, arith, length-set, get_or-set_other, get_or-set_same}
use lib.Seq.{paste}
use Rattle.std.proofs.lemmas.Bool.{cases_eq}
use Rattle.store.specs.declared.closures.Method.{Method}
use Rattle.store.specs.Layout.{part, laid, objects_in}
use Rattle.store.proofs.Objects.{same_map}
use Rattle.store.proofs.Spans.{no_span, length_part}
use Rattle.store.proofs.Writes.{cut_before, cut_after, cut_new}
use Rattle.sharing_store.specs.declared.entries.SharedEntry.{SharedEntry}
use Rattle.sharing_store.specs.Views.{no_entry, entry_at, own_span, held_span, laid_out, View, view, Filled, Sound}
use Rattle.sharing_store.specs.States.{with_held}
use Rattle.sharing_store.proofs.Spaces.{space_in, held_in_use, lie_apart}
use Rattle.sharing_store.proofs.Steps.{refilled, refill}

module _ (es : List SharedEntry) (ms : List Method) (n : ℕ) (fits : n ≤ length es) (end : ℕ) (ok : laid_out es n end ≡ true) (room : end ≤ length ms) (sd : Sound (view es) n) (l : ℕ) (lt : l < n) (un : Filled (view es) l → ⊥) where
  abbrev full : SharedEntry
  full = with_held (entry_at es l) (entry_at es l).first

  abbrev after : List SharedEntry
  after = set es l full

  abbrev moved : List Method
  moved = part ms (held_span (entry_at es l))

  abbrev written : List Method
  written = paste ms (entry_at es l).first moved (entry_at es l).size

  at_l : entry_at after l ≡ full
  at_l = get_or-set_same es l full no_entry (omega arith)

  at_other : (k : ℕ) → k ≢ l → entry_at after k ≡ entry_at es k
  at_other k ne = get_or-set_other es l k full no_entry ne

  pub entries_only : (k : ℕ) → entry_at after k ≡ with_held (entry_at es k) (entry_at after k).held
  entries_only k =
      ⊎_elim
      (λ q. subst (λ (x : ℕ). entry_at after x ≡ with_held (entry_at es x) (entry_at after x).held) (sym q) (at_l ∙ ap (with_held (entry_at es l)) (sym (ap (λ (x : SharedEntry). x.held) at_l))))
      (λ ne. at_other k ne ∙ ap (with_held (entry_at es k)) (sym (ap (λ (x : SharedEntry). x.held) (at_other k ne))))
      (cases_eq k l)

  pub filled_now : Filled (view after) l
  filled_now = ap (λ (x : SharedEntry). x.held) at_l ∙ sym (ap (λ (x : SharedEntry). x.first) at_l)

  fills : (k : ℕ) → ((entry_at after k).held ≡ (entry_at es k).held) ⊎ ((entry_at after k).held ≡ (entry_at es k).first)
  fills k =
      ⊎_elim
      (λ q. inr (subst (λ (x : ℕ). (entry_at after x).held ≡ (entry_at es x).first) (sym q) (ap (λ (x : SharedEntry). x.held) at_l)))
      (λ ne. inl (ap (λ (x : SharedEntry). x.held) (at_other k ne)))
      (cases_eq k l)

  pub stays_filled : (k : ℕ) → Filled (view es) k → Filled (view after) k
  stays_filled k f = ⊎_elim (λ same. same ∙ f) (λ q. q) (fills k) ∙ sym (ap (λ (x : SharedEntry). x.first) (entries_only k))

  seen : view after ≡ refilled (view es) (λ k. (entry_at after k).held)
  seen = λ i. record {
    first = λ k. (entries_only k i).first;
    size = λ k. (entries_only k i).size;
    held = λ k. (entry_at after k).held;
    root = λ k. (entries_only k i).root;
    last = λ k. (entries_only k i).last;
    previous = λ k. (entries_only k i).previous;
  }

  pub sound_after : Sound (view after) n
  sound_after = subst (λ (v : View). Sound v n) (sym seen) (refill (view es) (λ k. (entry_at after k).held) n fills sd)

  fits_after : n ≤ length after
  fits_after = omega (arith, length-set es l full)

  pub laid_after : laid_out after n end ≡ true
  laid_after = ap (λ rs. laid 0 rs end) (same_map no_entry no_span after es n fits_after fits own_span own_span (λ k low. ap own_span (entries_only k))) ∙ ok

  pub objects_after : objects_in held_span after n written ≡ objects_in held_span es n ms
  objects_after =
      let own = space_in es n fits end ok l lt in
      let from = held_in_use es n fits end ok sd l lt in
      let h : (entry_at es l).first ≤ length ms = omega arith in
      let long : (entry_at es l).size ≡ length moved = sym (length_part ms (held_span (entry_at es l)) (omega arith)) in
      same_map no_entry [] after es n fits_after fits (λ e. part written (held_span e)) (λ e. part ms (held_span e)) (λ k low.
      ⊎_elim
      (λ q. subst (λ (x : ℕ). part written (held_span (entry_at after x)) ≡ part ms (held_span (entry_at es x))) (sym q) (ap (λ e. part written (held_span e)) at_l ∙ cut_new ms (entry_at es l).first moved (entry_at es l).size h long))
      (λ ne. ap (λ e. part written (held_span e)) (at_other k ne) ∙
      ⊎_elim (cut_before ms (entry_at es l).first moved (entry_at es l).size h long (held_span (entry_at es k)))
      (cut_after ms (entry_at es l).first moved (entry_at es l).size h long (held_span (entry_at es k)))
      (lie_apart es n fits end ok sd k l low lt ne (λ q. absurd (un (subst (λ (x : ℕ). Filled (view es) x) q (sd k low).root_filled)))))
      (cases_eq k l))
