use Rattle.std.proofs.Common.{ℕ, ◌+◌, ◌≤◌, [], ◌∷◌, ◌++◌, sym, refl, ap, ◌∙◌, subst, arith}
use lib.Seq.{paste}
use Rattle.std.proofs.lemmas.Result.{err_from_is_err_and}
use Rattle.store.specs.declared.layout.Span.{Span}
use Rattle.store.specs.Areas.{Changed}
use Rattle.store.specs.Layout.{part}
use Rattle.store.specs.Meaning.{room_for, with_objects}
use Rattle.store.proofs.Asked.{entered, roomed}
use Rattle.store.proofs.Spans.{no_span, length_part}
use Rattle.store.proofs.Tells.{room_is, clone_is, cloned_is, not_cloned}
use Rattle.flat_store.specs.Flat.{flat_meaning}
use Rattle.flat_store.proofs.Told.{told, span_in, laid_after, meaning_after}
use Rattle.flat_store.proofs.calls.FlatStoreStore.clone_object.Goals as goal

pub returns-in_err-copy : goal.returns-in_err-copy
returns-in_err-copy c =
    let s = c.args.self.now in
    let t = told s in
    let l = c.args.location in
    let e = entered s.areas no_span l c.in_ok-from.from c.in_ok-from.ensures in
    let r = c.in_err-copy.ensures ∙ room_is _ _ _ _ _ t c.in_ok-from.from.size ∙ ap (λ (x : Span). room_for (flat_meaning s) x.size) e.1 in
    let p = err_from_is_err_and c.from_residual-in_err-copy.result c.from_residual-in_err-copy.ensures.1 in
    record { answer = rw (p.1, p.2) (clone_is _ _ _ _ _ t l e.0 _ r); state = not_cloned _ _ _ _ _ t l e.0 _ r }

pub copy_methods-requires-clause-within : goal.copy_methods-requires-clause-within
copy_methods-requires-clause-within c =
    let s = c.args.self.now in
    let e = entered s.areas no_span c.args.location c.in_ok-from.from c.in_ok-from.ensures in
    omega (arith, span_in s c.args.location e.0, ap (λ (x : Span). x.first) e.1, ap (λ (x : Span). x.size) e.1)

pub invariant_of-self : goal.invariant_of-self
invariant_of-self c =
    let s = c.args.self.now in
    let from = c.in_ok-from.from in
    let e = entered s.areas no_span c.args.location from c.in_ok-from.ensures in
    let room = roomed s.areas from.size c.in_ok-copy.copy c.in_ok-copy.ensures in
    let w = subst (λ (at : ℕ). Changed s.areas c.copy_methods.new.self s.areas.objects.now (paste s.areas.methods.now at (part s.areas.methods.now from) from.size)) c.method_count-first.ensures c.copy_methods.ensures in
    let low : from.first + from.size ≤ s.areas.method_count = omega (arith, span_in s c.args.location e.0, ap (λ (x : Span). x.first) e.1, ap (λ (x : Span). x.size) e.1) in
    let long = sym (length_part s.areas.methods.now from (omega arith)) in
    record { laid_out = laid_after s c.copy_methods.new.self c.add.new.self (part s.areas.methods.now from) from.size w _ c.method_count-first.ensures refl c.add.ensures long room.objects room.methods }

pub returns : goal.returns
returns c =
    let s = c.args.self.now in
    let l = c.args.location in
    let from = c.in_ok-from.from in
    let e = entered s.areas no_span l from c.in_ok-from.ensures in
    let room = roomed s.areas from.size c.in_ok-copy.copy c.in_ok-copy.ensures in
    let w = subst (λ (at : ℕ). Changed s.areas c.copy_methods.new.self s.areas.objects.now (paste s.areas.methods.now at (part s.areas.methods.now from) from.size)) c.method_count-first.ensures c.copy_methods.ensures in
    let low : from.first + from.size ≤ s.areas.method_count = omega (arith, span_in s l e.0, ap (λ (x : Span). x.first) e.1, ap (λ (x : Span). x.size) e.1) in
    let long = sym (length_part s.areas.methods.now from (omega arith)) in
    let r = c.in_ok-copy.ensures ∙ room_is _ _ _ _ _ (told s) from.size ∙ ap (λ (x : Span). room_for (flat_meaning s) x.size) e.1 in
    record {
      answer = clone_is _ _ _ _ _ (told s) l e.0 _ r;
      state =
          meaning_after s c.copy_methods.new.self c.add.new.self (part s.areas.methods.now from) from.size w _ c.method_count-first.ensures refl c.add.ensures long room.objects room.methods
          ∙ ap (λ (x : Span). with_objects (flat_meaning s) ((flat_meaning s).objects ++ part s.areas.methods.now x ∷ [])) e.1
          ∙ cloned_is _ _ _ _ _ (told s) l e.0 _ r;
    }
