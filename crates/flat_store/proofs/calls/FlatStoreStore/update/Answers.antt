use Rattle.std.proofs.Common.{refl, ap, ◌∙◌}
use Rattle.store.specs.declared.layout.Span.{Span}
use Rattle.store.specs.Areas.{closure_put}
use Rattle.store.specs.Layout.{objects_in}
use Rattle.store.specs.Meaning.{with_objects}
use Rattle.store.proofs.Asked.{entered}
use Rattle.store.proofs.Spans.{no_span}
use Rattle.store.proofs.Tells.{updated_is}
use Rattle.flat_store.specs.Flat.{flat_meaning}
use Rattle.flat_store.proofs.Told.{told, same, set_one, kept}
use Rattle.flat_store.proofs.calls.FlatStoreStore.update.Goals as goal

pub returns-clause-state : goal.returns-clause-state
returns-clause-state c =
    let s = c.args.self.now in
    let l = c.args.location in
    let e = entered s.areas no_span l c.in_ok-span.span c.in_ok-span.ensures in
    kept s c.set_closure.new.self _ c.set_closure.ensures.put
    ∙ ap (λ (x : Span). with_objects (flat_meaning s) (objects_in same s.areas.objects.now s.areas.object_count (closure_put s.areas.methods.now x c.args.place c.args.closure))) e.1
    ∙ updated_is _ _ _ _ _ (told s) l e.0 c.args.place c.args.closure (λ ms. objects_in same s.areas.objects.now s.areas.object_count ms) refl (set_one s l e.0 c.args.place)
