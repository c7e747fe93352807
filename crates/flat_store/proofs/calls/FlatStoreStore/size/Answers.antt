use Rattle.std.proofs.Common.{Ok, ap, ◌∙◌}
use Rattle.store.specs.declared.layout.Span.{Span}
use Rattle.store.proofs.Asked.{entered}
use Rattle.store.proofs.Spans.{no_span}
use Rattle.store.proofs.Tells.{size_is}
use Rattle.flat_store.proofs.Told.{told}
use Rattle.flat_store.proofs.calls.FlatStoreStore.size.Goals as goal

pub returns : goal.returns
returns c =
    let s = c.args.self.now in
    let l = c.args.location in
    let e = entered s.areas no_span l c.in_ok-entry.field-0 c.in_ok-entry.ensures in
    ap (λ (x : Span). Ok x.size) e.1 ∙ size_is _ _ _ _ _ (told s) l e.0
