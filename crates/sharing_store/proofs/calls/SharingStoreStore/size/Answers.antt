use Rattle.std.proofs.Common.{Ok, ap, ◌∙◌}
use Rattle.sharing_store.specs.declared.entries.SharedEntry.{SharedEntry}
use Rattle.store.proofs.Asked.{entered}
use Rattle.sharing_store.specs.Views.{no_entry}
use Rattle.store.proofs.Tells.{size_is}
use Rattle.sharing_store.proofs.Told.{told}
use Rattle.sharing_store.proofs.calls.SharingStoreStore.size.Goals as goal

pub returns : goal.returns
returns c =
    let s = c.args.self.now in
    let l = c.args.location in
    let e = entered s.areas no_entry l c.in_ok-entry.field-0 c.in_ok-entry.ensures in
    ap (λ (x : SharedEntry). Ok x.size) e.1 ∙ size_is _ _ _ _ _ (told s) l e.0
