use Rattle.std.proofs.Common.{◌≡◌, subst}
use Rattle.sharing_store.specs.declared.entries.SharedEntry.{SharedEntry}
use Rattle.sharing_store.specs.Views.{no_entry}
use Rattle.sharing_store.proofs.More.{root_itself, root_shared}
use Rattle.sharing_store.proofs.table.SharingStore.root_of.Goals as goal

pub returns-else-entry : goal.returns-else-entry
returns-else-entry c =
    let e = c.at-entry.ensures no_entry in
    let un = subst (λ (x : SharedEntry). x.held ≡ x.first → ⊥) e c.if-entry.false in
    rw e (root_shared c.args.self.now c.args.location c.requires un)
