use Rattle.std.proofs.Common.{refl, ap, ◌∙◌, arith}
use Rattle.std.proofs.lemmas.Result.{err_from_is_err_and}
use Rattle.store.specs.Meaning.{room_for}
use Rattle.store.proofs.Asked.{entered, roomed}
use Rattle.store.proofs.Tells.{room_is, clone_is, cloned_is, not_cloned}
use Rattle.sharing_store.specs.declared.entries.SharedEntry.{SharedEntry}
use Rattle.sharing_store.specs.Views.{no_entry}
use Rattle.sharing_store.specs.States.{sharing_meaning}
use Rattle.sharing_store.proofs.Told.{told}
use Rattle.sharing_store.proofs.Walks.{with_last}
use Rattle.sharing_store.proofs.Clones.{clone_laid, clone_sound, clone_meant}
use Rattle.sharing_store.proofs.calls.SharingStoreStore.clone_object.Goals as goal

pub returns-in_err-copy : goal.returns-in_err-copy
returns-in_err-copy c =
    let s = c.args.self.now in
    let t = told s in
    let l = c.args.location in
    let e = entered s.areas no_entry l c.in_ok-from.from c.in_ok-from.ensures in
    let r = c.in_err-copy.ensures ∙ room_is _ _ _ _ _ t c.in_ok-from.from.size ∙ ap (λ (x : SharedEntry). room_for (sharing_meaning s) x.size) e.1 in
    let p = err_from_is_err_and c.from_residual-in_err-copy.result c.from_residual-in_err-copy.ensures.1 in
    record { answer = rw (p.1, p.2) (clone_is _ _ _ _ _ t l e.0 _ r); state = not_cloned _ _ _ _ _ t l e.0 _ r; uncopied = refl }

pub invariant_of-self : goal.invariant_of-self
invariant_of-self c =
    let s = c.args.self.now in
    let e = entered s.areas no_entry c.args.location c.in_ok-from.from c.in_ok-from.ensures in
    let room = roomed s.areas c.in_ok-from.from.size c.in_ok-copy.copy c.in_ok-copy.ensures in
    let o = c.at-original.ensures no_entry in
    record {
      laid_out = clone_laid s c.args.location e.0 c.root_of-root.result c.root_of-root.ensures room.objects c.set.new.self c.add.new.self
          _ (λ i. with_last (o i) (room.here i)) c.set.ensures
          _ (λ i. record { first = (c.method_count.ensures ∙ c.set.ensures.counts.method_count_is) i; size = (e.1 i).size; held = (e.1 i).held; root = c.root_of-root.result; last = room.here i; previous = (o i).last })
          _ (ap (λ (x : SharedEntry). x.size) e.1) c.add.ensures;
      shares = clone_sound s c.args.location e.0 c.root_of-root.result c.root_of-root.ensures room.objects c.set.new.self c.add.new.self
          _ (λ i. with_last (o i) (room.here i)) c.set.ensures
          _ (λ i. record { first = (c.method_count.ensures ∙ c.set.ensures.counts.method_count_is) i; size = (e.1 i).size; held = (e.1 i).held; root = c.root_of-root.result; last = room.here i; previous = (o i).last })
          _ (ap (λ (x : SharedEntry). x.size) e.1) c.add.ensures;
    }

pub returns : goal.returns
returns c =
    let s = c.args.self.now in
    let e = entered s.areas no_entry c.args.location c.in_ok-from.from c.in_ok-from.ensures in
    let room = roomed s.areas c.in_ok-from.from.size c.in_ok-copy.copy c.in_ok-copy.ensures in
    let o = c.at-original.ensures no_entry in
    let r = c.in_ok-copy.ensures ∙ room_is _ _ _ _ _ (told s) c.in_ok-from.from.size ∙ ap (λ (x : SharedEntry). room_for (sharing_meaning s) x.size) e.1 in
    record {
      answer = clone_is _ _ _ _ _ (told s) c.args.location e.0 _ r;
      state =
          clone_meant s c.args.location e.0 c.root_of-root.result c.root_of-root.ensures room.objects c.set.new.self c.add.new.self
          _ (λ i. with_last (o i) (room.here i)) c.set.ensures
          _ (λ i. record { first = (c.method_count.ensures ∙ c.set.ensures.counts.method_count_is) i; size = (e.1 i).size; held = (e.1 i).held; root = c.root_of-root.result; last = room.here i; previous = (o i).last })
          _ (ap (λ (x : SharedEntry). x.size) e.1) c.add.ensures
          ∙ cloned_is _ _ _ _ _ (told s) c.args.location e.0 _ r;
      uncopied = c.add.ensures.methods_are ∙ c.set.ensures.methods_are;
    }
