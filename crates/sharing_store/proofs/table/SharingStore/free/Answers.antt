use Rattle.std.proofs.Common.{◌<◌, subst, sym, arith}
use Rattle.sharing_store.specs.declared.entries.SharedEntry.{SharedEntry}
use Rattle.sharing_store.specs.Views.{no_entry}
use Rattle.sharing_store.specs.States.{Walked}
use Rattle.sharing_store.proofs.Walks.{walk_begins, walk_goes_on, falls}
use Rattle.sharing_store.proofs.Changes.{free_laid, free_sound, frees_it}
use Rattle.sharing_store.proofs.table.SharingStore.free.Goals as goal

pub loop-at-init : goal.loop-at-init
loop-at-init c =
    let f = c.fill.ensures in
    subst (λ (x : SharedEntry). Walked c.fill.new.self c.fill.new.self c.args.location x.last) (sym (c.at-at.ensures no_entry))
    (walk_begins c.fill.new.self c.args.location (omega (arith, c.requires, f.only.counts.object_count_is)) f.now_filled)

pub loop-at-smaller : goal.loop-at-smaller
loop-at-smaller c =
    subst (λ (x : SharedEntry). x.previous < c.loop-at.at) (sym (c.at-at-in-loop-at.ensures no_entry))
    (falls c.fill.new.self c.loop-at.self c.fill-in-loop-at.new.self c.args.location c.loop-at.at c.loop-at.invariant c.fill-in-loop-at.ensures c.loop-at-test.true)

pub loop-at-preserved : goal.loop-at-preserved
loop-at-preserved c =
    subst (λ (x : SharedEntry). Walked c.fill.new.self c.fill-in-loop-at.new.self c.args.location x.previous) (sym (c.at-at-in-loop-at.ensures no_entry))
    (walk_goes_on c.fill.new.self c.loop-at.self c.fill-in-loop-at.new.self c.args.location c.loop-at.at c.loop-at.invariant c.fill-in-loop-at.ensures c.loop-at-test.true)

pub invariant_of-self : goal.invariant_of-self
invariant_of-self c = record {
  laid_out = free_laid c.args.self.now c.fill.new.self c.loop-at.self c.args.location c.loop-at.at c.fill.ensures c.loop-at.invariant c.loop-at-test.false c.at.result (c.at.ensures no_entry) c.set.new.self c.set.ensures;
  shares = free_sound c.args.self.now c.fill.new.self c.loop-at.self c.args.location c.loop-at.at c.fill.ensures c.loop-at.invariant c.loop-at-test.false c.at.result (c.at.ensures no_entry) c.set.new.self c.set.ensures;
}

pub returns : goal.returns
returns c = frees_it c.args.self.now c.fill.new.self c.loop-at.self c.args.location c.loop-at.at c.fill.ensures c.loop-at.invariant c.loop-at-test.false c.at.result (c.at.ensures no_entry) _ c.set.ensures
