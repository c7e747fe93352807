use Rattle.std.proofs.Common.{◌≡◌, refl, ap, ◌∙◌, subst, arith}
use Rattle.store.specs.declared.layout.Span.{Span}
use Rattle.sharing_store.specs.declared.entries.SharedEntry.{SharedEntry}
use Rattle.sharing_store.specs.Views.{no_entry, held_span}
use Rattle.sharing_store.proofs.Told.{own_fits, held_fits}
use Rattle.sharing_store.proofs.Walks.{fills_none}
use Rattle.sharing_store.proofs.Changes.{fill_laid, fill_sound, fills_it}
use Rattle.sharing_store.proofs.table.SharingStore.fill.Goals as goal

pub copy_methods-requires : goal.copy_methods-requires
copy_methods-requires c =
    let s = c.args.self.now in
    let e = c.at-entry.ensures no_entry in
    let y = c.held_span.ensures ∙ ap held_span e in
    let own = own_fits s c.args.location c.requires in
    let held = held_fits s c.args.location c.requires in
    record {
      within = omega (arith, ap (λ (x : Span). x.first) y, ap (λ (x : Span). x.size) y);
      room = omega (arith, ap (λ (x : SharedEntry). x.first) e, ap (λ (x : Span). x.size) y);
    }

pub invariant_of-self : goal.invariant_of-self
invariant_of-self c =
    let s = c.args.self.now in
    record {
      laid_out = fill_laid s c.args.location c.requires c.at-entry.result (c.at-entry.ensures no_entry) c.if-entry.true c.held_span.result c.held_span.ensures c.copy_methods.new.self c.copy_methods.ensures c.set.new.self c.set.ensures;
      shares = fill_sound s c.args.location c.requires c.at-entry.result (c.at-entry.ensures no_entry) c.if-entry.true c.held_span.result c.held_span.ensures c.copy_methods.new.self c.copy_methods.ensures c.set.new.self c.set.ensures;
    }

pub returns-then-entry : goal.returns-then-entry
returns-then-entry c =
    fills_it c.args.self.now c.args.location c.requires c.at-entry.result (c.at-entry.ensures no_entry) c.if-entry.true c.held_span.result c.held_span.ensures c.copy_methods.new.self c.copy_methods.ensures _ c.set.ensures
