use Rattle.std.proofs.Common.{length, sym, ◌∙◌}
use Rattle.std.proofs.lemmas.List.{length-map}
use Rattle.std.proofs.lemmas.Result.{err_from_is_err_and}
use Rattle.store.specs.Meaning.{method_of, methods_of}
use Rattle.store.proofs.Asked.{roomed}
use Rattle.store.proofs.Tells.{room_is, made_is, not_made}
use Rattle.flat_store.proofs.Told.{told, laid_after, meaning_after}
use Rattle.flat_store.proofs.calls.FlatStoreStore.make.Goals as goal

pub returns-in_err-location : goal.returns-in_err-location
returns-in_err-location c =
    let t = told c.args.self.now in
    let es = c.args.entries.now in
    let r = c.in_err-location.ensures ∙ room_is _ _ _ _ _ t (length es) in
    let p = err_from_is_err_and c.from_residual.result c.from_residual.ensures.1 in
    record { answer = rw (p.1, p.2) r; state = not_made _ _ _ _ _ t es c.args.env _ r }

pub invariant_of-self : goal.invariant_of-self
invariant_of-self c =
    let s = c.args.self.now in
    let es = c.args.entries.now in
    let w = c.write_methods-span.ensures in
    let room = roomed s.areas (length es) c.in_ok-location.location c.in_ok-location.ensures in
    record {
      laid_out = laid_after s c.write_methods-span.new.self c.add.new.self (methods_of es c.args.env) (length es) w.written c.write_methods-span.result w.first w.size c.add.ensures (sym (length-map es (method_of c.args.env))) room.objects room.methods;
    }

pub returns : goal.returns
returns c =
    let s = c.args.self.now in
    let es = c.args.entries.now in
    let w = c.write_methods-span.ensures in
    let room = roomed s.areas (length es) c.in_ok-location.location c.in_ok-location.ensures in
    let r = c.in_ok-location.ensures ∙ room_is _ _ _ _ _ (told s) (length es) in
    record {
      answer = r;
      state =
          meaning_after s c.write_methods-span.new.self c.add.new.self (methods_of es c.args.env) (length es) w.written c.write_methods-span.result w.first w.size c.add.ensures (sym (length-map es (method_of c.args.env))) room.objects room.methods
          ∙ made_is _ _ _ _ _ (told s) es c.args.env _ r;
    }
