use Rattle.std.proofs.Common.{refl, arith}
use Rattle.std.proofs.lemmas.List.Edits.{paste_none}
use Rattle.store.specs.Meaning.{methods_of}
use Rattle.store.proofs.Writes.{entry_more}
use Rattle.store.proofs.areas.Areas.write_methods.Goals as goal

pub loop-i-preserved : goal.loop-i-preserved
loop-i-preserved g c =
    let s = c.args.self.now in
    let w = c.loop-i.invariant in
    let k = w.counts in
    record {
      entries_are = w.entries_are;
      methods_are = entry_more s.methods.now c.loop-i.self.methods.now s.method_count c.args.entries.now c.args.env c.loop-i.i _ w.methods_are (omega arith) (omega arith);
      counts = record { object_count_is = k.object_count_is; method_count_is = k.method_count_is; object_limit_is = k.object_limit_is; method_limit_is = k.method_limit_is };
    }
