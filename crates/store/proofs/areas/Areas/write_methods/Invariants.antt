use lib.Seq.{paste}
use Rattle.store.specs.Areas.{Changed}
use Rattle.store.specs.Meaning.{methods_of}
use Rattle.store.proofs.areas.Areas.write_methods.Given as goal

abbrev pub invariant-loop-i : goal.invariant-loop-i
invariant-loop-i g l = Changed l.initial.self l.self l.initial.self.objects.now (paste l.initial.self.methods.now l.initial.self.method_count (methods_of l.entries l.env) l.i)
