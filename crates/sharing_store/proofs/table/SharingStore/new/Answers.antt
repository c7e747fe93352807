use Rattle.std.proofs.Common.{ap, ◌∙◌, arith}
use Rattle.sharing_store.specs.Views.{laid_out, sound}
use Rattle.sharing_store.proofs.Sounds.{sound_from}
use Rattle.sharing_store.proofs.table.SharingStore.new.Goals as goal

pub invariant_of-result : goal.invariant_of-result
invariant_of-result c =
    let a = c.new.result in
    record {
      laid_out = λ i. laid_out a.objects.now (c.new.ensures.object_count i) (c.new.ensures.method_count i);
      shares = ap (sound a.objects.now) c.new.ensures.object_count ∙ sound_from a.objects.now 0 (λ k h. absurd (omega arith));
    }
