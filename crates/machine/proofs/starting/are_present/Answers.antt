use Rattle.std.proofs.Common.{pos, refl, rules}
use Rattle.std.proofs.lemmas.List.Recursion.{and_is}
use Rattle.calculus.specs.declared.values.Value.TheVariants.{Figure}
use Rattle.machine_model.specs.Start.{present, all_present}
use Rattle.machine.proofs.starting.are_present.Goals as goal

pub returns : goal.returns
returns c = and_is (all_present c.args.objects) (present c.args.objects) refl (λ _ _. refl) c.args.givens.now (Figure (pos 0)) _ (search rules) (search rules)
