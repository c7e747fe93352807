use Rattle.std.proofs.Common.{refl}
use Rattle.session.proofs.Stepping.{compile_steps}
use Rattle.session.proofs.session.Session.compile.Goals as goal

pub returns-clause-step : goal.returns-clause-step
returns-clause-step g c = compile_steps g.S.Store.meaning c.args.self.now _ c.args.rows.now c.args.givens c.compile.result c.compile.ensures.answer c.compile.ensures.leaves refl
