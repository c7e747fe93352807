use Rattle.store.proofs.Finds.{found, not_yet, nowhere, at_end}
use Rattle.store.proofs.layout.place_of.Goals as goal

pub returns-in-Some : goal.returns-in-Some
returns-in-Some c = found c.args.methods.now c.args.span c.args.label c.loop-place.place c.loop-place.invariant c.in-Some.method c.loop-place-test.true c.in-Some.ensures c.if-method-label.true

pub returns-in-None : goal.returns-in-None
returns-in-None c = nowhere c.args.methods.now c.args.span c.args.label c.loop-place.place c.loop-place.invariant c.loop-place-test.true c.in-None.ensures

pub loop-place-preserved : goal.loop-place-preserved
loop-place-preserved c = not_yet c.args.methods.now c.args.span c.args.label c.loop-place.place c.loop-place.invariant c.in-Some.method c.loop-place-test.true c.in-Some.ensures c.if-method-label.false
