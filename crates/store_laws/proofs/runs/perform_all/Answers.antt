use Rattle.std.proofs.Common.{◌≡◌, length, take, drop, sym, ap, ◌∙◌, subst, arith, length-take-le}
use Rattle.std.proofs.lemmas.List.{take_at}
use Rattle.store_laws.specs.Runs.{answers_to, meaning_after_all, Lasts, Alike}
use Rattle.store_laws.proofs.Steps.{length_answers, state_more, answers_more, all_made}
use Rattle.store_laws.proofs.Lasting.{all_last, answers_alike, all_alike}
use Rattle.store_laws.proofs.runs.perform_all.Goals as goal

pub loop-i-preserved : goal.loop-i-preserved
loop-i-preserved g c =
    let m = g.S.Store.meaning c.args.store.now in
    let n = g.S.Store.meaning c.loop-i.store in
    let cs = take c.min-count.result c.args.calls.now in
    let long = length-take-le c.min-count.result c.args.calls.now (omega (arith, c.min-count.ensures)) in
    let i = c.loop-i.i in
    let inv = c.loop-i.invariant in
    let made = c.perform.ensures in (
      answers_more c.args.table.now m cs i _ c.loop-i-test.true n c.loop-i.answers c.args.answers.now _ inv.1 made.answer (omega (arith, long, c.min-count.ensures)) inv.0,
      state_more c.args.table.now m cs i _ c.loop-i-test.true n _ inv.1 made.state,
    )

pub returns : goal.returns
returns g c =
    let m = g.S.Store.meaning c.args.store.now in
    let after = g.S.Store.meaning c.loop-i.store in
    let table = c.args.table.now in
    let count = c.min-count.result in
    let made = take count c.args.calls.now in
    let long : length made ≡ count = length-take-le count c.args.calls.now (omega (arith, c.min-count.ensures)) in
    let end : c.loop-i.i ≡ count = omega (arith, long) in
    let ran = all_made table m after made c.loop-i.i count c.loop-i.answers c.args.answers.now end long c.loop-i.invariant.0 c.loop-i.invariant.1 in
    let many : length (answers_to table m made) ≡ count = length_answers table m made ∙ long in
    record {
      count = c.min-count.ensures;
      answers = ran.0;
      state = ran.1;
      lasting = subst (λ x. Lasts m x) (sym ran.1) (all_last table m made);
      alike = λ n a. (
        answers_alike table n m a made ∙ sym (ap (take count) ran.0 ∙ take_at (answers_to table m made) (drop count c.args.answers.now) count many),
        subst (λ x. Alike (meaning_after_all table n made) x) (sym ran.1) (all_alike table n m a made),
      );
    }
