use Rattle.std.proofs.Common.{◌≡◌, Ok, Err, None, MatchResult, Result, sym, ◌∙◌}
use Rattle.std.specs.Result.{result_ok}
use Rattle.words.proofs.Names.{no_text}
use Rattle.script.proofs.named.by_name.Goals as goal

none_ok : {T E B : Type 0} (A : T → Type 0) (C : E → Type 0) (r : Result T E) → None ≡ result_ok r → MatchResult r A (λ e. B × C e) → B
none_ok A C (Ok x) h m = cc
none_ok A C (Err e) h m = m.0

pub returns-in_err-ok : goal.returns-in_err-ok
returns-in_err-ok g c =
    c.from_residual.ensures ∙ sym (no_text g.N.Named.names c.args.word.now g.met.N.Named.names_are_low (none_ok _ _ _ c.in_err-ok.ensures.value c.from_utf8.ensures.cases))
