-- Tokens by their numbers.
use Rattle.std.specs.Prelude.{ℕ, cond, Some, None, Option, ◌==◌}
use Rattle.trial_layer.specs.declared.token.Token.{Token}

abbrev pub token : ℕ → Token
token n = record { number = n }

-- trials are numbered from 1
abbrev pub token_of : ℕ → Option Token
token_of n = cond (n == 0) None (Some (token n))
