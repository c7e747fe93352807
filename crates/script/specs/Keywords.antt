-- The words that a line begins with.
use Rattle.std.specs.Prelude.{ℕ, Bool, true, false, List, [], ◌∷◌, codes, Option}
use Rattle.words.specs.Names.{named}
use Rattle.script.specs.declared.keywords.Verb.{Verb}
use Rattle.script.specs.declared.keywords.Verb.TheVariants.{Check, Compile, List as ListBack, Code, Start, Run, Trial, Objects}
use Rattle.script.specs.declared.keywords.TrialVerb.TheVariants.{Open, Keep, PutBack}
use Rattle.script.specs.declared.keywords.Keyword.{Keyword}
use Rattle.script.specs.declared.keywords.Keyword.TheVariants.{Store, Lengths, Call}

abbrev pub keywords : List (List ℕ × Keyword)
keywords =
    (codes "store", Store) ∷ (codes "lengths", Lengths)
    ∷ (codes "check", Call Check) ∷ (codes "compile", Call Compile) ∷ (codes "list", Call ListBack) ∷ (codes "code", Call Code)
    ∷ (codes "start", Call Start) ∷ (codes "run", Call Run)
    ∷ (codes "open", Call (Trial Open)) ∷ (codes "keep", Call (Trial Keep)) ∷ (codes "put-back", Call (Trial PutBack))
    ∷ (codes "objects", Call Objects) ∷ []

abbrev pub keyword_in : List ℕ → Option Keyword
keyword_in w = named keywords w

-- the calls that are a trial layer's own
abbrev pub wants_trials : Verb → Bool
wants_trials Check = false
wants_trials Compile = false
wants_trials ListBack = false
wants_trials Code = false
wants_trials Start = false
wants_trials Run = false
wants_trials (Trial v) = true
wants_trials Objects = false
