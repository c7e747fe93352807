-- What a line of a script says.
use Rattle.std.specs.Prelude.{◌≡◌, ℕ, Bool, true, false, cond, not, ◌&&◌, List, [], ◌∷◌, drop, Some, None, Ok, Err, vec_items, Option, Result, ◌==◌}
use Rattle.std.specs.Option.{option_map, ok_or, is_some}
use Rattle.calculus.specs.declared.rows.Row.{Row}
use Rattle.calculus.specs.declared.values.Value.{Value}
use Rattle.calculus.specs.Places.{if_some}
use Rattle.words.specs.Numbers.{bits_in}
use Rattle.words.specs.Words.{words_in, line_text}
use Rattle.signs.specs.Reading.{row_in, value_in}
use Rattle.script.specs.declared.calls.Call.{Call}
use Rattle.script.specs.declared.calls.Call.TheVariants.{Check, Compile, List as ListBack, Code, Start, Run, Trial, Objects}
use Rattle.script.specs.declared.calls.TrialCall.{TrialCall}
use Rattle.script.specs.declared.calls.TrialCall.TheVariants.{Open, Keep, PutBack}
use Rattle.script.specs.declared.calls.Expected.{Expected}
use Rattle.script.specs.declared.calls.Expected.TheVariants as lacks
use Rattle.script.specs.declared.calls.Unread.{Unread}
use Rattle.script.specs.declared.calls.Unread.TheVariants as unread
use Rattle.script.specs.declared.keywords.Verb.{Verb}
use Rattle.script.specs.declared.keywords.Verb.TheVariants as verb
use Rattle.script.specs.declared.keywords.TrialVerb.{TrialVerb}
use Rattle.script.specs.declared.keywords.TrialVerb.TheVariants as trying
use Rattle.script.specs.declared.keywords.Keyword.{Keyword}
use Rattle.script.specs.declared.keywords.Keyword.TheVariants as key
use Rattle.script.specs.declared.settings.StoreKind.{StoreKind}
use Rattle.script.specs.declared.settings.StoreKind.TheVariants as kind
use Rattle.script.specs.declared.settings.StoreWord.{StoreWord}
use Rattle.script.specs.declared.settings.StoreWord.TheVariants as store
use Rattle.script.specs.declared.settings.Area.{Area}
use Rattle.script.specs.declared.settings.Lengths.{Lengths}
use Rattle.script.specs.declared.settings.Settings.{Settings}
use Rattle.script.specs.Keywords.{keyword_in, wants_trials}
use Rattle.script.specs.Settings.{has_trials, store_word_in, area_in, none_set, set_of, with_length, store_of}

-- a call, with its rows and its values as lists
pub data Asked : Type 0 where
  check : (givens : ℕ) (rows : List Row) → Asked
  compile : (givens : ℕ) (rows : List Row) → Asked
  list_back : (program : ℕ) → Asked
  code : (program : ℕ) → Asked
  start : (program allowance : ℕ) (values : List Value) → Asked
  run : (reductions : ℕ) → Asked
  trial : TrialCall → Asked
  objects : Asked

abbrev pub asked : Call → Asked
asked (Check g rows) = check g (vec_items rows)
asked (Compile g rows) = compile g (vec_items rows)
asked (ListBack p) = list_back p
asked (Code p) = code p
asked (Start p a values) = start p a (vec_items values)
asked (Run n) = run n
asked (Trial t) = trial t
asked Objects = objects

module _ {X Y E : Type 0} where
  -- what comes of a result, where there is one
  abbrev pub then : Result X E → (X → Result Y E) → Result Y E
  then (Ok x) f = f x
  then (Err e) f = Err e

module _ {X : Type 0} (read : List ℕ → Option X) (what : Expected) where
  -- the first word, read
  abbrev pub first_in : List (List ℕ) → Result X Expected
  first_in [] = Err what
  first_in (w ∷ ws) = ok_or (read w) what

  -- all words, read alike
  abbrev pub all_in : List (List ℕ) → Result (List X) Expected
  all_in [] = Ok []
  all_in (w ∷ ws) = then (ok_or (read w) what) (λ x. then (all_in ws) (λ xs. Ok (x ∷ xs)))

-- the first word as a number of 32 bits
abbrev pub number_in : Expected → List (List ℕ) → Result ℕ Expected
number_in what ws = first_in (bits_in 32) what ws

abbrev pub rows_in : List (List ℕ) → Result (List Row) Expected
rows_in ws = all_in row_in lacks.Row ws

abbrev pub values_in : List (List ℕ) → Result (List Value) Expected
values_in ws = all_in value_in lacks.Value ws

module _ {X : Type 0} where
  -- this, and nothing more
  abbrev pub alone : X → List (List ℕ) → Result X Expected
  alone x [] = Ok x
  alone x (w ∷ ws) = Err lacks.LineEnd

-- a number, and nothing more
abbrev pub one_number_in : Expected → List (List ℕ) → Result ℕ Expected
one_number_in what ws = then (number_in what ws) (λ n. alone n (drop 1 ws))

-- what was read is what the words say, unless memory failed
module _ {X Y : Type 0} where
  abbrev pub Reads : (X → Y) → Result Y Expected → Result X Unread → Type 0
  Reads f said (Ok x) = said ≡ Ok (f x)
  Reads f said (Err (unread.Expected e)) = said ≡ Err e
  Reads f said (Err unread.NoMemory) = Unit {0}

module _ {Y : Type 0} where
  abbrev pub by_store_word : StoreWord → Y → Y → Y → Y
  by_store_word store.Flat a b c = a
  by_store_word store.Sharing a b c = b
  by_store_word store.Trial a b c = c

-- the first word as a part of a store's name
abbrev pub store_word_first : List (List ℕ) → Result StoreWord Expected
store_word_first ws = first_in store_word_in lacks.StoreKind ws

-- a store's name and nothing more: behind two layers, behind one, and whole
abbrev pub under_two : List (List ℕ) → Result StoreKind Expected
under_two ws = then (store_word_first ws) (λ w. by_store_word w (Err lacks.StoreKind) (alone kind.TrialTrialSharing (drop 1 ws)) (Err lacks.StoreKind))

abbrev pub under_one : List (List ℕ) → Result StoreKind Expected
under_one ws = then (store_word_first ws) (λ w. by_store_word w (alone kind.TrialFlat (drop 1 ws)) (alone kind.TrialSharing (drop 1 ws)) (under_two (drop 1 ws)))

abbrev pub store_in : List (List ℕ) → Result StoreKind Expected
store_in ws = then (store_word_first ws) (λ w. by_store_word w (alone kind.Flat (drop 1 ws)) (alone kind.Sharing (drop 1 ws)) (under_one (drop 1 ws)))

-- the area of a name that was not there before
abbrev pub new_area_in : Lengths → List ℕ → Result Area Expected
new_area_in l w = then (ok_or (area_in w) lacks.AreaName) (λ a. cond (is_some (set_of l a)) (Err lacks.AreaOnce) (Ok a))

-- names with their lengths, after those that were set
abbrev pub lengths_after : Lengths → List (List ℕ) → Result Lengths Expected
lengths_after l [] = Ok l
lengths_after l (w ∷ []) = then (new_area_in l w) (λ a. Err lacks.AreaLength)
lengths_after l (w ∷ v ∷ ws) = then (new_area_in l w) (λ a. then (ok_or (bits_in 32 v) lacks.AreaLength) (λ n. lengths_after (with_length l a n) ws))

-- at least one name
abbrev pub lengths_in : List (List ℕ) → Result Lengths Expected
lengths_in [] = Err lacks.AreaName
lengths_in (w ∷ ws) = lengths_after none_set (w ∷ ws)

-- a setting can be made before the first call, and once
abbrev pub may_set : Settings → Bool → Result (Unit {0}) Expected
may_set s is_set = cond s.calls_begun (Err lacks.SettingFirst) (cond is_set (Err lacks.SettingOnce) (Ok tt))

abbrev pub store_line : Settings → List (List ℕ) → Result Settings Expected
store_line s ws = then (may_set s (is_some s.store)) (λ _. then (store_in ws) (λ k. Ok (record s { store = Some k })))

abbrev pub lengths_line : Settings → List (List ℕ) → Result Settings Expected
lengths_line s ws = then (may_set s (is_some s.lengths)) (λ _. then (lengths_in ws) (λ l. Ok (record s { lengths = Some l })))

-- the trial call of a verb, and of the words behind it
abbrev pub trial_call_in : TrialVerb → List (List ℕ) → Result TrialCall Expected
trial_call_in trying.Open ws = alone Open ws
trial_call_in trying.Keep ws = then (one_number_in lacks.Trial ws) (λ t. Ok (Keep t))
trial_call_in trying.PutBack ws = then (one_number_in lacks.Trial ws) (λ t. Ok (PutBack t))

-- the call of a verb, and of the words behind it
abbrev pub call_in : Verb → List (List ℕ) → Result Asked Expected
call_in verb.Check ws = then (number_in lacks.Givens ws) (λ g. then (rows_in (drop 1 ws)) (λ rows. Ok (check g rows)))
call_in verb.Compile ws = then (number_in lacks.Givens ws) (λ g. then (rows_in (drop 1 ws)) (λ rows. Ok (compile g rows)))
call_in verb.List ws = then (one_number_in lacks.Program ws) (λ p. Ok (list_back p))
call_in verb.Code ws = then (one_number_in lacks.Program ws) (λ p. Ok (code p))
call_in verb.Start ws = then (number_in lacks.Program ws) (λ p. then (number_in lacks.Allowance (drop 1 ws)) (λ a. then (values_in (drop 1 (drop 1 ws))) (λ values. Ok (start p a values))))
call_in verb.Run ws = then (one_number_in lacks.Reductions ws) (λ n. Ok (run n))
call_in (verb.Trial v) ws = then (trial_call_in v ws) (λ t. Ok (trial t))
call_in verb.Objects ws = alone objects ws

-- trials are a trial layer's
abbrev pub call_over : StoreKind → Verb → List (List ℕ) → Result Asked Expected
call_over k v ws = then (call_in v ws) (λ a. cond (wants_trials v && not (has_trials k)) (Err lacks.TrialLayer) (Ok a))

abbrev pub begun : Settings → Settings
begun s = record s { calls_begun = true }

-- a setting says nothing more, a call is handed on
abbrev pub keyword_line : Settings → Keyword → List (List ℕ) → Result (Settings × Option Asked) Expected
keyword_line s key.Store ws = then (store_line s ws) (λ t. Ok (t, None))
keyword_line s key.Lengths ws = then (lengths_line s ws) (λ t. Ok (t, None))
keyword_line s (key.Call v) ws = then (call_over (store_of s) v ws) (λ a. Ok (begun s, Some a))

abbrev pub is_comment : List ℕ → Bool
is_comment [] = false
is_comment (b ∷ bs) = b == 35

-- the settings after a line, and its call if it is one
abbrev pub says : Settings → List (List ℕ) → Result (Settings × Option Asked) Expected
says s [] = Ok (s, None)
says s (w ∷ ws) = cond (is_comment w) (Ok (s, None)) (if_some (keyword_in w) (λ k. keyword_line s k ws) (Err lacks.Keyword))

-- a line is its words
abbrev pub line_says : Settings → List ℕ → Result (Settings × Option Asked) Expected
line_says s line = says s (words_in (line_text line))

-- what was read is what the line says, unless memory failed; only a line that was read changes the settings
abbrev pub ReadsLine : Settings → Result (Settings × Option Asked) Expected → Result (Option Call) Unread → Settings → Type 0
ReadsLine s said (Ok o) t = said ≡ Ok (t, option_map asked o)
ReadsLine s said (Err (unread.Expected e)) t = (said ≡ Err e) × (t ≡ s)
ReadsLine s said (Err unread.NoMemory) t = t ≡ s
