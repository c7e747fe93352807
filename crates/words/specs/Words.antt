-- A line as words.
use Rattle.std.specs.Prelude.{◌≡◌, ℕ, ◌-◌, ◌<◌, ◌≤◌, Bool, true, false, cond, ◌||◌, List, [], ◌∷◌, ◌++◌, length, take, ◌==◌, ◌≢◌, slice_index}
use Rattle.words.specs.declared.words.Words.{Words}

-- a line without the byte 10 that ends it, and without a byte 13 before that
abbrev pub line_text : List ℕ → List ℕ
line_text bs = cond (slice_index bs (length bs - 1) == 10) (cond (slice_index bs (length bs - 2) == 13) (take (length bs - 2) bs) (take (length bs - 1) bs)) bs

-- a byte that parts words: a space or a tab
abbrev pub blank : ℕ → Bool
blank b = b == 32 || b == 9

-- the first n bytes are blanks, or are none, and the next byte is not so
pub record Run (b : Bool) (n : ℕ) (bs : List ℕ) : Type 0 where
  pub within : n ≤ length bs
  pub all : (k : ℕ) → k < n → blank (slice_index bs k) ≡ b
  pub stops : n < length bs → blank (slice_index bs n) ≢ b

-- a word that was begun, if any of its bytes were read, before the words that follow
abbrev pub ended : List ℕ → List (List ℕ) → List (List ℕ)
ended [] ws = ws
ended (b ∷ bs) ws = (b ∷ bs) ∷ ws

-- the words of a line, after the bytes of a word that was begun
abbrev pub words_after : List ℕ → List ℕ → List (List ℕ)
words_after w [] = ended w []
words_after w (b ∷ bs) = cond (blank b) (ended w (words_after [] bs)) (words_after (w ++ b ∷ []) bs)

abbrev pub words_in : List ℕ → List (List ℕ)
words_in line = words_after [] line

-- the words that are still to be read
abbrev pub left : Words → List (List ℕ)
left ws = words_in ws.rest.now

abbrev pub is_nil : List (List ℕ) → Bool
is_nil [] = true
is_nil (w ∷ ws) = false
