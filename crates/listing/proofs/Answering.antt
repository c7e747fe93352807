-- What the answer says of a term.
use Rattle.std.proofs.Common.{◌≡◌, ℕ, ◌<◌, ◌≤◌, Bool, true, false, cond, List, ◌++◌, map, length, take, drop, IfOk, Some, Ok, Err, Result, sym, ap, ◌∙◌, arith}
use Rattle.std.proofs.lemmas.List.{take-append-drop, length-take}
use Rattle.std.proofs.lemmas.Bool.{cond-true}
use Rattle.calculus.specs.declared.code.Tables.{Tables}
use Rattle.calculus.specs.declared.code.Counts.{Counts}
use Rattle.calculus.specs.declared.rows.Row.{Row}
use Rattle.calculus.specs.declared.refusals.Refusal.{Refusal}
use Rattle.calculus.specs.declared.refusals.Refusal.TheVariants.{CountOutside}
use Rattle.calculus.specs.Held.{counted}
use Rattle.calculus.specs.Terms.{Term}
use Rattle.calculus.specs.Rows.{rows_of, plain, Is, fits}
use Rattle.calculus.specs.Trees.{trans, done}
use Rattle.calculus.specs.Text.{Text, used, joined, rooms, within}
use Rattle.calculus.specs.Layout.{compiled}
use Rattle.calculus.specs.Standing.{Program}
use Rattle.listing.specs.declared.pending.Pending.{Pending}
use Rattle.listing.specs.Listing.{listed}
use Rattle.listing.specs.Areas.{told, lent_rooms}
use Rattle.listing.specs.Nesting.{nesting}
use Rattle.listing.specs.Back.{answer, Gave}
use Rattle.listing.proofs.Leading.{lists_back, round_trip}
use Rattle.listing.proofs.Only.{lists_only}

-- past the rows written the area is as it was
abbrev pub Kept : Result ℕ Refusal → List Row → List Row → Type 0
Kept r before after = IfOk r (λ n. (n ≤ length after) × (drop n after ≡ drop n before))

pub none_kept : (r : Result ℕ Refusal) (x : Refusal) (before after : List Row) → r ≡ Err x → Kept r before after
none_kept (Ok n) x before after e = cc
none_kept (Err y) x before after e = tt

pub gave : (rows : List Row) (r : Result ℕ Refusal) (before after : List Row) → Kept r before after → Some (told r (λ n. take n after)) ≡ Some (Ok rows) → Gave rows r before after
gave rows (Ok k) before after w e =
    let is : take k after ≡ rows = cc in
    let l : k ≡ length rows = omega (arith, length-take k after, w.0, ap length is) in
    (ap Ok l, sym (take-append-drop k after) ∙ ap (λ (x : List Row). x ++ drop k after) is ∙ ap (λ (x : List Row). rows ++ x) (w.1 ∙ ap (λ (j : ℕ). drop j before) l))
gave rows (Err x) before after w e = cc

module _ (tables : Tables) (counts : Counts) (program : ℕ) (r : Result ℕ Refusal) (before after : List Row) (stack : List Pending)
    (is : Some (told r (λ n. take n after)) ≡ answer tables counts (lent_rooms before stack) program) (wrote : Kept r before after) where
  gives : (rows : List Row) → within counts (rooms tables) ≡ true → listed (used tables counts) (lent_rooms before stack) program ≡ Some (Ok rows) → Gave rows r before after
  gives rows h e = gave rows r before after wrote (is ∙ cond-true _ _ _ h ∙ e)

  pub gives_term : (t : Term) (g : ℕ) → within counts (rooms tables) ≡ true → Program (used tables counts) program g (trans t done) →
      length (rows_of t) ≤ counted (length before) → nesting t < counted (length stack) → Gave (rows_of t) r before after
  gives_term t g h p l q = gives (rows_of t) h (lists_back (used tables counts) (lent_rooms before stack) program g t p l q)

  pub gives_compiled : (T U : Text) (rows : List Row) (g : ℕ) (t : Term) → within counts (rooms tables) ≡ true → used tables counts ≡ joined (compiled T g t) U → program ≡ length T.contents →
      Is rows t → fits t 1 g ≡ true → length rows ≤ counted (length before) → 200 ≤ counted (length stack) → Gave (map plain rows) r before after
  gives_compiled T U rows g t h u n i f l q =
      gives (map plain rows) h (ap (λ (x : Text). listed x (lent_rooms before stack) program) u ∙ ap (listed (joined (compiled T g t) U) (lent_rooms before stack)) n ∙ round_trip T U rows g t (lent_rooms before stack) i f l q)

-- what came back is the rows of a term that the program stands for
module _ (tables : Tables) (counts : Counts) (program : ℕ) (before after : List Row) (stack : List Pending) where
  only_term : (n : ℕ) (b : Bool) → Some (Ok (take n after)) ≡ cond b (listed (used tables counts) (lent_rooms before stack) program) (Some (Err CountOutside)) →
      (t : Term) × (g : ℕ) × Program (used tables counts) program g (trans t done) × (take n after ≡ rows_of t)
  only_term n true h = lists_only (used tables counts) (lent_rooms before stack) program (take n after) (sym h)
  only_term n false h = cc

  pub gives_only : (r : Result ℕ Refusal) → Some (told r (λ n. take n after)) ≡ answer tables counts (lent_rooms before stack) program →
      IfOk r (λ n. (t : Term) × (g : ℕ) × Program (used tables counts) program g (trans t done) × (take n after ≡ rows_of t))
  gives_only (Ok n) h = only_term n (within counts (rooms tables)) h
  gives_only (Err e) h = tt
