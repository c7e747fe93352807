-- Lists of calls, one call on.
use Rattle.std.proofs.Common.{◌≡◌, ℕ, suc, ◌+◌, ◌<◌, List, [], ◌∷◌, ◌++◌, length, get_or, take, drop, set, Result, sym, refl, ap, ◌∙◌, arith, length-take-le, take_all}
use Rattle.std.proofs.lemmas.List.{take_more, drop_more}
use Rattle.calculus.specs.declared.code.MethodEntry.{MethodEntry}
use Rattle.store.specs.declared.faults.StoreFault.{StoreFault}
use Rattle.store.specs.Meaning.{Meaning}
use Rattle.store_laws.specs.declared.runs.StoreAnswer.{StoreAnswer}
use Rattle.store_laws.specs.declared.runs.StoreCall.{StoreCall}
use Rattle.store_laws.specs.Runs.{answer_to, meaning_after, answers_to, meaning_after_all}

set_at : {X : Type 0} (xs : List X) (y x : X) (ys : List X) → set (xs ++ y ∷ ys) (length xs) x ≡ (xs ++ x ∷ []) ++ ys
set_at [] y x ys = refl
set_at (z ∷ xs) y x ys = ap (λ zs. z ∷ zs) (set_at xs y x ys)

module _ (table : List MethodEntry) where
  after_push : (m : Meaning) (cs : List StoreCall) (c : StoreCall) → meaning_after_all table m (cs ++ c ∷ []) ≡ meaning_after table (meaning_after_all table m cs) c
  after_push m [] c = refl
  after_push m (x ∷ cs) c = after_push (meaning_after table m x) cs c

  answers_push : (m : Meaning) (cs : List StoreCall) (c : StoreCall) → answers_to table m (cs ++ c ∷ []) ≡ answers_to table m cs ++ answer_to table (meaning_after_all table m cs) c ∷ []
  answers_push m [] c = refl
  answers_push m (x ∷ cs) c = ap (λ ys. answer_to table m x ∷ ys) (answers_push (meaning_after table m x) cs c)

  pub length_answers : (m : Meaning) (cs : List StoreCall) → length (answers_to table m cs) ≡ length cs
  length_answers m [] = refl
  length_answers m (x ∷ cs) = ap suc (length_answers (meaning_after table m x) cs)

  -- i calls made, and one more
  module _ (m : Meaning) (cs : List StoreCall) (i : ℕ) (d : StoreCall) (lt : i < length cs) where
    pub state_more : (n n' : Meaning) → n ≡ meaning_after_all table m (take i cs) → n' ≡ meaning_after table n (get_or cs i d) → n' ≡ meaning_after_all table m (take (i + 1) cs)
    state_more n n' e f =
        f ∙ ap (λ x. meaning_after table x (get_or cs i d)) e ∙ sym (after_push m (take i cs) (get_or cs i d)) ∙ ap (meaning_after_all table m) (sym (take_more cs i d lt))

    pub answers_more : (n : Meaning) (now-are bs : List (Result StoreAnswer StoreFault)) (a : Result StoreAnswer StoreFault) → n ≡ meaning_after_all table m (take i cs) → a ≡ answer_to table n (get_or cs i d) → i < length bs → now-are ≡ answers_to table m (take i cs) ++ drop i bs → set now-are i a ≡ answers_to table m (take (i + 1) cs) ++ drop (i + 1) bs
    answers_more n now-are bs a e f room h =
        let done = answers_to table m (take i cs) in
        let many : length done ≡ i = length_answers m (take i cs) ∙ length-take-le i cs (omega arith) in
        ap (λ xs. set xs i a) (h ∙ ap (λ ys. done ++ ys) (drop_more bs i a room))
        ∙ ap (λ k. set (done ++ get_or bs i a ∷ drop (i + 1) bs) k a) (sym many)
        ∙ set_at done (get_or bs i a) a (drop (i + 1) bs)
        ∙ ap (λ x. (done ++ x ∷ []) ++ drop (i + 1) bs) (f ∙ ap (λ x. answer_to table x (get_or cs i d)) e)
        ∙ ap (λ xs. xs ++ drop (i + 1) bs) (sym (answers_push m (take i cs) (get_or cs i d)) ∙ ap (answers_to table m) (sym (take_more cs i d lt)))

  -- as many calls made as there are
  pub all_made : (m n : Meaning) (made : List StoreCall) (i k : ℕ) (now-are bs : List (Result StoreAnswer StoreFault)) → i ≡ k → length made ≡ k → now-are ≡ answers_to table m (take i made) ++ drop i bs → n ≡ meaning_after_all table m (take i made) → (now-are ≡ answers_to table m made ++ drop k bs) × (n ≡ meaning_after_all table m made)
  all_made m n made i k now-are bs end long answers state =
      let whole : take i made ≡ made = take_all i made (omega arith) in
      (answers ∙ (λ j. answers_to table m (whole j) ++ drop (end j) bs), state ∙ ap (meaning_after_all table m) whole)
