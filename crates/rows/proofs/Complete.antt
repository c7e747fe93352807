-- The rows of a term that fits are accepted.
use Rattle.std.proofs.Common.{◌≡◌, ℕ, ◌+◌, ◌<◌, true, not, leb, List, [], ◌∷◌, ◌++◌, length, ℤ, pos, None, ap, ◌∙◌, append_assoc, arith, length-append}
use Rattle.std.proofs.lemmas.Bool.{and_parts}
use Rattle.std.proofs.lemmas.Bool.Decides.{nat_tests}
use Rattle.calculus.specs.declared.rows.Row.{Row}
use Rattle.calculus.specs.declared.values.Value.TheVariants.{Figure, Location}
use Rattle.calculus.specs.Terms.{Term, var, val, object, select, update, clone, bind, Methods, nil, method}
use Rattle.calculus.specs.Rows.{many, row, rows_of, method_rows, has, fits, fit_methods}
use Rattle.rows.specs.Verdict.{Want, a_term, a_method, term_fault, method_fault, judge, methods, follows, unless, walk}

step : (r : Row) (rest : List Row) (p : ℕ) (w : Want) (ws : List Want) → judge r w ≡ None → walk (r ∷ rest) p (w ∷ ws) ≡ walk rest (p + 1) (follows r w ++ ws)
unfolding walk
step r rest p w ws e = ap (λ x. unless x p (walk rest (p + 1) (follows r w ++ ws))) e

plain_ok : (k l d s : ℕ) (z : ℤ) → 1 < k → k < 8 → (k ≡ 3 → ⊥) → leb d 200 ≡ true → term_fault (row k l z) d s ≡ None
plain_ok k l d s z a b c h = grind (arith, nat_tests)

mutual
  pub complete : (t : Term) (rest : List Row) (p d s : ℕ) (ws : List Want) → fits t d s ≡ true → walk (rows_of t ++ rest) p (a_term d s ∷ ws) ≡ walk rest (p + length (rows_of t)) ws
  complete (var i) rest p d s ws h =
      let e : term_fault (row 1 0 (pos i)) d s ≡ None = grind (arith, nat_tests) in
      step _ rest p (a_term d s) ws e
  complete (val (Figure k)) rest p d s ws h =
      step _ rest p (a_term d s) ws (plain_ok 2 0 d s k (omega arith) (omega arith) (λ e. omega arith) h)
  complete (val (Location n)) rest p d s ws h = let z : ◌≡◌ {A = ℕ} 0 1 = cc in absurd (omega arith)
  complete (object ms) rest p d s ws h =
      let e : term_fault (row 3 0 (pos (many ms))) d s ≡ None = grind (arith, nat_tests) in
      step _ (method_rows ms ++ rest) p (a_term d s) ws e
      ∙ complete_m ms rest (p + 1) (d + 1) s [] ws (and_parts (leb (many ms) 64) _ (and_parts (leb d 200) _ h).1).1
      ∙ ap (λ n. walk rest n ws) (omega arith)
  complete (select a l) rest p d s ws h =
      let hs = and_parts _ _ h in
      step _ (rows_of a ++ rest) p (a_term d s) ws (plain_ok 4 l d s (pos 0) (omega arith) (omega arith) (λ e. omega arith) hs.0)
      ∙ complete a rest (p + 1) (d + 1) s ws hs.1
      ∙ ap (λ n. walk rest n ws) (omega arith)
  complete (update a l b) rest p d s ws h =
      let hs = and_parts _ _ h in
      let hb = and_parts _ _ hs.1 in
      step _ ((rows_of a ++ rows_of b) ++ rest) p (a_term d s) ws (plain_ok 5 l d s (pos 0) (omega arith) (omega arith) (λ e. omega arith) hs.0)
      ∙ ap (λ x. walk x (p + 1) (a_term (d + 1) s ∷ a_term (d + 1) (s + 1) ∷ ws)) (append_assoc (rows_of a) (rows_of b) rest)
      ∙ complete a (rows_of b ++ rest) (p + 1) (d + 1) s (a_term (d + 1) (s + 1) ∷ ws) hb.0
      ∙ complete b rest (p + 1 + length (rows_of a)) (d + 1) (s + 1) ws hb.1
      ∙ ap (λ n. walk rest n ws) (omega (arith, length-append (rows_of a) (rows_of b)))
  complete (clone a) rest p d s ws h =
      let hs = and_parts _ _ h in
      step _ (rows_of a ++ rest) p (a_term d s) ws (plain_ok 6 0 d s (pos 0) (omega arith) (omega arith) (λ e. omega arith) hs.0)
      ∙ complete a rest (p + 1) (d + 1) s ws hs.1
      ∙ ap (λ n. walk rest n ws) (omega arith)
  complete (bind a b) rest p d s ws h =
      let hs = and_parts _ _ h in
      let hb = and_parts _ _ hs.1 in
      step _ ((rows_of a ++ rows_of b) ++ rest) p (a_term d s) ws (plain_ok 7 0 d s (pos 0) (omega arith) (omega arith) (λ e. omega arith) hs.0)
      ∙ ap (λ x. walk x (p + 1) (a_term (d + 1) s ∷ a_term (d + 1) (s + 1) ∷ ws)) (append_assoc (rows_of a) (rows_of b) rest)
      ∙ complete a (rows_of b ++ rest) (p + 1) (d + 1) s (a_term (d + 1) (s + 1) ∷ ws) hb.0
      ∙ complete b rest (p + 1 + length (rows_of a)) (d + 1) (s + 1) ws hb.1
      ∙ ap (λ n. walk rest n ws) (omega (arith, length-append (rows_of a) (rows_of b)))

  pub complete_m : (ms : Methods) (rest : List Row) (p d s : ℕ) (seen : List ℕ) (ws : List Want) → fit_methods ms d s seen ≡ true → walk (method_rows ms ++ rest) p (methods (many ms) d s seen ++ ws) ≡ walk rest (p + length (method_rows ms)) ws
  complete_m nil rest p d s seen ws h = ap (λ n. walk rest n ws) (omega arith)
  complete_m (method l b ms) rest p d s seen ws h =
      let hd = and_parts (leb d 200) _ h in
      let hl = and_parts (not (has l seen)) _ hd.1 in
      let hb = and_parts (fits b (d + 1) (s + 1)) (fit_methods ms d s (seen ++ l ∷ [])) hl.1 in
      let e : method_fault (row 8 l (pos 0)) d seen ≡ None = grind (arith, nat_tests) in
      step _ ((rows_of b ++ method_rows ms) ++ rest) p (a_method (many ms) d s seen) ws e
      ∙ ap (λ x. walk x (p + 1) (a_term (d + 1) (s + 1) ∷ (methods (many ms) d s (seen ++ l ∷ []) ++ ws))) (append_assoc (rows_of b) (method_rows ms) rest)
      ∙ complete b (method_rows ms ++ rest) (p + 1) (d + 1) (s + 1) (methods (many ms) d s (seen ++ l ∷ []) ++ ws) hb.0
      ∙ complete_m ms rest (p + 1 + length (rows_of b)) d s (seen ++ l ∷ []) ws hb.1
      ∙ ap (λ n. walk rest n ws) (omega (arith, length-append (rows_of b) (method_rows ms)))
