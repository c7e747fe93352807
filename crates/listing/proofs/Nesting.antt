-- A term within the limits nests fewer than 200 lists.
use Rattle.std.proofs.Common.{◌≡◌, ℕ, ◌+◌, ◌≤◌, true, not, leb, List, [], ◌∷◌, ◌++◌, arith, leb-true}
use Rattle.std.proofs.lemmas.Bool.{and_parts}
use Rattle.calculus.specs.declared.values.Value.TheVariants.{Figure, Location}
use Rattle.calculus.specs.Terms.{Term, var, val, object, select, update, clone, bind, Methods, nil, method}
use Rattle.calculus.specs.Rows.{many, fits, fit_methods, has}
use Rattle.listing.specs.Nesting.{nesting, nesting_all}
use Rattle.listing.specs.Laws.{TwoHundred}

mutual
  nests : (t : Term) (d s : ℕ) → fits t d s ≡ true → d + nesting t ≤ 200
  nests (var i) d s h = omega (arith, leb-true d 200 (and_parts (leb d 200) _ h).0)
  nests (val (Figure k)) d s h = omega (arith, leb-true d 200 h)
  nests (val (Location n)) d s h = absurd (let z : ◌≡◌ {A = ℕ} 0 1 = cc in omega arith)
  nests (object ms) d s h =
      let p = and_parts (leb d 200) _ h in
      let q = and_parts (leb (many ms) 64) _ p.1 in
      let l = leb-true d 200 p.0 in
      omega (arith, nests_all ms (d + 1) s [] (omega arith) q.1)
  nests (select a l) d s h = let p = and_parts (leb d 200) _ h in omega (arith, nests a (d + 1) s p.1)
  nests (update a l b) d s h =
      let p = and_parts (leb d 200) _ h in
      let q = and_parts (fits a (d + 1) s) _ p.1 in
      omega (arith, nests a (d + 1) s q.0, nests b (d + 1) (s + 1) q.1)
  nests (clone a) d s h = let p = and_parts (leb d 200) _ h in omega (arith, nests a (d + 1) s p.1)
  nests (bind a b) d s h =
      let p = and_parts (leb d 200) _ h in
      let q = and_parts (fits a (d + 1) s) _ p.1 in
      omega (arith, nests a (d + 1) s q.0, nests b (d + 1) (s + 1) q.1)

  nests_all : (ms : Methods) (d s : ℕ) (seen : List ℕ) → d ≤ 201 → fit_methods ms d s seen ≡ true → d + nesting_all ms ≤ 201
  nests_all nil d s seen l h = omega arith
  nests_all (method x b ms) d s seen l h =
      let p = and_parts (leb d 200) _ h in
      let q = and_parts (not (has x seen)) _ p.1 in
      let r = and_parts (fits b (d + 1) (s + 1)) _ q.1 in
      omega (arith, nests b (d + 1) (s + 1) r.0, nests_all ms d s (seen ++ x ∷ []) l r.1)

pub two_hundred : TwoHundred
two_hundred t g h = omega (arith, nests t 1 g h)
