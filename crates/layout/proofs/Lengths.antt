-- How long the parts of a layout are.
use Rattle.std.proofs.Common.{◌≡◌, ℕ, suc, ◌+◌, List, [], ◌∷◌, ◌++◌, length, sym, refl, ap, ◌∙◌, ap₂, append_assoc, arith, length-append}
use Rattle.calculus.specs.declared.code.Operation.{Operation}
use Rattle.calculus.specs.declared.values.Value.TheVariants.{Figure, Location}
use Rattle.calculus.specs.Terms.{Term, var, val, object, select, update, clone, bind, Methods, nil, method}
use Rattle.calculus.specs.Rows.{many}
use Rattle.calculus.specs.Sizes.{bodies, bodies_all, nodes, nodes_all, entries, entries_all}
use Rattle.calculus.specs.Layout.{spine, lists, lists_all, own, table, table_all, contents_of, flat}
use Rattle.layout.specs.Laws.{LayoutSizes}

pub flat_append : (xs ys : List (List Operation)) → flat (xs ++ ys) ≡ flat xs ++ flat ys
flat_append [] ys = refl
flat_append (x ∷ xs) ys = ap (λ (z : List Operation). x ++ z) (flat_append xs ys) ∙ sym (append_assoc x (flat xs) (flat ys))

pub flat_long : (xs ys : List (List Operation)) → length (flat (xs ++ ys)) ≡ length (flat xs) + length (flat ys)
flat_long xs ys = ap length (flat_append xs ys) ∙ length-append (flat xs) (flat ys)

pub contents_length : (p : ℕ) (xs : List (List Operation)) → length (contents_of p xs) ≡ length xs
contents_length p [] = refl
contents_length p (x ∷ xs) = ap suc (contents_length (p + length x) xs)

mutual
  pub lists_length : (c m : ℕ) (t : Term) → length (lists c m t) ≡ bodies t
  lists_length c m (var i) = refl
  lists_length c m (val v) = refl
  lists_length c m (object ms) = lists_all_length c (m + many ms) ms
  lists_length c m (select a l) = lists_length c m a
  lists_length c m (update a l b) = length-append (lists c m a) _ ∙ ap₂ (λ x y. x + suc y) (lists_length c m a) (lists_length (suc (c + bodies a)) (m + entries a) b)
  lists_length c m (clone a) = lists_length c m a
  lists_length c m (bind a b) = length-append (lists c m a) _ ∙ ap₂ (λ x y. x + suc y) (lists_length c m a) (lists_length (suc (c + bodies a)) (m + entries a) b)

  lists_all_length : (c m : ℕ) (ms : Methods) → length (lists_all c m ms) ≡ bodies_all ms
  lists_all_length c m nil = refl
  lists_all_length c m (method l b ms) =
      length-append (spine (suc c) m b ∷ lists (suc c) m b) _ ∙
      ap₂ (λ x y. suc x + y) (lists_length (suc c) m b) (lists_all_length (c + suc (bodies b)) (m + entries b) ms)

pub own_length : (c : ℕ) (ms : Methods) → length (own c ms) ≡ many ms
own_length c nil = refl
own_length c (method l b ms) = ap suc (own_length (c + suc (bodies b)) ms)

mutual
  pub table_length : (c : ℕ) (t : Term) → length (table c t) ≡ entries t
  table_length c (var i) = refl
  table_length c (val v) = refl
  table_length c (object ms) = length-append (own c ms) (table_all c ms) ∙ ap₂ (λ x y. x + y) (own_length c ms) (table_all_length c ms)
  table_length c (select a l) = table_length c a
  table_length c (update a l b) = length-append (table c a) _ ∙ ap₂ (λ x y. x + y) (table_length c a) (table_length (suc (c + bodies a)) b)
  table_length c (clone a) = table_length c a
  table_length c (bind a b) = length-append (table c a) _ ∙ ap₂ (λ x y. x + y) (table_length c a) (table_length (suc (c + bodies a)) b)

  table_all_length : (c : ℕ) (ms : Methods) → length (table_all c ms) ≡ entries_all ms
  table_all_length c nil = refl
  table_all_length c (method l b ms) =
      length-append (table (suc c) b) _ ∙ ap₂ (λ x y. x + y) (table_length (suc c) b) (table_all_length (c + suc (bodies b)) ms)

-- a follower, without and with a body
follower_length : (xs ys : List Operation) (o : Operation) (n : ℕ) → length xs + length ys ≡ n → length (xs ++ (o ∷ [])) + length ys ≡ suc n
follower_length xs ys o n h = omega (arith, length-append xs (o ∷ []))

body_length : (xs x : List Operation) (o : Operation) (ls ys : List (List Operation)) (n k : ℕ) → length xs + length (flat ls) ≡ n → length x + length (flat ys) ≡ k → length (xs ++ (o ∷ [])) + length (flat (ls ++ (x ∷ ys))) ≡ suc (n + k)
body_length xs x o ls ys n k h g = omega (arith, length-append xs (o ∷ []), flat_long ls (x ∷ ys), length-append x (flat ys))

-- a term's own operations, and those of its bodies
mutual
  operations_length : (c m : ℕ) (t : Term) → length (spine c m t) + length (flat (lists c m t)) ≡ nodes t
  operations_length c m (var i) = refl
  operations_length c m (val (Figure k)) = refl
  operations_length c m (val (Location n)) = refl
  operations_length c m (object ms) = omega (arith, operations_all_length c (m + many ms) ms)
  operations_length c m (select a l) = follower_length (spine c m a) _ _ _ (operations_length c m a)
  operations_length c m (update a l b) = body_length (spine c m a) _ _ (lists c m a) _ _ _ (operations_length c m a) (operations_length (suc (c + bodies a)) (m + entries a) b)
  operations_length c m (clone a) = follower_length (spine c m a) _ _ _ (operations_length c m a)
  operations_length c m (bind a b) = body_length (spine c m a) _ _ (lists c m a) _ _ _ (operations_length c m a) (operations_length (suc (c + bodies a)) (m + entries a) b)

  operations_all_length : (c m : ℕ) (ms : Methods) → length (flat (lists_all c m ms)) ≡ nodes_all ms
  operations_all_length c m nil = refl
  operations_all_length c m (method l b ms) =
      let x = spine (suc c) m b in
      let xs = lists (suc c) m b in
      let ys = lists_all (c + suc (bodies b)) (m + entries b) ms in
      omega (arith, flat_long (x ∷ xs) ys, length-append x (flat xs), operations_length (suc c) m b, operations_all_length (c + suc (bodies b)) (m + entries b) ms)

pub layout_sizes : LayoutSizes
layout_sizes u g t =
    let c = suc u.contents in
    let x = spine c u.methods t in
    let xs = lists c u.methods t in
    record {
      contents = omega (arith, contents_length (u.operations + length x) xs, lists_length c u.methods t);
      operations = length-append x (flat xs) ∙ operations_length c u.methods t;
      methods = table_length c t;
    }
