-- Rows are those of one term at most: read from the last to the first, with the terms and methods that are complete so far.
use Rattle.std.proofs.Common.{◌≡◌, ℕ, zero, suc, ◌+◌, true, not, leb, List, [], ◌∷◌, ◌++◌, drop, pos, nat_abs, sym, refl, ap, ◌∙◌, ap₂, append_assoc, arith}
use Rattle.std.proofs.lemmas.Bool.{and_parts}
use Rattle.calculus.specs.declared.rows.Row.{Row}
use Rattle.calculus.specs.declared.values.Value.TheVariants.{Figure, Location}
use Rattle.calculus.specs.Terms.{Term, var, val, object, select, update, clone, bind, Methods, nil, method, Static, StaticAll}
use Rattle.calculus.specs.Rows.{many, row, rows_of, method_rows, fits, fit_methods, has}
use Rattle.layout.specs.Laws.{OneTerm}

data Item : Type 0 where
  whole : Term → Item
  part : ℕ → Term → Item

abbrev term_in : Item → Term
term_in (whole t) = t
term_in (part l t) = t

abbrev label_in : Item → ℕ
label_in (whole t) = 0
label_in (part l t) = l

abbrev top : List Item → Item
top [] = whole (var 0)
top (x ∷ xs) = x

abbrev gather : ℕ → List Item → Methods
gather zero s = nil
gather (suc n) s = method (label_in (top s)) (term_in (top s)) (gather n (drop 1 s))

abbrev by_kind : ℕ → Row → List Item → List Item
by_kind zero r s = s
by_kind (suc zero) r s = whole (var (nat_abs r.number)) ∷ s
by_kind (suc (suc zero)) r s = whole (val (Figure r.number)) ∷ s
by_kind (suc (suc (suc zero))) r s = whole (object (gather (nat_abs r.number) s)) ∷ drop (nat_abs r.number) s
by_kind (suc (suc (suc (suc zero)))) r s = whole (select (term_in (top s)) r.label) ∷ drop 1 s
by_kind (suc (suc (suc (suc (suc zero))))) r s = whole (update (term_in (top s)) r.label (term_in (top (drop 1 s)))) ∷ drop 2 s
by_kind (suc (suc (suc (suc (suc (suc zero)))))) r s = whole (clone (term_in (top s))) ∷ drop 1 s
by_kind (suc (suc (suc (suc (suc (suc (suc zero))))))) r s = whole (bind (term_in (top s)) (term_in (top (drop 1 s)))) ∷ drop 2 s
by_kind (suc (suc (suc (suc (suc (suc (suc (suc k)))))))) r s = part r.label (term_in (top s)) ∷ drop 1 s

unfoldable read : List Row → List Item
read [] = []
read (r ∷ rs) = by_kind r.kind r (read rs)

abbrev items : Methods → List Item
items nil = []
items (method l b ms) = part l b ∷ items ms

gathered : (ms : Methods) (s : List Item) → (gather (many ms) (items ms ++ s) ≡ ms) × (drop (many ms) (items ms ++ s) ≡ s)
gathered nil s = (refl, refl)
gathered (method l b ms) s = let g = gathered ms s in (ap (method l b) g.0, g.1)

-- a row of kind k before two terms
before_two : (k l : ℕ) (a b : Term) (rest : List Row) → read (rows_of a ++ (rows_of b ++ rest)) ≡ whole a ∷ read (rows_of b ++ rest) → read (rows_of b ++ rest) ≡ whole b ∷ read rest →
    by_kind k (row k l (pos 0)) (read ((rows_of a ++ rows_of b) ++ rest)) ≡ by_kind k (row k l (pos 0)) (whole a ∷ whole b ∷ read rest)
before_two k l a b rest first second =
    ap (λ (x : List Row). by_kind k (row k l (pos 0)) (read x)) (append_assoc (rows_of a) (rows_of b) rest)
    ∙ ap (by_kind k (row k l (pos 0))) (first ∙ ap (λ (x : List Item). whole a ∷ x) second)

mutual
  unfolding read

  reads : (t : Term) (rest : List Row) → Static t → read (rows_of t ++ rest) ≡ whole t ∷ read rest
  reads (var i) rest h = refl
  reads (val (Figure k)) rest h = refl
  reads (val (Location n)) rest h = absurd h
  reads (object ms) rest h =
      let g = gathered ms (read rest) in
      ap (by_kind 3 (row 3 0 (pos (many ms)))) (reads_all ms rest h) ∙ ap₂ (λ (x : Methods) (y : List Item). whole (object x) ∷ y) g.0 g.1
  reads (select a l) rest h = ap (by_kind 4 (row 4 l (pos 0))) (reads a rest h)
  reads (update a l b) rest h = before_two 5 l a b rest (reads a (rows_of b ++ rest) h.0) (reads b rest h.1)
  reads (clone a) rest h = ap (by_kind 6 (row 6 0 (pos 0))) (reads a rest h)
  reads (bind a b) rest h = before_two 7 0 a b rest (reads a (rows_of b ++ rest) h.0) (reads b rest h.1)

  reads_all : (ms : Methods) (rest : List Row) → StaticAll ms → read (method_rows ms ++ rest) ≡ items ms ++ read rest
  reads_all nil rest h = refl
  reads_all (method l b ms) rest h =
      ap (λ (x : List Row). by_kind 8 (row 8 l (pos 0)) (read x)) (append_assoc (rows_of b) (method_rows ms) rest)
      ∙ ap (by_kind 8 (row 8 l (pos 0))) (reads b (method_rows ms ++ rest) h.0 ∙ ap (λ (x : List Item). whole b ∷ x) (reads_all ms rest h.1))

-- a term within the limits names no location
mutual
  static : (t : Term) (d s : ℕ) → fits t d s ≡ true → Static t
  static (var i) d s h = tt
  static (val (Figure k)) d s h = tt
  static (val (Location n)) d s h = absurd (let z : ◌≡◌ {A = ℕ} 0 1 = cc in omega arith)
  static (object ms) d s h = static_all ms (d + 1) s [] (and_parts (leb (many ms) 64) _ (and_parts (leb d 200) _ h).1).1
  static (select a l) d s h = static a (d + 1) s (and_parts (leb d 200) _ h).1
  static (update a l b) d s h = let q = and_parts (fits a (d + 1) s) _ (and_parts (leb d 200) _ h).1 in (static a (d + 1) s q.0, static b (d + 1) (s + 1) q.1)
  static (clone a) d s h = static a (d + 1) s (and_parts (leb d 200) _ h).1
  static (bind a b) d s h = let q = and_parts (fits a (d + 1) s) _ (and_parts (leb d 200) _ h).1 in (static a (d + 1) s q.0, static b (d + 1) (s + 1) q.1)

  static_all : (ms : Methods) (d s : ℕ) (seen : List ℕ) → fit_methods ms d s seen ≡ true → StaticAll ms
  static_all nil d s seen h = tt
  static_all (method l b ms) d s seen h =
      let q = and_parts (fits b (d + 1) (s + 1)) _ (and_parts (not (has l seen)) _ (and_parts (leb d 200) _ h).1).1 in
      (static b (d + 1) (s + 1) q.0, static_all ms d s (seen ++ l ∷ []) q.1)

pub one_term : OneTerm
one_term rows t u g h is fit is' fit' =
    let p = reads t [] (static t 1 g fit) in
    let q = reads u [] (static u 1 h fit') in
    let e = ap (λ (x : List Row). term_in (top (read (x ++ [])))) (sym is ∙ is') in
    sym (ap (λ (x : List Item). term_in (top x)) p) ∙ e ∙ ap (λ (x : List Item). term_in (top x)) q
