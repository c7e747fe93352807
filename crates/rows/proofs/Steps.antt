-- One row of the walk, and the parts by kind.
use Rattle.std.proofs.Common.{nat_eq, refl, sym, inl, inr, ◌≡◌, ℕ, suc, ◌+◌, ◌-◌, ◌<◌, ◌≤◌, ◌⊎◌, List, [], ◌∷◌, ◌++◌, length, drop, nat_abs, Some, None, ap, ◌∙◌, arith}
use Rattle.std.proofs.lemmas.List.{at_drop_more, at_drop_all}
use Rattle.std.specs.List.{list_any}
use Rattle.std.proofs.lemmas.Bool.Decides.{nat_tests}
use Rattle.calculus.specs.declared.rows.Row.{Row}
use Rattle.calculus.specs.declared.refusals.RowFault.{RowFault}
use Rattle.calculus.specs.declared.refusals.RowFault.TheVariants.{Ends, Left}
use Rattle.calculus.specs.declared.refusals.Refusal.TheVariants.{AtRow}
use Rattle.calculus.specs.Rows.{has}
use Rattle.calculus.proofs.Sizes.{blank}
use Rattle.calculus.specs.Kinds.{kind_number}
use Rattle.calculus.specs.declared.rows.RowKind.{RowKind}
use Rattle.calculus.specs.declared.rows.RowKind.TheVariants.{Variable, Figure, Object, Select, Update, Clone, Let, Method}
use Rattle.rows.specs.Verdict.{Want, a_term, a_method, judge, methods, parts, follows, unless, walk}

-- the library's test of a slice, and this one
pub has_any : (x : ℕ) (s : List ℕ) → list_any (λ y. nat_eq y x) s ≡ has x s
has_any x [] = refl
has_any x (y ∷ ys) = grind (arith, nat_tests, has_any x ys)

pub walk_ends : (rows : List Row) (p : ℕ) (w : Want) (ws : List Want) → drop p rows ≡ [] → walk (drop p rows) p (w ∷ ws) ≡ Some (AtRow Ends p)
unfolding walk
walk_ends rows p w ws e = ap (λ l. walk l p (w ∷ ws)) e

-- the row at a place, and those after it
module _ (rows : List Row) (p : ℕ) (r : Row) (here : drop p rows ≡ r ∷ drop (p + 1) rows) (w : Want) (ws : List Want) where
  walk_row : walk (drop p rows) p (w ∷ ws) ≡ unless (judge r w) p (walk (drop (p + 1) rows) (p + 1) (follows r w ++ ws))
  unfolding walk
  walk_row = ap (λ l. walk l p (w ∷ ws)) here

  pub refuses : (f : RowFault) → judge r w ≡ Some f → walk (drop p rows) p (w ∷ ws) ≡ Some (AtRow f p)
  refuses f e = walk_row ∙ ap (λ x. unless x p (walk (drop (p + 1) rows) (p + 1) (follows r w ++ ws))) e

  pub passes : judge r w ≡ None → (fs : List Want) → follows r w ≡ fs → walk (drop p rows) p (w ∷ ws) ≡ walk (drop (p + 1) rows) (p + 1) (fs ++ ws)
  passes e fs q =
      walk_row
      ∙ ap (λ x. unless x p (walk (drop (p + 1) rows) (p + 1) (follows r w ++ ws))) e
      ∙ ap (λ x. walk (drop (p + 1) rows) (p + 1) (x ++ ws)) q

-- the parts, by kind
module _ (r : Row) (d s : ℕ) where
  pub parts_one : ((r.kind ≡ 4) ⊎ (r.kind ≡ 6)) → parts r d s ≡ a_term (d + 1) s ∷ []
  parts_one k = grind (arith, nat_tests)

  pub parts_two : ((r.kind ≡ 5) ⊎ (r.kind ≡ 7)) → parts r d s ≡ a_term (d + 1) s ∷ a_term (d + 1) (s + 1) ∷ []
  parts_two k = grind (arith, nat_tests)

  pub parts_object : r.kind ≡ 3 → parts r d s ≡ methods (nat_abs r.number) (d + 1) s []
  parts_object k = grind (arith, nat_tests)

  pub parts_none : (r.kind ≡ 3 → ⊥) → (r.kind ≡ 4 → ⊥) → (r.kind ≡ 5 → ⊥) → (r.kind ≡ 6 → ⊥) → (r.kind ≡ 7 → ⊥) → parts r d s ≡ []
  parts_none a b c e f = grind (arith, nat_tests)

-- the parts, by what kind the number is of
module _ (k : RowKind) (r : Row) (d s : ℕ) (is : kind_number k ≡ r.kind) where
  pub kind_one : ((k ≡ Select) ⊎ (k ≡ Clone)) → parts r d s ≡ a_term (d + 1) s ∷ []
  kind_one (inl e) = parts_one r d s (inl (sym is ∙ ap kind_number e))
  kind_one (inr e) = parts_one r d s (inr (sym is ∙ ap kind_number e))

  pub kind_two : ((k ≡ Update) ⊎ (k ≡ Let)) → parts r d s ≡ a_term (d + 1) s ∷ a_term (d + 1) (s + 1) ∷ []
  kind_two (inl e) = parts_two r d s (inl (sym is ∙ ap kind_number e))
  kind_two (inr e) = parts_two r d s (inr (sym is ∙ ap kind_number e))

  pub kind_object : k ≡ Object → parts r d s ≡ methods (nat_abs r.number) (d + 1) s []
  kind_object e = parts_object r d s (sym is ∙ ap kind_number e)

pub kind_none : (k : RowKind) (r : Row) (d s : ℕ) → kind_number k ≡ r.kind → (k ≡ Object → ⊥) → (k ≡ Select → ⊥) → (k ≡ Update → ⊥) → (k ≡ Clone → ⊥) → (k ≡ Let → ⊥) → parts r d s ≡ []
kind_none Variable r d s is a b c e f = grind (arith, nat_tests)
kind_none Figure r d s is a b c e f = grind (arith, nat_tests)
kind_none Object r d s is a b c e f = absurd (a refl)
kind_none Select r d s is a b c e f = absurd (b refl)
kind_none Update r d s is a b c e f = absurd (c refl)
kind_none Clone r d s is a b c e f = absurd (e refl)
kind_none Let r d s is a b c e f = absurd (f refl)
kind_none Method r d s is a b c e f = grind (arith, nat_tests)

-- what is wanted at a level is wanted at one that is the same
pub same_level : (rows : List Row) (p d s d' s' : ℕ) (ws : List Want) → (d' ≡ d) × (s' ≡ s) → walk rows p (a_term d s ∷ ws) ≡ walk rows p (a_term d' s' ∷ ws)
same_level rows p d s d' s' ws e = rw (e.0, e.1) refl

pub same_methods : (rows : List Row) (p n d s n' d' s' : ℕ) (ws : List Want) → n' ≡ n → (d' ≡ d) × (s' ≡ s) → walk rows p (methods n d s [] ++ ws) ≡ walk rows p (methods n' d' s' [] ++ ws)
same_methods rows p n d s n' d' s' ws h e = rw (h, e.0, e.1) refl

-- the methods still to come, where one is
methods_more : (n k d s : ℕ) (seen : List ℕ) → k < n → methods (n - k) d s seen ≡ a_method (n - (k + 1)) d s seen ∷ []
methods_more n k d s seen h = let e : n - k ≡ suc (n - (k + 1)) = omega arith in ap (λ x. methods x d s seen) e

-- a loop over the methods comes to its next one
pub next_method : (rows : List Row) (at n k d s : ℕ) (seen : List ℕ) (ws : List Want) → k < n → walk (drop at rows) at (methods (n - k) d s seen ++ ws) ≡ walk (drop at rows) at (a_method (n - (k + 1)) d s seen ∷ ws)
next_method rows at n k d s seen ws h = ap (λ m. walk (drop at rows) at (m ++ ws)) (methods_more n k d s seen h)

pub walk_left : (rows : List Row) (p : ℕ) → p < length rows → walk (drop p rows) p [] ≡ Some (AtRow Left p)
unfolding walk
walk_left rows p h = at_drop_more (λ l. walk l p []) rows p blank h

pub walk_done : (rows : List Row) (p : ℕ) → length rows ≤ p → walk (drop p rows) p [] ≡ None
unfolding walk
walk_done rows p h = at_drop_all (λ l. walk l p []) rows p h
