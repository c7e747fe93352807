-- Each turn lowers the cost.
use Rattle.std.proofs.Common.{slice_get, ◌≡◌, ℕ, zero, suc, ◌+◌, ◌<◌, ◌≤◌, Bool, true, false, cond, eqb, ltb, List, [], ◌∷◌, ◌++◌, length, Some, None, Ok, Err, Option, Result, sym, refl, ap, ◌∙◌, subst, arith, ltb-true}
use borrow.Author.Tests.{eqb-false}
use Rattle.std.proofs.lemmas.List.{length-append}
use Rattle.calculus.specs.Places.{if_some}
use Rattle.calculus.specs.declared.code.ListEntry.{ListEntry}
use Rattle.calculus.specs.declared.rows.Row.{Row}
use Rattle.listing.specs.declared.pending.Pending.{Pending}
use Rattle.listing.specs.declared.pending.Step.{Step}
use Rattle.listing.specs.declared.pending.Step.TheVariants as step
use Rattle.calculus.specs.declared.refusals.Refusal.{Refusal}
use Rattle.calculus.specs.declared.refusals.Refusal.TheVariants.{Astray, StackFull, RowsShort}
use Rattle.calculus.specs.Text.{Text}
use Rattle.listing.specs.Steps.{row_at, method_row, astray, step_in, step_of, passes}
use Rattle.listing.specs.Listing.{State, Room, then, put, written, pushed, fresh, begun_from, begun, passed, next_method, carried}
use Rattle.listing.specs.Cost.{len_of, load, cost}

-- so many rows more, within the room
pub record Longer (room : ℕ) (rows : List Row) (k : ℕ) (more : List Row) : Type 0 where
  pub long : length more ≡ length rows + k
  pub within : length rows ≤ room → length more ≤ room

pub put_longer : (room : ℕ) (rows : List Row) (r : Row) (more : List Row) → put room rows r ≡ Ok more → Longer room rows 1 more × (length more ≤ room)
put_longer room rows r more p = go (ltb (length rows) room) refl p
  where
    go : (b : Bool) → ltb (length rows) room ≡ b → cond b (Ok (rows ++ r ∷ [])) (Err RowsShort) ≡ Ok more → Longer room rows 1 more × (length more ≤ room)
    go true t e =
        let s : rows ++ r ∷ [] ≡ more = cc in
        let n : length more ≡ length rows + 1 = sym (ap length s) ∙ length-append rows (r ∷ []) in
        let l = ltb-true _ _ t in
        (record { long = n; within = λ h. omega arith }, omega arith)
    go false t e = cc

pub written_longer : (T : Text) (room l : ℕ) (e : ListEntry) (k : ℕ) (rows more : List Row) → written T room l e k rows ≡ Ok more → Longer room rows k more
unfolding written
written_longer T room l e zero rows more p =
    let s : rows ≡ more = cc in
    let n : length rows ≡ length more = ap length s in
    record { long = omega arith; within = λ h. omega arith }
written_longer T room l e (suc k) rows more p = at_row (λ rs h. written_longer T room l e k rs more h) (row_at T l e k) p
  where
    at_put : ((rs : List Row) → written T room l e k rs ≡ Ok more → Longer room rs k more) → (r : Row) (x : Result (List Row) Refusal) → put room rows r ≡ x → then x (written T room l e k) ≡ Ok more → Longer room rows (suc k) more
    at_put ih r (Ok rs) q h =
        let a = put_longer room rows r rs q in
        let b = ih rs h in
        record { long = omega (arith, a.0.long, b.long); within = λ i. b.within a.1 }
    at_put ih r (Err y) q h = cc

    at_row : ((rs : List Row) → written T room l e k rs ≡ Ok more → Longer room rs k more) → (x : Result Row Refusal) → then x (λ r. then (put room rows r) (written T room l e k)) ≡ Ok more → Longer room rows (suc k) more
    at_row ih (Ok r) h = at_put ih r (put room rows r) refl h
    at_row ih (Err y) h = cc

-- after a list is begun
pub record Begun (T : Text) (m : Room) (rows : List Row) (ps : List Pending) (s : State) : Type 0 where
  pub cheaper : cost T m s ≤ cost T m (record { rows = rows; pending = ps })
  pub lists : length s.pending ≤ m.of_lists
  pub fits : length s.rows ≤ m.of_rows

module _ (T : Text) (m : Room) (l : ℕ) (rows : List Row) (ps : List Pending) (s : State) (within : length rows ≤ m.of_rows) where
  at_written : (e : ListEntry) → slice_get T.contents l ≡ Some e → (e.len ≡ 0 → ⊥) → length ps < m.of_lists → (w : Result (List Row) Refusal) → written T m.of_rows l e e.len rows ≡ w → pushed w (fresh l) ps ≡ Ok s → Begun T m rows ps s
  unfolding load
  at_written e f z o (Ok rs) q p =
      let a = written_longer T m.of_rows l e e.len rows rs q in
      let t : record { rows = rs; pending = fresh l ∷ ps } ≡ s = cc in
      let n : len_of T l ≡ e.len = ap (λ x. if_some x (λ y. y.len) 0) f in
      let g : length rs ≤ m.of_rows = a.within within in
      subst (λ (x : State). Begun T m rows ps x) t (record { cheaper = omega (arith, a.long); lists = omega arith; fits = g })
  at_written e f z o (Err y) q p = cc

  at_entry : length ps < m.of_lists → (e : ListEntry) → slice_get T.contents l ≡ Some e → (b : Bool) → eqb e.len 0 ≡ b → cond b (Err (Astray l 0)) (pushed (written T m.of_rows l e e.len rows) (fresh l) ps) ≡ Ok s → Begun T m rows ps s
  at_entry o e f true z p = cc
  at_entry o e f false z p = at_written e f (eqb-false _ _ z) o (written T m.of_rows l e e.len rows) refl p

  at_contents : length ps < m.of_lists → (x : Option ListEntry) → slice_get T.contents l ≡ x → if_some x (begun_from T m.of_rows l rows ps) (Err (Astray l 0)) ≡ Ok s → Begun T m rows ps s
  at_contents o (Some e) f p = at_entry o e f (eqb e.len 0) refl p
  at_contents o None f p = cc

  at_stack : (b : Bool) → ltb (length ps) m.of_lists ≡ b → cond b (if_some (slice_get T.contents l) (begun_from T m.of_rows l rows ps) (Err (Astray l 0))) (Err (StackFull l)) ≡ Ok s → Begun T m rows ps s
  at_stack true b p = at_contents (ltb-true _ _ b) (slice_get T.contents l) refl p
  at_stack false b p = cc

  pub begun_cheaper : begun T m l rows ps ≡ Ok s → Begun T m rows ps s
  begun_cheaper p = at_stack (ltb (length ps) m.of_lists) refl p

-- an operation that is passed is one of the list's
pub passes_within : (T : Text) (p : Pending) (d : Step) → step_of T p ≡ Ok d → passes d ≡ true → p.next < len_of T p.list
passes_within T p d h k = go (slice_get T.contents p.list) h
  where
    inner : (e : ListEntry) (b : Bool) (r : Result Step Refusal) → ltb p.next e.len ≡ b → cond b r (Ok step.Ended) ≡ Ok d → p.next < e.len
    inner e true r q g = ltb-true _ _ q
    inner e false r q g = let w : step.Ended ≡ d = cc in let v : false ≡ true = ap passes w ∙ k in cc

    go : (x : Option ListEntry) → if_some x (step_in T p) (Err (astray p)) ≡ Ok d → p.next < if_some x (λ e. e.len) 0
    go (Some e) g = inner e (ltb p.next e.len) _ refl g
    go None g = cc

-- after a turn
pub record Turned (T : Text) (m : Room) (rows : List Row) (p : Pending) (ps : List Pending) (s : State) : Type 0 where
  pub cheaper : cost T m s < cost T m (record { rows = rows; pending = p ∷ ps })
  pub lists : length s.pending ≤ m.of_lists
  pub fits : length s.rows ≤ m.of_rows

module _ (T : Text) (m : Room) (rows : List Row) (p : Pending) (ps : List Pending) (s : State) (within : length rows ≤ m.of_rows) (room : length (p ∷ ps) ≤ m.of_lists) where
  at_row : (b : ℕ) (r : Row) (x : Result (List Row) Refusal) → put m.of_rows rows r ≡ x → then x (λ rs. begun T m b rs (next_method p ∷ ps)) ≡ Ok s → Turned T m rows p ps s
  unfolding load
  at_row b r (Ok rs) q h =
      let a = put_longer m.of_rows rows r rs q in
      let g = begun_cheaper T m b rs (next_method p ∷ ps) s a.1 h in
      record { cheaper = omega (arith, a.0.long, a.1, g.cheaper); lists = g.lists; fits = g.fits }
  at_row b r (Err y) q h = cc

  at_step : (d : Result Step Refusal) → step_of T p ≡ d → carried T m rows p ps d ≡ Ok s → Turned T m rows p ps s
  unfolding load
  at_step (Ok step.Ended) e h =
      let t : record { rows = rows; pending = ps } ≡ s = cc in
      subst (λ (x : State). Turned T m rows p ps x) t (record { cheaper = omega arith; lists = omega arith; fits = within })
  at_step (Ok step.Passed) e h =
      let n = passes_within T p step.Passed e refl in
      let t : record { rows = rows; pending = passed p ∷ ps } ≡ s = cc in
      subst (λ (x : State). Turned T m rows p ps x) t (record { cheaper = omega (arith, n); lists = omega arith; fits = within })
  at_step (Ok (step.Method x b)) e h = at_row b (method_row x) (put m.of_rows rows (method_row x)) refl h
  at_step (Ok (step.Body b)) e h =
      let n = passes_within T p (step.Body b) e refl in
      let g = begun_cheaper T m b rows (passed p ∷ ps) s within h in
      record { cheaper = omega (arith, n, g.cheaper); lists = g.lists; fits = g.fits }
  at_step (Err x) e h = cc

  pub turned_cheaper : carried T m rows p ps (step_of T p) ≡ Ok s → Turned T m rows p ps s
  turned_cheaper h = at_step (step_of T p) refl h
