-- Rows written one by one.
use Rattle.std.proofs.Common.{◌≡◌, ℕ, zero, suc, ◌+◌, ◌-◌, ◌<◌, ◌≤◌, List, length, drop, Ok, Err, Result, IsErrAnd, refl, sym, ap, ◌∙◌, sub-one, arith}
use Rattle.std.proofs.lemmas.List.{length-take, drop-drop}
use Rattle.std.proofs.lemmas.Result.{err_from_is_err_and}
use Rattle.calculus.specs.Held.{counted, room}
use Rattle.calculus.specs.declared.code.ListEntry.{ListEntry}
use Rattle.calculus.specs.declared.rows.Row.{Row}
use Rattle.calculus.specs.declared.refusals.Refusal.{Refusal}
use Rattle.calculus.specs.Text.{Text, text_of}
use Rattle.listing.specs.declared.writing.Listing.{Listing}
use Rattle.listing.specs.Steps.{row_at}
use Rattle.listing.specs.Listing.{then, put, written}
use Rattle.listing.specs.Areas.{row_room, rows_in, rooms, told, Keeps}
use Rattle.listing.proofs.Inv.{Writing}

pub length_rows : (s : Listing) → length (rows_in s) ≡ s.count
length_rows s = length-take s.count s.area.now ∙ omega (arith, s.fits)

pub same_rooms : {before after : Listing} → Keeps before after → rooms after ≡ rooms before
same_rooms {before} {after} k =
    let a : row_room after ≡ row_room before = ap counted k.long in
    ap (λ (n : ℕ). record { of_rows = n; of_lists = room after.pending.now }) a ∙ ap (λ (n : ℕ). record { of_rows = row_room before; of_lists = n }) k.same_room

drop_on : (a b : ℕ) (xs ys : List Row) → a ≤ b → drop a xs ≡ drop a ys → drop b xs ≡ drop b ys
drop_on a b xs ys h e =
    let s : a + (b - a) ≡ b = omega arith in
    ap (λ n. drop n xs) (sym s) ∙ sym (drop-drop (b - a) a xs) ∙ ap (λ l. drop (b - a) l) e ∙ drop-drop (b - a) a ys ∙ ap (λ n. drop n ys) s

pub keeps_on : {a b c : Listing} → Keeps a b → Keeps b c → Keeps a c
keeps_on {a} {b} {c} w v =
    record {
      same_code = v.same_code ∙ w.same_code;
      same_room = v.same_room ∙ w.same_room;
      same_area = v.same_area ∙ w.same_area;
      long = v.long ∙ w.long;
      up = omega (arith, w.up, v.up);
      past = v.past ∙ drop_on b.count c.count b.area.now a.area.now v.up w.past;
    }

-- what `?` hands on
pub is_err : {A : Type 0} (r : Result A Refusal) (x : Refusal) → IsErrAnd r (λ y. y ≡ x) → r ≡ Err x
is_err r x h = let z = err_from_is_err_and r h in z.1 ∙ ap Err z.2

pub told_err : {A X : Type 0} (r : Result A Refusal) (f : A → X) (x : Refusal) → IsErrAnd r (λ y. y ≡ x) → told r f ≡ Err x
told_err r f x h = ap (λ y. told y f) (is_err r x h)

module _ (T : Text) (room l : ℕ) (e : ListEntry) (rows : List Row) where
  written_row : (k : ℕ) (r : Row) → 0 < k → row_at T l e (k - 1) ≡ Ok r → written T room l e k rows ≡ then (put room rows r) (written T room l e (k - 1))
  unfolding written
  written_row zero r h p = absurd (omega arith)
  written_row (suc k) r h p =
      let s : suc k - 1 ≡ k = sub-one (suc k) in
      ap (λ x. then x (λ q. then (put room rows q) (written T room l e k))) (ap (row_at T l e) (sym s) ∙ p) ∙ ap (λ j. then (put room rows r) (written T room l e j)) (sym s)

  written_bad : (k : ℕ) (x : Refusal) → 0 < k → row_at T l e (k - 1) ≡ Err x → written T room l e k rows ≡ Err x
  unfolding written
  written_bad zero x h p = absurd (omega arith)
  written_bad (suc k) x h p =
      let s : suc k - 1 ≡ k = sub-one (suc k) in
      ap (λ y. then y (λ q. then (put room rows q) (written T room l e k))) (ap (row_at T l e) (sym s) ∙ p)

  pub written_none : written T room l e 0 rows ≡ Ok rows
  unfolding written
  written_none = refl

-- a row of list l that the code writes, with k rows of it left
module _ {l k : ℕ} {e : ListEntry} {before now : Listing} (w : Writing l e before k now) (some : 0 < k) where
  abbrev Whole : Result (List Row) Refusal
  Whole = written (text_of before.code) (row_room before) l e e.len (rows_in before)

  abbrev At : Result Row Refusal
  At = row_at (text_of before.code) l e (k - 1)

  room_first : (r : Row) → put (row_room now) (rows_in now) r ≡ put (row_room before) (rows_in now) r
  room_first r = ap (λ (n : ℕ). put (counted n) (rows_in now) r) w.kept.long

  pub row_astray : (x : Refusal) → Err x ≡ At → Err x ≡ Whole
  row_astray x h = sym (written_bad _ _ l e _ k x some (sym h)) ∙ w.answer

  after_row : (r : Row) → Ok r ≡ At → (p : Result (List Row) Refusal) → p ≡ put (row_room now) (rows_in now) r → then p (written (text_of before.code) (row_room before) l e (k - 1)) ≡ Whole
  after_row r h p q =
      ap (λ x. then x (written (text_of before.code) (row_room before) l e (k - 1))) (q ∙ room_first r)
      ∙ sym (written_row (text_of before.code) (row_room before) l e (rows_in now) k r some (sym h)) ∙ w.answer

  pub no_room : (r : Row) → Ok r ≡ At → (x : Refusal) → Err x ≡ put (row_room now) (rows_in now) r → Err x ≡ Whole
  no_room r h x q = after_row r h (Err x) q

  pub row_written : (r : Row) → Ok r ≡ At → (next : Listing) → Ok (rows_in next) ≡ put (row_room now) (rows_in now) r → next.pending.now ≡ now.pending.now → Keeps now next → Writing l e before (k - 1) next
  row_written r h next q p v = record { answer = after_row r h (Ok (rows_in next)) q; pending = p ∙ w.pending; kept = keeps_on w.kept v }
