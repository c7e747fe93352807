-- Turns, one by one.
use Rattle.std.proofs.Common.{◌≡◌, ℕ, zero, suc, ◌+◌, ◌-◌, ◌*◌, ◌<◌, ◌≤◌, List, [], ◌∷◌, length, take, drop, Some, Ok, Err, Result, sym, ap, ◌∙◌, arith}
use denote.MutBor.{MutBor}
use Rattle.calculus.specs.Held.{counted, held, room}
use Rattle.calculus.specs.declared.code.Code.{Code}
use Rattle.calculus.specs.declared.refusals.Refusal.{Refusal}
use Rattle.calculus.specs.Text.{Text, text_of}
use Rattle.calculus.specs.declared.rows.Row.{Row}
use Rattle.listing.specs.declared.pending.Pending.{Pending}
use Rattle.listing.specs.declared.writing.Listing.{Listing}
use Rattle.listing.specs.Steps.{step_of}
use Rattle.listing.specs.Listing.{State, Room, Answer, begun, carried, going, turn_on, walked, listed_whole}
use Rattle.listing.specs.Cost.{load, cost}
use Rattle.listing.specs.Areas.{lent_rooms, row_room, rows_in, rooms, state_of, Keeps}
use Rattle.listing.proofs.Costs.{Turned, turned_cheaper, Begun, begun_cheaper}
use Rattle.listing.proofs.Rowed.{length_rows, keeps_on, same_rooms}
use Rattle.listing.proofs.Inv.{Going}

pub walked_turn : (T : Text) (m : Room) (k : ℕ) (s : State) (p : Pending) (ps : List Pending) → s.pending ≡ p ∷ ps → walked (suc k) T m s ≡ going (carried T m s.rows p ps (step_of T p)) (walked k T m)
unfolding walked
walked_turn T m k s p ps e = ap (λ x. turn_on T m s.rows x (walked k T m)) e

pub walked_end : (T : Text) (m : Room) (k : ℕ) (s : State) → s.pending ≡ [] → 0 < k → walked k T m s ≡ Some (Ok s.rows)
unfolding walked
walked_end T m zero s e h = absurd (omega arith)
walked_end T m (suc k) s e h = ap (λ x. turn_on T m s.rows x (walked k T m)) e

-- a turn that the code makes, after it took p from the stack
module _ {before now : Listing} (g : Going before now) where
  abbrev T : Text
  T = text_of before.code

  abbrev m : Room
  m = rooms before

  abbrev Walk : Answer
  Walk = walked (2 * row_room before + 1) T m (state_of before)

  pub ended : held now.pending.now ≡ [] → Some (Ok (rows_in now)) ≡ Walk
  ended e = sym (walked_end T m g.turns (state_of now) e (omega (arith, g.enough))) ∙ g.same

  -- `rest` is what is left when p is taken from the stack
  module _ {p : Pending} {rest next : Listing} (kept : Keeps rest next) (code : rest.code ≡ now.code) (area : rest.area ≡ now.area) (count : rest.count ≡ now.count)
      (same_room : room rest.pending.now ≡ room now.pending.now) (taken : held now.pending.now ≡ p ∷ held rest.pending.now) where
    popped : Keeps now rest
    popped =
        let rows = ap (λ (a : MutBor (List Row)). a.now) area in
        record { same_code = code; same_room = same_room; same_area = ap (λ (a : MutBor (List Row)). a.ghost_name) area; long = ap length rows; up = omega arith; past = ap (drop rest.count) rows }

    same_rows : rows_in rest ≡ rows_in now
    same_rows = ap (λ (a : MutBor (List Row)). take rest.count a.now) area ∙ ap (λ (n : ℕ). take n now.area.now) count

    -- with the code and the rooms as they are now, and as they were at first
    abbrev Turn : Result State Refusal
    Turn = carried (text_of rest.code) (rooms rest) (rows_in rest) p (held rest.pending.now) (step_of (text_of rest.code) p)

    abbrev Lent : Result State Refusal
    Lent = carried T m (rows_in now) p (held rest.pending.now) (step_of T p)

    as_lent : Turn ≡ Lent
    as_lent =
        let k = keeps_on g.kept popped in
        ap (λ (c : Code). carried (text_of c) (rooms rest) (rows_in rest) p (held rest.pending.now) (step_of (text_of c) p)) k.same_code
        ∙ ap (λ (r : Room). carried T r (rows_in rest) p (held rest.pending.now) (step_of T p)) (same_rooms k)
        ∙ ap (λ (rows : List Row). carried T m rows p (held rest.pending.now) (step_of T p)) same_rows

    turned : (s : State) → Ok s ≡ Turn → Turned T m (rows_in now) p (held rest.pending.now) s
    turned s e =
        let n = length_rows now in
        let l = ap length taken in
        let r : row_room now ≡ row_room before = ap counted g.kept.long in
        turned_cheaper T m (rows_in now) p (held rest.pending.now) s (omega arith) (omega (arith, g.free, g.kept.same_room)) (sym (e ∙ as_lent))

    pub falls : Ok (state_of next) ≡ Turn → cost T m (state_of next) < cost T m (state_of now)
    falls e =
        let t = (turned (state_of next) e).cheaper in
        let l : load T (held now.pending.now) ≡ load T (p ∷ held rest.pending.now) = ap (load T) taken in
        omega arith

    same_on : (k : ℕ) → walked k T m (state_of now) ≡ Walk → 0 < k → going Lent (walked (k - 1) T m) ≡ Walk
    same_on zero e h = absurd (omega arith)
    same_on (suc k) e h =
        let n : suc k - 1 ≡ k = omega arith in
        ap (λ (j : ℕ). going Lent (walked j T m)) n ∙ sym (walked_turn T m k (state_of now) p (held rest.pending.now) taken) ∙ e

    same_next : (r : Result State Refusal) → r ≡ Turn → going r (walked (g.turns - 1) T m) ≡ Walk
    same_next r e = ap (λ (x : Result State Refusal). going x (walked (g.turns - 1) T m)) (e ∙ as_lent) ∙ same_on g.turns g.same (omega (arith, g.enough))

    pub refused : (x : Refusal) → Err x ≡ Turn → Some (Err x) ≡ Walk
    refused x e = same_next (Err x) e

    pub kept_on : Keeps before next
    kept_on = keeps_on (keeps_on g.kept popped) kept

    pub going_on : Ok (state_of next) ≡ Turn → Going before next
    going_on e =
        let t = turned (state_of next) e in
        let f = falls e in
        record {
          turns = g.turns - 1;
          same = same_next (Ok (state_of next)) e;
          enough = omega (arith, g.enough, f);
          kept = kept_on;
          free = omega (arith, t.lists, kept_on.same_room);
        }

-- a list begun on its own
module _ {first now : Listing} (n : ℕ) (none : first.count ≡ 0) (empty : held first.pending.now ≡ []) (b : Ok (state_of now) ≡ begun (text_of first.code) (rooms first) n (rows_in first) (held first.pending.now)) (kept : Keeps first now) where
  first_begun : Ok (state_of now) ≡ begun (text_of first.code) (rooms first) n [] []
  first_begun =
      b ∙ ap (λ (k : ℕ). begun (text_of first.code) (rooms first) n (take k first.area.now) (held first.pending.now)) none
      ∙ ap (λ (ps : List Pending). begun (text_of first.code) (rooms first) n [] ps) empty

  cheaper : Begun (text_of first.code) (rooms first) [] [] (state_of now)
  cheaper = begun_cheaper (text_of first.code) (rooms first) n [] [] (state_of now) (omega arith) (sym first_begun)

  pub first_lists : length (held now.pending.now) ≤ room now.pending.now
  first_lists = omega (arith, cheaper.lists, kept.same_room)

  pub first_cost : cost (text_of now.code) (rooms now) (state_of now) < 2 * row_room now + 1
  unfolding load
  first_cost =
      let c = ap (λ (c : Code). cost (text_of c) (rooms now) (state_of now)) kept.same_code in
      let m = ap (λ (m : Room). cost (text_of first.code) m (state_of now)) (same_rooms kept) in
      let r : row_room now ≡ row_room first = ap counted kept.long in
      omega (arith, cheaper.cheaper)

  pub walked_whole : (r : Answer) → r ≡ walked (2 * row_room now + 1) (text_of now.code) (rooms now) (state_of now) → r ≡ listed_whole (text_of first.code) (rooms first) n
  walked_whole r w =
      w ∙ ap (λ (c : Code). walked (2 * row_room now + 1) (text_of c) (rooms now) (state_of now)) kept.same_code
      ∙ ap (λ (m : Room). walked (2 * m.of_rows + 1) (text_of first.code) m (state_of now)) (same_rooms kept)
      ∙ ap (λ (s : Result State Refusal). going s (walked (2 * row_room first + 1) (text_of first.code) (rooms first))) first_begun

pub rooms_lent : (first : Listing) (area : List Row) (stack : List Pending) → first.area.now ≡ area → room first.pending.now ≡ counted (length stack) → rooms first ≡ lent_rooms area stack
rooms_lent first area stack a b =
    ap (λ (rows : List Row). record { of_rows = counted (length rows); of_lists = room first.pending.now }) a ∙ ap (λ (k : ℕ). record { of_rows = counted (length area); of_lists = k }) b

-- what the area's lender finds there when the listing ends
module _ (n : ℕ) (last : Listing) (area : List Row) (same : area ≡ last.area.now) (count : n ≡ last.count) where
  found : take n area ≡ rows_in last
  found = ap (λ (k : ℕ). take k area) count ∙ ap (λ (rows : List Row). take last.count rows) same

  pub found_answer : (r : Answer) → Some (Ok (rows_in last)) ≡ r → Some (Ok (take n area)) ≡ r
  found_answer r e = ap (λ (rows : List Row). Some (Ok rows)) found ∙ e

  pub found_kept : (first : Listing) (before : List Row) → Keeps first last → first.area.now ≡ before → (n ≤ length area) × (drop n area ≡ drop n before)
  found_kept first before k e =
      let l = ap length same in
      (omega (arith, last.fits), ap (λ (rows : List Row). drop n rows) same ∙ ap (λ (j : ℕ). drop j last.area.now) count ∙ k.past ∙ ap (λ (j : ℕ). drop j first.area.now) (sym count) ∙ ap (λ (rows : List Row). drop n rows) e)
