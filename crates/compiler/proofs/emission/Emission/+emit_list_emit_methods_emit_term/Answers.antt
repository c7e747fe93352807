use Rattle.std.proofs.Common.{ℕ, ◌^◌, ◌≤◌, sym, ap, subst, List, map, ◌≡◌, ◌+◌, ◌-◌, ◌<◌, length, arith, rules}
use Rattle.compiler.specs.Area.{wrote}
use Rattle.compiler.specs.Writing.{target}
use Rattle.calculus.specs.declared.code.Operation.TheVariants as op
use Rattle.calculus.specs.declared.rows.Row.{Row}
use Rattle.calculus.specs.Rows.{plain}
use Rattle.compiler.specs.Emit.{ReadyList, ReadyAll, WroteList, WroteAll, LeftAll, small, leaf_of, follower_of}
use Rattle.calculus.proofs.Sizes.{row_at}
use Rattle.compiler.proofs.Ways.{ready_lt, ready_kind, leaf_kind, object_kind, one_kind, two_kind, list_lt, wrote_leaf, object_fits, object_room, wrote_object, one_room, one_slot, wrote_one, two_room, two_slot, wrote_two, list_fits, list_room, wrote_list, all_room, all_next, left_next, left_done}
use Rattle.compiler.proofs.emission.Emission.+emit_list_emit_methods_emit_term.Goals.{emit_list-After-front_len-spine, emit_term-In-Select, emit_term-In_default}
use Rattle.compiler.proofs.emission.Emission.+emit_list_emit_methods_emit_term.Goals as goal

-- a list's operations are counted
spine_fits : (t : ℕ) (c : emit_list-After-front_len-spine t) → c.args.self.now.counts.operations + c.front_len-spine.result + 1 < 2 ^ 32
spine_fits t c = list_fits c.args.self.now.rows.now _ _ 0 _ c.front_len-spine.ensures c.requires

-- a select or a clone, and an update or a let, by the row's number
one : (t : ℕ) (c : emit_term-In-Select t) → (4 ≤ (row_at c.args.self.now.rows.now c.args.at).kind) × ((row_at c.args.self.now.rows.now c.args.at).kind ≡ 5 → ⊥) × ((row_at c.args.self.now.rows.now c.args.at).kind ≡ 7 → ⊥)
one t c = one_kind _ _ c.kind_of-kind.ensures c.in-Select.is

two : (t : ℕ) (c : emit_term-In_default t) → (5 ≤ (row_at c.args.self.now.rows.now c.args.at).kind) × ((row_at c.args.self.now.rows.now c.args.at).kind ≡ 6 → ⊥)
two t c = two_kind _ _ c.kind_of-kind.ensures c.in_default.not-Variable c.in_default.not-Figure c.in_default.not-Object c.in_default.not-Select c.in_default.not-Clone

pub emit_list-overflow_cast-self : goal.emit_list-overflow_cast-self
emit_list-overflow_cast-self t c = let s = spine_fits t (goal.at.emit_list-overflow_cast-self t c).After-front_len-spine in search rules

pub emit_list-overflow_add-self : goal.emit_list-overflow_add-self
emit_list-overflow_add-self t c = let s = spine_fits t (goal.at.emit_list-overflow_add-self t c).After-front_len-spine in search rules

pub emit_list-overflow_cast-self-2 : goal.emit_list-overflow_cast-self-2
emit_list-overflow_cast-self-2 t c = let s = spine_fits t (goal.at.emit_list-overflow_cast-self-2 t c).After-front_len-spine in search rules

pub emit_list-overflow_add-self-3 : goal.emit_list-overflow_add-self-3
emit_list-overflow_add-self-3 t c = let s = spine_fits t (goal.at.emit_list-overflow_add-self-3 t c).After-front_len-spine in search rules

pub emit_list-overflow_add-self-4 : goal.emit_list-overflow_add-self-4
emit_list-overflow_add-self-4 t c = let s = spine_fits t (goal.at.emit_list-overflow_add-self-4 t c).After-front_len-spine in search rules

pub emit_list-emit_term-requires : goal.emit_list-emit_term-requires
emit_list-emit_term-requires t c =
    (search rules, list_room c.args.self.now.rows.now c.args.at _ c.args.mark (target c.args.self.now) c.front_len-spine.ensures c.requires)

pub emit_list-returns-clause-wrote : goal.emit_list-returns-clause-wrote
emit_list-returns-clause-wrote t c =
    wrote_list c.args.self.now.rows.now c.args.at _ c.args.mark (target c.args.self.now) c.front_len-spine.ensures c.emit_term.result _ c.emit_term.ensures.wrote

pub emit_methods-bounds-self-at : goal.emit_methods-bounds-self-at
emit_methods-bounds-self-at t c = (all_room c.loop-k.self.rows.now c.loop-k.at _ (c.args.count - c.loop-k.k) (target c.loop-k.self) (omega arith) c.loop-k.invariant.3 0).0

pub emit_methods-emit_list-at-requires : goal.emit_methods-emit_list-at-requires
emit_methods-emit_list-at-requires t c =
    let q = ap length (ap (λ r. r.now) c.loop-k.invariant.2.rows) in
    let lt : c.loop-k.at < length c.loop-k.self.rows.now = (all_room c.loop-k.self.rows.now c.loop-k.at _ (c.args.count - c.loop-k.k) (target c.loop-k.self) (omega arith) c.loop-k.invariant.3 0).0 in
    (search rules, (all_room c.loop-k.self.rows.now c.loop-k.at _ (c.args.count - c.loop-k.k) (target c.loop-k.self) (omega arith) c.loop-k.invariant.3 _).2)

pub emit_methods-loop-k-preserved : goal.emit_methods-loop-k-preserved
emit_methods-loop-k-preserved t c =
    let g = sym (ap (λ r. r.now) c.emit_list-at.ensures.goes.rows) in
    let q = ap length g in (
      omega (arith, c.emit_list-at.ensures.next.0),
      omega (arith, c.emit_list-at.ensures.next.1),
      search rules,
      subst (λ (rows : List Row). ReadyAll (map plain rows) c.emit_list-at.result (c.args.first + (c.loop-k.k + 1)) (c.args.count - (c.loop-k.k + 1)) (target c.emit_list-at.new.self)) g (all_next c.loop-k.self.rows.now c.loop-k.at (c.args.first + c.loop-k.k) (c.args.count - c.loop-k.k) (target c.loop-k.self) (omega arith) _ (c.args.first + (c.loop-k.k + 1)) (c.args.count - (c.loop-k.k + 1)) _ (omega arith) (omega arith) c.emit_list-at.ensures.wrote c.loop-k.invariant.3),
      subst (λ (rows : List Row). LeftAll (map plain rows) c.args.from c.args.first c.args.count c.emit_list-at.result (c.args.first + (c.loop-k.k + 1)) (c.args.count - (c.loop-k.k + 1)) (target c.args.self.now) (target c.emit_list-at.new.self)) g (left_next c.loop-k.self.rows.now c.loop-k.at (c.args.first + c.loop-k.k) (c.args.count - c.loop-k.k) (target c.loop-k.self) (omega arith) _ (c.args.first + (c.loop-k.k + 1)) (c.args.count - (c.loop-k.k + 1)) _ (omega arith) (omega arith) c.emit_list-at.ensures.wrote c.args.from c.args.first c.args.count (target c.args.self.now) c.loop-k.invariant.4),
    )

pub emit_methods-returns-clause-wrote : goal.emit_methods-returns-clause-wrote
emit_methods-returns-clause-wrote t c =
    subst (λ (rows : List Row). WroteAll (map plain rows) c.args.from c.args.first c.args.count c.loop-k.at (target c.args.self.now) (target c.loop-k.self)) (ap (λ r. r.now) c.loop-k.invariant.2.rows)
    (left_done _ c.args.from c.args.first c.args.count c.loop-k.at _ (c.args.count - c.loop-k.k) (target c.args.self.now) (target c.loop-k.self) (omega arith) c.loop-k.invariant.4)

pub emit_term-offset_bounds-self-at : goal.emit_term-offset_bounds-self-at
emit_term-offset_bounds-self-at t c = let lt = ready_lt c.args.self.now.rows.now _ _ _ c.requires in search rules

pub emit_term-bounds-self-at : goal.emit_term-bounds-self-at
emit_term-bounds-self-at t c = ready_lt c.args.self.now.rows.now _ _ _ c.requires

pub emit_term-overflow_add-self : goal.emit_term-overflow_add-self
emit_term-overflow_add-self t c = let q : c.plain_number-count.result ≡ small (row_at c.args.self.now.rows.now c.args.at).number = search rules in let lt = object_fits c.args.self.now.rows.now _ _ _ (object_kind _ _ c.kind_of-kind.ensures c.in-Object.is) c.plain_number-count.result q c.requires in search rules

pub emit_term-emit_methods-requires : goal.emit_term-emit_methods-requires
emit_term-emit_methods-requires t c = let lt = ready_lt c.args.self.now.rows.now _ _ _ c.requires in let q : c.plain_number-count.result ≡ small (row_at c.args.self.now.rows.now c.args.at).number = search rules in (search rules, (object_room c.args.self.now.rows.now _ _ _ (object_kind _ _ c.kind_of-kind.ensures c.in-Object.is) c.plain_number-count.result q c.requires _, omega arith))

pub emit_term-overflow_sub-slot : goal.emit_term-overflow_sub-slot
emit_term-overflow_sub-slot t c = (one_room c.args.self.now.rows.now _ _ _ (one t (goal.at.emit_term-overflow_sub-slot t c).In-Select) c.requires).0

pub emit_term-emit_term-next-requires : goal.emit_term-emit_term-next-requires
emit_term-emit_term-next-requires t c =
    let lt = ready_lt c.args.self.now.rows.now _ _ _ c.requires in
    (search rules, (one_room c.args.self.now.rows.now _ _ _ (one t (goal.at.emit_term-emit_term-next-requires t c).In-Select) c.requires).1)

pub emit_term-bounds-self-slot-in-Select : goal.emit_term-bounds-self-slot-in-Select
emit_term-bounds-self-slot-in-Select t c = one_slot c.args.self.now.rows.now _ _ _ (one t (goal.at.emit_term-bounds-self-slot-in-Select t c).In-Select) _ _ c.emit_term-next.ensures.wrote c.requires

pub emit_term-overflow_sub-slot-in_default : goal.emit_term-overflow_sub-slot-in_default
emit_term-overflow_sub-slot-in_default t c = (two_room c.args.self.now.rows.now _ _ _ (two t (goal.at.emit_term-overflow_sub-slot-in_default t c).In_default) c.requires).0

pub emit_term-emit_term-body-requires : goal.emit_term-emit_term-body-requires
emit_term-emit_term-body-requires t c = let lt = ready_lt c.args.self.now.rows.now _ _ _ c.requires in (search rules, (two_room c.args.self.now.rows.now _ _ _ (two t (goal.at.emit_term-emit_term-body-requires t c).In_default) c.requires).1)

pub emit_term-bounds-self-slot-in_default : goal.emit_term-bounds-self-slot-in_default
emit_term-bounds-self-slot-in_default t c = (two_slot c.args.self.now.rows.now _ _ _ (two t (goal.at.emit_term-bounds-self-slot-in_default t c).In_default) _ _ c.emit_term-body.ensures.wrote c.requires (op.Access 0)).0

pub emit_term-emit_list-requires : goal.emit_term-emit_list-requires
emit_term-emit_list-requires t c = let lt = ready_lt c.args.self.now.rows.now _ _ _ c.requires in (search rules, subst (λ (rows : List Row). ReadyList (map plain rows) c.emit_term-body.result (wrote c.args.slot c.follower-in_default.result (target c.emit_term-body.new.self))) (sym (ap (λ r. r.now) c.emit_term-body.ensures.goes.rows)) (two_slot c.args.self.now.rows.now _ _ _ (two t (goal.at.emit_term-emit_list-requires t c).In_default) _ _ c.emit_term-body.ensures.wrote c.requires c.follower-in_default.result).1)

pub emit_term-returns-in-Object-clause-wrote : goal.emit_term-returns-in-Object-clause-wrote
emit_term-returns-in-Object-clause-wrote t c = let q : c.plain_number-count.result ≡ small (row_at c.args.self.now.rows.now c.args.at).number = search rules in wrote_object c.args.self.now.rows.now _ _ _ (object_kind _ _ c.kind_of-kind.ensures c.in-Object.is) c.plain_number-count.result q _ _ c.emit_methods.ensures.wrote

pub emit_term-returns-in-Select-clause-wrote : goal.emit_term-returns-in-Select-clause-wrote
emit_term-returns-in-Select-clause-wrote t c = let q : c.follower.result ≡ follower_of (row_at c.args.self.now.rows.now c.args.at) c.emit_term-next.new.self.counts.contents = search rules in wrote_one c.args.self.now.rows.now _ _ _ (one t (goal.at.emit_term-returns-in-Select-clause-wrote t c).In-Select) _ _ c.emit_term-next.ensures.wrote c.follower.result q

pub emit_term-returns-in-Variable-clause-wrote : goal.emit_term-returns-in-Variable-clause-wrote
emit_term-returns-in-Variable-clause-wrote t c = let q : c.leaf.result ≡ leaf_of (row_at c.args.self.now.rows.now c.args.at) = search rules in let lt = ready_lt c.args.self.now.rows.now _ _ _ c.requires in wrote_leaf c.args.self.now.rows.now _ _ _ (leaf_kind _ _ c.kind_of-kind.ensures c.in-Variable.is) c.leaf.result q

pub emit_term-returns-in_default-clause-wrote : goal.emit_term-returns-in_default-clause-wrote
emit_term-returns-in_default-clause-wrote t c = let q : c.follower-in_default.result ≡ follower_of (row_at c.args.self.now.rows.now c.args.at) c.emit_term-body.new.self.counts.contents = search rules in wrote_two c.args.self.now.rows.now _ _ _ (two t (goal.at.emit_term-returns-in_default-clause-wrote t c).In_default) _ _ c.emit_term-body.ensures.wrote c.follower-in_default.result q _ _ (subst (λ (rows : List Row). WroteList (map plain rows) c.emit_term-body.result 0 c.emit_list.result (wrote c.args.slot c.follower-in_default.result (target c.emit_term-body.new.self)) (target c.emit_list.new.self)) (ap (λ r. r.now) c.emit_term-body.ensures.goes.rows) c.emit_list.ensures.wrote)

pub emit_list-front_len-spine-requires : goal.emit_list-front_len-spine-requires
emit_list-front_len-spine-requires t c = let lt = list_lt c.args.self.now.rows.now _ _ c.requires in omega arith

pub emit_list-overflow_add-first : goal.emit_list-overflow_add-first
emit_list-overflow_add-first t c = let s = spine_fits t (goal.at.emit_list-overflow_add-first t c).After-front_len-spine in search rules

pub emit_term-kind_of-kind-requires : goal.emit_term-kind_of-kind-requires
emit_term-kind_of-kind-requires t c = let k = ready_kind c.args.self.now.rows.now _ _ _ c.requires in (k.0, omega (arith, k.1))
