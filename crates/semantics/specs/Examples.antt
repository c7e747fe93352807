-- Small programs, run by computing.
use Rattle.std.specs.Prelude.{◌≡◌, ℕ, zero, suc, List, [], ◌∷◌, length, pos}
use Rattle.calculus.specs.declared.values.Value.{Value}
use Rattle.calculus.specs.declared.values.Value.TheVariants.{Figure, Location}
use Rattle.calculus.specs.Terms.{Term, var, val, object, select, update, clone, bind, nil, method}
use Rattle.calculus.specs.Trees.{access_op, done}
use Rattle.semantics.specs.Objects.{labelled, Store}
use Rattle.semantics.specs.Reduction.{Kind, making, selecting, updating, cloning, letting, plug, FigureTaken, LabelMissing}
use Rattle.semantics.specs.Redexes.{value, at, decompose, idle, to, contract}
use Rattle.semantics.specs.Machine.{Env, closure, State, TreeStore, Label, β, initial, Next, halts, blocks, goes, step}
use Rattle.semantics.specs.Unloading.{stack, unload, unload_store}
use Rattle.semantics.specs.Lists.{ACCESS, OBJECT, LET, end, op, no_ops, compile}
use Rattle.semantics.specs.Counts.{betas}

-- At most n reductions of the calculus: those made, and the term and objects they lead to.

pub data Reduced : Type 0 where
  reduced : List Kind → Term → Store Term → Reduced

abbrev pub and_first : Kind → Reduced → Reduced
and_first k (reduced ks t σ) = reduced (k ∷ ks) t σ

abbrev pub reduce : ℕ → Term → Store Term → Reduced
reduce zero t σ = reduced [] t σ
reduce (suc n) t σ =
    elim (decompose t) [
      | value v ↦ reduced [] t σ
      | at R r ↦ elim (contract r σ) [ idle ↦ reduced [] t σ | to k a σ' ↦ and_first k (reduce n (plug R a) σ') ]
    ]

-- At most n transitions of the machine: those made, and the state and store they lead to.

pub data Went : Type 0 where
  went : List Label → State → TreeStore → Went

abbrev pub and_before : Label → Went → Went
and_before x (went xs S s) = went (x ∷ xs) S s

abbrev pub run_on : ℕ → State → TreeStore → Went
run_on zero S s = went [] S s
run_on (suc n) S s = elim (step S s) [ halts ↦ went [] S s | blocks ↦ went [] S s | goes x S' s' ↦ and_before x (run_on n S' s') ]

-- what comes next
pub data Ahead : Type 0 where
  finished stuck : Ahead
  next : Label → Ahead

abbrev pub ahead : Next State TreeStore → Ahead
ahead halts = finished
ahead blocks = stuck
ahead (goes x S s) = next x

-- the transitions made, what was reduced, the frames open, and what comes next
pub data Outcome : Type 0 where
  outcome : ℕ → Reduced → ℕ → Ahead → Outcome

abbrev pub sum_up : Went → Outcome
sum_up (went xs S s) = outcome (length xs) (reduced (betas xs) (unload S) (unload_store s)) (length (stack S)) (ahead (step S s))

abbrev pub store_of : Went → TreeStore
store_of (went xs S s) = s

abbrev pub on_machine : ℕ → Term → Env → Outcome
on_machine n t vs = sum_up (run_on n (initial t vs) [])

-- The programs.

-- let x = [] in x
abbrev pub new_object : Term
new_object = bind (object nil) (var 1)

-- [7 = ς(x) (x.7 ⇐ ς(y) y)].7
abbrev pub self_update : Term
self_update = select (object (method 7 (update (var 1) 7 (var 1)) nil)) 7

-- let x = [1 = ς(s) 1] in let y = clone(x) in let z = (y.1 ⇐ ς(s) 2) in x.1
abbrev pub changed_clone : Term
changed_clone = bind (object (method 1 (val (Figure (pos 1))) nil)) (bind (clone (var 1)) (bind (update (var 1) 1 (val (Figure (pos 2)))) (select (var 3) 1)))

-- [7 = ς(x) x.7].7
abbrev pub endless : Term
endless = select (object (method 7 (select (var 1) 7) nil)) 7

-- 5.1
abbrev pub of_figure : Term
of_figure = select (val (Figure (pos 5))) 1

-- [].1
abbrev pub of_nothing : Term
of_nothing = select (object nil) 1

abbrev pub MarkedExamples : Type 0
MarkedExamples =
    (compile new_object ≡ op (OBJECT no_ops) (op (LET (op (ACCESS 1) end)) end)) ×
    (on_machine 99 new_object [] ≡ outcome 4 (reduced (making ∷ letting ∷ []) (val (Location 0)) ([] ∷ [])) 0 finished) ×
    (reduce 99 new_object [] ≡ reduced (making ∷ letting ∷ []) (val (Location 0)) ([] ∷ [])) ×
    (on_machine 99 self_update [] ≡ outcome 5 (reduce 99 self_update []) 0 finished) ×
    (reduce 99 self_update [] ≡ reduced (making ∷ selecting ∷ updating ∷ []) (val (Location 0)) ((labelled 7 (var 1) ∷ []) ∷ [])) ×
    (store_of (run_on 99 (initial self_update []) []) ≡ (labelled 7 (closure (access_op 1 done) (Location 0 ∷ [])) ∷ []) ∷ []) ×
    (on_machine 99 changed_clone [] ≡ outcome 15 (reduce 99 changed_clone []) 0 finished) ×
    (reduce 99 changed_clone [] ≡
    reduced (making ∷ letting ∷ cloning ∷ letting ∷ updating ∷ letting ∷ selecting ∷ []) (val (Figure (pos 1)))
    ((labelled 1 (val (Figure (pos 1))) ∷ []) ∷ (labelled 1 (val (Figure (pos 2))) ∷ []) ∷ [])) ×
    (on_machine 7 endless [] ≡ outcome 7 (reduce 4 endless []) 3 (next (β selecting))) ×
    (on_machine 5 endless [] ≡ outcome 5 (reduce 3 endless []) 2 (next (β selecting))) ×
    (on_machine 99 of_figure [] ≡ outcome 1 (reduced [] of_figure []) 0 stuck) ×
    FigureTaken of_figure ×
    (on_machine 99 of_nothing [] ≡ outcome 1 (reduced (making ∷ []) (select (val (Location 0)) 1) ([] ∷ [])) 0 stuck) ×
    LabelMissing ([] ∷ []) (select (val (Location 0)) 1) ×
    ((v : Value) → on_machine 99 (var 1) (v ∷ []) ≡ outcome 1 (reduced [] (val v) []) 0 finished) ×
    (on_machine 0 (object nil) [] ≡ outcome 0 (reduced [] (object nil) []) 0 (next (β making)))
