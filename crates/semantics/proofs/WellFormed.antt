-- Reduction keeps a configuration closed and within its store; a program starts so.
use Rattle.std.proofs.Common.{◌≡◌, ℕ, zero, suc, ◌+◌, ◌-◌, ◌<◌, ◌≤◌, Bool, true, false, cond, leb, List, [], ◌∷◌, ◌++◌, length, refl, arith, length-append}
use Rattle.calculus.specs.declared.values.Value.{Value}
use Rattle.calculus.specs.declared.values.Value.TheVariants.{Figure, Location}
use Rattle.calculus.specs.Terms.{Term, var, val, object, select, update, clone, bind, Methods, nil, method, subst₁}
use Rattle.calculus.specs.Terms.{past, inst, inst_all, Closed, ClosedAll, Within, WithinAll, Static, StaticAll}
use Rattle.semantics.specs.Objects.{Object, Store, AllInObject}
use Rattle.semantics.specs.Sequences.{ends, also}
use Rattle.semantics.specs.Reduction.{Kind, Context, hole, select_in, update_in, clone_in, bind_in, plug, methods}
use Rattle.semantics.specs.Reduction.{Rule, red_object, red_select, red_update, red_clone, red_let, Reduces, reduces, Reductions}
use Rattle.semantics.specs.Reduction.{WellFormedBody, WellFormedStore, WellFormed, ValuesWithin}
use Rattle.semantics.specs.Laws.{ProgramsStartWellFormed}
use Rattle.semantics.proofs.Objects.{method_has, object_has, with_has, push_has, store_grows, object_grows, length_with}
use Rattle.semantics.proofs.Faults.{closed_inside, within_inside}

-- Instantiation: m variables, of which env has those after the first d.

past_closed : (d : ℕ) (env : List Value) (k : ℕ) → k < length env → Closed d (past d env k)
past_closed d [] k h = absurd (omega arith)
past_closed d (v ∷ env) zero h = tt
past_closed d (v ∷ env) (suc k) h = past_closed d env k (omega arith)

var_closed : (b : Bool) (m d : ℕ) (env : List Value) (i : ℕ) → leb i d ≡ b → m ≡ d + length env → 1 ≤ i → i ≤ m → Closed d (cond b (var i) (past d env (i - suc d)))
var_closed true m d env i e h p q = (p, grind arith)
var_closed false m d env i e h p q = past_closed d env (i - suc d) (grind arith)

mutual
  pub inst_closed : (m d : ℕ) (env : List Value) → m ≡ d + length env → (t : Term) → Closed m t → Closed d (inst d env t)
  inst_closed m d env h (var i) c = var_closed (leb i d) m d env i refl h c.0 c.1
  inst_closed m d env h (val w) c = tt
  inst_closed m d env h (object ms) c = all_closed m d env h ms c
  inst_closed m d env h (select a l) c = inst_closed m d env h a c
  inst_closed m d env h (update a l b) c = (inst_closed m d env h a c.0, inst_closed (suc m) (suc d) env (omega arith) b c.1)
  inst_closed m d env h (clone a) c = inst_closed m d env h a c
  inst_closed m d env h (bind a b) c = (inst_closed m d env h a c.0, inst_closed (suc m) (suc d) env (omega arith) b c.1)

  all_closed : (m d : ℕ) (env : List Value) → m ≡ d + length env → (ms : Methods) → ClosedAll m ms → ClosedAll d (inst_all d env ms)
  all_closed m d env h nil c = tt
  all_closed m d env h (method l b ms) c = (inst_closed (suc m) (suc d) env (omega arith) b c.0, all_closed m d env h ms c.1)

past_within : (n d : ℕ) (env : List Value) (k : ℕ) → ValuesWithin n env → Within n (past d env k)
past_within n d [] k h = tt
past_within n d (v ∷ env) zero h = h.0
past_within n d (v ∷ env) (suc k) h = past_within n d env k h.1

var_within : (n : ℕ) (b : Bool) (d : ℕ) (env : List Value) (i : ℕ) → ValuesWithin n env → Within n (cond b (var i) (past d env (i - suc d)))
var_within n true d env i h = tt
var_within n false d env i h = past_within n d env (i - suc d) h

mutual
  pub inst_within : (n d : ℕ) (env : List Value) → ValuesWithin n env → (t : Term) → Within n t → Within n (inst d env t)
  inst_within n d env h (var i) w = var_within n (leb i d) d env i h
  inst_within n d env h (val v) w = w
  inst_within n d env h (object ms) w = all_within n d env h ms w
  inst_within n d env h (select a l) w = inst_within n d env h a w
  inst_within n d env h (update a l b) w = (inst_within n d env h a w.0, inst_within n (suc d) env h b w.1)
  inst_within n d env h (clone a) w = inst_within n d env h a w
  inst_within n d env h (bind a b) w = (inst_within n d env h a w.0, inst_within n (suc d) env h b w.1)

  all_within : (n d : ℕ) (env : List Value) → ValuesWithin n env → (ms : Methods) → WithinAll n ms → WithinAll n (inst_all d env ms)
  all_within n d env h nil w = tt
  all_within n d env h (method l b ms) w = (inst_within n (suc d) env h b w.0, all_within n d env h ms w.1)

-- a value for the variable of a body
subst_well_formed : (n : ℕ) (v : Value) (b : Term) → Within n (val v) → WellFormedBody n b → Closed 0 (subst₁ v b) × Within n (subst₁ v b)
subst_well_formed n v b h w = (inst_closed 1 0 (v ∷ []) (omega arith) b w.0, inst_within n 0 (v ∷ []) (h, tt) b w.1)

-- Larger stores.

mutual
  pub within_grows : (n m : ℕ) → n ≤ m → (t : Term) → Within n t → Within m t
  within_grows n m h (var i) w = tt
  within_grows n m h (val (Figure k)) w = tt
  within_grows n m h (val (Location j)) w = omega arith
  within_grows n m h (object ms) w = all_grows n m h ms w
  within_grows n m h (select a l) w = within_grows n m h a w
  within_grows n m h (update a l b) w = (within_grows n m h a w.0, within_grows n m h b w.1)
  within_grows n m h (clone a) w = within_grows n m h a w
  within_grows n m h (bind a b) w = (within_grows n m h a w.0, within_grows n m h b w.1)

  all_grows : (n m : ℕ) → n ≤ m → (ms : Methods) → WithinAll n ms → WithinAll m ms
  all_grows n m h nil w = tt
  all_grows n m h (method l b ms) w = (within_grows n m h b w.0, all_grows n m h ms w.1)

body_grows : (n m : ℕ) → n ≤ m → (b : Term) → WellFormedBody n b → WellFormedBody m b
body_grows n m h b w = (w.0, within_grows n m h b w.1)

methods_well_formed : (n : ℕ) (ms : Methods) → ClosedAll 0 ms → WithinAll n ms → AllInObject (WellFormedBody n) (methods ms)
methods_well_formed n nil c w = tt
methods_well_formed n (method l b ms) c w = ((c.0, w.0), methods_well_formed n ms c.1 w.1)

-- a new object at the end of the store
new_object : (σ : Store Term) (o : Object Term) → WellFormedStore (length σ) σ → AllInObject (WellFormedBody (length σ)) o →
    WellFormed (val (Location (length σ))) (σ ++ (o ∷ [])) × (length σ ≤ length (σ ++ (o ∷ [])))
new_object σ o p q =
    let m : length (σ ++ (o ∷ [])) ≡ suc (length σ) = simp length-append (omega arith) in
    let h : length σ ≤ length (σ ++ (o ∷ [])) = omega arith in
    let more = body_grows (length σ) (length (σ ++ (o ∷ []))) h in
    (record { closed = tt; within = omega arith; objects = push_has _ σ o (store_grows _ _ more σ p) (object_grows _ _ more o q) }, h)

-- A rule keeps a configuration well formed, and the store does not shrink.
rule_keeps : {k : Kind} {a : Term} {σ : Store Term} {a' : Term} {σ' : Store Term} → Rule k a σ a' σ' → WellFormed a σ → WellFormed a' σ' × (length σ ≤ length σ')
rule_keeps (red_object {σ} {ms}) h = new_object σ (methods ms) h.objects (methods_well_formed (length σ) ms h.closed h.within)
rule_keeps (red_select {σ} {n} {l} {b} p) h =
    let (c, w) = subst_well_formed (length σ) (Location n) b h.within (method_has (WellFormedBody (length σ)) σ n l b h.objects p) in
    (record { closed = c; within = w; objects = h.objects }, omega arith)
rule_keeps (red_update {σ} {n} {l} {b} p) h =
    let e = length_with σ n l b in
    (record { closed = tt; within = rw e h.within.0; objects = rw e (with_has (WellFormedBody (length σ)) σ n l b h.objects (h.closed.1, h.within.1)) }, omega arith)
rule_keeps (red_clone {σ} {n} {o} p) h = new_object σ o h.objects (object_has (WellFormedBody (length σ)) σ n o h.objects p)
rule_keeps (red_let {σ} {v} {b}) h =
    let (c, w) = subst_well_formed (length σ) v b h.within.0 (h.closed.1, h.within.1) in
    (record { closed = c; within = w; objects = h.objects }, omega arith)

-- Another term in a context.

plug_closed : (R : Context) (a a' : Term) → Closed 0 (plug R a) → Closed 0 a' → Closed 0 (plug R a')
plug_closed hole a a' c h = h
plug_closed (select_in R l) a a' c h = plug_closed R a a' c h
plug_closed (update_in R l b) a a' c h = (plug_closed R a a' c.0 h, c.1)
plug_closed (clone_in R) a a' c h = plug_closed R a a' c h
plug_closed (bind_in R b) a a' c h = (plug_closed R a a' c.0 h, c.1)

plug_within : (n m : ℕ) → n ≤ m → (R : Context) (a a' : Term) → Within n (plug R a) → Within m a' → Within m (plug R a')
plug_within n m h hole a a' w g = g
plug_within n m h (select_in R l) a a' w g = plug_within n m h R a a' w g
plug_within n m h (update_in R l b) a a' w g = (plug_within n m h R a a' w.0 g, within_grows n m h b w.1)
plug_within n m h (clone_in R) a a' w g = plug_within n m h R a a' w g
plug_within n m h (bind_in R b) a a' w g = (plug_within n m h R a a' w.0 g, within_grows n m h b w.1)

pub reduction_keeps : {k : Kind} {t : Term} {σ : Store Term} {t' : Term} {σ' : Store Term} → Reduces k t σ t' σ' → WellFormed t σ → WellFormed t' σ'
reduction_keeps (reduces {a = a} {a' = a'} {σ = σ} {σ' = σ'} R rule) h =
    let (w, g) = rule_keeps rule (record { closed = closed_inside R a h.closed; within = within_inside (length σ) R a h.within; objects = h.objects }) in
    record { closed = plug_closed R a a' h.closed w.closed; within = plug_within (length σ) (length σ') g R a a' h.within w.within; objects = w.objects }

pub reductions_keep : {ks : List Kind} {t : Term} {σ : Store Term} {t' : Term} {σ' : Store Term} → Reductions ks t σ t' σ' → WellFormed t σ → WellFormed t' σ'
reductions_keep ends h = h
reductions_keep (also p ps) h = reductions_keep ps (reduction_keeps p h)

-- A program with its givens.

mutual
  pub static_within : (n : ℕ) (t : Term) → Static t → Within n t
  static_within n (var i) h = tt
  static_within n (val (Figure k)) h = tt
  static_within n (val (Location m)) h = absurd h
  static_within n (object ms) h = statics_within n ms h
  static_within n (select a l) h = static_within n a h
  static_within n (update a l b) h = (static_within n a h.0, static_within n b h.1)
  static_within n (clone a) h = static_within n a h
  static_within n (bind a b) h = (static_within n a h.0, static_within n b h.1)

  statics_within : (n : ℕ) (ms : Methods) → StaticAll ms → WithinAll n ms
  statics_within n nil h = tt
  statics_within n (method l b ms) h = (static_within n b h.0, statics_within n ms h.1)

pub starts_well_formed : ProgramsStartWellFormed
starts_well_formed t vs σ s c w o =
    record { closed = inst_closed (length vs) 0 vs (omega arith) t c; within = inst_within (length σ) 0 vs w t (static_within (length σ) t s); objects = o }
