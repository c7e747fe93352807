-- Instantiation of variables by values.
use Rattle.std.proofs.Common.{◌≡◌, ℕ, zero, suc, List, [], ◌∷◌, refl, ap, arith}
use Rattle.calculus.specs.declared.values.Value.{Value}
use Rattle.calculus.specs.Terms.{Term, var, val, object, select, update, clone, bind, Methods, nil, method, past, inst_var, inst, inst_all}

past_more : (d : ℕ) (v : Value) (env : List Value) (k : ℕ) → inst d (v ∷ []) (past (suc d) env k) ≡ past d env k
past_more d v [] k = grind arith
past_more d v (w ∷ env) zero = refl
past_more d v (w ∷ env) (suc k) = past_more d v env k

-- env one deeper, then v, is v ∷ env
pub var_more : (d : ℕ) (v : Value) (env : List Value) (i : ℕ) → inst d (v ∷ []) (inst_var (suc d) env i) ≡ inst_var d (v ∷ env) i
var_more d v env i = grind (arith, past_more)

-- instantiating with nothing leaves a term
var_none : (d i : ℕ) → inst_var d [] i ≡ var i
var_none d i = grind arith

mutual
  pub inst_none : (d : ℕ) (t : Term) → inst d [] t ≡ t
  inst_none d (var i) = var_none d i
  inst_none d (val w) = refl
  inst_none d (object ms) = ap object (all_none d ms)
  inst_none d (select a l) = cc (inst_none d a)
  inst_none d (update a l b) = cc (inst_none d a, inst_none (suc d) b)
  inst_none d (clone a) = cc (inst_none d a)
  inst_none d (bind a b) = cc (inst_none d a, inst_none (suc d) b)

  all_none : (d : ℕ) (ms : Methods) → inst_all d [] ms ≡ ms
  all_none d nil = refl
  all_none d (method l b ms) = cc (inst_none (suc d) b, all_none d ms)
