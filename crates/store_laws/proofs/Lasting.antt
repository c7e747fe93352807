-- What no list of calls takes away, and that the trial does not matter to the answers.
use Rattle.std.proofs.Common.{slice_get, ◌≡◌, ℕ, zero, suc, ◌+◌, Bool, true, false, cond, ltb, leb, List, [], ◌∷◌, ◌++◌, map, length, set, Some, None, Ok, Err, Option, sym, refl, ap, ◌∙◌, subst, append_assoc, append-nil, arith, ltb-true}
use Rattle.std.proofs.lemmas.List.{length-map, length_push, map_push}
use Rattle.std.proofs.lemmas.Bool.{leb-true}
use Rattle.calculus.specs.Places.{if_some}
use Rattle.calculus.specs.declared.code.MethodEntry.{MethodEntry}
use Rattle.store.specs.declared.closures.Closure.{Closure}
use Rattle.store.specs.declared.closures.Method.{Method}
use Rattle.store.specs.declared.closures.OldMethod.{OldMethod}
use Rattle.store.specs.declared.faults.StoreFault.TheVariants.{ObjectsFull, MethodsFull}
use Rattle.store.specs.Meaning.{Object, Meaning, Trial, no_trial, total, room_for, added, with_objects, with_trial, method_of, methods_of, with_closure, put_closure, old_at, noted, updated}
use Rattle.store_laws.specs.declared.runs.StoreCall.{StoreCall}
use Rattle.store_laws.specs.declared.runs.StoreCall.TheVariants.{ObjectCount, ObjectLimit, MethodLimit, Size, MethodAt, Find, Make, Clone, Update}
use Rattle.store_laws.specs.Runs.{entries_at, answer_to, meaning_after, answers_to, meaning_after_all, labels, Lasts, Alike}

pub lasts_same : (m : Meaning) → Lasts m m
lasts_same m = record {
  object_limit_stays = refl;
  method_limit_stays = refl;
  objects_stay = ([], sym (append-nil (map labels m.objects)));
  objects_fit = λ h. h;
  methods_fit = λ h. h;
  plain_stays = λ h. h;
}

pub lasts_then : (m n k : Meaning) → Lasts m n → Lasts n k → Lasts m k
lasts_then m n k a b = record {
  object_limit_stays = b.object_limit_stays ∙ a.object_limit_stays;
  method_limit_stays = b.method_limit_stays ∙ a.method_limit_stays;
  objects_stay = (a.objects_stay.0 ++ b.objects_stay.0, b.objects_stay.1 ∙ ap (λ xs. xs ++ b.objects_stay.0) a.objects_stay.1 ∙ append_assoc (map labels m.objects) a.objects_stay.0 b.objects_stay.0);
  objects_fit = λ h. b.objects_fit (a.objects_fit h);
  methods_fit = λ h. b.methods_fit (a.methods_fit h);
  plain_stays = λ h. b.plain_stays (a.plain_stays h);
}

total_push : (os : List Object) (o : Object) → total (os ++ o ∷ []) ≡ total os + length o
total_push [] o = omega arith
total_push (x ∷ os) o = let r = total_push os o in omega arith

-- an object more, by whether there is room
adds : (m : Meaning) (o : Object) (b d : Bool) → ltb (length m.objects) m.object_limit ≡ b → leb (total m.objects + length o) m.method_limit ≡ d → Lasts m (with_objects m (added (cond b (cond d (Ok (length m.objects)) (Err MethodsFull)) (Err ObjectsFull)) o m.objects))
adds m o false d h k = lasts_same m
adds m o true false h k = lasts_same m
adds m o true true h k = record {
  object_limit_stays = refl;
  method_limit_stays = refl;
  objects_stay = (labels o ∷ [], map_push labels m.objects o);
  objects_fit = λ e. omega (arith, length_push m.objects o, ltb-true _ _ h);
  methods_fit = λ e. omega (arith, total_push m.objects o, leb-true _ _ k);
  plain_stays = λ e. e;
}

adding : (m : Meaning) (o : Object) → Lasts m (with_objects m (added (room_for m (length o)) o m.objects))
adding m o = adds m o (ltb (length m.objects) m.object_limit) (leb (total m.objects + length o) m.method_limit) refl refl

cloning : (m : Meaning) (x : Option Object) → Lasts m (with_objects m (if_some x (λ o. added (room_for m (length o)) o m.objects) m.objects))
cloning m (Some o) = adding m o
cloning m None = lasts_same m

-- a closure replaced leaves every label
relabelled : (o : Object) (p : ℕ) (x : Method) (c : Closure) → slice_get o p ≡ Some x → labels (set o p (with_closure x c)) ≡ labels o
relabelled [] p x c h = refl
relabelled (y ∷ o) zero x c h = let e : y ≡ x = cc in ap (λ z. z.label ∷ labels o) (sym e)
relabelled (y ∷ o) (suc p) x c h = ap (λ xs. y.label ∷ xs) (relabelled o p x c h)

replaced : (os : List Object) (l : ℕ) (o o' : Object) → slice_get os l ≡ Some o → labels o' ≡ labels o → map labels (set os l o') ≡ map labels os
replaced [] l o o' h e = refl
replaced (x ∷ os) zero o o' h e = let q : x ≡ o = cc in ap (λ xs. xs ∷ map labels os) (e ∙ ap labels (sym q))
replaced (x ∷ os) (suc l) o o' h e = ap (λ xs. labels x ∷ xs) (replaced os l o o' h e)

puts_here : (os : List Object) (l p : ℕ) (c : Closure) (o : Object) (x : Option Method) → slice_get os l ≡ Some o → slice_get o p ≡ x → map labels (if_some x (λ y. set os l (set o p (with_closure y c))) os) ≡ map labels os
puts_here os l p c o None h k = refl
puts_here os l p c o (Some y) h k = replaced os l o _ h (relabelled o p y c k)

puts : (os : List Object) (l p : ℕ) (c : Closure) (x : Option Object) → slice_get os l ≡ x → map labels (if_some x (λ o. if_some (slice_get o p) (λ y. set os l (set o p (with_closure y c))) os) os) ≡ map labels os
puts os l p c None h = refl
puts os l p c (Some o) h = puts_here os l p c o (slice_get o p) h refl

abbrev sizes : List (List ℕ) → ℕ
sizes [] = 0
sizes (x ∷ xs) = length x + sizes xs

total_labels : (os : List Object) → total os ≡ sizes (map labels os)
total_labels [] = refl
total_labels (o ∷ os) = let e = total_labels os in omega (arith, length-map o (λ (x : Method). x.label))

unnoted : (t : Trial) (x : Option OldMethod) → t ≡ no_trial → if_some x (λ old. noted old t) t ≡ no_trial
unnoted t None h = h
unnoted t (Some old) h = ap (noted old) h

updating : (m : Meaning) (l p : ℕ) (c : Closure) → Lasts m (updated m l p c)
updating m l p c =
    let same = puts m.objects l p c (slice_get m.objects l) refl in
    let os' = put_closure m.objects l p c in
    let count : length os' ≡ length m.objects = sym (length-map os' labels) ∙ ap length same ∙ length-map m.objects labels in
    let size : total os' ≡ total m.objects = total_labels os' ∙ ap sizes same ∙ sym (total_labels m.objects) in
    record {
      object_limit_stays = refl;
      method_limit_stays = refl;
      objects_stay = ([], same ∙ sym (append-nil (map labels m.objects)));
      objects_fit = λ h. omega arith;
      methods_fit = λ h. omega arith;
      plain_stays = λ h. unnoted m.trial (old_at m.objects l p) h;
    }

module _ (table : List MethodEntry) where
  one_lasts : (m : Meaning) (c : StoreCall) → Lasts m (meaning_after table m c)
  one_lasts m ObjectCount = lasts_same m
  one_lasts m ObjectLimit = lasts_same m
  one_lasts m MethodLimit = lasts_same m
  one_lasts m (Size l) = lasts_same m
  one_lasts m (MethodAt l p) = lasts_same m
  one_lasts m (Find l x) = lasts_same m
  one_lasts m (Make f n env) =
      let es = entries_at table f n in
      let e : length (methods_of es env) ≡ length es = length-map es (method_of env) in
      subst (λ k. Lasts m (with_objects m (added (room_for m k) (methods_of es env) m.objects))) e (adding m (methods_of es env))
  one_lasts m (Clone l) = cloning m (slice_get m.objects l)
  one_lasts m (Update l p c) = updating m l p c

  pub all_last : (m : Meaning) (cs : List StoreCall) → Lasts m (meaning_after_all table m cs)
  all_last m [] = lasts_same m
  all_last m (c ∷ cs) = lasts_then m (meaning_after table m c) (meaning_after_all table (meaning_after table m c) cs) (one_lasts m c) (all_last (meaning_after table m c) cs)

  -- the trial does not matter
  answer_blind : (m : Meaning) (t : Trial) (c : StoreCall) → answer_to table (with_trial m t) c ≡ answer_to table m c
  answer_blind m t ObjectCount = refl
  answer_blind m t ObjectLimit = refl
  answer_blind m t MethodLimit = refl
  answer_blind m t (Size l) = refl
  answer_blind m t (MethodAt l p) = refl
  answer_blind m t (Find l x) = refl
  answer_blind m t (Make f n env) = refl
  answer_blind m t (Clone l) = refl
  answer_blind m t (Update l p c) = refl

  after_blind : (m : Meaning) (t : Trial) (c : StoreCall) → Alike (meaning_after table (with_trial m t) c) (meaning_after table m c)
  after_blind m t ObjectCount = record { same_objects = refl; same_object_limit = refl; same_method_limit = refl }
  after_blind m t ObjectLimit = record { same_objects = refl; same_object_limit = refl; same_method_limit = refl }
  after_blind m t MethodLimit = record { same_objects = refl; same_object_limit = refl; same_method_limit = refl }
  after_blind m t (Size l) = record { same_objects = refl; same_object_limit = refl; same_method_limit = refl }
  after_blind m t (MethodAt l p) = record { same_objects = refl; same_object_limit = refl; same_method_limit = refl }
  after_blind m t (Find l x) = record { same_objects = refl; same_object_limit = refl; same_method_limit = refl }
  after_blind m t (Make f n env) = record { same_objects = refl; same_object_limit = refl; same_method_limit = refl }
  after_blind m t (Clone l) = record { same_objects = refl; same_object_limit = refl; same_method_limit = refl }
  after_blind m t (Update l p c) = record { same_objects = refl; same_object_limit = refl; same_method_limit = refl }

  module _ (m m' : Meaning) (a : Alike m m') where
    same : m ≡ with_trial m' m.trial
    same = λ i. record { objects = a.same_objects i; object_limit = a.same_object_limit i; method_limit = a.same_method_limit i; trial = m.trial }

    answer_alike : (c : StoreCall) → answer_to table m c ≡ answer_to table m' c
    answer_alike c = ap (λ n. answer_to table n c) same ∙ answer_blind m' m.trial c

    after_alike : (c : StoreCall) → Alike (meaning_after table m c) (meaning_after table m' c)
    after_alike c = subst (λ n. Alike (meaning_after table n c) (meaning_after table m' c)) (sym same) (after_blind m' m.trial c)

  pub answers_alike : (m m' : Meaning) → Alike m m' → (cs : List StoreCall) → answers_to table m cs ≡ answers_to table m' cs
  answers_alike m m' a [] = refl
  answers_alike m m' a (c ∷ cs) =
      let here = answer_alike m m' a c in
      let rest = answers_alike (meaning_after table m c) (meaning_after table m' c) (after_alike m m' a c) cs in
      (λ i. here i ∷ rest i)

  pub all_alike : (m m' : Meaning) → Alike m m' → (cs : List StoreCall) → Alike (meaning_after_all table m cs) (meaning_after_all table m' cs)
  all_alike m m' a [] = a
  all_alike m m' a (c ∷ cs) = all_alike (meaning_after table m c) (meaning_after table m' c) (after_alike m m' a c) cs
