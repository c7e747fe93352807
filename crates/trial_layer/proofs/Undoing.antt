-- Undoing notes, the newest first.
use Rattle.std.proofs.Common.{slice_get, ◌≡◌, ℕ, zero, suc, ◌+◌, ◌<◌, List, [], ◌∷◌, ◌++◌, length, take, set, Some, None, Option, sym, refl, ap, ◌∙◌, arith}
use Rattle.std.proofs.lemmas.List.{length-set, set-set, set-append_left}
use Rattle.calculus.specs.Places.{if_some}
use Rattle.store.specs.declared.closures.Closure.{Closure}
use Rattle.store.specs.declared.closures.Method.{Method}
use Rattle.store.specs.declared.closures.OldMethod.{OldMethod}
use Rattle.store.specs.Meaning.{Meaning, Object, Trial, with_objects, put_closure, with_closure, updated}
use Rattle.store.proofs.Nth.{nth_some, nth_set, nth_append}
use Rattle.trial_layer.specs.Laws.{AllPlaced}
use Rattle.trial_layer.specs.Trials.{with_trial, restore, undo, undone_by}
use Rattle.trial_layer.proofs.Entries.{set_nth}

undo_newest : (k : ℕ) (notes : List OldMethod) (old : OldMethod) (os : List Object) → Some old ≡ slice_get notes k → undo (take (suc k) notes) os ≡ undo (take k notes) (restore old os)
undo_newest k [] old os h = absurd cc
undo_newest zero (n ∷ notes) old os h = let e : n ≡ old = cc in ap (λ x. restore x os) e
undo_newest (suc k) (n ∷ notes) old os h = ap (restore n) (undo_newest k notes old os h)

-- one turn of put back, under any trial
pub undo_one : (m later : Meaning) (t : Trial) (notes : List OldMethod) (k : ℕ) (old : OldMethod) → Some old ≡ slice_get notes k → later ≡ updated m old.location old.place old.closure → undone_by (take k notes) (with_trial later t) ≡ undone_by (take (k + 1) notes) (with_trial m t)
undo_one m later t notes k old h told =
    let up : suc k ≡ k + 1 = omega arith in
    ap (λ n. undone_by (take k notes) (with_trial n t)) told ∙ ap (with_objects (with_trial m t)) (sym (undo_newest k notes old m.objects h) ∙ ap (λ j. undo (take j notes) m.objects) up)

pub undo_push : (notes : List OldMethod) (old : OldMethod) (os : List Object) → undo (notes ++ old ∷ []) os ≡ undo notes (restore old os)
undo_push [] old os = refl
undo_push (n ∷ notes) old os = ap (restore n) (undo_push notes old os)

-- a closure put at a place, by the object there
module _ (os : List Object) (l p : ℕ) (c : Closure) where
  abbrev put_method : Object → Option Method → List Object
  put_method o y = if_some y (λ x. set os l (set o p (with_closure x c))) os

  abbrev put_object : Option Object → List Object
  put_object x = if_some x (λ o. put_method o (slice_get o p)) os

length_put : (os : List Object) (l p : ℕ) (c : Closure) → length (put_closure os l p c) ≡ length os
length_put os l p c = by (slice_get os l)
  where
    inside : (o : Object) (y : Option Method) → length (put_method os l p c o y) ≡ length os
    inside o None = refl
    inside o (Some x) = length-set os l _

    by : (x : Option Object) → length (put_object os l p c x) ≡ length os
    by None = refl
    by (Some o) = inside o (slice_get o p)

put_front : (os new : List Object) (l p : ℕ) (c : Closure) → l < length os → put_closure (os ++ new) l p c ≡ put_closure os l p c ++ new
put_front os new l p c h = ap (put_object (os ++ new) l p c) (nth_append os new l h) ∙ by (slice_get os l)
  where
    inside : (o : Object) (y : Option Method) → put_method (os ++ new) l p c o y ≡ put_method os l p c o y ++ new
    inside o None = refl
    inside o (Some x) = set-append_left os new l _ h

    by : (x : Option Object) → put_object (os ++ new) l p c x ≡ put_object os l p c x ++ new
    by None = refl
    by (Some o) = inside o (slice_get o p)

length_undo : (notes : List OldMethod) (os : List Object) → length (undo notes os) ≡ length os
length_undo [] os = refl
length_undo (n ∷ notes) os = length_put (undo notes os) n.location n.place n.closure ∙ length_undo notes os

-- new objects enter what put back would leave
pub undo_front : (notes : List OldMethod) (os new : List Object) → AllPlaced os notes → undo notes (os ++ new) ≡ undo notes os ++ new
undo_front [] os new h = refl
undo_front (n ∷ notes) os new h =
    let b : n.location < length (undo notes os) = omega (arith, length_undo notes os, nth_some os n.location h.0.0 (sym h.0.1)) in
    ap (restore n) (undo_front notes os new h.1) ∙ put_front (undo notes os) new n.location n.place n.closure b

-- an update, where there is a method x of an object o
module _ (os : List Object) (l p : ℕ) (c : Closure) (o : Object) (x : Method) (h : Some o ≡ slice_get os l) (k : Some x ≡ slice_get o p) where
  abbrev pub old : OldMethod
  old = record { location = l; place = p; closure = x.closure }

  abbrev pub changed : List Object
  changed = set os l (set o p (with_closure x c))

  pub restore_put : restore old changed ≡ os
  restore_put =
      ap (put_object changed l p x.closure) (nth_set os l o _ (sym h))
      ∙ ap (put_method changed l p x.closure (set o p (with_closure x c))) (nth_set o p x _ (sym k))
      ∙ set-set os l (set o p (with_closure x c)) _
      ∙ ap (set os l) (set-set o p (with_closure x c) x ∙ set_nth o p x k)
      ∙ set_nth os l o h

  pub undo_put : (notes : List OldMethod) → undo (notes ++ old ∷ []) changed ≡ undo notes os
  undo_put notes = undo_push notes old changed ∙ ap (undo notes) restore_put
