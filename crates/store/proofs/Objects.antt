-- The objects of a store, by the spans of its entries. An entry has the span that is reserved for its object (`own`) and the one where
-- its methods stand (`span`); in a flat store the two are one.
use Rattle.std.proofs.Common.{slice_get, ◌≡◌, ℕ, suc, ◌+◌, ◌<◌, ◌≤◌, true, ◌≢◌, ◌⊎◌, List, [], ◌∷◌, ◌++◌, map, length, get_or, take, set, Some, sym, refl, ap, ◌∙◌, subst, ⊎_elim, arith, length-set, length-take-le, get_or-set_other, get_or-take, get_or-set_same}
use Rattle.std.proofs.lemmas.List.{get_or-map, length-map, ext_get_or, take_more, map_push}
use Rattle.std.proofs.lemmas.Bool.{cases_eq}
use Rattle.std.proofs.lemmas.Bool.Decides.{nat_tests}
use Rattle.std.proofs.lemmas.Option.{slice_get-get_or}
use Rattle.store.specs.declared.closures.Method.{Method}
use Rattle.store.specs.declared.layout.Span.{Span}
use Rattle.store.specs.Layout.{part, laid, objects_in}
use Rattle.store.specs.Meaning.{Object, no_trial, total}
use Rattle.store.proofs.Spans.{no_span, laid_head, laid_bounds, laid_order, laid_push, length_part, part_past, part_before, part_set}
use Rattle.store.proofs.Tells.{Tells}

module _ {E : Type 0} (no : E) where
  abbrev pub at : List E → ℕ → E
  at es k = get_or es k no

  -- equal at each place
  pub same_map : {B : Type 0} (d : B) (es fs : List E) (n : ℕ) → n ≤ length es → n ≤ length fs → (f g : E → B) → ((k : ℕ) → k < n → f (at es k) ≡ g (at fs k)) → map f (take n es) ≡ map g (take n fs)
  same_map d es fs n fits fits' f g same =
      let long = length-take-le n es fits in
      let long' = length-take-le n fs fits' in
      ext_get_or d (map f (take n es)) (map g (take n fs))
      (length-map (take n es) f ∙ long ∙ sym (length-map (take n fs) g ∙ long'))
      (λ k h.
      let lt : k < n = omega (arith, h, length-map (take n es) f, long) in
      get_or-map f (take n es) k no d (omega (arith, long)) ∙ ap f (get_or-take n es k no lt) ∙ same k lt
      ∙ sym (get_or-map g (take n fs) k no d (omega (arith, long')) ∙ ap g (get_or-take n fs k no lt)))

  module _ (es : List E) (n : ℕ) (fits : n ≤ length es) where
    module _ {B : Type 0} (f : E → B) where
      pub length_in : length (map f (take n es)) ≡ n
      length_in = length-map (take n es) f ∙ length-take-le n es fits

      pub get_d_in : (d : B) (k : ℕ) → k < n → get_or (map f (take n es)) k d ≡ f (at es k)
      get_d_in d k lt = get_or-map f (take n es) k no d (omega (arith, length-take-le n es fits)) ∙ ap f (get_or-take n es k no lt)

      pub is_there : (k : ℕ) → k < n → Some (f (at es k)) ≡ slice_get (map f (take n es)) k
      is_there k lt = ap Some (sym (get_d_in (f no) k lt)) ∙ sym (slice_get-get_or (map f (take n es)) k (f no) (omega (arith, length_in)))

    -- the spans that are reserved follow one another
    module _ (own : E → Span) (end : ℕ) (ok : laid 0 (map own (take n es)) end ≡ true) where
      pub own_in : (k : ℕ) → k < n → (own (at es k)).first + (own (at es k)).size ≤ end
      own_in k lt =
          let b = laid_bounds 0 (map own (take n es)) end k ok (omega (arith, length_in own)) in
          let q = get_d_in own no_span k lt in
          omega (arith, b.1, ap (λ (e : Span). e.first) q, ap (λ (e : Span). e.size) q)

      pub own_order : (j k : ℕ) → j < k → k < n → (own (at es j)).first + (own (at es j)).size ≤ (own (at es k)).first
      own_order j k low lt =
          let b = laid_order 0 (map own (take n es)) end j k ok low (omega (arith, length_in own)) in
          let q = get_d_in own no_span k lt in
          let p = get_d_in own no_span j (omega arith) in
          omega (arith, b, ap (λ (e : Span). e.first) q, ap (λ (e : Span). e.first) p, ap (λ (e : Span). e.size) p)

  -- the sizes of all objects are what is reserved
  total_spans : (own span : E → Span) → ((e : E) → (span e).size ≡ (own e).size) → (ms : List Method) (from : ℕ) (es : List E) (end : ℕ) → laid from (map own es) end ≡ true → ((k : ℕ) → k < length es → (span (at es k)).first + (span (at es k)).size ≤ length ms) → from + total (map (λ e. part ms (span e)) es) ≡ end
  total_spans own span same ms from [] end h within = grind (arith, nat_tests)
  total_spans own span same ms from (e ∷ es) end h within =
      let t = laid_head from (own e) (map own es) end h in
      let r = total_spans own span same ms (from + (own e).size) es end t.1 (λ k lt. within (suc k) (omega arith)) in
      omega (arith, length_part ms (span e) (within 0 (omega arith)), same e)

  module _ (es : List E) (n : ℕ) (fits : n ≤ length es) (own span : E → Span) where
    pub total_is : ((e : E) → (span e).size ≡ (own e).size) → (ms : List Method) (end : ℕ) → laid 0 (map own (take n es)) end ≡ true → ((k : ℕ) → k < n → (span (at es k)).first + (span (at es k)).size ≤ length ms) → total (objects_in span es n ms) ≡ end
    total_is same ms end ok within =
        let long = length-take-le n es fits in
        let t = total_spans own span same ms 0 (take n es) end ok (λ k lt.
        let low : k < n = omega (arith, lt, long) in
        rw (get_or-take n es k no low) (within k low)) in
        omega (arith, t)

    -- a write into the span of one object, apart from those of the others
    pub one_set : (ms : List Method) (l p : ℕ) → l < n → p < (span (at es l)).size → ((k : ℕ) → k < n → k ≢ l → ((span (at es k)).first + (span (at es k)).size ≤ (span (at es l)).first) ⊎ ((span (at es l)).first + (span (at es l)).size ≤ (span (at es k)).first)) → (v : Method) → objects_in span es n (set ms ((span (at es l)).first + p) v) ≡ set (objects_in span es n ms) l (set (part ms (span (at es l))) p v)
    one_set ms l p low small apart v =
        let s = span (at es l) in
        let k = s.first + p in
        let after = set ms k v in
        let os = objects_in span es n ms in
        let new = set (part ms s) p v in
        let wide = length_in es n fits (λ e. part after (span e)) in
        let count = length_in es n fits (λ e. part ms (span e)) in
        ext_get_or [] (objects_in span es n after) (set os l new)
        (wide ∙ sym (length-set os l new ∙ count))
        (λ x lt.
        let in_use : x < n = omega (arith, lt, wide) in
        get_d_in es n fits (λ e. part after (span e)) [] x in_use ∙
        ⊎_elim
        (λ q. subst (λ (y : ℕ). part after (span (at es y)) ≡ get_or (set os l new) y []) (sym q)
        (part_set ms v s p small ∙ sym (get_or-set_same os l new [] (omega (arith, count)))))
        (λ ne.
        ⊎_elim (λ a. part_past ms v (span (at es x)) k (omega arith)) (λ a. part_before ms v (span (at es x)) k (omega arith)) (apart x in_use ne)
        ∙ sym (get_or-set_other os l x new [] ne ∙ get_d_in es n fits (λ e. part ms (span e)) [] x in_use))
        (cases_eq x l))

  -- what the entries say of a plain store's meaning
  pub tells_of : (own span : E → Span) → ((e : E) → (span e).size ≡ (own e).size) → (es : List E) (n : ℕ) → n ≤ length es → (ms : List Method) (end : ℕ) → laid 0 (map own (take n es)) end ≡ true → end ≤ length ms → ((k : ℕ) → k < n → (span (at es k)).first + (span (at es k)).size ≤ end) → (object_limit method_limit : ℕ) → Tells (record { objects = objects_in span es n ms; object_limit = object_limit; method_limit = method_limit; trial = no_trial }) n end (λ l. span (at es l)) ms
  tells_of own span same es n fits ms end ok room within object_limit method_limit = record {
    is_plain = refl;
    count_is = length_in es n fits (λ e. part ms (span e));
    total_is = total_is es n fits own span same ms end ok (λ k lt. omega (arith, within k lt));
    object_at = is_there es n fits (λ e. part ms (span e));
    within = within;
    fits = room;
  }

  -- fs is es with one entry more
  module _ (es fs : List E) (n : ℕ) (fits : n ≤ length es) (room : n < length fs) (new : E) (at_n : at fs n ≡ new) where
    mapped : {B : Type 0} (d : B) (f g : E → B) → ((k : ℕ) → k < n → g (at fs k) ≡ f (at es k)) → (x : B) → g new ≡ x → map g (take (n + 1) fs) ≡ map f (take n es) ++ x ∷ []
    mapped d f g each x q =
        ap (map g) (take_more fs n no room) ∙ map_push g (take n fs) (at fs n)
        ∙ (λ i. same_map d fs es n (omega arith) fits g f each i ++ (ap g at_n ∙ q) i ∷ [])

    pub laid_more : (own : E → Span) → ((k : ℕ) → k < n → own (at fs k) ≡ own (at es k)) → (end : ℕ) → laid 0 (map own (take n es)) end ≡ true → (own new).first ≡ end → laid 0 (map own (take (n + 1) fs)) (end + (own new).size) ≡ true
    laid_more own same end ok first =
        ap (λ rs. laid 0 rs (end + (own new).size)) (mapped no_span own own same (own new) refl)
        ∙ laid_push 0 (map own (take n es)) end (own new) ok first

    pub objects_more : (span : E → Span) (ms ns : List Method) (o : Object) → ((k : ℕ) → k < n → part ns (span (at fs k)) ≡ part ms (span (at es k))) → part ns (span new) ≡ o → objects_in span fs (n + 1) ns ≡ objects_in span es n ms ++ o ∷ []
    objects_more span ms ns o each q = mapped [] (λ e. part ms (span e)) (λ e. part ns (span e)) each o q
