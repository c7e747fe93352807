-- The layout stands for the tree of the compiled term, and what is appended disturbs nothing.
use Rattle.std.proofs.Common.{slice_get, ◌≡◌, ℕ, suc, ◌+◌, ◌<◌, List, [], ◌∷◌, ◌++◌, length, Some, sym, refl, ap, subst, arith, length-append}
use Rattle.calculus.specs.declared.code.ListEntry.{ListEntry}
use Rattle.calculus.specs.declared.code.MethodEntry.{MethodEntry}
use Rattle.calculus.specs.declared.code.Operation.{Operation}
use Rattle.calculus.specs.declared.values.Value.TheVariants.{Figure, Location}
use Rattle.calculus.specs.Terms.{Term, var, val, object, select, update, clone, bind, Methods, nil, method}
use Rattle.calculus.specs.Rows.{many}
use Rattle.calculus.specs.Sizes.{bodies, entries}
use Rattle.calculus.specs.Trees.{Code, access_op, figure_op, object_op, Rest, done, select_op, update_op, clone_op, let_op, Bodies, no_body, body, trans, trans_all}
use Rattle.calculus.specs.Text.{Text, joined}
use Rattle.calculus.specs.Layout.{spine, lists, lists_all, own, table, table_all, contents_of, flat, layout, lengths, compiled}
use Rattle.calculus.specs.Standing.{Listed, Named, CodeAt, RestAt, BodiesAt, Stands, AtRest, AtCode, Program}
use Rattle.layout.specs.Laws.{LaidOut, Lasts}
use Rattle.layout.proofs.Parts.{get_more, Part, part_front, part_back, part_append}
use Rattle.layout.proofs.Lengths.{lists_length, own_length, table_length}

module _ (T U : Text) where
  listed_more : (n : ℕ) (P Q : ListEntry → Type 0) → ((e : ListEntry) → P e → Q e) → Listed T n P → Listed (joined T U) n Q
  listed_more n P Q f h = record { entry = h.entry; found = get_more T.contents U.contents n _ h.found; holds = f _ h.holds }

  named_more : (l n : ℕ) (P Q : ListEntry → Type 0) → ((e : ListEntry) → P e → Q e) → Named T l n P → Named (joined T U) l n Q
  named_more l n P Q f h = record { above = h.above; listed = listed_more n P Q f h.listed }

  op_more : (p : ℕ) (o : Operation) → slice_get T.operations p ≡ Some o → slice_get (joined T U).operations p ≡ Some o
  op_more p o h = get_more T.operations U.operations p o h

  mutual
    pub code_more : (l p q : ℕ) (c : Code) → CodeAt T l p q c → CodeAt (joined T U) l p q c
    code_more l p q (access_op i r) h = (op_more p _ h.0, rest_more l (suc p) q r h.1)
    code_more l p q (figure_op k r) h = (op_more p _ h.0, rest_more l (suc p) q r h.1)
    code_more l p q (object_op bs r) h = (h.0, h.1, op_more p _ h.2, bodies_more l h.0 h.1 bs h.3, rest_more l (suc p) q r h.4)

    pub rest_more : (l p q : ℕ) (r : Rest) → RestAt T l p q r → RestAt (joined T U) l p q r
    rest_more l p q done h = h
    rest_more l p q (select_op x r) h = (op_more p _ h.0, rest_more l (suc p) q r h.1)
    rest_more l p q (update_op x c r) h = (h.0, op_more p _ h.1, named_more l h.0 _ _ (λ e g. code_more h.0 _ _ c g) h.2, rest_more l (suc p) q r h.3)
    rest_more l p q (clone_op r) h = (op_more p _ h.0, rest_more l (suc p) q r h.1)
    rest_more l p q (let_op c r) h = (h.0, op_more p _ h.1, named_more l h.0 _ _ (λ e g. code_more h.0 _ _ c g) h.2, rest_more l (suc p) q r h.3)

    pub bodies_more : (l f n : ℕ) (bs : Bodies) → BodiesAt T l f n bs → BodiesAt (joined T U) l f n bs
    bodies_more l f n no_body h = (h.0, omega (arith, h.1, length-append T.methods U.methods))
    bodies_more l f n (body x c bs) h =
        (h.0, h.1, h.2, get_more T.methods U.methods f _ h.3, named_more l h.0 _ _ (λ e g. code_more h.0 _ _ c g) h.4, bodies_more l (suc f) h.1 bs h.5)

  pub stands_more : (n : ℕ) (c : Code) → Stands T n c → Stands (joined T U) n c
  stands_more n c h = listed_more n _ _ (λ e g. code_more n _ _ c g) h

  pub program_more : (n g : ℕ) (c : Code) → Program T n g c → Program (joined T U) n g c
  program_more n g c h = listed_more n _ _ (λ e k. (k.0, code_more n _ _ c k.1)) h

  pub at_code_more : (n i : ℕ) (c : Code) → AtCode T n i c → AtCode (joined T U) n i c
  at_code_more n i c h = listed_more n _ _ (λ e g. code_more n _ _ c g) h

  pub at_rest_more : (n i : ℕ) (r : Rest) → AtRest T n i r → AtRest (joined T U) n i r
  at_rest_more n i r h = listed_more n _ _ (λ e g. rest_more n _ _ r g) h

pub lasts : Lasts
lasts = (stands_more, program_more)

module _ (T : Text) where
  -- lists with these operations are in the contents from number c on
  abbrev Ready : ℕ → List (List Operation) → Type 0
  Ready c [] = Unit {0}
  Ready c (x ∷ xs) = Listed T c (λ e. Part T.operations e.first x × (e.len ≡ length x)) × Ready (suc c) xs

  ready_front : (c : ℕ) (xs ys : List (List Operation)) → Ready c (xs ++ ys) → Ready c xs
  ready_front c [] ys h = tt
  ready_front c (x ∷ xs) ys h = (h.0, ready_front (suc c) xs ys h.1)

  ready_back : (c : ℕ) (xs ys : List (List Operation)) → Ready c (xs ++ ys) → Ready (c + length xs) ys
  ready_back c [] ys h = let e : c ≡ c + 0 = omega arith in subst (λ (n : ℕ). Ready n ys) e h
  ready_back c (x ∷ xs) ys h =
      let e : suc c + length xs ≡ c + suc (length xs) = omega arith in subst (λ (n : ℕ). Ready n ys) e (ready_back (suc c) xs ys h.1)

  -- what comes after the lists, or the method entries, of a term
  lists_after : (c m : ℕ) (a : Term) (ys : List (List Operation)) → Ready c (lists c m a ++ ys) → Ready (c + bodies a) ys
  lists_after c m a ys h = subst (λ (n : ℕ). Ready (c + n) ys) (lists_length c m a) (ready_back c (lists c m a) ys h)

  table_after : (c m : ℕ) (a : Term) (ys : List MethodEntry) → Part T.methods m (table c a ++ ys) → Part T.methods (m + entries a) ys
  table_after c m a ys h = subst (λ (n : ℕ). Part T.methods (m + n) ys) (table_length c a) (part_back T.methods m (table c a) ys h)

  module _ (l p q : ℕ) (xs : List Operation) (o : Operation) where
    last_op : Part T.operations p (xs ++ (o ∷ [])) → slice_get T.operations (p + length xs) ≡ Some o
    last_op h = (part_back T.operations p xs (o ∷ []) h).0

    past_op : (r : Rest) → RestAt T l (p + length (xs ++ (o ∷ []))) q r → RestAt T l (suc (p + length xs)) q r
    past_op r h = let z : p + length (xs ++ (o ∷ [])) ≡ suc (p + length xs) = omega (arith, length-append xs (o ∷ [])) in subst (λ (n : ℕ). RestAt T l n q r) z h

  past_head : (l p q : ℕ) (r : Rest) → RestAt T l (p + 1) q r → RestAt T l (suc p) q r
  past_head l p q r h = let z : p + 1 ≡ suc p = omega arith in subst (λ (n : ℕ). RestAt T l n q r) z h

  -- a body, from what its operations are
  body_named : (l n : ℕ) (x : List Operation) (xs : List (List Operation)) (c : Code) → l < n → Ready n (x ∷ xs) →
      ((p q : ℕ) → Part T.operations p x → RestAt T n (p + length x) q done → CodeAt T n p q c) → Named T l n (λ e. CodeAt T n e.first (e.first + e.len) c)
  body_named l n x xs c lt h f =
      let g = h.0 in
      let z : g.entry.first + length x ≡ g.entry.first + g.entry.len = ap (λ (k : ℕ). g.entry.first + k) (sym g.holds.1) in
      record { above = lt; listed = record { entry = g.entry; found = g.found; holds = f g.entry.first (g.entry.first + g.entry.len) g.holds.0 z } }

  -- the body b of a follower of a
  lay_body : (c m : ℕ) (a b : Term) (l : ℕ) → l < c →
      Ready c (lists c m a ++ (spine (suc (c + bodies a)) (m + entries a) b ∷ lists (suc (c + bodies a)) (m + entries a) b)) →
      Part T.methods m (table c a ++ table (suc (c + bodies a)) b) →
      ((p q : ℕ) → Ready (suc (c + bodies a)) (lists (suc (c + bodies a)) (m + entries a) b) → Part T.methods (m + entries a) (table (suc (c + bodies a)) b) →
      Part T.operations p (spine (suc (c + bodies a)) (m + entries a) b) → RestAt T (c + bodies a) (p + length (spine (suc (c + bodies a)) (m + entries a) b)) q done → CodeAt T (c + bodies a) p q (trans b done)) →
      Named T l (c + bodies a) (λ e. CodeAt T (c + bodies a) e.first (e.first + e.len) (trans b done))
  lay_body c m a b l lt hl hm f =
      let n : ℕ = c + bodies a in
      let k : ℕ = m + entries a in
      let hb = lists_after c m a (spine (suc n) k b ∷ lists (suc n) k b) hl in
      body_named l n (spine (suc n) k b) (lists (suc n) k b) (trans b done) (omega arith) hb (λ p q h g. f p q hb.1 (table_after c m a _ hm) h g)

  mutual
    lay : (c m : ℕ) (t : Term) (l p q : ℕ) (r : Rest) → l < c → Ready c (lists c m t) → Part T.methods m (table c t) →
        Part T.operations p (spine c m t) → RestAt T l (p + length (spine c m t)) q r → CodeAt T l p q (trans t r)
    lay c m (var i) l p q r lt hl hm ho hr = (ho.0, past_head l p q r hr)
    lay c m (val (Figure k)) l p q r lt hl hm ho hr = (ho.0, past_head l p q r hr)
    lay c m (val (Location n)) l p q r lt hl hm ho hr = (ho.0, past_head l p q r hr)
    lay c m (object ms) l p q r lt hl hm ho hr = (
      m,
      many ms,
      ho.0,
      lay_all c (m + many ms) m ms l lt hl
          (subst (λ (n : ℕ). Part T.methods (m + n) (table_all c ms)) (own_length c ms) (part_back T.methods m (own c ms) (table_all c ms) hm))
          (part_front T.methods m (own c ms) (table_all c ms) hm),
      past_head l p q r hr,
    )
    lay c m (select a x) l p q r lt hl hm ho hr =
        lay c m a l p q (select_op x r) lt hl hm (part_front T.operations p (spine c m a) _ ho) (last_op l p q (spine c m a) _ ho, past_op l p q (spine c m a) _ r hr)
    lay c m (update a x b) l p q r lt hl hm ho hr =
        lay c m a l p q (update_op x (trans b done) r) lt (ready_front c (lists c m a) _ hl) (part_front T.methods m (table c a) _ hm) (part_front T.operations p (spine c m a) _ ho)
        (c + bodies a, last_op l p q (spine c m a) _ ho, lay_body c m a b l lt hl hm (λ p₁ q₁ h₁ h₂ h₃ h₄. lay (suc (c + bodies a)) (m + entries a) b (c + bodies a) p₁ q₁ done (omega arith) h₁ h₂ h₃ h₄), past_op l p q (spine c m a) _ r hr)
    lay c m (clone a) l p q r lt hl hm ho hr =
        lay c m a l p q (clone_op r) lt hl hm (part_front T.operations p (spine c m a) _ ho) (last_op l p q (spine c m a) _ ho, past_op l p q (spine c m a) _ r hr)
    lay c m (bind a b) l p q r lt hl hm ho hr =
        lay c m a l p q (let_op (trans b done) r) lt (ready_front c (lists c m a) _ hl) (part_front T.methods m (table c a) _ hm) (part_front T.operations p (spine c m a) _ ho)
        (c + bodies a, last_op l p q (spine c m a) _ ho, lay_body c m a b l lt hl hm (λ p₁ q₁ h₁ h₂ h₃ h₄. lay (suc (c + bodies a)) (m + entries a) b (c + bodies a) p₁ q₁ done (omega arith) h₁ h₂ h₃ h₄), past_op l p q (spine c m a) _ r hr)

    lay_all : (c m f : ℕ) (ms : Methods) (l : ℕ) → l < c → Ready c (lists_all c m ms) → Part T.methods m (table_all c ms) →
        Part T.methods f (own c ms) → BodiesAt T l f (many ms) (trans_all ms)
    lay_all c m f nil l lt hl hm ho = (refl, ho)
    lay_all c m f (method x b ms) l lt hl hm ho = (
      c,
      many ms,
      refl,
      ho.0,
      body_named l c (spine (suc c) m b) (lists (suc c) m b ++ lists_all (c + suc (bodies b)) (m + entries b) ms) (trans b done) lt hl
          (λ p q h g. lay (suc c) m b c p q done (omega arith) (ready_front (suc c) (lists (suc c) m b) _ hl.1) (part_front T.methods m (table (suc c) b) _ hm) h g),
      lay_all (c + suc (bodies b)) (m + entries b) (suc f) ms l (omega arith)
          (let z : suc c + bodies b ≡ c + suc (bodies b) = omega arith in
          subst (λ (n : ℕ). Ready n (lists_all (c + suc (bodies b)) (m + entries b) ms)) z (lists_after (suc c) m b _ hl.1))
          (table_after (suc c) m b (table_all (c + suc (bodies b)) ms) hm)
          ho.1,
    )

  -- contents and operations, appended together
  ready_laid : (c p : ℕ) (xs : List (List Operation)) → Part T.contents c (contents_of p xs) → Part T.operations p (flat xs) → Ready c xs
  ready_laid c p [] hc ho = tt
  ready_laid c p (x ∷ xs) hc ho = (
    record { entry = record { first = p; len = length x; mark = 0 }; found = hc.0; holds = (part_front T.operations p x (flat xs) ho, refl) },
    ready_laid (suc c) (p + length x) xs hc.1 (part_back T.operations p x (flat xs) ho),
  )

pub laid_out : LaidOut
laid_out T g t =
    let n : ℕ = length T.contents in
    let o : ℕ = length T.operations in
    let m : ℕ = length T.methods in
    let x : List Operation = spine (suc n) m t in
    let Y : Text = layout (lengths T) g t in
    let U : Text = compiled T g t in
    let hc = part_append T.contents Y.contents in
    let ho = part_append T.operations Y.operations in
    let hm = part_append T.methods Y.methods in
    record {
      entry = record { first = o; len = length x; mark = suc g };
      found = hc.0;
      holds = (
        refl,
        lay U (suc n) m t n o (o + length x) done (omega arith)
            (ready_laid U (suc n) (o + length x) (lists (suc n) m t) hc.1 (part_back U.operations o x (flat (lists (suc n) m t)) ho)) hm
            (part_front U.operations o x (flat (lists (suc n) m t)) ho) refl,
      );
    }
