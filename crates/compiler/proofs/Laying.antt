-- What emission writes is the layout.
use Rattle.std.proofs.Common.{◌≡◌, ℕ, suc, ◌+◌, ◌-◌, ◌<◌, ◌≤◌, List, [], ◌∷◌, ◌++◌, length, take, set, pos, sym, refl, ap, ◌∙◌, ap₂, arith, length-append}
use Rattle.calculus.specs.Terms.{Term, Methods, var, val, object, select, update, clone, bind, nil, method}
use Rattle.calculus.specs.Rows.{many}
use Rattle.calculus.specs.declared.code.ListEntry.{ListEntry}
use Rattle.calculus.specs.declared.code.MethodEntry.{MethodEntry}
use Rattle.calculus.specs.declared.code.Operation.{Operation}
use Rattle.calculus.specs.declared.code.Operation.TheVariants as op
use Rattle.calculus.specs.declared.values.Value.TheVariants.{Figure, Location}
use Rattle.calculus.specs.Sizes.{bodies, entries}
use Rattle.compiler.specs.Fronts.{followers, inner, inner_all}
use Rattle.compiler.specs.Area.{Area, opened, wrote, reserved, named}
use Rattle.compiler.specs.Emit.{put, put_methods, put_list}
use Rattle.calculus.specs.Layout.{spine, lists, lists_all, own, table, table_all, contents_of, flat, layout}
use Rattle.calculus.specs.Text.{Text, joined}
use Rattle.calculus.specs.declared.code.Counts.{Counts}
use Rattle.layout.proofs.Lengths.{flat_append, contents_length, lists_length, own_length, table_length, layout_sizes}
use Rattle.compiler.proofs.Views.{sized, sized_list}
use Rattle.compiler.proofs.Paste.{paste, paste_append, set_paste, paste_paste, paste_used, paste_below}

-- lengths
pub spine_length : (c m : ℕ) (t : Term) → length (spine c m t) ≡ followers t + 1
spine_length c m (var i) = refl
spine_length c m (val (Figure k)) = refl
spine_length c m (val (Location n)) = refl
spine_length c m (object ms) = refl
spine_length c m (select a l) = length-append (spine c m a) _ ∙ ap (λ (x : ℕ). x + 1) (spine_length c m a)
spine_length c m (update a l b) = length-append (spine c m a) _ ∙ ap (λ (x : ℕ). x + 1) (spine_length c m a)
spine_length c m (clone a) = length-append (spine c m a) _ ∙ ap (λ (x : ℕ). x + 1) (spine_length c m a)
spine_length c m (bind a b) = length-append (spine c m a) _ ∙ ap (λ (x : ℕ). x + 1) (spine_length c m a)

pub contents_append : (p : ℕ) (xs ys : List (List Operation)) → contents_of p (xs ++ ys) ≡ contents_of p xs ++ contents_of (p + length (flat xs)) ys
contents_append p [] ys = let e : p ≡ p + 0 = omega arith in ap (λ (q : ℕ). contents_of q ys) e
contents_append p (x ∷ xs) ys =
    let e : p + length x + length (flat xs) ≡ p + length (x ++ flat xs) = omega (arith, length-append x (flat xs)) in
    ap (λ (z : List ListEntry). record { first = p; len = length x; mark = 0 } ∷ z) (contents_append (p + length x) xs ys ∙ ap (λ (q : ℕ). contents_of (p + length x) xs ++ contents_of q ys) e)

flat_two : (xs : List (List Operation)) (x : List Operation) (ys : List (List Operation)) (a k b : ℕ) → length (flat xs) ≡ a → length x ≡ k → length (flat ys) ≡ b → length (flat (xs ++ (x ∷ ys))) ≡ a + (k + b)
flat_two xs x ys a k b p q r = ap length (flat_append xs (x ∷ ys)) ∙ length-append (flat xs) (x ++ flat ys) ∙ omega (arith, length-append x (flat ys))

mutual
  pub flat_length : (c m : ℕ) (t : Term) → length (flat (lists c m t)) ≡ inner t
  flat_length c m (var i) = refl
  flat_length c m (val (Figure k)) = refl
  flat_length c m (val (Location n)) = refl
  flat_length c m (object ms) = flat_all_length c (m + many ms) ms
  flat_length c m (select a l) = flat_length c m a
  flat_length c m (update a l b) = flat_two (lists c m a) _ _ _ _ _ (flat_length c m a) (spine_length _ _ b) (flat_length _ _ b)
  flat_length c m (clone a) = flat_length c m a
  flat_length c m (bind a b) = flat_two (lists c m a) _ _ _ _ _ (flat_length c m a) (spine_length _ _ b) (flat_length _ _ b)

  pub flat_all_length : (c m : ℕ) (ms : Methods) → length (flat (lists_all c m ms)) ≡ inner_all ms
  flat_all_length c m nil = refl
  flat_all_length c m (method l b ms) =
      let ys = lists_all (c + suc (bodies b)) (m + entries b) ms in
      ap length (flat_append (spine (suc c) m b ∷ lists (suc c) m b) ys)
      ∙ length-append (spine (suc c) m b ++ flat (lists (suc c) m b)) (flat ys)
      ∙ omega (arith, length-append (spine (suc c) m b) (flat (lists (suc c) m b)), spine_length (suc c) m b, flat_length (suc c) m b, flat_all_length (c + suc (bodies b)) (m + entries b) ms)

-- a list opened after others, with what is in it
one_list : (xs : List (List Operation)) (x : List Operation) (ys zs : List (List Operation)) (n o n' o' k : ℕ) (L M : List ListEntry)
    → M ≡ paste n (contents_of o xs) L → n' ≡ n + length xs → o' ≡ o + length (flat xs) → length x ≡ k + 1 → ys ≡ zs
    → paste (n' + 1) (contents_of (o' + k + 1) ys) (set M n' (record { first = o'; len = k + 1; mark = 0 })) ≡ paste n (contents_of o (xs ++ (x ∷ zs))) L
one_list xs x ys zs n o n' o' k L M em en eo ex ey =
    let e : o' + k + 1 ≡ o + length (flat xs) + length x = omega (arith, eo, ex) in
    let f : n' ≡ n + length (contents_of o xs) = en ∙ ap (λ (q : ℕ). n + q) (sym (contents_length o xs)) in
    ap₂ (λ (q : ℕ) (w : List (List Operation)). paste (n' + 1) (contents_of q w) (set M n' (record { first = o'; len = k + 1; mark = 0 }))) e ey
    ∙ ap₂ (λ (q j : ℕ). paste (n' + 1) (contents_of (o + length (flat xs) + length x) zs) (set M n' (record { first = q; len = j; mark = 0 }))) eo (sym ex)
    ∙ ap₂ (λ (q : ℕ) (K : List ListEntry). paste q (contents_of (o + length (flat xs)) (x ∷ zs)) K) f em
    ∙ sym (paste_append n (contents_of o xs) (contents_of (o + length (flat xs)) (x ∷ zs)) L)
    ∙ ap (λ (w : List ListEntry). paste n w L) (sym (contents_append o xs (x ∷ zs)))

lists_at : (c d m p : ℕ) (t : Term) → c ≡ d → m ≡ p → lists c m t ≡ lists d p t
lists_at c d m p t e f = ap₂ (λ x y. lists x y t) e f

spine_at : (c d m p : ℕ) (t : Term) → c ≡ d → m ≡ p → spine c m t ≡ spine d p t
spine_at c d m p t e f = ap₂ (λ x y. spine x y t) e f

table_at : (c d : ℕ) (t : Term) → c ≡ d → table c t ≡ table d t
table_at c d t e = ap (λ x. table x t) e

more_lists : (xs ys zs : List (List Operation)) (n o n' o' : ℕ) (L M : List ListEntry) → M ≡ paste n (contents_of o xs) L → n' ≡ n + length xs → o' ≡ o + length (flat xs) → ys ≡ zs
    → paste n' (contents_of o' ys) M ≡ paste n (contents_of o (xs ++ zs)) L
more_lists xs ys zs n o n' o' L M em en eo ey =
    let f : n' ≡ n + length (contents_of o xs) = en ∙ ap (λ (q : ℕ). n + q) (sym (contents_length o xs)) in
    ap₂ (λ (q : ℕ) (w : List (List Operation)). paste n' (contents_of q w) M) eo ey
    ∙ ap₂ (λ (q : ℕ) (K : List ListEntry). paste q (contents_of (o + length (flat xs)) zs) K) f em
    ∙ sym (paste_append n (contents_of o xs) (contents_of (o + length (flat xs)) zs) L)
    ∙ ap (λ (w : List ListEntry). paste n w L) (sym (contents_append o xs zs))

-- what writing a term leaves in each table
abbrev ContentsPut : Term → ℕ → Area → Type 0
ContentsPut t slot T = (put t slot T).contents ≡ paste T.n (contents_of T.o (lists T.n T.m t)) T.contents

abbrev OperationsPut : Term → ℕ → Area → Type 0
OperationsPut t slot T = (put t slot T).operations ≡ paste T.o (flat (lists T.n T.m t)) (paste (slot - followers t) (spine T.n T.m t) T.operations)

abbrev MethodsPut : Term → ℕ → Area → Type 0
MethodsPut t slot T = (put t slot T).methods ≡ paste T.m (table T.n t) T.methods

-- the area before the list of a body is opened, where x is the operation that names it
abbrev before : Term → ℕ → Operation → Area → Area
before a slot x T = wrote slot x (put a (slot - 1) T)

contents_body : (a b : Term) (slot : ℕ) (x : Operation) (T : Area) → ContentsPut a (slot - 1) T → ContentsPut b ((before a slot x T).o + followers b) (opened 0 (followers b) (before a slot x T)) →
    (put_list 0 b (before a slot x T)).contents ≡ paste T.n (contents_of T.o (lists T.n T.m (bind a b))) T.contents
contents_body a b slot x T first second =
    let U : Area = put a (slot - 1) T in
    let z = sized a (slot - 1) T in
    second
    ∙ one_list (lists T.n T.m a) (spine (suc (T.n + bodies a)) (T.m + entries a) b) _ _ T.n T.o U.n U.o (followers b) T.contents U.contents
    first (omega (arith, z.n_is, lists_length T.n T.m a)) (omega (arith, z.o_is, flat_length T.n T.m a)) (spine_length _ _ b)
    (lists_at (U.n + 1) (suc (T.n + bodies a)) U.m (T.m + entries a) b (omega (arith, z.n_is)) z.m_is)

mutual
  unfolding put put_methods

  contents_put : (t : Term) (slot : ℕ) (T : Area) → ContentsPut t slot T
  contents_put (var i) slot T = refl
  contents_put (val (Figure k)) slot T = refl
  contents_put (val (Location n)) slot T = refl
  contents_put (object ms) slot T = contents_all ms T.m (reserved (many ms) (wrote slot (op.Object T.m (many ms)) T))
  contents_put (select a l) slot T = contents_put a (slot - 1) T
  contents_put (update a l b) slot T = contents_body a b slot (op.Update l (put a (slot - 1) T).n) T (contents_put a (slot - 1) T) (contents_put b _ _)
  contents_put (clone a) slot T = contents_put a (slot - 1) T
  contents_put (bind a b) slot T = contents_body a b slot (op.Let (put a (slot - 1) T).n) T (contents_put a (slot - 1) T) (contents_put b _ _)

  contents_all : (ms : Methods) (f : ℕ) (T : Area) → (put_methods ms f T).contents ≡ paste T.n (contents_of T.o (lists_all T.n T.m ms)) T.contents
  contents_all nil f T = refl
  contents_all (method l b ms) f T =
      let V : Area = named f l T in
      let X : Area = put b (V.o + followers b) (opened 0 (followers b) V) in
      let z = sized b (V.o + followers b) (opened 0 (followers b) V) in
      let xs = spine (suc T.n) T.m b ∷ lists (suc T.n) T.m b in
      let here : X.contents ≡ paste T.n (contents_of T.o xs) T.contents =
      contents_put b (V.o + followers b) (opened 0 (followers b) V)
      ∙ one_list [] (spine (suc T.n) T.m b) _ _ T.n T.o T.n T.o (followers b) T.contents T.contents refl (omega arith) (omega arith) (spine_length _ _ b)
      (lists_at (T.n + 1) (suc T.n) T.m T.m b (omega arith) refl) in
      let fl = length-append (spine (suc T.n) T.m b) (flat (lists (suc T.n) T.m b)) in
      contents_all ms (f + 1) X
      ∙ more_lists xs _ _ T.n T.o X.n X.o T.contents X.contents here
      (omega (arith, z.n_is, lists_length (suc T.n) T.m b)) (omega (arith, z.o_is, fl, spine_length (suc T.n) T.m b, flat_length (suc T.n) T.m b))
      (ap₂ (λ x y. lists_all x y ms) (omega (arith, z.n_is)) z.m_is)

-- one operation after others of its list
one_op : (xs sp : List Operation) (x x' : Operation) (o q slot q' : ℕ) (L M : List Operation) → M ≡ paste o xs (paste q sp L) → q + length sp ≡ slot → slot < o → q ≡ q' → x ≡ x'
    → set M slot x ≡ paste o xs (paste q' (sp ++ (x' ∷ [])) L)
one_op xs sp x x' o q slot q' L M em es lt eq eo =
    ap (λ (K : List Operation). set K slot x) em
    ∙ set_paste o slot xs (paste q sp L) x lt
    ∙ ap₂ (λ (j : ℕ) (y : Operation). paste o xs (set (paste q sp L) j y)) (sym es) eo
    ∙ ap (λ (K : List Operation). paste o xs K) (sym (paste_append q sp (x' ∷ []) L))
    ∙ ap (λ (j : ℕ). paste o xs (paste j (sp ++ (x' ∷ [])) L)) eq

-- a list's operations after those of others
one_flat : (xs : List (List Operation)) (x x' : List Operation) (ys zs : List (List Operation)) (o o' k : ℕ) (L M : List Operation)
    → M ≡ paste o (flat xs) L → o' ≡ o + length (flat xs) → length x' ≡ k + 1 → x ≡ x' → ys ≡ zs
    → paste (o' + k + 1) (flat ys) (paste (o' + k - k) x M) ≡ paste o (flat (xs ++ (x' ∷ zs))) L
one_flat xs x x' ys zs o o' k L M em eo ex e ey =
    let p : o' + k - k ≡ o + length (flat xs) = omega (arith, eo) in
    let q : o' + k + 1 ≡ o + length (flat xs) + length x' = omega (arith, eo, ex) in
    ap₂ (λ (j : ℕ) (w : List (List Operation)). paste j (flat w) (paste (o' + k - k) x M)) q ey
    ∙ ap₂ (λ (j : ℕ) (w : List Operation). paste (o + length (flat xs) + length x') (flat zs) (paste j w M)) p e
    ∙ sym (paste_append (o + length (flat xs)) x' (flat zs) M)
    ∙ ap (λ (K : List Operation). paste (o + length (flat xs)) (x' ++ flat zs) K) em
    ∙ sym (paste_append o (flat xs) (x' ++ flat zs) L)
    ∙ ap (λ (w : List Operation). paste o w L) (sym (flat_append xs (x' ∷ zs)))

more_flat : (xs ys zs : List (List Operation)) (o o' : ℕ) (L M : List Operation) → M ≡ paste o (flat xs) L → o' ≡ o + length (flat xs) → ys ≡ zs → paste o' (flat ys) M ≡ paste o (flat (xs ++ zs)) L
more_flat xs ys zs o o' L M em eo ey =
    ap₂ (λ (j : ℕ) (w : List (List Operation)). paste j (flat w) M) eo ey
    ∙ ap (λ (K : List Operation). paste (o + length (flat xs)) (flat zs) K) em
    ∙ sym (paste_append o (flat xs) (flat zs) L)
    ∙ ap (λ (w : List Operation). paste o w L) (sym (flat_append xs zs))

-- a follower x of a, without and with a body
operations_follower : (a : Term) (slot : ℕ) (x x' : Operation) (T : Area) → x ≡ x' → followers a + 1 ≤ slot → slot < T.o → OperationsPut a (slot - 1) T →
    (before a slot x T).operations ≡ paste T.o (flat (lists T.n T.m a)) (paste (slot - (followers a + 1)) (spine T.n T.m a ++ (x' ∷ [])) T.operations)
operations_follower a slot x x' T e lo hi first =
    one_op (flat (lists T.n T.m a)) (spine T.n T.m a) x x' T.o (slot - 1 - followers a) slot (slot - (followers a + 1)) T.operations _
    first (omega (arith, spine_length T.n T.m a)) hi (omega arith) e

operations_body : (a b : Term) (slot : ℕ) (f : ℕ → Operation) (T : Area) → followers a + 1 ≤ slot → slot < T.o → OperationsPut a (slot - 1) T →
    OperationsPut b ((before a slot (f (put a (slot - 1) T).n) T).o + followers b) (opened 0 (followers b) (before a slot (f (put a (slot - 1) T).n) T)) →
    (put_list 0 b (before a slot (f (put a (slot - 1) T).n) T)).operations ≡ paste T.o (flat (lists T.n T.m (bind a b))) (paste (slot - (followers a + 1)) (spine T.n T.m a ++ (f (T.n + bodies a) ∷ [])) T.operations)
operations_body a b slot f T lo hi first second =
    let U : Area = put a (slot - 1) T in
    let z = sized a (slot - 1) T in
    let e : U.n + 1 ≡ suc (T.n + bodies a) = omega (arith, z.n_is) in
    second
    ∙ one_flat (lists T.n T.m a) _ (spine (suc (T.n + bodies a)) (T.m + entries a) b) _ _ T.o U.o (followers b) _ (before a slot (f U.n) T).operations
    (operations_follower a slot (f U.n) (f (T.n + bodies a)) T (ap f z.n_is) lo hi first)
    (omega (arith, z.o_is, flat_length T.n T.m a)) (spine_length _ _ b) (spine_at (U.n + 1) _ U.m _ b e z.m_is) (lists_at (U.n + 1) _ U.m _ b e z.m_is)

mutual
  unfolding put put_methods

  operations_put : (t : Term) (slot : ℕ) (T : Area) → followers t ≤ slot → slot < T.o → OperationsPut t slot T
  operations_put (var i) slot T lo hi = let e : slot ≡ slot - 0 = omega arith in ap (λ (j : ℕ). set T.operations j (op.Access i)) e
  operations_put (val (Figure k)) slot T lo hi = let e : slot ≡ slot - 0 = omega arith in ap (λ (j : ℕ). set T.operations j (op.Figure k)) e
  operations_put (val (Location n)) slot T lo hi = let e : slot ≡ slot - 0 = omega arith in ap (λ (j : ℕ). set T.operations j (op.Figure (pos 0))) e
  operations_put (object ms) slot T lo hi =
      let e : slot ≡ slot - 0 = omega arith in
      operations_all ms T.m (reserved (many ms) (wrote slot (op.Object T.m (many ms)) T))
      ∙ ap (λ (j : ℕ). paste T.o (flat (lists_all T.n (T.m + many ms) ms)) (set T.operations j (op.Object T.m (many ms)))) e
  operations_put (select a l) slot T lo hi = operations_follower a slot (op.Select l) (op.Select l) T refl lo hi (operations_put a (slot - 1) T (omega arith) (omega arith))
  operations_put (update a l b) slot T lo hi = operations_body a b slot (op.Update l) T lo hi (operations_put a (slot - 1) T (omega arith) (omega arith)) (operations_put b _ _ (omega arith) (omega arith))
  operations_put (clone a) slot T lo hi = operations_follower a slot op.Clone op.Clone T refl lo hi (operations_put a (slot - 1) T (omega arith) (omega arith))
  operations_put (bind a b) slot T lo hi = operations_body a b slot op.Let T lo hi (operations_put a (slot - 1) T (omega arith) (omega arith)) (operations_put b _ _ (omega arith) (omega arith))

  operations_all : (ms : Methods) (f : ℕ) (T : Area) → (put_methods ms f T).operations ≡ paste T.o (flat (lists_all T.n T.m ms)) T.operations
  operations_all nil f T = refl
  operations_all (method l b ms) f T =
      let V : Area = named f l T in
      let X : Area = put b (V.o + followers b) (opened 0 (followers b) V) in
      let z = sized b (V.o + followers b) (opened 0 (followers b) V) in
      let xs = spine (suc T.n) T.m b ∷ lists (suc T.n) T.m b in
      let e : T.n + 1 ≡ suc T.n = omega arith in
      let here : X.operations ≡ paste T.o (flat xs) T.operations =
      operations_put b (V.o + followers b) (opened 0 (followers b) V) (omega arith) (omega arith)
      ∙ one_flat [] _ (spine (suc T.n) T.m b) _ _ T.o T.o (followers b) T.operations T.operations refl (omega arith) (spine_length _ _ b)
      (spine_at (T.n + 1) _ T.m T.m b e refl) (lists_at (T.n + 1) _ T.m T.m b e refl) in
      let fl = length-append (spine (suc T.n) T.m b) (flat (lists (suc T.n) T.m b)) in
      operations_all ms (f + 1) X
      ∙ more_flat xs _ _ T.o X.o T.operations X.operations here
      (omega (arith, z.o_is, fl, spine_length (suc T.n) T.m b, flat_length (suc T.n) T.m b))
      (ap₂ (λ x y. lists_all x y ms) (omega (arith, z.n_is)) z.m_is)

-- method entries after others
more_entries : (xs ys zs : List MethodEntry) (m m' : ℕ) (L M : List MethodEntry) → M ≡ paste m xs L → m' ≡ m + length xs → ys ≡ zs → paste m' ys M ≡ paste m (xs ++ zs) L
more_entries xs ys zs m m' L M em e ey =
    ap₂ (λ (j : ℕ) (w : List MethodEntry). paste j w M) e ey ∙ ap (λ (K : List MethodEntry). paste (m + length xs) zs K) em ∙ sym (paste_append m xs zs L)

methods_body : (a b : Term) (slot : ℕ) (x : Operation) (T : Area) → MethodsPut a (slot - 1) T → MethodsPut b ((before a slot x T).o + followers b) (opened 0 (followers b) (before a slot x T)) →
    (put_list 0 b (before a slot x T)).methods ≡ paste T.m (table T.n (bind a b)) T.methods
methods_body a b slot x T first second =
    let U : Area = put a (slot - 1) T in
    let z = sized a (slot - 1) T in
    second
    ∙ more_entries (table T.n a) _ _ T.m U.m T.methods U.methods first (omega (arith, z.m_is, table_length T.n a)) (table_at (U.n + 1) (suc (T.n + bodies a)) b (omega (arith, z.n_is)))

mutual
  unfolding put put_methods

  methods_put : (t : Term) (slot : ℕ) (T : Area) → MethodsPut t slot T
  methods_put (var i) slot T = refl
  methods_put (val (Figure k)) slot T = refl
  methods_put (val (Location n)) slot T = refl
  methods_put (object ms) slot T =
      methods_all ms T.m (reserved (many ms) (wrote slot (op.Object T.m (many ms)) T)) (omega arith)
      ∙ more_entries (own T.n ms) _ _ T.m (T.m + many ms) T.methods _ refl (omega (arith, own_length T.n ms)) refl
  methods_put (select a l) slot T = methods_put a (slot - 1) T
  methods_put (update a l b) slot T = methods_body a b slot (op.Update l (put a (slot - 1) T).n) T (methods_put a (slot - 1) T) (methods_put b _ _)
  methods_put (clone a) slot T = methods_put a (slot - 1) T
  methods_put (bind a b) slot T = methods_body a b slot (op.Let (put a (slot - 1) T).n) T (methods_put a (slot - 1) T) (methods_put b _ _)

  -- the entries of the object from f on, in the room set apart for them
  methods_all : (ms : Methods) (f : ℕ) (T : Area) → f + many ms ≤ T.m → (put_methods ms f T).methods ≡ paste T.m (table_all T.n ms) (paste f (own T.n ms) T.methods)
  methods_all nil f T h = refl
  methods_all (method l b ms) f T h =
      let V : Area = named f l T in
      let X : Area = put b (V.o + followers b) (opened 0 (followers b) V) in
      let z = sized b (V.o + followers b) (opened 0 (followers b) V) in
      let c : ℕ = T.n + suc (bodies b) in
      let L : List MethodEntry = set T.methods f (record { label = l; list = T.n }) in
      let here : X.methods ≡ paste T.m (table (suc T.n) b) L =
      methods_put b (V.o + followers b) (opened 0 (followers b) V) ∙ ap (λ (w : List MethodEntry). paste T.m w L) (table_at (T.n + 1) (suc T.n) b (omega arith)) in
      let e : X.n ≡ c = omega (arith, z.n_is) in
      methods_all ms (f + 1) X (omega (arith, z.m_is))
      ∙ more_entries (table (suc T.n) b) _ _ T.m X.m (paste (f + 1) (own c ms) L) _
      (ap₂ (λ (j : ℕ) (K : List MethodEntry). paste (f + 1) (own j ms) K) e here ∙ paste_paste T.m (f + 1) (table (suc T.n) b) (own c ms) L (omega (arith, own_length c ms)))
      (omega (arith, z.m_is, table_length (suc T.n) b)) (ap (λ (j : ℕ). table_all j ms) e)

-- what is used of an area
abbrev pub text : Area → Text
text T = record { contents = take T.n T.contents; operations = take T.o T.operations; methods = take T.m T.methods }

abbrev pub in_use : Area → Counts
in_use T = record { contents = T.n; operations = T.o; methods = T.m }

-- the whole of a program
module _ (g mark : ℕ) (marked : mark ≡ suc g) (t : Term) (T : Area)
    (cr : T.n + suc (bodies t) ≤ length T.contents) (or : T.o + (followers t + 1 + inner t) ≤ length T.operations) (mr : T.m + entries t ≤ length T.methods) where
  abbrev X : Area
  X = put_list mark t T

  abbrev Y : Text
  Y = layout (in_use T) g t

  long_contents : length Y.contents ≡ suc (bodies t)
  long_contents = (layout_sizes (in_use T) g t).contents ∙ omega arith

  long_operations : length Y.operations ≡ followers t + 1 + inner t
  long_operations = length-append (spine (suc T.n) T.m t) _ ∙ ap₂ (λ x y. x + y) (spine_length (suc T.n) T.m t) (flat_length (suc T.n) T.m t)

  long_methods : length Y.methods ≡ entries t
  long_methods = (layout_sizes (in_use T) g t).methods

  over_contents : X.contents ≡ paste T.n Y.contents T.contents
  over_contents =
      let n : T.n + 1 ≡ suc T.n = omega arith in
      let k : followers t + 1 ≡ length (spine (suc T.n) T.m t) = sym (spine_length _ _ t) in
      let o : T.o + followers t + 1 ≡ T.o + length (spine (suc T.n) T.m t) = omega (arith, k) in
      contents_put t (T.o + followers t) (opened mark (followers t) T)
      ∙ ap₂ (λ (j : ℕ) (w : List (List Operation)). paste (T.n + 1) (contents_of j w) (set T.contents T.n (record { first = T.o; len = followers t + 1; mark = mark }))) o (lists_at (T.n + 1) (suc T.n) T.m T.m t n refl)
      ∙ ap₂ (λ (j i : ℕ). paste (T.n + 1) (contents_of (T.o + length (spine (suc T.n) T.m t)) (lists (suc T.n) T.m t)) (set T.contents T.n (record { first = T.o; len = j; mark = i }))) k marked

  over_operations : X.operations ≡ paste T.o Y.operations T.operations
  over_operations =
      let n : T.n + 1 ≡ suc T.n = omega arith in
      operations_put t (T.o + followers t) (opened mark (followers t) T) (omega arith) (omega arith)
      ∙ one_flat [] _ (spine (suc T.n) T.m t) _ _ T.o T.o (followers t) T.operations T.operations refl (omega arith) (spine_length _ _ t)
      (spine_at (T.n + 1) _ T.m T.m t n refl) (lists_at (T.n + 1) _ T.m T.m t n refl)

  over_methods : X.methods ≡ paste T.m Y.methods T.methods
  over_methods =
      let n : T.n + 1 ≡ suc T.n = omega arith in
      methods_put t (T.o + followers t) (opened mark (followers t) T) ∙ ap (λ (w : List MethodEntry). paste T.m w T.methods) (table_at (T.n + 1) (suc T.n) t n)

  part : {A : Type 0} (p n : ℕ) (xs K L : List A) → K ≡ paste p xs L → n ≡ p + length xs → p + length xs ≤ length L → take n K ≡ take p L ++ xs
  part {A} p n xs K L e q h = ap₂ (λ (j : ℕ) (M : List A). take j M) q e ∙ paste_used p xs L h

  pub appended : text X ≡ joined (text T) Y
  appended =
      let z = sized_list mark t T in
      let a = part T.n X.n Y.contents X.contents T.contents over_contents (omega (arith, z.n_is, long_contents)) (omega (arith, long_contents)) in
      let b = part T.o X.o Y.operations X.operations T.operations over_operations (omega (arith, z.o_is, long_operations)) (omega (arith, long_operations)) in
      let c = part T.m X.m Y.methods X.methods T.methods over_methods (omega (arith, z.m_is, long_methods)) (omega (arith, long_methods)) in
      cc

  pub below : (take T.n X.contents ≡ take T.n T.contents) × (take T.o X.operations ≡ take T.o T.operations) × (take T.m X.methods ≡ take T.m T.methods)
  below = (
    ap (take T.n) over_contents ∙ paste_below T.n T.n Y.contents T.contents (omega arith),
    ap (take T.o) over_operations ∙ paste_below T.o T.o Y.operations T.operations (omega arith),
    ap (take T.m) over_methods ∙ paste_below T.m T.m Y.methods T.methods (omega arith),
  )
