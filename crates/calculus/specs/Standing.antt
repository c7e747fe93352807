-- What the lists in the tables stand for: operation trees.
use Rattle.std.specs.Prelude.{slice_get, ◌≡◌, ℕ, suc, ◌+◌, ◌<◌, ◌≤◌, length, Some}
use Rattle.calculus.specs.declared.code.ListEntry.{ListEntry}
use Rattle.calculus.specs.declared.code.Operation.TheVariants as op
use Rattle.calculus.specs.Text.{Text}
use Rattle.calculus.specs.Trees.{Code, access_op, figure_op, object_op, Rest, done, select_op, update_op, clone_op, let_op, Bodies, no_body, body}

-- list n is in the contents, and its entry is as P says
pub record Listed (T : Text) (n : ℕ) (P : ListEntry → Type 0) : Type 0 where
  pub entry : ListEntry
  pub found : slice_get T.contents n ≡ Some entry
  pub holds : P entry

-- the same of a body's list, which numbers above the list l that names it
pub record Named (T : Text) (l n : ℕ) (P : ListEntry → Type 0) : Type 0 where
  pub above : l < n
  pub listed : Listed T n P

-- the operations of list l from place p up to place q stand for a tree
abbrev mutual
  pub CodeAt : Text → ℕ → ℕ → ℕ → Code → Type 0
  CodeAt T l p q (access_op i r) = (slice_get T.operations p ≡ Some (op.Access i)) × RestAt T l (suc p) q r
  CodeAt T l p q (figure_op k r) = (slice_get T.operations p ≡ Some (op.Figure k)) × RestAt T l (suc p) q r
  CodeAt T l p q (object_op bs r) = (f : ℕ) × (n : ℕ) × (slice_get T.operations p ≡ Some (op.Object f n)) × BodiesAt T l f n bs × RestAt T l (suc p) q r

  pub RestAt : Text → ℕ → ℕ → ℕ → Rest → Type 0
  RestAt T l p q done = p ≡ q
  RestAt T l p q (select_op x r) = (slice_get T.operations p ≡ Some (op.Select x)) × RestAt T l (suc p) q r
  RestAt T l p q (update_op x c r) =
      (n : ℕ) × (slice_get T.operations p ≡ Some (op.Update x n)) × Named T l n (λ e. CodeAt T n e.first (e.first + e.len) c) × RestAt T l (suc p) q r
  RestAt T l p q (clone_op r) = (slice_get T.operations p ≡ Some op.Clone) × RestAt T l (suc p) q r
  RestAt T l p q (let_op c r) =
      (n : ℕ) × (slice_get T.operations p ≡ Some (op.Let n)) × Named T l n (λ e. CodeAt T n e.first (e.first + e.len) c) × RestAt T l (suc p) q r

  -- the n method entries from place f on, of an object of list l
  pub BodiesAt : Text → ℕ → ℕ → ℕ → Bodies → Type 0
  BodiesAt T l f n no_body = (n ≡ 0) × (f ≤ length T.methods)
  BodiesAt T l f n (body x c bs) =
      (i : ℕ) × (m : ℕ) × (n ≡ suc m) × (slice_get T.methods f ≡ Some (record { label = x; list = i })) × Named T l i (λ e. CodeAt T i e.first (e.first + e.len) c) × BodiesAt T l (suc f) m bs

-- list n stands for the tree c
abbrev pub Stands : Text → ℕ → Code → Type 0
Stands T n c = Listed T n (λ e. CodeAt T n e.first (e.first + e.len) c)

-- list n stands for the tree c, and is the main list of a program with g givens
abbrev pub Program : Text → ℕ → ℕ → Code → Type 0
Program T n g c = Listed T n (λ e. (e.mark ≡ suc g) × CodeAt T n e.first (e.first + e.len) c)

-- list n, from its operation i on, stands for all of a list, or for the rest of one
abbrev pub AtCode : Text → ℕ → ℕ → Code → Type 0
AtCode T n i c = Listed T n (λ e. CodeAt T n (e.first + i) (e.first + e.len) c)

abbrev pub AtRest : Text → ℕ → ℕ → Rest → Type 0
AtRest T n i r = Listed T n (λ e. RestAt T n (e.first + i) (e.first + e.len) r)
