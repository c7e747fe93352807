-- What trials promise over runs of calls.
use Rattle.std.specs.Prelude.{slice_get, ◌≡◌, ℕ, ◌+◌, ◌<◌, ◌≤◌, List, [], ◌∷◌, ◌++◌, length, Some, Ok, Err, Result, ◌≢◌}
use Rattle.calculus.specs.declared.code.MethodEntry.{MethodEntry}
use Rattle.store.specs.declared.closures.OldMethod.{OldMethod}
use Rattle.store.specs.Meaning.{Meaning, Object, closed, opened, overrun, book_room}
use Rattle.store_laws.specs.declared.runs.StoreCall.{StoreCall}
use Rattle.store_laws.specs.Runs.{meaning_after, meaning_after_all}
use Rattle.trial_layer.specs.declared.faults.TrialFault.{TrialFault}
use Rattle.trial_layer.specs.declared.faults.TrialFault.TheVariants.{WrongToken, Overrun}
use Rattle.trial_layer.specs.declared.token.Token.{Token}
use Rattle.trial_layer.specs.Runs.{new_objects, made_in, updates_by, updates_in}
use Rattle.trial_layer.specs.Tokens.{token}
use Rattle.trial_layer.specs.Trials.{with_trial, open_result, opening, kept, undo, put_back}

-- the note lies at a place of an object
abbrev pub Placed : List Object → OldMethod → Type 0
Placed os old = (o : Object) × (Some o ≡ slice_get os old.location) × (old.place < length o)

abbrev pub AllPlaced : List Object → List OldMethod → Type 0
AllPlaced os [] = Unit {0}
AllPlaced os (old ∷ notes) = Placed os old × AllPlaced os notes

-- what a store's call c at m leaves of an open trial: its book had these notes, and has those now
pub record Noted (table : List MethodEntry) (m : Meaning) (n : ℕ) (notes : List OldMethod) (c : StoreCall) (those : List OldMethod) : Type 0 where
  pub trial_is : (meaning_after table m c).trial ≡ opened n those
  pub places : AllPlaced (meaning_after table m c).objects those
  -- an update counts one in the book
  pub counts : length those ≡ length notes + updates_by table m c
  -- a new object enters what put back would leave, and an update leaves that as it is
  pub leaves : undo those (meaning_after table m c).objects ≡ undo notes m.objects ++ new_objects table m c

pub record Booked (table : List MethodEntry) (m : Meaning) (n : ℕ) (notes : List OldMethod) (c : StoreCall) : Type 0 where
  pub notes_it : length notes + updates_by table m c ≤ book_room → (those : List OldMethod) × Noted table m n notes c those
  -- an update that finds the book full leaves it overrun
  pub overruns : book_room < length notes + updates_by table m c → (meaning_after table m c).trial ≡ overrun n

-- every call of a store, in an open trial whose notes lie at places and are no more than a book counts
abbrev pub BookedOneByOne : Type 0
BookedOneByOne = (table : List MethodEntry) (m : Meaning) (n : ℕ) (notes : List OldMethod) → m.trial ≡ opened n notes → AllPlaced m.objects notes → length notes ≤ book_room → (c : StoreCall) → Booked table m n notes c

-- the book of an open trial
pub record InOrder (m : Meaning) (n : ℕ) (notes : List OldMethod) : Type 0 where
  pub placed : AllPlaced m.objects notes
  pub few : length notes ≤ book_room
  pub enters : (new : List Object) → undo notes (m.objects ++ new) ≡ undo notes m.objects ++ new
  pub books : (table : List MethodEntry) (c : StoreCall) → Booked table m n notes c

-- a call of a layer: one of a store's, or one of its trials'
pub data LayerCall : Type 0 where
  of_store : StoreCall → LayerCall
  open_trial : LayerCall
  keep_trial : ℕ → LayerCall
  put_back_trial : ℕ → LayerCall

module _ (table : List MethodEntry) where
  abbrev pub layer_after : Meaning → LayerCall → Meaning
  layer_after m (of_store c) = meaning_after table m c
  layer_after m open_trial = opening m
  layer_after m (keep_trial k) = kept m k
  layer_after m (put_back_trial k) = put_back m k

  abbrev pub layer_after_all : Meaning → List LayerCall → Meaning
  layer_after_all m [] = m
  layer_after_all m (c ∷ cs) = layer_after_all (layer_after m c) cs

-- over every run of a layer's calls from its beginning, the book of an open trial is in order
abbrev pub BooksInOrder : Type 0
BooksInOrder = (below : Meaning) (table : List MethodEntry) (calls : List LayerCall) (n : ℕ) (notes : List OldMethod) → (layer_after_all table (with_trial below (closed 0)) calls).trial ≡ opened n notes → InOrder (layer_after_all table (with_trial below (closed 0)) calls) n notes

-- put back, by a token x, of the trial k that was opened at m, after a run of a store's calls: r is the answer, z what is meant at the end
pub record Back (table : List MethodEntry) (m : Meaning) (k : ℕ) (calls : List StoreCall) (x : Token) (r : Result Unit (Token × TrialFault)) (z : Meaning) : Type 0 where
  -- 29 exactly if it is another's token
  pub wrong : (x.number ≢ k) → r ≡ Err (x, WrongToken)
  -- 30 exactly if more updates were made since the opening than the book counts
  pub too_many : x.number ≡ k → book_room < updates_in table (opening m) calls → r ≡ Err (x, Overrun)
  pub accepted : x.number ≡ k → updates_in table (opening m) calls ≤ book_room → r ≡ Ok tt
  -- the objects that were there are as they were then, and the newer ones as they were made
  pub restored : r ≡ Ok tt → z.objects ≡ m.objects ++ made_in table (opening m) calls

abbrev pub PutBack : Meaning → Token → Result Unit (Token × TrialFault) → Meaning → Type 0
PutBack e x r z = (table : List MethodEntry) (m : Meaning) (k : ℕ) (calls : List StoreCall) → Ok (token k) ≡ open_result m.trial → e ≡ meaning_after_all table (opening m) calls → Back table m k calls x r z
