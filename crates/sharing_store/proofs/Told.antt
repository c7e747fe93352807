-- What a sharing store's entries say of its meaning.
use Rattle.std.proofs.Common.{◌≡◌, ℕ, ◌+◌, ◌<◌, ◌≤◌, List, length, take, drop, set, refl, arith}
use Rattle.store.specs.declared.closures.Method.{Method}
use Rattle.store.specs.declared.layout.Span.{Span}
use Rattle.store.specs.Layout.{part, objects_in}
use Rattle.store.proofs.Tells.{Tells}
use Rattle.store.proofs.Objects.{tells_of, one_set}
use Rattle.sharing_store.specs.declared.entries.SharedEntry.{SharedEntry}
use Rattle.sharing_store.specs.declared.table.SharingStore.{SharingStore}
use Rattle.sharing_store.specs.Views.{no_entry, entry_at, own_span, held_span, view, Filled}
use Rattle.sharing_store.specs.States.{sharing_meaning, entry, shown}
use Rattle.sharing_store.proofs.Spaces.{space_in, held_in_use, lie_apart}
use Rattle.sharing_store.proofs.Steps.{Agrees}
use Rattle.sharing_store.proofs.Walks.{sd_of}

module _ (s : SharingStore) where
  abbrev pub span : ℕ → Span
  span l = held_span (entry s l)

  fits : s.areas.object_count ≤ length s.areas.objects.now
  fits = omega arith

  pub own_fits : (l : ℕ) → l < s.areas.object_count → (entry s l).first + (entry s l).size ≤ s.areas.method_count
  own_fits = space_in s.areas.objects.now s.areas.object_count fits s.areas.method_count s.laid_out

  pub held_fits : (l : ℕ) → l < s.areas.object_count → (entry s l).held + (entry s l).size ≤ s.areas.method_count
  held_fits = held_in_use s.areas.objects.now s.areas.object_count fits s.areas.method_count s.laid_out (sd_of s)

  pub told : Tells (sharing_meaning s) s.areas.object_count s.areas.method_count span s.areas.methods.now
  told = tells_of no_entry own_span held_span (λ e. refl) s.areas.objects.now s.areas.object_count fits s.areas.methods.now s.areas.method_count s.laid_out (omega arith) held_fits s.areas.object_limit s.areas.method_limit

  -- a write to one method of an object that shares with none
  pub set_one : (l : ℕ) → l < s.areas.object_count → (p : ℕ) → p < (entry s l).size → Filled (shown s) l → ((x : ℕ) → x < s.areas.object_count → (entry s x).root ≡ l → Filled (shown s) x) → (v : Method) → objects_in held_span s.areas.objects.now s.areas.object_count (set s.areas.methods.now ((entry s l).held + p) v) ≡ set (sharing_meaning s).objects l (set (part s.areas.methods.now (span l)) p v)
  set_one l lt p low full alone v =
      one_set no_entry s.areas.objects.now s.areas.object_count fits own_span held_span s.areas.methods.now l p lt low
      (λ k lt' other. rw full (lie_apart s.areas.objects.now s.areas.object_count fits s.areas.method_count s.laid_out (sd_of s) k l lt' lt other (alone k lt')))
      v

-- an entry that shows the same holds the same
pub held_same : (es fs : List SharedEntry) (ms : List Method) (k : ℕ) → Agrees (view es) (view fs) k → part ms (held_span (entry_at fs k)) ≡ part ms (held_span (entry_at es k))
held_same es fs ms k a = λ i. take (a.size_is i) (drop (a.held_is i) ms)

pub own_same : (es fs : List SharedEntry) (k : ℕ) → Agrees (view es) (view fs) k → own_span (entry_at fs k) ≡ own_span (entry_at es k)
own_same es fs k a = λ i. record { first = a.first_is i; size = a.size_is i }
