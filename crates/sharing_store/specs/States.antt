-- What a sharing store means, and what its inner steps leave.
use Rattle.std.specs.Prelude.{◌≡◌, ℕ, ◌<◌, ◌≤◌, ◌⊎◌}
use Rattle.store.specs.Areas.{SameCounts}
use Rattle.store.specs.Layout.{objects_in}
use Rattle.store.specs.Meaning.{Meaning, no_trial}
use Rattle.sharing_store.specs.declared.entries.SharedEntry.{SharedEntry}
use Rattle.sharing_store.specs.declared.table.SharingStore.{SharingStore}
use Rattle.sharing_store.specs.Views.{View, view, Filled, entry_at, held_span}

-- each object has the methods that it holds, be it filled or not
abbrev pub sharing_meaning : SharingStore → Meaning
sharing_meaning s = record {
  objects = objects_in held_span s.areas.objects.now s.areas.object_count s.areas.methods.now;
  object_limit = s.areas.object_limit;
  method_limit = s.areas.method_limit;
  trial = no_trial;
}

abbrev pub entry : SharingStore → ℕ → SharedEntry
entry s k = entry_at s.areas.objects.now k

abbrev pub shown : SharingStore → View
shown s = view s.areas.objects.now

abbrev pub with_held : SharedEntry → ℕ → SharedEntry
with_held e h = record { first = e.first; size = e.size; held = h; root = e.root; last = e.last; previous = e.previous }

-- neither the entries nor the methods differ
pub record SameAreas (s t : SharingStore) : Type 0 where
  pub entries_are : t.areas.objects.now ≡ s.areas.objects.now
  pub methods_are : t.areas.methods.now ≡ s.areas.methods.now

-- t is s with some objects filled
pub record OnlyFills (s t : SharingStore) : Type 0 where
  pub counts : SameCounts s.areas t.areas
  pub objects_are : (sharing_meaning t).objects ≡ (sharing_meaning s).objects
  pub entries_are : (k : ℕ) → entry t k ≡ with_held (entry s k) (entry t k).held
  pub stay_filled : (k : ℕ) → Filled (shown s) k → Filled (shown t) k

pub record Fills (s t : SharingStore) (l : ℕ) : Type 0 where
  pub only : OnlyFills s t
  pub now_filled : Filled (shown t) l
  pub idle : Filled (shown s) l → SameAreas s t

-- the walk over the clones that share with l has come to at
pub record Walked (s t : SharingStore) (l at : ℕ) : Type 0 where
  pub only : OnlyFills s t
  pub in_use : at < t.areas.object_count
  pub is_filled : Filled (shown t) l
  pub ours : (at ≡ l) ⊎ ((entry t at).root ≡ l)
  pub done : (k : ℕ) → k < t.areas.object_count → (entry t k).root ≡ l → Filled (shown t) k ⊎ (k ≤ at)
  pub idle : (entry s l).last ≡ l → (at ≡ l) × SameAreas s t

-- t means what s means, and l shares its methods with none
pub record Freed (s t : SharingStore) (l : ℕ) : Type 0 where
  pub counts : SameCounts s.areas t.areas
  pub objects_are : (sharing_meaning t).objects ≡ (sharing_meaning s).objects
  pub first_is : (entry t l).first ≡ (entry s l).first
  pub size_is : (entry t l).size ≡ (entry s l).size
  pub is_filled : Filled (shown t) l
  pub alone : (k : ℕ) → k < t.areas.object_count → (entry t k).root ≡ l → Filled (shown t) k
  pub emptied : (entry t l).last ≡ l
  pub idle : Filled (shown s) l → (entry s l).last ≡ l → SameAreas s t

-- r is filled, and l has its methods
pub record RootOf (s : SharingStore) (l r : ℕ) : Type 0 where
  pub low : r ≤ l
  pub root_filled : Filled (shown s) r
  pub root_size : (entry s l).size ≡ (entry s r).size
  pub root_first : (entry s l).held ≡ (entry s r).first

-- l has its own methods, and none shares them
pub record Lone (s : SharingStore) (l : ℕ) : Type 0 where
  pub is_filled : Filled (shown s) l
  pub none_listed : (entry s l).last ≡ l
