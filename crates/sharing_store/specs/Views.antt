-- How objects share methods.
use Rattle.std.specs.Prelude.{◌≡◌, ℕ, zero, suc, ◌<◌, ◌≤◌, Bool, true, not, ◌&&◌, ◌||◌, ◌⊎◌, List, map, take, ◌==◌, nat_le, nat_lt, slice_index_or}
use Rattle.store.specs.declared.layout.Span.{Span}
use Rattle.store.specs.Layout.{laid}
use Rattle.sharing_store.specs.declared.entries.SharedEntry.{SharedEntry}

-- the space reserved for an object
abbrev pub own_span : SharedEntry → Span
own_span e = record { first = e.first; size = e.size }

-- where its methods stand
abbrev pub held_span : SharedEntry → Span
held_span e = record { first = e.held; size = e.size }

-- the spaces of the n objects follow one another from the front to `end`
abbrev pub laid_out : List SharedEntry → ℕ → ℕ → Bool
laid_out es n end = laid 0 (map own_span (take n es)) end

-- what is read past the end
abbrev pub no_entry : SharedEntry
no_entry = record { first = 0; size = 0; held = 0; root = 0; last = 0; previous = 0 }

abbrev pub entry_at : List SharedEntry → ℕ → SharedEntry
entry_at es k = slice_index_or es k no_entry

-- the fields, by location
pub record View : Type 0 where
  pub first : ℕ → ℕ
  pub size : ℕ → ℕ
  pub held : ℕ → ℕ
  pub root : ℕ → ℕ
  pub last : ℕ → ℕ
  pub previous : ℕ → ℕ

abbrev pub view : List SharedEntry → View
view es = record {
  first = λ k. (entry_at es k).first;
  size = λ k. (entry_at es k).size;
  held = λ k. (entry_at es k).held;
  root = λ k. (entry_at es k).root;
  last = λ k. (entry_at es k).last;
  previous = λ k. (entry_at es k).previous;
}

abbrev pub Filled : View → ℕ → Type 0
Filled v k = v.held k ≡ v.first k

-- What holds of each of n objects. The clones that were made to share with an object since its last update are listed from its `last`
-- on by `previous`; each that is not filled is on the list of its root.
pub record Linked (v : View) (n k : ℕ) : Type 0 where
  pub root_low : v.root k ≤ k
  pub root_size : v.size (v.root k) ≡ v.size k
  pub root_filled : Filled v (v.root k)
  pub held_in : Filled v k ⊎ (v.held k ≡ v.first (v.root k))
  pub last_low : v.last k < n
  pub last_ours : (v.last k ≡ k) ⊎ (v.root (v.last k) ≡ k)
  pub previous_low : v.previous k ≤ k
  pub previous_falls : (v.root k ≡ k) ⊎ (v.previous k < k)
  pub previous_ours : (v.previous k ≡ v.root k) ⊎ (v.root (v.previous k) ≡ v.root k)
  pub listed : Filled v k ⊎ (k ≤ v.last (v.root k))
  pub listed_before : (j : ℕ) → j < k → v.root j ≡ v.root k → Filled v j ⊎ (j ≤ v.previous k)

abbrev pub Sound : View → ℕ → Type 0
Sound v n = (k : ℕ) → k < n → Linked v n k

-- the same as a test
abbrev pub filled : View → ℕ → Bool
filled v k = v.held k == v.first k

unfoldable pub before : View → ℕ → ℕ → Bool
before v k zero = true
before v k (suc j) = (not (v.root j == v.root k) || (filled v j || nat_le j (v.previous k))) && before v k j

unfoldable pub linked : View → ℕ → ℕ → Bool
linked v n k =
    nat_le (v.root k) k
    && (v.size (v.root k) == v.size k
    && (filled v (v.root k)
    && ((filled v k || v.held k == v.first (v.root k))
    && (nat_lt (v.last k) n
    && ((v.last k == k || v.root (v.last k) == k)
    && (nat_le (v.previous k) k
    && ((v.root k == k || nat_lt (v.previous k) k)
    && ((v.previous k == v.root k || v.root (v.previous k) == v.root k)
    && ((filled v k || nat_le k (v.last (v.root k)))
    && before v k k)))))))))

unfoldable pub all_linked : View → ℕ → ℕ → Bool
all_linked v n zero = true
all_linked v n (suc k) = linked v n k && all_linked v n k

unfoldable pub sound : List SharedEntry → ℕ → Bool
sound es n = all_linked (view es) n n
