-- What the two areas of a store hold, and how a call changes them.
use Rattle.std.specs.Prelude.{slice_get, ◌≡◌, ℕ, ◌+◌, cond, List, take, Ok, Err, Result, nat_le, nat_lt, slice_set}
use Rattle.calculus.specs.Places.{if_some}
use Rattle.store.specs.declared.areas.Areas.{Areas}
use Rattle.store.specs.declared.closures.Closure.{Closure}
use Rattle.store.specs.declared.closures.Method.{Method}
use Rattle.store.specs.declared.faults.StoreFault.{StoreFault}
use Rattle.store.specs.declared.faults.StoreFault.TheVariants.{ObjectsFull, MethodsFull, NoLocation, NoPlace}
use Rattle.store.specs.declared.layout.Span.{Span}
use Rattle.store.specs.Layout.{part}
use Rattle.store.specs.Meaning.{Object, with_closure}

abbrev pub method_of_span : Object → ℕ → Result Method StoreFault
method_of_span o p = if_some (slice_get o p) (λ x. Ok x) (Err NoPlace)

-- the answer to the wish for another closure at a place
abbrev pub closure_answer : Object → ℕ → Result Unit StoreFault
closure_answer o p = if_some (slice_get o p) (λ x. Ok tt) (Err NoPlace)

-- the methods with another closure at a place of a span, where there is one
abbrev pub closure_put : List Method → Span → ℕ → Closure → List Method
closure_put ms s p c = if_some (slice_get (part ms s) p) (λ x. slice_set ms (s.first + p) (with_closure x c)) ms

module _ {E : Type 0} where
  abbrev pub entry_of : Areas E → ℕ → Result E StoreFault
  entry_of s l = if_some (slice_get (take s.object_count s.objects.now) l) (λ e. Ok e) (Err NoLocation)

  -- the location of one object more, of n methods
  abbrev pub room_in : Areas E → ℕ → Result ℕ StoreFault
  room_in s n = cond (nat_lt s.object_count s.object_limit) (cond (nat_le (s.method_count + n) s.method_limit) (Ok s.object_count) (Err MethodsFull)) (Err ObjectsFull)

  -- the counts and limits of t are those of s
  pub record SameCounts (s t : Areas E) : Type 0 where
    pub object_count_is : t.object_count ≡ s.object_count
    pub method_count_is : t.method_count ≡ s.method_count
    pub object_limit_is : t.object_limit ≡ s.object_limit
    pub method_limit_is : t.method_limit ≡ s.method_limit

  -- t has these entries and methods, and the counts and limits of s
  pub record Changed (s t : Areas E) (es : List E) (ms : List Method) : Type 0 where
    pub entries_are : t.objects.now ≡ es
    pub methods_are : t.methods.now ≡ ms
    pub counts : SameCounts s t

  -- t is s with one object more, of n methods
  pub record Added (s t : Areas E) (e : E) (n : ℕ) : Type 0 where
    pub entries_are : t.objects.now ≡ slice_set s.objects.now s.object_count e
    pub methods_are : t.methods.now ≡ s.methods.now
    pub object_count_is : t.object_count ≡ s.object_count + 1
    pub method_count_is : t.method_count ≡ s.method_count + n
    pub object_limit_is : t.object_limit ≡ s.object_limit
    pub method_limit_is : t.method_limit ≡ s.method_limit
