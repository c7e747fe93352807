-- What may be set before the first call.
use Rattle.std.specs.Prelude.{◌≡◌, ℕ, Bool, true, false, cond, List, [], ◌∷◌, replicate, codes, Some, None, Option, unwrap_or, slice_index_or, slice_set}
use Rattle.std.specs.Option.{is_some}
use Rattle.calculus.specs.Places.{if_some}
use Rattle.words.specs.Names.{named}
use Rattle.script.specs.declared.settings.StoreKind.{StoreKind}
use Rattle.script.specs.declared.settings.StoreKind.TheVariants.{Flat, Sharing, TrialFlat, TrialSharing, TrialTrialSharing}
use Rattle.script.specs.declared.settings.StoreWord.{StoreWord}
use Rattle.script.specs.declared.settings.StoreWord.TheVariants.{Flat as flat, Sharing as sharing, Trial as trial}
use Rattle.script.specs.declared.settings.Area.{Area}
use Rattle.script.specs.declared.settings.Area.TheVariants.{Contents, Operations, Methods, Cells, Frames, Objects, Slots}
use Rattle.script.specs.declared.settings.Lengths.{Lengths}
use Rattle.script.specs.declared.settings.Defaults.{Defaults}
use Rattle.script.specs.declared.settings.Settings.{Settings}

-- whether the store is a trial layer
abbrev pub has_trials : StoreKind → Bool
has_trials Flat = false
has_trials Sharing = false
has_trials TrialFlat = true
has_trials TrialSharing = true
has_trials TrialTrialSharing = true

abbrev pub store_words : List (List ℕ × StoreWord)
store_words = (codes "flat", flat) ∷ (codes "sharing", sharing) ∷ (codes "trial", trial) ∷ []

abbrev pub store_word_in : List ℕ → Option StoreWord
store_word_in w = named store_words w

abbrev pub areas : List (List ℕ × Area)
areas =
    (codes "contents", Contents) ∷ (codes "operations", Operations) ∷ (codes "methods", Methods)
    ∷ (codes "cells", Cells) ∷ (codes "frames", Frames) ∷ (codes "objects", Objects) ∷ (codes "slots", Slots) ∷ []

abbrev pub area_in : List ℕ → Option Area
area_in w = named areas w

abbrev pub place : Area → ℕ
place Contents = 0
place Operations = 1
place Methods = 2
place Cells = 3
place Frames = 4
place Objects = 5
place Slots = 6

-- the length that is set for an area
abbrev pub set_of : Lengths → Area → Option ℕ
set_of l a = slice_index_or l.set (place a) None

-- the same with this length for an area
abbrev pub with_length : Lengths → Area → ℕ → Lengths
with_length l a n = record { set = slice_set l.set (place a) (Some n) }

abbrev pub none_set : Lengths
none_set = record { set = replicate 7 None }

-- where a caller has no defaults of its own: a trial layer over the flat store, and 4096 entries in each area
abbrev pub usual_defaults : Defaults
usual_defaults = record { store = TrialFlat; contents = 4096; operations = 4096; methods = 4096; cells = 4096; frames = 4096; objects = 4096; slots = 4096 }

-- the length of an area where none is set
abbrev pub default_length : Defaults → Area → ℕ
default_length d Contents = d.contents
default_length d Operations = d.operations
default_length d Methods = d.methods
default_length d Cells = d.cells
default_length d Frames = d.frames
default_length d Objects = d.objects
default_length d Slots = d.slots

-- before the first line nothing is set
abbrev pub at_start : Settings
at_start = record { store = None; lengths = None; calls_begun = false; defaults = usual_defaults }

-- the default where no store is set
abbrev pub store_of : Settings → StoreKind
store_of s = unwrap_or s.store s.defaults.store

-- the default where no length is set
abbrev pub length_of : Settings → Area → ℕ
length_of s a = if_some s.lengths (λ l. unwrap_or (set_of l a) (default_length s.defaults a)) (default_length s.defaults a)

-- what a line is read by: the store and the length of each area, whether each was set, and whether calls have begun
abbrev pub Holds : Settings → StoreKind → (Area → ℕ) → (store_set lengths_set calls_begun : Bool) → Type 0
Holds s store lengths store_set lengths_set calls_begun =
    (store_of s ≡ store) × ((a : Area) → length_of s a ≡ lengths a) × (is_some s.store ≡ store_set) × (is_some s.lengths ≡ lengths_set) × (s.calls_begun ≡ calls_begun)

-- settings with a store and lengths of a caller's own, each as set or not
abbrev pub settings_of : Defaults → (store_set lengths_set calls_begun : Bool) → Settings
settings_of d store_set lengths_set calls_begun =
    record { store = cond store_set (Some d.store) None; lengths = cond lengths_set (Some none_set) None; calls_begun = calls_begun; defaults = d }

-- they hold it, whatever it is
abbrev pub HoldsAny : Type 0
HoldsAny = (d : Defaults) (store_set lengths_set calls_begun : Bool) → Holds (settings_of d store_set lengths_set calls_begun) d.store (default_length d) store_set lengths_set calls_begun
