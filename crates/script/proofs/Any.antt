-- Settings with any store and any lengths.
use Rattle.std.proofs.Common.{◌≡◌, Bool, true, false, cond, None, Some, refl}
use Rattle.std.specs.Option.{is_some, unwrap_or}
use Rattle.script.specs.declared.settings.Area.{Area}
use Rattle.script.specs.declared.settings.Area.TheVariants.{Contents, Operations, Methods, Cells, Frames, Objects, Slots}
use Rattle.script.specs.declared.settings.Defaults.{Defaults}
use Rattle.script.specs.Settings.{default_length, length_of, settings_of, none_set, HoldsAny}

-- set or not, the length is the default
lengths : (d : Defaults) (store_set lengths_set calls_begun : Bool) (a : Area) → length_of (settings_of d store_set lengths_set calls_begun) a ≡ default_length d a
lengths d s false c a = refl
lengths d s true c Contents = refl
lengths d s true c Operations = refl
lengths d s true c Methods = refl
lengths d s true c Cells = refl
lengths d s true c Frames = refl
lengths d s true c Objects = refl
lengths d s true c Slots = refl

module _ {X : Type 0} where
  one : (x : X) (b : Bool) → unwrap_or (cond b (Some x) None) x ≡ x
  one x true = refl
  one x false = refl

  flag : (x : X) (b : Bool) → is_some (cond b (Some x) None) ≡ b
  flag x true = refl
  flag x false = refl

pub hold_any : HoldsAny
hold_any d s l c = (one d.store s, lengths d s l c, flag d.store s, flag none_set l, refl)
