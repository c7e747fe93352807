-- What a flat store means.
use Rattle.store.specs.Layout.{objects_in}
use Rattle.store.specs.Meaning.{Meaning, no_trial}
use Rattle.flat_store.specs.declared.table.FlatStore.{FlatStore}

-- each object has the methods in its span
abbrev pub flat_meaning : FlatStore → Meaning
flat_meaning s = record {
  objects = objects_in (λ e. e) s.areas.objects.now s.areas.object_count s.areas.methods.now;
  object_limit = s.areas.object_limit;
  method_limit = s.areas.method_limit;
  trial = no_trial;
}
