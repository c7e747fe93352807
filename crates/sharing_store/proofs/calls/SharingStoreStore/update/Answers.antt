use Rattle.std.proofs.Common.{◌≡◌, ◌<◌, ◌≤◌, sym, refl, ap, ◌∙◌, arith}
use Rattle.store.specs.declared.layout.Span.{Span}
use Rattle.store.specs.Areas.{closure_answer, closure_put}
use Rattle.store.specs.Layout.{part, objects_in}
use Rattle.store.specs.Meaning.{Meaning, no_trial, with_objects, update_result, updated}
use Rattle.store.proofs.Asked.{entered}
use Rattle.store.proofs.Tells.{update_is, updated_is, no_place_update, no_place_updated}
use Rattle.sharing_store.specs.declared.entries.SharedEntry.{SharedEntry}
use Rattle.sharing_store.specs.Views.{no_entry, held_span}
use Rattle.sharing_store.specs.States.{sharing_meaning, entry}
use Rattle.sharing_store.proofs.Told.{told, span, set_one}
use Rattle.sharing_store.proofs.calls.SharingStoreStore.update.Goals as goal

pub returns : goal.returns
returns c =
    let s = c.args.self.now in
    let t = c.free.new.self in
    let d = c.free.ensures in
    let l = c.args.location in
    let p = c.args.place in
    let v = c.args.closure in
    let e = entered s.areas no_entry l _ c.in_ok-entry.ensures in
    let low : l < t.areas.object_count = omega (arith, e.0, d.counts.object_count_is) in
    -- the methods stand where the space was when the call began
    let at : c.own_span.result ≡ span t l =
    c.own_span.ensures ∙ (λ i. record { first = (ap (λ (x : SharedEntry). x.first) e.1 ∙ sym (d.is_filled ∙ d.first_is)) i; size = (ap (λ (x : SharedEntry). x.size) e.1 ∙ sym d.size_is) i }) in
    let same : sharing_meaning t ≡ sharing_meaning s = λ i. record { objects = d.objects_are i; object_limit = d.counts.object_limit_is i; method_limit = d.counts.method_limit_is i; trial = no_trial } in
    let w = c.set_closure.ensures.put in
    let k = w.counts in
    record {
      answer = c.set_closure.ensures.answer ∙ ap (λ (x : Span). closure_answer (part t.areas.methods.now x) p) at ∙ update_is _ _ _ _ _ (told t) l low p ∙ ap (λ (m : Meaning). update_result m l p) same;
      state =
          (λ i. record { objects = objects_in held_span (w.entries_are i) (k.object_count_is i) (w.methods_are i); object_limit = k.object_limit_is i; method_limit = k.method_limit_is i; trial = no_trial })
          ∙ ap (λ (x : Span). with_objects (sharing_meaning t) (objects_in held_span t.areas.objects.now t.areas.object_count (closure_put t.areas.methods.now x p v))) at
          ∙ updated_is _ _ _ _ _ (told t) l low p v (λ ms. objects_in held_span t.areas.objects.now t.areas.object_count ms) refl (λ lt x. set_one t l low p lt d.is_filled d.alone x)
          ∙ ap (λ (m : Meaning). updated m l p v) same;
      lone = λ o. w.entries_are ∙ (d.idle o.is_filled o.none_listed).entries_are;
    }
