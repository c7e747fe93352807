-- A whole trial, by what put back promises.
use Rattle.std.proofs.Common.{◌≡◌, ℕ, Bool, true, false, cond, List, take, Some, None, Ok, Err, Option, Result, refl, ap, ◌∙◌}
use Rattle.calculus.specs.Places.{if_some}
use Rattle.calculus.specs.declared.code.MethodEntry.{MethodEntry}
use Rattle.store.specs.Meaning.{Meaning, closed}
use Rattle.store_laws.specs.declared.runs.StoreCall.{StoreCall}
use Rattle.store_laws.specs.Runs.{meaning_after_all}
use Rattle.trial_layer.specs.declared.faults.TrialFault.{TrialFault}
use Rattle.trial_layer.specs.declared.faults.TrialFault.TheVariants.{Overrun}
use Rattle.trial_layer.specs.declared.token.Token.{Token}
use Rattle.trial_layer.specs.Laws.{PutBack}
use Rattle.trial_layer.specs.Trials.{with_trial, open_result, opening, is_open, kept, undone, back_fault, back_result, put_back}
use Rattle.trial_tests.specs.Tries.{Tried}

-- a refused put back changes nothing, and keep no object
same_if_refused : (e : Meaning) (k : ℕ) (x t : Token) (fault : TrialFault) (o : Option TrialFault) → ◌≡◌ {A = Result Unit (Token × TrialFault)} (Err (t, fault)) (if_some o (λ f. Err (x, f)) (Ok tt)) → if_some o (λ f. e) (undone e k) ≡ e
same_if_refused e k x t fault None h = absurd cc
same_if_refused e k x t fault (Some f) h = refl

kept_objects : (b : Bool) (w : Meaning) (k : ℕ) → (cond b (with_trial w (closed k)) w).objects ≡ w.objects
kept_objects true w k = refl
kept_objects false w k = refl

-- opened at m with the token x, and then, n of the calls made, e is meant
module _ (table : List MethodEntry) (m e f : Meaning) (x : Token) (was : Ok x ≡ open_result m.trial) (opens : f ≡ opening m) (n k : ℕ) (many : n ≡ k) (calls : List StoreCall) (ran : e ≡ meaning_after_all table f (take n calls)) where
  is : e ≡ meaning_after_all table (opening m) (take k calls)
  is = ran ∙ ap (λ s. meaning_after_all table s (take n calls)) opens ∙ ap (λ i. meaning_after_all table (opening m) (take i calls)) many

  no_fault : {A : Type 0} (fault : TrialFault) → Err fault ≡ open_result m.trial → A
  no_fault fault h = absurd cc

  pub tried_back : (z : Meaning) → PutBack e x (Ok tt) z → Tried table (take k calls) m (Ok tt) z
  tried_back z told =
      let b = told table m x.number (take k calls) was is in
      record {
        opened = λ y h. record { put_back = λ few. (refl, b.restored refl); too_many = λ more. let q = b.too_many refl more in absurd cc };
        refused = λ fault h. no_fault fault h;
      }

  pub tried_kept : (t : Token) (fault : TrialFault) (w z : Meaning) → Err (t, fault) ≡ back_result e.trial x → w ≡ put_back e x.number → PutBack e x (Err (t, fault)) w → z ≡ kept w t.number → Tried table (take k calls) m (Err fault) z
  tried_kept t fault w z answer state told keeps =
      let b = told table m x.number (take k calls) was is in
      record {
        opened = λ y h. record {
          put_back = λ few. let q = b.accepted refl few in absurd cc;
          too_many = λ more.
              let q = b.too_many refl more in
              let both : ◌≡◌ {A = Token × TrialFault} (t, fault) (x, Overrun) = cc in
              (ap (λ s. Err s.1) both, ap (λ s. s.objects) keeps ∙ kept_objects (is_open w.trial t.number) w t.number ∙ ap (λ s. s.objects) (state ∙ same_if_refused e x.number x t fault (back_fault e.trial x.number) answer ∙ is));
        };
        refused = λ fault h. no_fault fault h;
      }
