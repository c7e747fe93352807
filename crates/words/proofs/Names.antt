-- Words that are none of the names of a table.
use Rattle.std.proofs.Common.{◌≡◌, ℕ, ◌<◌, Bool, true, false, ltb, List, [], ◌∷◌, None, IsUtf8, sym, refl, ◌∙◌, subst}
use Rattle.std.specs.List.{AllByRecursion}
use Rattle.std.proofs.lemmas.Slice.Eq.{bytes_eq-Decides}
use Rattle.std.proofs.lemmas.Str.{IsUtf8-from_ascii}
use Rattle.std.proofs.ByRecursion.{IsAscii-from_all, Decides-by_and}
use Rattle.std.proofs.lemmas.Bool.Decides.{Decides-ltb}
use Rattle.std.proofs.lemmas.Bool.{cond-false, and_parts}
use Rattle.std.specs.Str.{bytes_eq}
use Rattle.words.specs.Names.{named, low, all_low}

module _ {K : Type 0} where
  -- a word that is none of the names
  pub unnamed : (ps : List (List ℕ × K)) (w : List ℕ) → AllByRecursion (λ p. w ≡ p.0 → ⊥) ps → named ps w ≡ None
  unnamed [] w h = refl
  unnamed (p ∷ ps) w h = cond-false _ _ _ (apart (bytes_eq w p.0) (bytes_eq-Decides w p.0).0) ∙ unnamed ps w h.1
    where
      apart : (b : Bool) → (b ≡ true → w ≡ p.0) → b ≡ false
      apart true d = absurd (h.0 (d refl))
      apart false d = refl

low_text : (bs : List ℕ) → low bs ≡ true → IsUtf8 bs
low_text bs h = IsUtf8-from_ascii bs (IsAscii-from_all bs ((Decides-by_and (λ b. ltb b 128) (λ b. b < 128) low (λ b. Decides-ltb b 128) refl (λ _ _. refl) bs).0 h))

module _ {K : Type 0} where
  -- a word that is no text
  pub no_text : (ps : List (List ℕ × K)) (w : List ℕ) → all_low ps ≡ true → (IsUtf8 w → ⊥) → named ps w ≡ None
  no_text ps w l h = unnamed ps w (apart ps l)
    where
      apart : (ps : List (List ℕ × K)) → all_low ps ≡ true → AllByRecursion (λ p. w ≡ p.0 → ⊥) ps
      apart [] l = tt
      apart (p ∷ ps) l = let b = and_parts (low p.0) (all_low ps) l in (λ e. h (subst IsUtf8 (sym e) (low_text p.0 b.0)), apart ps b.1)
