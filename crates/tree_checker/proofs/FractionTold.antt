-- A reduced fraction is told by its numerator and denominator in lowest terms.
use Rattle.std.proofs.Common.{◌≡◌, ◌∙◌, ℕ, ◌<◌, sym, ap, ℤ, pos, ◌*ℤ◌, FitsSigned}
use Rattle.std.proofs.lemmas.Int.{to_z-of_z}
use Rattle.std.specs.Int.{w128}
use Rattle.std.proofs.Common.{to_z, of_z}
use Rattle.maid_model.specs.declared.answers.Ratio.{Ratio}
use Rattle.maid_model.specs.Answers.{IsFraction, IsReduced}
use Rattle.maid_laws.proofs.Fractions.{same_fraction}
use Rattle.whole_num.specs.Fractions.{IsSameFraction, IsInLowestTerms}

module _ (r : Ratio) (num n : ℤ) (den d : ℕ) (h : 0 < den) (same : IsSameFraction num den n d) (lowest : IsInLowestTerms n d) where
  pub told : IsReduced r → r.num ≡ n → r.den ≡ d → IsFraction r num den
  told reduced e f = record { reduced = reduced; same = (λ i. e i *ℤ pos den) ∙ sym same ∙ (λ i. num *ℤ pos (sym f i)) }

  pub tells : IsFraction r num den → (r.num ≡ n) × (r.den ≡ d)
  tells f =
      let e : r ≡ record { num = n; den = d } = same_fraction r (record { num = n; den = d }) num num den den h h f (record { reduced = record { positive = lowest.0; coprime = lowest.1 }; same = sym same }) (ap (λ m. num *ℤ pos m) (same_den den)) in
      (ap (λ (x : Ratio). x.num) e, ap (λ (x : Ratio). x.den) e)
    where
      same_den : (m : ℕ) → m ≡ m
      same_den m i = m

-- signed numbers of one image are one
pub signed_same : (a b : ℤ) → FitsSigned w128 a → FitsSigned w128 b → of_z w128 a ≡ of_z w128 b → a ≡ b
signed_same a b h k e = sym (to_z-of_z w128 a h) ∙ ap (to_z w128) e ∙ to_z-of_z w128 b k
