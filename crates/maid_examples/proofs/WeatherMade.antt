-- Who makes the weather: a profile's gain is a sum of products of two weights, of which 7 a product
-- is the most.
use Rattle.std.proofs.Common.{◌≡◌, ℕ, zero, suc, ◌+◌, ◌*◌, List, [], ◌∷◌, map, slice_index, refl, ap, arith, pos, ◌*ℤ◌, ◌≤ℤ◌}
use Rattle.std.proofs.lemmas.Int.{ints}
use Rattle.maid_model.specs.Laws.{TestsProfiles}
use Rattle.maid_model.specs.Views.{NodeView, RuleView}
use Rattle.maid_model.specs.Nodes.{IsDecision}
use Rattle.maid_model.specs.Tables.{IsTable, weights_of, rule_total}
use Rattle.maid_model.specs.Gains.{gain_of, mass}
use Rattle.maid_model.specs.Subgames.{OwnsAll}
use Rattle.maid_model.specs.Edits.{as_decision}
use Rattle.maid_model.specs.Values.{IsOptimum}
use Rattle.maid_examples.specs.Samples.{rule, whole}
use Rattle.maid_examples.specs.Trip.{trip, HasWeatherControl}
use Rattle.maid_examples.proofs.Fractions.{reduced_7, reduced_1_2}
use Rattle.maid_examples.proofs.GuessWorth.{row}

abbrev made : List NodeView
made = as_decision trip 0 0

alone : OwnsAll made 0
alone zero k = refl
alone (suc zero) k = refl
alone (suc (suc zero)) k = let e = k.kind in absurd (cc)
alone (suc (suc (suc v))) k = let e = k.kind in absurd (cc)

makes : IsDecision made 0
makes = record { within = omega arith; kind = refl }

goes : IsDecision made 1
goes = record { within = omega arith; kind = refl }

no_more : (ws us : List ℕ) (total under : ℕ) → IsTable (map pos ws) 1 2 total → IsTable (map pos us) 2 2 under → (gain_of made (rule 0 total ws ∷ rule 1 under us ∷ []) 0 *ℤ pos 1) ≤ℤ (pos 7 *ℤ pos (mass made (rule 0 total ws ∷ rule 1 under us ∷ [])))
no_more ws us total under t v =
    let a : slice_index ws 0 + slice_index ws 1 ≡ total = row ws 1 total 0 t (omega arith) in
    let b : slice_index us 0 + slice_index us 1 ≡ under = row us 2 under 0 v (omega arith) in
    let c : slice_index us 2 + slice_index us 3 ≡ under = row us 2 under 1 v (omega arith) in
    let d : slice_index ws 0 * (slice_index us 0 + slice_index us 1) ≡ slice_index ws 0 * under = ap (λ x. slice_index ws 0 * x) b in
    let e : slice_index ws 1 * (slice_index us 2 + slice_index us 3) ≡ slice_index ws 1 * under = ap (λ x. slice_index ws 1 * x) c in
    let f : (slice_index ws 0 + slice_index ws 1) * under ≡ total * under = ap (λ x. x * under) a in
    omega (arith, ints)

abbrev sunny : List RuleView
sunny = rule 0 1 (0 ∷ 1 ∷ []) ∷ rule 1 1 (1 ∷ 0 ∷ 0 ∷ 1 ∷ []) ∷ []

module _ (profiles : TestsProfiles) where
  optimum : IsOptimum made 0 0 (whole (pos 7))
  optimum = record {
    alone = alone;
    best = sunny;
    optimal = record { profile = profiles made sunny refl refl; greatest = λ t is. no_more (weights_of t 0) (weights_of t 1) (rule_total t 0) (rule_total t 1) (is.rule 0 makes).table (is.rule 1 goes).table };
    worth = record { reduced = reduced_7; same = refl };
  }

  pub in_control : IsOptimum trip 0 0 (record { num = pos 13; den = 2 }) → HasWeatherControl
  in_control before = record {
    optimum = optimum;
    control = record {
      chance = refl;
      value = record { more = whole (pos 7); is_more = optimum; less = record { num = pos 13; den = 2 }; is_less = before; difference = record { reduced = reduced_1_2; same = refl } };
    };
  }
