-- Rows that are improved in the part of a decision's scope are improved in the whole.
use Rattle.std.proofs.Common.{◌≡◌, ℕ, ◌<◌, List, length, sym, subst, ℤ, ◌≤ℤ◌}
use Rattle.maid_model.specs.declared.answers.Row.{Row}
use Rattle.maid_model.specs.Gains.{gain_at, gain_in}
use Rattle.maid_model.specs.Nodes.{rows_of, states_of}
use Rattle.maid_model.specs.Scopes.{scope_of}
use Rattle.maid_model.specs.Views.{NodeView, RuleView}
use Rattle.part_laws.specs.PartLaws.{DecidesAlike}
use Rattle.rule_solver.specs.Sums.{IsRowGains, scope_gain}
use Rattle.reach_laws.specs.Updates.{IsImproved}
use Rattle.policy_update.specs.Steps.{AreImproved, AreSameChoices, KeepChoices, choice_in}
use Rattle.policy_update.proofs.Choices.{ComparesAlike, improved_alike}

module _ (nodes : List NodeView) (p : List RuleView) (d : ℕ) (alike : (row : ℕ) → DecidesAlike nodes p (scope_of nodes d) d row) (gains : List ℤ) (sums : IsRowGains nodes p d gains) where
  compares : (row : ℕ) → row < rows_of nodes d → ComparesAlike (λ s. gain_in gains (states_of nodes d) s row) (λ s. gain_at nodes p d s row) (states_of nodes d)
  compares row l s t k m = (
    (λ h. ((alike row).best s t).1 (subst (λ x. x ≤ℤ scope_gain nodes p d t row) (sums.gain s row k l) (subst (λ y. gain_in gains (states_of nodes d) s row ≤ℤ y) (sums.gain t row m l) h))),
    (λ h. subst (λ x. x ≤ℤ gain_in gains (states_of nodes d) t row) (sym (sums.gain s row k l)) (subst (λ y. scope_gain nodes p d s row ≤ℤ y) (sym (sums.gain t row m l)) (((alike row).best s t).0 h))),
  )

  -- a row that is improved in the part is improved in the whole
  row_in_whole : (rows : List Row) → length rows ≡ rows_of nodes d → (row after : ℕ) → row < length rows
      → IsImproved (λ s. gain_in gains (states_of nodes d) s row) (states_of nodes d) (choice_in rows row) after → IsImproved (λ s. gain_at nodes p d s row) (states_of nodes d) (choice_in rows row) after
  row_in_whole rows count row after l h = improved_alike (λ s. gain_in gains (states_of nodes d) s row) (λ s. gain_at nodes p d s row) (states_of nodes d) (choice_in rows row) after (compares row (subst (λ n. row < n) count l)) h

  pub in_whole : (rows after : List Row) → length rows ≡ rows_of nodes d → AreImproved (gain_in gains (states_of nodes d)) (states_of nodes d) rows after → AreImproved (gain_at nodes p d) (states_of nodes d) rows after
  in_whole rows after count h = record { count = h.count; each = λ row l. row_in_whole rows count row (choice_in after row) l (h.each row l); worthless = h.worthless }

  pub kept_in_whole : (rows : List Row) → length rows ≡ rows_of nodes d → KeepChoices (gain_in gains (states_of nodes d)) (states_of nodes d) rows → KeepChoices (gain_at nodes p d) (states_of nodes d) rows
  kept_in_whole rows count h row l = row_in_whole rows count row (choice_in rows row) l (h row l)

  -- the same of lists that are these
  pub keep_by : (own : List ℤ) (states : ℕ) (rows mine : List Row) → own ≡ gains → states ≡ states_of nodes d → mine ≡ rows → length rows ≡ rows_of nodes d → KeepChoices (gain_in own states) states mine → KeepChoices (gain_at nodes p d) (states_of nodes d) rows
  keep_by own states rows mine ge se re count h =
      kept_in_whole rows count (subst (λ (r : List Row). KeepChoices (gain_in gains (states_of nodes d)) (states_of nodes d) r) re
      (subst (λ n. KeepChoices (gain_in gains n) n mine) se (subst (λ (g : List ℤ). KeepChoices (gain_in g states) states mine) ge h)))

  pub improve_by : (own : List ℤ) (states : ℕ) (rows mine after : List Row) → own ≡ gains → states ≡ states_of nodes d → mine ≡ rows → length rows ≡ rows_of nodes d → AreImproved (gain_in own states) states mine after → AreImproved (gain_at nodes p d) (states_of nodes d) rows after
  improve_by own states rows mine after ge se re count h =
      in_whole rows after count (subst (λ (r : List Row). AreImproved (gain_in gains (states_of nodes d)) (states_of nodes d) r after) re
      (subst (λ n. AreImproved (gain_in gains n) n mine after) se (subst (λ (g : List ℤ). AreImproved (gain_in g states) states mine after) ge h)))

-- rows that are improved to the same choices keep them
pub kept_by_same : (gain : ℕ → ℕ → ℤ) (states : ℕ) (rows after : List Row) → AreImproved gain states rows after → AreSameChoices after rows → KeepChoices gain states rows
kept_by_same gain states rows after h same row l = subst (IsImproved (λ s. gain s row) states (choice_in rows row)) (same row l) (h.each row l)
