-- At a fraction the answer of a decision holds exactly where its choices are best in both ends'
-- gains, mixed by the fraction.
use Rattle.std.proofs.Common.{◌≡◌, ◌≢◌, ◌↔◌, ◌∙◌, ℕ, zero, suc, ◌+◌, ◌*◌, ◌<◌, ◌≤◌, cond, List, [], ◌∷◌, length, map, slice_index, slice_index_or, refl, sym, ap, subst, ℤ, ◌≤ℤ◌, None, arith}
use Rattle.std.proofs.lemmas.List.{length-map}
use Rattle.finite_sums.specs.Members.{Among}
use Rattle.maid_laws.proofs.AnswerLaws.{answers_fit}
use Rattle.maid_laws.proofs.Booleans.{eqb_yes, eqb_no}
use Rattle.maid_laws.proofs.Members.{among_index, contains_of}
use Rattle.maid_model.specs.Answers.{FitsAnswer, FitsDiagram, IsBase, answered, rows_at}
use Rattle.maid_model.specs.Diagrams.{IsDiagram}
use Rattle.maid_model.specs.Gains.{gain_at}
use Rattle.maid_model.specs.Graph.{AllDifferent}
use Rattle.maid_model.specs.Nodes.{IsDecision, rows_of, states_of}
use Rattle.maid_model.specs.Tables.{weights_of}
use Rattle.maid_model.specs.Views.{AnswerView, DiagramView, RuleView, SolvedView}
use Rattle.reach_laws.proofs.Exact.{gains_alike}
use Rattle.reach_laws.proofs.ListOrder.{weights_law}
use Rattle.reach_laws.proofs.Moved.{moved_law}
use Rattle.reach_laws.proofs.Perfect.{like_of}
use Rattle.rule_solver.specs.Sums.{IsRowGains}
use Rattle.threshold.specs.declared.weights.Place.{Place}
use Rattle.threshold.specs.Answers.{HoldsAtFraction, IsAnswerOf}
use Rattle.threshold.specs.Ends.{AreEnds}
use Rattle.threshold.specs.Held.{AreBestIn, choice_at}
use Rattle.threshold.specs.Weights.{IsCell}
use Rattle.threshold.proofs.Comparing.{at_place, no_more}

-- ---- an answer of the list
pub decision_in : (answers : List AnswerView) (i : ℕ) (a : AnswerView) → i < length answers → slice_index_or answers i a ≡ a → slice_index (map (λ (b : AnswerView). b.decision) answers) i ≡ a.decision
decision_in [] i a l e = absurd (omega arith)
decision_in (b ∷ answers) zero a l e = ap (λ (x : AnswerView). x.decision) e
decision_in (b ∷ answers) (suc i) a l e = decision_in answers i a (omega arith) e

-- where decisions differ, its rows are found
own_rows : (answers : List AnswerView) (i : ℕ) (a : AnswerView) → AllDifferent (map (λ (b : AnswerView). b.decision) answers) → i < length answers → slice_index_or answers i a ≡ a → rows_at answers a.decision ≡ a.rows
own_rows [] i a n l e = absurd (omega arith)
own_rows (b ∷ answers) zero a n l e = ap (λ t. cond t b.rows (rows_at answers a.decision)) (eqb_yes b.decision a.decision (ap (λ (x : AnswerView). x.decision) e)) ∙ ap (λ (x : AnswerView). x.rows) e
own_rows (b ∷ answers) (suc i) a n l e =
    ap (λ t. cond t b.rows (rows_at answers a.decision)) (eqb_no b.decision a.decision apart) ∙ own_rows answers i a n.1 (omega arith) e
  where
    inside : i < length (map (λ (x : AnswerView). x.decision) answers)
    inside = subst (λ k. i < k) (sym (length-map answers (λ (x : AnswerView). x.decision))) (omega arith)

    apart : b.decision ≢ a.decision
    apart f = n.0 (contains_of b.decision (map (λ (x : AnswerView). x.decision) answers)
        (subst (λ v. Among v (map (λ (x : AnswerView). x.decision) answers)) (decision_in answers i a (omega arith) e ∙ sym f) (among_index (map (λ (x : AnswerView). x.decision) answers) i inside)))

module _ (d : DiagramView) (solved : SolvedView) (f : FitsDiagram d solved) (answer : AnswerView) (of : IsAnswerOf solved answer) where
  pub answer_fits : FitsAnswer d.nodes answer
  answer_fits = subst (FitsAnswer d.nodes) (sym of.2) (f.answers of.0 answer of.1)

  pub answer_decides : IsDecision d.nodes answer.decision
  answer_decides = answer_fits.decision

  pub answer_rows : rows_at solved.answers answer.decision ≡ answer.rows
  answer_rows = own_rows solved.answers of.0 answer (subst AllDifferent (sym f.follow) f.once) of.1 (sym of.2)

-- ---- the answer at a fraction
module _ (d : DiagramView) (solved : SolvedView) (place : Place) (is : IsDiagram d) (f : FitsDiagram d solved) (cell : IsCell d.nodes place) (nought one : DiagramView) (ends : AreEnds d place nought one) (answer : AnswerView) (of : IsAnswerOf solved answer)
    (base : List RuleView) (b : IsBase d.nodes (answered d solved) answer.decision base)
    (gains_nought gains_one : List ℤ) (sums_nought : IsRowGains nought.nodes base answer.decision gains_nought) (sums_one : IsRowGains one.nodes base answer.decision gains_one) where
  k : IsDecision d.nodes answer.decision
  k = answer_decides d solved f answer of

  rows : length answer.rows ≡ rows_of d.nodes answer.decision
  rows = (answer_fits d solved f answer of).rows

  -- the choice of a row is the one state with weight
  chosen : (line choice : ℕ) → line < rows_of d.nodes answer.decision → choice < states_of d.nodes answer.decision → (slice_index_or (rows_at solved.answers answer.decision) line (record { choice = 0; worth = None })).choice ≡ choice_at answer.rows line
  chosen line choice l m = ap (λ rs. choice_at rs line) (answer_rows d solved f answer of)

  inside : (line : ℕ) → line < rows_of d.nodes answer.decision → choice_at answer.rows line < states_of d.nodes answer.decision
  inside line l = (answer_fits d solved f answer of).choices line (record { choice = 0; worth = None }) (subst (λ n. line < n) (sym rows) l)

  weights : (line choice : ℕ) → line < rows_of d.nodes answer.decision → choice < states_of d.nodes answer.decision
      → (slice_index (weights_of (answered d solved) answer.decision) (line * states_of d.nodes answer.decision + choice) ≡ 1) ↔ (choice ≡ choice_at answer.rows line)
  weights line choice l m =
      let w = (weights_law d.nodes solved.answers (answers_fit d solved is.graph is.tables f)).1 answer.decision choice line k m l in
      ((λ e. w.0 e ∙ chosen line choice l m), (λ e. w.1 (e ∙ sym (chosen line choice l m))))

  module _ (num den : ℕ) (hd : 0 < den) (hn : num ≤ den) where
    there : AreBestIn gains_nought gains_one (states_of d.nodes answer.decision) answer.rows (length answer.rows) num den → HoldsAtFraction d.nodes (answered d solved) place answer.decision num den
    there h moved m = record {
      base = base;
      is_base = b;
      best = λ choice other line i j l w.
          let e = (weights line choice l i).0 w in
          subst (λ z. gain_at moved base answer.decision other line ≤ℤ gain_at moved base answer.decision z line) (sym e)
          ((no_more d place is cell nought one ends answer.decision k base b.profile gains_nought gains_one sums_nought sums_one num den hd moved m line (choice_at answer.rows line) other l (inside line l) j).1
          (h line (subst (λ n. line < n) (sym rows) l) other j));
    }

    back : HoldsAtFraction d.nodes (answered d solved) place answer.decision num den → AreBestIn gains_nought gains_one (states_of d.nodes answer.decision) answer.rows (length answer.rows) num den
    back h line low other j =
        let l = subst (λ n. line < n) rows low in
        let at = at_place d place is cell nought one ends answer.decision k base b.profile gains_nought gains_one sums_nought sums_one in
        let moved = moved_law d.nodes place.node place.state place.row num den is.graph is.tables at hd hn in
        let there = h moved.0 moved.1 in
        let alike = gains_alike d.nodes moved.0 (like_of d.nodes moved.0 place.node place.state place.row num den at moved.1) (answered d solved) answer.decision there.base base there.is_base b in
        (no_more d place is cell nought one ends answer.decision k base b.profile gains_nought gains_one sums_nought sums_one num den hd moved.0 moved.1 line (choice_at answer.rows line) other l (inside line l) j).0
        (subst (λ z. z ≤ℤ gain_at moved.0 base answer.decision (choice_at answer.rows line) line) (alike other line)
        (subst (λ z. gain_at moved.0 there.base answer.decision other line ≤ℤ z) (alike (choice_at answer.rows line) line)
        (there.best (choice_at answer.rows line) other line (inside line l) j l ((weights line (choice_at answer.rows line) l (inside line l)).1 refl))))

    pub holds_same : AreBestIn gains_nought gains_one (states_of d.nodes answer.decision) answer.rows (length answer.rows) num den ↔ HoldsAtFraction d.nodes (answered d solved) place answer.decision num den
    holds_same = (there, back)
