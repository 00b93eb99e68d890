-- The answer of a decision that does not rely on the moved table holds at all fractions.
use Rattle.std.proofs.Common.{◌≡◌, ◌⊎◌, ◌∙◌, ℕ, zero, suc, ◌<◌, ◌≤◌, All, true, false, List, [], slice_index_or, refl, sym, ap, subst, inl, inr, ℤ, pos, negsuc, ◌≤ℤ◌, ◌<ℤ◌, arith}
use Rattle.std.specs.Prelude.{is_some}
use Rattle.std.specs.List.{list_all}
use Rattle.std.proofs.lemmas.Int.{ints}
use Rattle.std.proofs.lemmas.List.{get_or_default}
use Rattle.std.proofs.lemmas.List.Folds.{list_all_at}
use Rattle.maid_laws.specs.Exchange.{weight_at}
use Rattle.maid_laws.proofs.AnswerLaws.{answers_fit}
use Rattle.maid_laws.proofs.RowLaws.{mass_at_least}
use Rattle.maid_laws.proofs.Tied.{tables_of}
use Rattle.maid_model.specs.declared.answers.Row.{Row}
use Rattle.maid_model.specs.declared.diagrams.Kind.TheVariants.{Chance}
use Rattle.maid_model.specs.Answers.{IsAnswer, IsAnswerAt, IsAnswerRow, answered, no_row, rows_at}
use Rattle.maid_model.specs.Diagrams.{IsDiagram}
use Rattle.maid_model.specs.Edits.{as_decision}
use Rattle.maid_model.specs.Gains.{gain_at, mass_at}
use Rattle.maid_model.specs.Nodes.{IsDecision, node_at, rows_of, states_of}
use Rattle.maid_model.specs.Relevance.{ReliesOn}
use Rattle.maid_model.specs.Views.{NodeView, AnswerView, DiagramView, SolvedView}
use Rattle.reach_laws.specs.Threshold.{IsMoved, IsPlace, state_weight}
use Rattle.reach_laws.proofs.ListOrder.{weights_law}
use Rattle.relevance_graph.specs.Kept.{ControlKeepsSearches, WalksToGoalsStand}
use Rattle.threshold.specs.declared.answers.Question.{Question}
use Rattle.threshold.specs.declared.held.Held.{Held}
use Rattle.threshold.specs.declared.weights.Place.{Place}
use Rattle.threshold.specs.Answers.{HoldsAnswer, HoldsAtAll, HoldsAtFraction, IsAnswerOf, IsQuestion, IsHeld, AnswerStands}
use Rattle.threshold.specs.Control.{IsFreeOf}
use Rattle.threshold.specs.Held.{IsRange, IsWithin, Narrows}
use Rattle.threshold.proofs.Assembling.{answered_by}
use Rattle.threshold.proofs.Holding.{answer_decides, answer_fits, answer_rows, decision_in}
use Rattle.threshold.proofs.Tables.{is_place}
use Rattle.threshold.proofs.Unmoved.{gains_no_more, gains_nothing}

-- a number that is not below nought is nought or above it
sign : (z : ℤ) → pos 0 ≤ℤ z → (z ≡ pos 0) ⊎ (pos 0 <ℤ z)
sign (pos zero) h = inl refl
sign (pos (suc n)) h = inr (omega (arith, ints))
sign (negsuc n) h = absurd (omega (arith, ints))

module _ (d : DiagramView) (solved : SolvedView) (place : Place) (is : IsDiagram d) (a : IsAnswer d solved) (at : IsPlace d.nodes place.node place.state place.row) (answer : AnswerView) (of : IsAnswerOf solved answer)
    (agent : ℕ) (free : ReliesOn (as_decision d.nodes agent place.node) answer.decision place.node → ⊥) (reached : (pos 0 <ℤ state_weight d.nodes place.node place.state place.row) ⊎ (list_all (λ (row : Row). is_some row.worth) answer.rows ≡ true)) where
  k : IsDecision d.nodes answer.decision
  k = answer_decides d solved a.fits answer of

  told : IsAnswerAt d.nodes d.decimals (answered d solved) answer.decision (rows_at solved.answers answer.decision)
  told = a.answers answer.decision k

  row_at : (line : ℕ) → line < rows_of d.nodes answer.decision → IsAnswerRow d.nodes d.decimals told.base answer.decision line (slice_index_or answer.rows line no_row)
  row_at line l = subst (λ rows. IsAnswerRow d.nodes d.decimals told.base answer.decision line (slice_index_or rows line no_row)) (answer_rows d solved a.fits answer of) (told.each line l)

  -- a state of weight 1 is the choice of the row
  chosen : (line choice : ℕ) → line < rows_of d.nodes answer.decision → choice < states_of d.nodes answer.decision → weight_at d.nodes (answered d solved) answer.decision choice line ≡ 1
      → choice ≡ (slice_index_or answer.rows line no_row).choice
  chosen line choice l i w =
      ((weights_law d.nodes solved.answers (answers_fit d solved is.graph is.tables a.fits)).1 answer.decision choice line k i l).0 w
      ∙ ap (λ rows. (slice_index_or rows line no_row).choice) (answer_rows d solved a.fits answer of)

  -- where a row is not reached now, the state has weight
  module _ (num den : ℕ) (positive : 0 < den) (moved : List NodeView) (m : IsMoved d.nodes place.node place.state place.row num den moved) where
    best : (line choice other : ℕ) → line < rows_of d.nodes answer.decision → choice < states_of d.nodes answer.decision → other < states_of d.nodes answer.decision → choice ≡ (slice_index_or answer.rows line no_row).choice
        → gain_at moved told.base answer.decision other line ≤ℤ gain_at moved told.base answer.decision choice line
    best line choice other l i j e = go (sign (mass_at d.nodes told.base answer.decision line) (mass_at_least d.nodes told.base answer.decision line is.graph (tables_of d.nodes told.base is.graph is.tables told.is_base.profile) k.within))
      where
        even : (x y : ℤ) → x ≡ pos 0 → y ≡ pos 0 → x ≤ℤ y
        even x y p q = omega (arith, ints)

        clash : true ≡ false → ⊥
        clash p = cc

        go : (mass_at d.nodes told.base answer.decision line ≡ pos 0) ⊎ (pos 0 <ℤ mass_at d.nodes told.base answer.decision line) → gain_at moved told.base answer.decision other line ≤ℤ gain_at moved told.base answer.decision choice line
        go (inr some) =
            gains_no_more d.nodes place.node place.state place.row is.graph is.tables at num den moved m agent answer.decision k free told.base told.is_base.profile line choice other i j some
            (subst (λ z. gain_at d.nodes told.base answer.decision other line ≤ℤ gain_at d.nodes told.base answer.decision z line) (sym e) (((row_at line l).best some).greatest other j))
        go (inl none) = at_none reached
          where
            at_none : (pos 0 <ℤ state_weight d.nodes place.node place.state place.row) ⊎ (list_all (λ (row : Row). is_some row.worth) answer.rows ≡ true) → gain_at moved told.base answer.decision other line ≤ℤ gain_at moved told.base answer.decision choice line
            at_none (inl weighs) =
                even (gain_at moved told.base answer.decision other line) (gain_at moved told.base answer.decision choice line)
                (gains_nothing d.nodes place.node place.state place.row is.graph is.tables at num den moved m agent answer.decision k free told.base told.is_base.profile positive weighs line other none)
                (gains_nothing d.nodes place.node place.state place.row is.graph is.tables at num den moved m agent answer.decision k free told.base told.is_base.profile positive weighs line choice none)
            at_none (inr all) =
                absurd (clash (sym all ∙ list_all_at (λ (row : Row). is_some row.worth) answer.rows line no_row (subst (λ n. line < n) (sym (answer_fits d solved a.fits answer of).rows) l) (ap is_some ((row_at line l).never none).1)))

  -- it holds at each fraction
  pub stays : (num den : ℕ) → 0 < den → HoldsAtFraction d.nodes (answered d solved) place answer.decision num den
  stays num den positive moved m = record { base = told.base; is_base = told.is_base; best = λ choice other line i j l w. best num den positive moved m line choice other l i j (chosen line choice l i w) }

-- ---- in the names of the code
-- where x is a decision, the same walks lead to the goals of the others
module _ (control : ControlKeepsSearches) (walks : WalksToGoalsStand) where
  free_of : (nodes : List NodeView) (x v : ℕ) → (node_at nodes x).kind ≡ Chance → IsDecision nodes v → IsFreeOf nodes v x → ReliesOn (as_decision nodes 0 x) v x → ⊥
  free_of nodes x v k is f r = f ((walks nodes (as_decision nodes 0 x) v x (control nodes 0 x k) is).1 (r.goal, r.is_goal, r.walk))

  module _ (q : Question) (asked : IsQuestion q) where
    place_is : IsPlace q.diagram.now.nodes q.place.node q.place.state q.place.row
    place_is = is_place q.diagram.now.nodes q.place asked.setting.is_diagram.tables asked.setting.cell asked.setting.ends.some

    pub stands_holds : (answer : AnswerView) → IsAnswerOf q.solved.now answer → AnswerStands q answer → (num den : ℕ) → 0 < den → HoldsAnswer q answer num den
    stands_holds answer of s =
        let is = answer_decides q.diagram.now q.solved.now asked.setting.answer.fits answer of in
        let free = free_of q.diagram.now.nodes q.place.node answer.decision asked.setting.cell.kind is s.free in
        stays q.diagram.now q.solved.now q.place asked.setting.is_diagram asked.setting.answer place_is answer of 0 free s.reached

    -- the interval stays as it is
    pub narrows_by_nothing : (answer : AnswerView) → IsAnswerOf q.solved.now answer → AnswerStands q answer → (held : Held) → IsRange held → Narrows (HoldsAnswer q answer) held held
    narrows_by_nothing answer of s held r = record { range = r; within = λ num den p l. ((λ w. (w, stands_holds answer of s num den p)), (λ w. w.0)) }

    -- where all answers stand, all fractions are held
    pub all_held : All (AnswerStands q) q.solved.now.answers → (held : Held) → ((num den : ℕ) → num ≤ den → IsWithin held num den) → IsHeld q.diagram.now.nodes (answered q.diagram.now q.solved.now) q.place held
    all_held all held every = record { within = λ num den p l. ((λ w. at num den p), (λ h. every num den l)) }
      where
        at : (num den : ℕ) → 0 < den → HoldsAtAll q.diagram.now.nodes (answered q.diagram.now q.solved.now) q.place num den
        at num den p v k =
            let by = answered_by q.diagram.now q.solved.now q.place asked.setting.answer.fits v k in
            let nothing : AnswerView = record { decision = 0; rows = [] } in
            let answer = slice_index_or q.solved.now.answers by.0 nothing in
            let same : slice_index_or q.solved.now.answers by.0 answer ≡ answer = get_or_default q.solved.now.answers by.0 answer nothing by.1 in
            subst (λ u. HoldsAtFraction q.diagram.now.nodes (answered q.diagram.now q.solved.now) q.place u num den) (sym (decision_in q.solved.now.answers by.0 answer by.1 same) ∙ by.2)
            (stands_holds answer (by.0, by.1, sym same) (all by.0 nothing by.1) num den p)
