-- What a decision's sums in both ends tell: as many numbers as rows and states, all within the
-- range, and at which fractions the answer holds.
use Rattle.std.proofs.Common.{◌≡◌, ◌↔◌, ◌∙◌, ℕ, ◌*◌, ◌/◌, ◌%◌, ◌<◌, ◌≤◌, List, length, slice_index_or, sym, ap, subst, ℤ, pos, nat_abs, arith}
use Rattle.std.proofs.lemmas.List.{get_or_past}
use Rattle.std.proofs.lemmas.Nat.{div-add-mod'}
use Rattle.std.proofs.Math.Decide.{dec_lt}
use Rattle.std.proofs.Math.Nat.{mod-lt, div-lt_iff_lt-mul}
use Rattle.maid_model.specs.declared.answers.Row.{Row}
use Rattle.maid_model.specs.Answers.{IsBase, answered}
use Rattle.maid_model.specs.Diagrams.{greatest_number}
use Rattle.maid_model.specs.Graph.{IsGraph}
use Rattle.maid_model.specs.Nodes.{IsDecision, states_of}
use Rattle.maid_model.specs.Profiles.{IsProfile}
use Rattle.maid_model.specs.Scopes.{KeepsScopedBounds}
use Rattle.maid_model.specs.Tables.{HasChanceTables, rule_total}
use Rattle.maid_model.specs.Views.{NodeView, AnswerView, DiagramView, RuleView, SolvedView}
use Rattle.maid_model.specs.Gains.{AreSmallGains}
use Rattle.part_laws.specs.ScopeLaws.{HasSmallRules}
use Rattle.part_laws.proofs.ScopeRoom.{room_law}
use Rattle.reach_laws.specs.Threshold.{IsPlace}
use Rattle.reach_laws.proofs.Perfect.{decision_back, rows_like}
use Rattle.rule_solver.specs.Masses.{KeepsStates}
use Rattle.rule_solver.specs.Rooms.{HasRoomForDecision}
use Rattle.rule_solver.specs.Sums.{IsRowGains}
use Rattle.size_precheck.specs.declared.decisions.DecisionPlans.{DecisionPlans}
use Rattle.size_precheck.specs.Decisions.{AreDecisionPlans}
use Rattle.size_precheck.specs.Kept.{KeptPlansStand}
use Rattle.size_precheck.specs.Laws.{GreedyOrdersAreOrders}
use Rattle.threshold.specs.declared.weights.Place.{Place}
use Rattle.threshold.specs.Answers.{HoldsAtFraction, IsAnswerOf, IsThresholdSetting}
use Rattle.threshold.specs.Ends.{IsEnd}
use Rattle.threshold.specs.Held.{AreBestIn, AreEndGains}
use Rattle.threshold.proofs.Comparing.{end_decision, end_graph, end_like, end_profile}
use Rattle.threshold.proofs.Holding.{answer_decides, answer_fits, holds_same}
use Rattle.threshold.proofs.Plans.{keeps_plans, room_same}
use Rattle.threshold.proofs.Tables.{is_place}

-- sums within the bound are small
small_sums : (e : DiagramView) (base : List RuleView) (t : ℕ) (gains : List ℤ) → IsGraph e.nodes → HasChanceTables e.nodes → IsProfile e.nodes base → KeepsScopedBounds e → IsDecision e.nodes t → HasSmallRules e.nodes base t
    → IsRowGains e.nodes base t gains → AreSmallGains gains
small_sums e base t gains g c p bound k rules sums i = go (dec_lt i (length gains))
  where
    none : (xs : List ℤ) (i : ℕ) → ¬ (i < length xs) → nat_abs (slice_index_or xs i (pos 0)) ≤ greatest_number
    none xs i out = subst (λ z. nat_abs z ≤ greatest_number) (sym (get_or_past xs i (pos 0) (omega arith))) (omega arith)

    go : Dec (i < length gains) → nat_abs (slice_index_or gains i (pos 0)) ≤ greatest_number
    go (no out) = none gains i out
    go (yes l) =
        let some = g.has_state t in
        let row = (div-lt_iff_lt-mul some).1 (subst (λ k. i < k) sums.gain_count l) in
        let state = mod-lt i some in
        let there = sums.gain (i % states_of e.nodes t) (i / states_of e.nodes t) state row in
        subst (λ z. nat_abs z ≤ greatest_number) (sym there ∙ ap (λ j. slice_index_or gains j (pos 0)) (div-add-mod' i (states_of e.nodes t)))
        (((room_law e base g c p bound).0 t k rules).gain (i % states_of e.nodes t) (i / states_of e.nodes t))

-- what is told of lists of gains, of rows and of a count of states
pub record Ready (nodes : List NodeView) (s : List RuleView) (place : Place) (t : ℕ) (gains_nought gains_one : List ℤ) (rows : List Row) (states : ℕ) : Type 0 where
  pub gains : AreEndGains gains_nought gains_one states rows
  pub same : (num den : ℕ) → 0 < den → num ≤ den → AreBestIn gains_nought gains_one states rows (length rows) num den ↔ HoldsAtFraction nodes s place t num den

module _ (d : DiagramView) (solved : SolvedView) (place : Place) (nought one : DiagramView) (set : IsThresholdSetting d solved place nought one) (answer : AnswerView) (of : IsAnswerOf solved answer) where
  k : IsDecision d.nodes answer.decision
  k = answer_decides d solved set.answer.fits answer of

  at : IsPlace d.nodes place.node place.state place.row
  at = is_place d.nodes place set.is_diagram.tables set.cell set.ends.some

  pub profile_nought : (base : List RuleView) → IsProfile d.nodes base → IsProfile nought.nodes base
  profile_nought base b = end_profile d place set.is_diagram at 0 set.ends.total nought set.ends.at_nought answer.decision k base b

  pub profile_one : (base : List RuleView) → IsProfile d.nodes base → IsProfile one.nodes base
  profile_one base b = end_profile d place set.is_diagram at 1 set.ends.total one set.ends.at_one answer.decision k base b

  pub decides_nought : IsDecision nought.nodes answer.decision
  decides_nought = end_decision d place set.is_diagram at 0 set.ends.total nought set.ends.at_nought answer.decision k

  pub decides_one : IsDecision one.nodes answer.decision
  decides_one = end_decision d place set.is_diagram at 1 set.ends.total one set.ends.at_one answer.decision k

  pub room_nought : GreedyOrdersAreOrders → (cells : ℕ) → HasRoomForDecision d.nodes answer.decision cells → HasRoomForDecision nought.nodes answer.decision cells
  room_nought orders cells room = room_same d.nodes nought.nodes (end_like d place set.is_diagram at 0 set.ends.total nought set.ends.at_nought answer.decision k) orders cells answer.decision room

  pub room_one : GreedyOrdersAreOrders → (cells : ℕ) → HasRoomForDecision d.nodes answer.decision cells → HasRoomForDecision one.nodes answer.decision cells
  room_one orders cells room = room_same d.nodes one.nodes (end_like d place set.is_diagram at 1 set.ends.total one set.ends.at_one answer.decision k) orders cells answer.decision room

  -- the plans of the decision are those of both ends
  pub plans_nought : KeptPlansStand → (plans : DecisionPlans) → AreDecisionPlans d.nodes answer.decision plans → AreDecisionPlans nought.nodes answer.decision plans
  plans_nought stand plans are =
      (stand d.nodes nought.nodes (record { decision = answer.decision; plans = plans }) (keeps_plans d.nodes nought.nodes (end_like d place set.is_diagram at 0 set.ends.total nought set.ends.at_nought answer.decision k)) (record { decision = k; plans = are })).plans

  pub plans_one : KeptPlansStand → (plans : DecisionPlans) → AreDecisionPlans d.nodes answer.decision plans → AreDecisionPlans one.nodes answer.decision plans
  plans_one stand plans are =
      (stand d.nodes one.nodes (record { decision = answer.decision; plans = plans }) (keeps_plans d.nodes one.nodes (end_like d place set.is_diagram at 1 set.ends.total one set.ends.at_one answer.decision k)) (record { decision = k; plans = are })).plans

  pub rules_nought : (base : List RuleView) → KeepsStates d.nodes base → HasSmallRules nought.nodes base answer.decision
  rules_nought base small v is n =
      let l = end_like d place set.is_diagram at 0 set.ends.total nought set.ends.at_nought answer.decision k in
      subst (λ m. rule_total base v ≤ m) (sym (l.states v)) (small v (decision_back d.nodes nought.nodes l v is))

  pub rules_one : (base : List RuleView) → KeepsStates d.nodes base → HasSmallRules one.nodes base answer.decision
  rules_one base small v is n =
      let l = end_like d place set.is_diagram at 1 set.ends.total one set.ends.at_one answer.decision k in
      subst (λ m. rule_total base v ≤ m) (sym (l.states v)) (small v (decision_back d.nodes one.nodes l v is))

  counted : (num : ℕ) (e : DiagramView) (h : IsEnd d place num set.ends.total e) (base : List RuleView) (gains : List ℤ) → IsRowGains e.nodes base answer.decision gains → length gains ≡ length answer.rows * states_of d.nodes answer.decision
  counted num e h base gains sums =
      let l = end_like d place set.is_diagram at num set.ends.total e h answer.decision k in
      sums.gain_count ∙ (λ i. rows_like d.nodes e.nodes l answer.decision i * l.states answer.decision i) ∙ ap (λ n. n * states_of d.nodes answer.decision) (sym (answer_fits d solved set.answer.fits answer of).rows)

  module _ (base : List RuleView) (b : IsBase d.nodes (answered d solved) answer.decision base) (small : KeepsStates d.nodes base) (gains_nought gains_one : List ℤ)
      (sums_nought : IsRowGains nought.nodes base answer.decision gains_nought) (sums_one : IsRowGains one.nodes base answer.decision gains_one) where
    ready : Ready d.nodes (answered d solved) place answer.decision gains_nought gains_one answer.rows (states_of d.nodes answer.decision)
    ready =
        let same = holds_same d solved place set.is_diagram set.answer.fits set.cell nought one set.ends answer of base b gains_nought gains_one sums_nought sums_one in
        let w = set.somewhere in
        let gains : AreEndGains gains_nought gains_one (states_of d.nodes answer.decision) answer.rows = record {
          nought_count = counted 0 nought set.ends.at_nought base gains_nought sums_nought;
          one_count = counted 1 one set.ends.at_one base gains_one sums_one;
          small_nought = small_sums nought base answer.decision gains_nought (end_graph d place set.is_diagram at 0 set.ends.total nought set.ends.at_nought answer.decision k) set.ends.at_nought.moved.tables (profile_nought base b.profile) set.ends.bound_nought decides_nought (rules_nought base small) sums_nought;
          small_one = small_sums one base answer.decision gains_one (end_graph d place set.is_diagram at 1 set.ends.total one set.ends.at_one answer.decision k) set.ends.at_one.moved.tables (profile_one base b.profile) set.ends.bound_one decides_one (rules_one base small) sums_one;
          somewhere = record { num = w.num; den = w.den; positive = w.positive; at_most = w.at_most; holds = (same w.num w.den w.positive w.at_most).1 (w.holds answer.decision k) };
        } in
        record { gains = gains; same = same }

    -- the same in the names that code gives the lists
    pub ready_as : (nought_list one_list : List ℤ) (rows : List Row) (states : ℕ) → nought_list ≡ gains_nought → one_list ≡ gains_one → rows ≡ answer.rows → states ≡ states_of d.nodes answer.decision
        → Ready d.nodes (answered d solved) place answer.decision nought_list one_list rows states
    ready_as nought_list one_list rows states e f g h =
        subst (λ x. Ready d.nodes (answered d solved) place answer.decision x one_list rows states) (sym e) (subst (λ x. Ready d.nodes (answered d solved) place answer.decision gains_nought x rows states) (sym f)
        (subst (λ x. Ready d.nodes (answered d solved) place answer.decision gains_nought gains_one x states) (sym g) (subst (λ x. Ready d.nodes (answered d solved) place answer.decision gains_nought gains_one answer.rows x) (sym h) ready)))
