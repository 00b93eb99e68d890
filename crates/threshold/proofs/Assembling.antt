-- The interval of all answers is the exact one.
use Rattle.std.proofs.Common.{◌≡◌, ◌⊎◌, ◌∙◌, ℕ, ◌+◌, ◌*◌, ◌<◌, ◌≤◌, List, [], length, slice_index, slice_index_or, refl, sym, ap, subst, inl, inr, ℤ, pos, negsuc, ◌-ℤ◌, ◌*ℤ◌, ◌≤ℤ◌, ◌<ℤ◌, arith}
use Rattle.std.proofs.lemmas.Int.{ints}
use Rattle.std.proofs.lemmas.List.{get_or_default, length-map}
use Rattle.maid_model.specs.declared.answers.Ratio.{Ratio}
use Rattle.maid_model.specs.Answers.{FitsDiagram, IsFraction, answered}
use Rattle.maid_model.specs.Graph.{IsGraph}
use Rattle.maid_model.specs.Nodes.{IsDecision, states_of}
use Rattle.maid_model.specs.Tables.{HasChanceTables, chance_total}
use Rattle.maid_model.specs.Views.{NodeView, AnswerView, DiagramView, RuleView, SolvedView}
use Rattle.reach_laws.specs.Threshold.{IsAbove, IsAtLeast, IsAtMost, IsBeaten, IsBelow, IsMoved, IsPlace, IsSpan, state_weight}
use Rattle.reach_laws.proofs.Holding.{most_there, most_back, least_there, least_back, above_back, below_back}
use Rattle.threshold.specs.declared.held.Held.{Held}
use Rattle.threshold.specs.declared.weights.Place.{Place}
use Rattle.rule_solver.specs.Bases.{decision_at}
use Rattle.threshold.specs.Answers.{HoldsAtAll, HoldsAtFraction, IsAnswerOf, IsHeld}
use Rattle.threshold.specs.Held.{HoldsSomewhere, IsRange, IsWithin, Narrows}
use Rattle.threshold.proofs.Holding.{answer_decides, decision_in}
use Rattle.threshold.proofs.Narrowing.{narrows_more, narrows_none}

-- ---- answer by answer
-- from all fractions, those at which the first n answers hold
pub record HeldSoFar (nodes : List NodeView) (s : List RuleView) (place : Place) (answers : List AnswerView) (n : ℕ) (held : Held) : Type 0 where
  pub start : Held
  pub all : (num den : ℕ) → num ≤ den → IsWithin start num den
  pub narrows : Narrows (λ num den. (i : ℕ) → i < n → HoldsAtFraction nodes s place (decision_at answers i) num den) start held

pub held_start : (nodes : List NodeView) (s : List RuleView) (place : Place) (answers : List AnswerView) (held : Held) → IsRange held → ((num den : ℕ) → num ≤ den → IsWithin held num den) → HeldSoFar nodes s place answers 0 held
held_start nodes s place answers held r all = record { start = held; all = all; narrows = narrows_none (λ i. HoldsAtFraction nodes s place (decision_at answers i)) held r }

module _ (d : DiagramView) (solved : SolvedView) (place : Place) (f : FitsDiagram d solved) where
  -- the answer at a place of the list
  pub of_list : (i : ℕ) (answer : AnswerView) → i < length solved.answers → answer ≡ slice_index_or solved.answers i answer → IsAnswerOf solved answer
  of_list i answer l e = (i, l, e)

  pub held_more : (n : ℕ) (before after : Held) (answer : AnswerView) → n < length solved.answers → answer ≡ slice_index_or solved.answers n answer
      → HeldSoFar d.nodes (answered d solved) place solved.answers n before → Narrows (HoldsAtFraction d.nodes (answered d solved) place answer.decision) before after → HeldSoFar d.nodes (answered d solved) place solved.answers (n + 1) after
  held_more n before after answer l e so step = record {
    start = so.start;
    all = so.all;
    narrows = narrows_more (λ i. HoldsAtFraction d.nodes (answered d solved) place (decision_at solved.answers i)) n so.start before after so.narrows
        (subst (λ v. Narrows (HoldsAtFraction d.nodes (answered d solved) place v) before after) (sym (decision_in solved.answers n answer l (sym e))) step);
  }

  -- each decision has its answer
  pub answered_by : (v : ℕ) → IsDecision d.nodes v → (i : ℕ) × (i < length solved.answers) × (decision_at solved.answers i ≡ v)
  answered_by v k =
      let c = f.all v k in
      let l : c.0 < length solved.answers = subst (λ m. c.0 < m) (sym (ap length f.follow) ∙ length-map solved.answers (λ (a : AnswerView). a.decision)) c.1 in
      (c.0, l, ap (λ xs. slice_index xs c.0) f.follow ∙ get_or_default solved.order c.0 0 v c.1 ∙ c.2)

  pub held_end : (n : ℕ) (held : Held) → HeldSoFar d.nodes (answered d solved) place solved.answers n held → length solved.answers ≤ n → n ≤ length solved.answers → IsHeld d.nodes (answered d solved) place held
  held_end n held so l m = record {
    within = λ num den p q. (
      (λ w v k. let a = answered_by v k in subst (λ u. HoldsAtFraction d.nodes (answered d solved) place u num den) a.2 (((so.narrows.within num den p q).0 w).1 a.0 (less a.0 a.1))),
      (λ h. (so.narrows.within num den p q).1 (so.all num den q, λ i o. h (decision_at solved.answers i) (decides i o))),
    );
  }
    where
      less : (i : ℕ) → i < length solved.answers → i < n
      less i o = omega arith

      decides : (i : ℕ) → i < n → IsDecision d.nodes (decision_at solved.answers i)
      decides i o =
          let inside : i < length solved.answers = omega arith in
          let answer = slice_index_or solved.answers i (record { decision = 0; rows = [] }) in
          let same : slice_index_or solved.answers i answer ≡ answer = get_or_default solved.answers i answer (record { decision = 0; rows = [] }) inside in
          subst (IsDecision d.nodes) (sym (decision_in solved.answers i answer inside same)) (answer_decides d solved f answer (i, inside, sym same))

-- ---- the interval
compare : (a b : ℤ) → (a ≤ℤ b) ⊎ (b <ℤ a)
compare a b = grind (arith, ints)

clash : (a b : ℕ) → a < b → b ≤ a → ⊥
clash a b h k = omega arith

natural : (z : ℤ) → pos 0 ≤ℤ z → (n : ℕ) × (z ≡ pos n)
natural (pos n) h = (n, refl)
natural (negsuc n) h = absurd (omega (arith, ints))

module _ (nodes : List NodeView) (s : List RuleView) (place : Place) (g : IsGraph nodes) (c : HasChanceTables nodes) (is : IsPlace nodes place.node place.state place.row) (less more : Ratio) (law : IsSpan nodes s place.node place.state place.row less more) where
  abbrev whole : ℕ
  whole = chance_total nodes place.node

  cell : (n : ℕ) × (state_weight nodes place.node place.state place.row ≡ pos n)
  cell = natural (state_weight nodes place.node place.state place.row) ((c.table place.node is.kind).not_negative (place.row * states_of nodes place.node + place.state))

  whole_above : 0 < chance_total nodes place.node
  whole_above = c.positive place.node is.kind

  cell_few : cell.0 ≤ chance_total nodes place.node
  cell_few = few (state_weight nodes place.node place.state place.row) cell.0 (chance_total nodes place.node) cell.1 is.others
    where
      few : (z : ℤ) (n m : ℕ) → z ≡ pos n → pos 0 <ℤ (pos m -ℤ z) → n ≤ m
      few z n m e h = omega (arith, ints)

  inside : (num den : ℕ) → 0 < den → num ≤ den → IsAtMost less (pos num) den → IsAtLeast more (pos num) den → HoldsAtAll nodes s place num den
  inside num den p q l m v k moved mv = law.holds num den moved p q mv l m v k

  holds_now : HoldsAtAll nodes s place cell.0 (chance_total nodes place.node)
  holds_now = inside cell.0 whole whole_above cell_few (subst (λ z. IsAtMost less z whole) cell.1 law.low_now) (subst (λ z. IsAtLeast more z whole) cell.1 law.high_now)

  pub somewhere : HoldsSomewhere (HoldsAtAll nodes s place)
  somewhere = record { num = cell.0; den = chance_total nodes place.node; positive = whole_above; at_most = cell_few; holds = holds_now }

  module _ (held : Held) (r : IsRange held) (h : IsHeld nodes s place held) (low high : Ratio) (fl : IsFraction low (pos held.low.num) held.low.den) (fh : IsFraction high (pos held.high.num) held.high.den) where
    now_within : IsWithin held cell.0 (chance_total nodes place.node)
    now_within = (h.within cell.0 whole whole_above cell_few).1 holds_now

    -- at a fraction outside it some answer does not hold
    not_inside : (num den : ℕ) → 0 < den → num ≤ den → IsAbove low (pos num) den ⊎ IsBelow high (pos num) den → HoldsAtAll nodes s place num den → ⊥
    not_inside num den p q (inl o) all =
        clash (num * held.low.den) (held.low.num * den) (above_back low held.low.num held.low.den fl.reduced.positive r.low.positive fl.same num den o) ((h.within num den p q).1 all).0
    not_inside num den p q (inr o) all =
        clash (held.high.num * den) (num * held.high.den) (below_back high held.high.num held.high.den fh.reduced.positive r.high.positive fh.same num den o) ((h.within num den p q).1 all).1

    pub span_is : IsSpan nodes s place.node place.state place.row low high
    span_is = record {
      low_reduced = fl.reduced;
      high_reduced = fh.reduced;
      low_within = least_there low held.low.num held.low.den fl.reduced.positive r.low.positive fl.same 0 1 (zero_le held.low.den (held.low.num * 1));
      high_within = most_there high held.high.num held.high.den fh.reduced.positive r.high.positive fh.same 1 1 (ones held.high.num held.high.den r.high.at_most);
      low_now = subst (λ z. IsAtMost low z (chance_total nodes place.node)) (sym cell.1) (most_there low held.low.num held.low.den fl.reduced.positive r.low.positive fl.same cell.0 (chance_total nodes place.node) now_within.0);
      high_now = subst (λ z. IsAtLeast high z (chance_total nodes place.node)) (sym cell.1) (least_there high held.high.num held.high.den fh.reduced.positive r.high.positive fh.same cell.0 (chance_total nodes place.node) now_within.1);
      holds = λ num den moved p q mv l m v k.
          (h.within num den p q).0 (most_back low held.low.num held.low.den fl.reduced.positive r.low.positive fl.same num den l, least_back high held.high.num held.high.den fh.reduced.positive r.high.positive fh.same num den m) v k moved mv;
      fails = λ num den moved p q mv o. go num den moved p q mv o (compare (less.num *ℤ pos den) (pos num *ℤ pos less.den)) (compare (pos num *ℤ pos more.den) (more.num *ℤ pos den));
    }
      where
        zero_le : (a b : ℕ) → 0 * a ≤ b
        zero_le a b = omega arith

        ones : (a b : ℕ) → a ≤ b → a * 1 ≤ 1 * b
        ones a b l = omega arith

        go : (num den : ℕ) (moved : List NodeView) → 0 < den → num ≤ den → IsMoved nodes place.node place.state place.row num den moved → IsAbove low (pos num) den ⊎ IsBelow high (pos num) den
            → IsAtMost less (pos num) den ⊎ IsAbove less (pos num) den → IsAtLeast more (pos num) den ⊎ IsBelow more (pos num) den → IsBeaten nodes s moved
        go num den moved p q mv o (inr a) m = law.fails num den moved p q mv (inl a)
        go num den moved p q mv o (inl l) (inr b) = law.fails num den moved p q mv (inr b)
        go num den moved p q mv o (inl l) (inl m) = absurd (not_inside num den p q o (inside num den p q l m))
