-- The answer, put together from what is answered at each decision in turn.
use Rattle.std.proofs.Common.{◌≡◌, ◌∙◌, ◌⊎◌, inl, inr, ℕ, zero, suc, ◌+◌, ◌*◌, ◌^◌, ◌<◌, List, [], ◌∷◌, ◌++◌, All, Contains, length, map, take, get_or, slice_index, cond, eqb, refl, sym, ap, subst, arith}
use Rattle.std.proofs.lemmas.List.{length-map, take_more, get_or_default}
use Rattle.std.proofs.lemmas.List.Elements.{All-push}
use Rattle.std.proofs.Math.Decide.{ℕ_discrete}
use Rattle.maid_model.specs.declared.answers.Ratio.{Ratio}
use Rattle.maid_model.specs.declared.answers.Row.{Row}
use Rattle.maid_model.specs.Answers.{FitsAnswer, FitsAnswers, IsAnswer, IsAnswerAt, IsBase, IsFraction, pure_profile, rows_at}
use Rattle.maid_model.specs.Gains.{gain_of, mass}
use Rattle.maid_model.specs.Nodes.{rows_of, states_of}
use Rattle.maid_model.specs.Placing.{IsRelianceOrder}
use Rattle.maid_model.specs.Relevance.{ReliesOn}
use Rattle.maid_model.specs.Views.{NodeView, DiagramView, RuleView, AnswerView}
use Rattle.maid_laws.proofs.Booleans.{eqb_yes}
use Rattle.rule_solver.specs.Answered.{AnswersAll, IsAnsweredBy}
use Rattle.rule_solver.specs.Masses.{HasGains}
use Rattle.rule_solver.proofs.AnsweredRules.{rule_stays}
use Rattle.rule_solver.proofs.BaseLemmas.{decided, same_then}
use Rattle.rule_solver.proofs.Members.{head_or_rest}
use Rattle.rule_solver.proofs.Orders.{IsClosed, first_closed, relied_before, order_differs, placed_decision}
use Rattle.rule_solver.proofs.Equals.{no_at}

-- what holds of each answer holds of the rows found at a decision
pub rows_found : (P : ℕ → List Row → Type 0) (answers : List AnswerView) → All (λ a. P a.decision a.rows) answers → (v : ℕ) → Contains (map (λ a. a.decision) answers) v → P v (rows_at answers v)
rows_found P [] all v c = absurd (omega (arith, c.1))
rows_found P (a ∷ answers) all v c = go (ℕ_discrete a.decision v) (rows_found P answers (λ k e h. all (suc k) e (omega arith)) v)
  where
    later : (a.decision ≡ v → ⊥) → (a.decision ≡ v) ⊎ Contains (map (λ a. a.decision) answers) v → Contains (map (λ a. a.decision) answers) v
    later n (inl e) = absurd (n e)
    later n (inr m) = m

    some : 0 < length (a ∷ answers)
    some = omega arith

    go : Dec (a.decision ≡ v) → (Contains (map (λ a. a.decision) answers) v → P v (rows_at answers v)) → P v (cond (eqb a.decision v) a.rows (rows_at answers v))
    go (yes e) r = subst (λ b. P v (cond b a.rows (rows_at answers v))) (sym (eqb_yes a.decision v e)) (subst (λ u. P u a.rows) e (all 0 a some))
    go (no n) r = subst (λ b. P v (cond b a.rows (rows_at answers v))) (sym (no_at a.decision v n)) (r (later n (head_or_rest a.decision (map (λ a. a.decision) answers) v c)))

-- the decision of an answer is that of its place in the order
decision_at : (answers : List AnswerView) (k : ℕ) (e : AnswerView) → k < length answers → slice_index (decided answers) k ≡ (get_or answers k e).decision
decision_at [] k e h = absurd (omega arith)
decision_at (a ∷ answers) zero e h = refl
decision_at (a ∷ answers) (suc k) e h = decision_at answers k e (omega arith)

pub listed : (answers : List AnswerView) (k : ℕ) (e : AnswerView) → k < length answers → Contains (decided answers) (get_or answers k e).decision
listed answers k e h =
    let inside : k < length (decided answers) = subst (λ n. k < n) (sym (length-map answers (λ (a : AnswerView). a.decision))) h in
    (k, inside, get_or_default (decided answers) k (get_or answers k e).decision 0 inside ∙ decision_at answers k e h)

-- an answer stays one when more is answered, since the rules on which it relies stay
answer_stays : (nodes : List NodeView) (decimals : ℕ) (answers : List AnswerView) (a : AnswerView) (v : ℕ) (rows : List Row) → ((e : ℕ) → ReliesOn nodes v e → Contains (decided answers) e)
    → IsAnswerAt nodes decimals (pure_profile nodes answers) v rows → IsAnswerAt nodes decimals (pure_profile nodes (answers ++ a ∷ [])) v rows
answer_stays nodes decimals answers a v rows relied h = record {
  base = h.base;
  is_base = record {
    profile = h.is_base.profile;
    relied = λ e r. same_then h.base (pure_profile nodes answers) (pure_profile nodes (answers ++ a ∷ [])) e (h.is_base.relied e r) (rule_stays nodes answers a e r.on_decision (relied e r));
    others = h.is_base.others;
  };
  each = h.each;
}

-- one more answered decision
pub answers-push-all : (nodes : List NodeView) (decimals : ℕ) (order : List ℕ) (i : ℕ) (answers : List AnswerView) (base : List RuleView) (rows : List Row) → IsRelianceOrder nodes order → i < length order → AnswersAll nodes decimals (take i order) answers
    → IsBase nodes (pure_profile nodes answers) (slice_index order i) base → IsAnsweredBy nodes decimals base (slice_index order i) rows
    → AnswersAll nodes decimals (take (i + 1) order) (answers ++ record { decision = slice_index order i; rows = rows } ∷ [])
answers-push-all nodes decimals order i answers base rows is_order h so is_base is = record {
  follow = map_more answers ∙ ap (λ l. l ++ slice_index order i ∷ []) so.follow ∙ sym (take_more order i 0 h);
  fits = All-push (FitsAnswer nodes) answers new so.fits (record { decision = placed_decision nodes order is_order i h; rows = is.count; choices = is.choices; worths = is.worths });
  each = All-push (λ (x : AnswerView). IsAnswerAt nodes decimals (pure_profile nodes (answers ++ new ∷ [])) x.decision x.rows) answers new
      (λ k e l. answer_stays nodes decimals answers new (get_or answers k e).decision (get_or answers k e).rows (λ u r. closed (get_or answers k e).decision u (listed answers k e l) r) (so.each k e l))
      (answer_stays nodes decimals answers new (slice_index order i) rows (λ u r. subst (λ l. Contains l u) (sym so.follow) (relied_before nodes order is_order i h u r)) (record { base = base; is_base = is_base; each = is.each }));
}
  where
    new : AnswerView
    new = record { decision = slice_index order i; rows = rows }

    closed : IsClosed nodes (decided answers)
    closed = subst (IsClosed nodes) (sym so.follow) (first_closed nodes order is_order i)

    map_more : (answers : List AnswerView) → map (λ a. a.decision) (answers ++ record { decision = slice_index order i; rows = rows } ∷ []) ≡ map (λ a. a.decision) answers ++ slice_index order i ∷ []
    map_more [] = refl
    map_more (x ∷ answers) = ap (λ l. x.decision ∷ l) (map_more answers)

-- at first nothing is answered
pub answers-none : (nodes : List NodeView) (decimals : ℕ) (order : List ℕ) → AnswersAll nodes decimals (take 0 order) []
answers-none nodes decimals order = record { follow = none order; fits = λ k e h. absurd (omega arith); each = λ k e h. absurd (omega arith) }
  where
    none : (xs : List ℕ) → [] ≡ take 0 xs
    none [] = refl
    none (x ∷ xs) = refl

pub answers_fit : (nodes : List NodeView) (decimals : ℕ) (order : List ℕ) (answers : List AnswerView) → IsRelianceOrder nodes order → AnswersAll nodes decimals order answers → FitsAnswers nodes answers
answers_fit nodes decimals order answers is_order h v is =
    rows_found (λ u rows. (length rows ≡ rows_of nodes u) × All (λ r. r.choice < states_of nodes u) rows) answers (λ k e l. ((h.fits k e l).rows, (h.fits k e l).choices)) v (subst (λ list. Contains list v) (sym h.follow) (is_order.complete v is))

pub is_answer : (d : DiagramView) (profile : List RuleView) (order : List ℕ) (answers : List AnswerView) (gains : List Ratio) → profile ≡ pure_profile d.nodes answers → IsRelianceOrder d.nodes order
    → AnswersAll d.nodes d.decimals order answers → HasGains d profile d.agents gains → IsAnswer d (record { order = order; answers = answers; gains = gains })
is_answer d profile order answers gains pure is_order h g = record {
  fits = record {
    follow = h.follow;
    answers = h.fits;
    all = λ v is. is_order.complete v is;
    once = order_differs d.nodes order is_order;
    gains = g.count;
    reduced = g.reduced;
  };
  order = is_order;
  answers = λ v is. rows_found (IsAnswerAt d.nodes d.decimals (pure_profile d.nodes answers)) answers h.each v (subst (λ list. Contains list v) (sym h.follow) (is_order.complete v is));
  gains = record { each = λ agent r i. subst (λ p. IsFraction (get_or gains agent r) (gain_of d.nodes p agent) (mass d.nodes p * 10 ^ d.decimals)) pure (g.each agent r i) };
}
