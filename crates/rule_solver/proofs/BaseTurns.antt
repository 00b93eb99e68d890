-- A base that goes from decision to decision: rules are put in where the next decision asks for
-- others.
use Rattle.std.proofs.Common.{◌≡◌, ◌∙◌, ◌⊎◌, ◌↔◌, ℕ, zero, suc, ◌+◌, ◌<◌, ◌≤◌, Bool, true, false, List, [], ◌∷◌, ◌++◌, map, length, Contains, get_or, set, slice_index, refl, sym, ap, subst, inl, inr, arith}
use Rattle.std.proofs.Math.Decide.{ℕ_discrete}
use Rattle.std.proofs.lemmas.List.{get_or_default, get_or-set_other, get_or-set_same, length-map, length-set}
use Rattle.std.proofs.lemmas.List.Elements.{Contains-append_left}
use Rattle.maid_model.specs.Answers.{IsBase, pure_profile}
use Rattle.maid_model.specs.Graph.{AllDifferent}
use Rattle.maid_model.specs.Nodes.{IsDecision, decisions_of, node_at, states_of}
use Rattle.maid_model.specs.Profiles.{IsProfile, IsRule, SameRule, Replaces, pure_rule, uniform_rule, uniform_profile}
use Rattle.maid_model.specs.Relevance.{ReliesOn}
use Rattle.maid_model.specs.Tables.{chance_total, rule_total, total_by, weight_total, weights_of}
use Rattle.maid_model.specs.Views.{NodeView, RuleView, AnswerView}
use Rattle.node_sets.specs.declared.sets.NodeSet.{NodeSet}
use Rattle.node_sets.specs.Sets.{IsIn, holds}
use Rattle.rule_solver.specs.declared.bases.TurningBase.{TurningBase}
use Rattle.rule_solver.specs.Bases.{IsMixed, IsTurningBase, Turns}
use Rattle.rule_solver.specs.Masses.{KeepsStates}
use Rattle.rule_solver.specs.Totals.{HasTotals}
use Rattle.rule_solver.proofs.AnsweredRules.{answered_weights, answered_total, made_weights, made_total, own_rows, rule_stays}
use Rattle.rule_solver.proofs.BaseLemmas.{decided, rule_of, same_then}
use Rattle.rule_solver.proofs.Members.{decision_listed}

is_true : (b : Bool) → (b ≡ true) ⊎ (b ≡ true → ⊥)
is_true true = inl refl
is_true false = inr (λ (e : false ≡ true). cc)

-- ---- which decisions have answered rules
pub turns_in : (v : ℕ) (old new : NodeSet) → ((e : ℕ) → IsIn new e ↔ (IsIn old e ⊎ (e ≡ v))) → Turns v true old new
turns_in v old new h = record {
  own = ((λ i. refl), (λ t. (h v).1 (inr refl)));
  others = λ e n. ((λ i. go e n ((h e).0 i)), (λ i. (h e).1 (inl i)));
}
  where
    go : (e : ℕ) → (e ≡ v → ⊥) → IsIn old e ⊎ (e ≡ v) → IsIn old e
    go e n (inl i) = i
    go e n (inr f) = absurd (n f)

pub turns_out : (v : ℕ) (old new : NodeSet) → ((e : ℕ) → IsIn new e ↔ (IsIn old e × (e ≡ v → ⊥))) → Turns v false old new
turns_out v old new h = record {
  own = ((λ i. absurd (((h v).0 i).1 refl)), (λ (t : false ≡ true). cc));
  others = λ e n. ((λ i. ((h e).0 i).0), (λ i. (h e).1 (i, n)));
}

pub turns_stay : (v : ℕ) (relied : Bool) (old : NodeSet) → holds old v ≡ relied → Turns v relied old old
turns_stay v relied old h = record {
  own = ((λ i. sym h ∙ i), (λ t. h ∙ t));
  others = λ e n. ((λ i. i), (λ i. i));
}

-- the first decisions are turned
pub record TurnedTo (nodes : List NodeView) (d : ℕ) (listed : List ℕ) (place : ℕ) (held : NodeSet) : Type 0 where
  pub each : (k : ℕ) → k < place → IsIn held (slice_index listed k) ↔ ReliesOn nodes d (slice_index listed k)

pub turned_more : (nodes : List NodeView) (d : ℕ) (listed : List ℕ) (place : ℕ) (held held' : NodeSet) (relied : Bool) → TurnedTo nodes d listed place held → Turns (slice_index listed place) relied held held'
    → (relied ≡ true) ↔ ReliesOn nodes d (slice_index listed place) → TurnedTo nodes d listed (place + 1) held'
turned_more nodes d listed place held held' relied so turns is = record { each = λ k h. go k h (ℕ_discrete (slice_index listed k) (slice_index listed place)) }
  where
    before : (k : ℕ) → k < place + 1 → (k ≡ place → ⊥) → k < place
    before k h n = omega (arith, h, n)

    go : (k : ℕ) → k < place + 1 → Dec (slice_index listed k ≡ slice_index listed place) → IsIn held' (slice_index listed k) ↔ ReliesOn nodes d (slice_index listed k)
    go k h (yes e) = subst (λ v. IsIn held' v ↔ ReliesOn nodes d v) (sym e) ((λ i. is.0 (turns.own.0 i)), (λ r. turns.own.1 (is.1 r)))
    go k h (no n) =
        let old = so.each k (before k h (λ f. n (ap (slice_index listed) f))) in
        ((λ i. old.0 ((turns.others (slice_index listed k) n).0 i)), (λ r. (turns.others (slice_index listed k) n).1 (old.1 r)))

-- in the end all are
pub turned_all : (nodes : List NodeView) (d : ℕ) (listed : List ℕ) (place : ℕ) (held : NodeSet) → length listed ≤ place → TurnedTo nodes d listed place held → (e : ℕ) → Contains listed e → IsIn held e ↔ ReliesOn nodes d e
turned_all nodes d listed place held h so e c =
    subst (λ v. IsIn held v ↔ ReliesOn nodes d v) (get_or_default listed c.0 0 e c.1 ∙ c.2) (so.each c.0 (omega (arith, h, c.1)))

-- the decision of an answer is that of its place
pub decided_at : (answers : List AnswerView) (k : ℕ) (a : AnswerView) → k < length answers → get_or answers k a ≡ a → slice_index (decided answers) k ≡ a.decision
decided_at [] k a h e = absurd (omega arith)
decided_at (x ∷ answers) zero a h e = ap (λ (y : AnswerView). y.decision) e
decided_at (x ∷ answers) (suc k) a h e = decided_at answers k a (omega arith) e

in_decided : (answers : List AnswerView) (k : ℕ) (a : AnswerView) → k < length answers → get_or answers k a ≡ a → Contains (decided answers) a.decision
in_decided answers k a h e =
    (k, subst (λ n. k < n) (sym (length-map answers (λ (x : AnswerView). x.decision))) h, found answers k h e)
  where
    found : (answers : List AnswerView) (k : ℕ) → k < length answers → get_or answers k a ≡ a → get_or (decided answers) k a.decision ≡ a.decision
    found [] k h e = absurd (omega arith)
    found (x ∷ answers) zero h e = ap (λ (y : AnswerView). y.decision) e
    found (x ∷ answers) (suc k) h e = found answers k (omega arith) e

-- a rule is put in, and its total in the place of the last one's
pub totals_put : (nodes : List NodeView) (p q : List RuleView) (rule : RuleView) (totals : List ℕ) → HasTotals nodes p totals → Replaces p q rule → IsDecision nodes rule.decision → HasTotals nodes q (set totals rule.decision rule.total)
totals_put nodes p q rule totals so put is = record {
  count = length-set totals rule.decision rule.total ∙ so.count;
  each = λ v h. go v h (ℕ_discrete v rule.decision);
}
  where
    inside : rule.decision < length totals
    inside = subst (λ n. rule.decision < n) (sym so.count) is.within

    go : (v : ℕ) → v < length nodes → Dec (v ≡ rule.decision) → slice_index (set totals rule.decision rule.total) v ≡ weight_total nodes q v
    go v h (yes e) =
        ap (slice_index (set totals rule.decision rule.total)) e ∙ get_or-set_same totals rule.decision rule.total 0 inside ∙ sym put.total
        ∙ sym (ap (λ k. total_by k (chance_total nodes rule.decision) (rule_total q rule.decision)) is.kind) ∙ sym (ap (weight_total nodes q) e)
    go v h (no n) =
        get_or-set_other totals rule.decision v rule.total 0 n ∙ so.each v h
        ∙ sym (ap (total_by (node_at nodes v).kind (chance_total nodes v)) (put.others v n).total)

-- at first nothing is answered, and all rules are uniform
pub mixed_start : (nodes : List NodeView) (held : NodeSet) (base : List RuleView) → base ≡ uniform_profile nodes → IsProfile nodes base → ((x : ℕ) → IsIn held x → ⊥) → IsMixed nodes [] held base
mixed_start nodes held base is profile none = record {
  profile = profile;
  plain = subst (IsProfile nodes) is profile;
  answered = λ e i. absurd (none e i);
  pure = λ e i d. absurd (none e i);
  uniform = λ e d out. record { weights = ap (λ p. weights_of p e) is; total = ap (λ p. rule_total p e) is };
}

module _ (nodes : List NodeView) (answers : List AnswerView) (held : NodeSet) (base : List RuleView) (so : IsMixed nodes answers held base) where
  -- more is answered
  mixed_more : (a : AnswerView) → IsMixed nodes (answers ++ a ∷ []) held base
  mixed_more a = record {
    profile = so.profile;
    plain = so.plain;
    answered = λ e i. subst (λ l. Contains l e) (sym (map_more answers)) (Contains-append_left (decided answers) (a.decision ∷ []) e (so.answered e i));
    pure = λ e i d. same_then base (pure_profile nodes answers) (pure_profile nodes (answers ++ a ∷ [])) e (so.pure e i d) (rule_stays nodes answers a e d (so.answered e i));
    uniform = so.uniform;
  }
    where
      map_more : (answers : List AnswerView) → decided (answers ++ a ∷ []) ≡ decided answers ++ a.decision ∷ []
      map_more [] = refl
      map_more (x ∷ answers) = ap (λ l. x.decision ∷ l) (map_more answers)

  -- the rule of an answer is put in
  pub mixed_put : (k : ℕ) (a : AnswerView) (base' : List RuleView) (held' : NodeSet) → AllDifferent (decided answers) → k < length answers → get_or answers k a ≡ a → Replaces base base' (rule_of nodes a) → IsProfile nodes base'
      → ((x : ℕ) → IsIn held' x ↔ (IsIn held x ⊎ (x ≡ a.decision))) → IsMixed nodes answers held' base'
  mixed_put k a base' held' different h at put profile adds = record {
    profile = profile;
    plain = so.plain;
    answered = λ e i. listed e ((adds e).0 i);
    pure = λ e i d. pure e d ((adds e).0 i) (ℕ_discrete e a.decision);
    uniform = λ e d out. same_then base' base (uniform_profile nodes) e (put.others e (λ f. out ((adds e).1 (inr f)))) (so.uniform e d (λ i. out ((adds e).1 (inl i))));
  }
    where
      listed : (e : ℕ) → IsIn held e ⊎ (e ≡ a.decision) → Contains (decided answers) e
      listed e (inl i) = so.answered e i
      listed e (inr f) = subst (Contains (decided answers)) (sym f) (in_decided answers k a h at)

      own : IsDecision nodes a.decision → SameRule base' (pure_profile nodes answers) a.decision
      own d = record {
        weights = put.weights ∙ ap (λ rows. (pure_rule nodes a.decision (map (λ r. r.choice) rows)).weights) (sym (own_rows answers k a different h at)) ∙ sym (answered_weights nodes answers a.decision d);
        total = put.total ∙ sym (answered_total nodes answers a.decision d);
      }

      pure : (e : ℕ) → IsDecision nodes e → IsIn held e ⊎ (e ≡ a.decision) → Dec (e ≡ a.decision) → SameRule base' (pure_profile nodes answers) e
      pure e d i (yes f) = subst (SameRule base' (pure_profile nodes answers)) (sym f) (own (subst (IsDecision nodes) f d))
      pure e d (inl i) (no n) = same_then base' base (pure_profile nodes answers) e (put.others e n) (so.pure e i d)
      pure e d (inr f) (no n) = absurd (n f)

  -- a uniform rule is put back
  pub mixed_back : (v : ℕ) (base' : List RuleView) (held' : NodeSet) → IsDecision nodes v → Replaces base base' (uniform_rule nodes v) → IsProfile nodes base'
      → ((x : ℕ) → IsIn held' x ↔ (IsIn held x × (x ≡ v → ⊥))) → IsMixed nodes answers held' base'
  mixed_back v base' held' is put profile drops = record {
    profile = profile;
    plain = so.plain;
    answered = λ e i. so.answered e ((drops e).0 i).0;
    pure = λ e i d. same_then base' base (pure_profile nodes answers) e (put.others e ((drops e).0 i).1) (so.pure e ((drops e).0 i).0 d);
    uniform = λ e d out. plain e d out (ℕ_discrete e v);
  }
    where
      own : SameRule base' (uniform_profile nodes) v
      own = record {
        weights = put.weights ∙ sym (made_weights (uniform_rule nodes) (λ u. refl) (decisions_of nodes) v (decision_listed nodes v is));
        total = put.total ∙ sym (made_total (uniform_rule nodes) (λ u. refl) (decisions_of nodes) v (decision_listed nodes v is));
      }

      plain : (e : ℕ) → IsDecision nodes e → (IsIn held' e → ⊥) → Dec (e ≡ v) → SameRule base' (uniform_profile nodes) e
      plain e d out (yes f) = subst (SameRule base' (uniform_profile nodes)) (sym f) own
      plain e d out (no n) = same_then base' base (uniform_profile nodes) e (put.others e n) (so.uniform e d (λ i. out ((drops e).1 (i, n))))

  -- the uniform rule of a decision is a rule
  pub plain_rule : (v : ℕ) → IsDecision nodes v → IsRule nodes (uniform_rule nodes v)
  plain_rule v is =
      subst (λ (r : RuleView). IsRule nodes r)
      (λ i. record {
        decision = v;
        total = made_total (uniform_rule nodes) (λ u. refl) (decisions_of nodes) v (decision_listed nodes v is) i;
        weights = made_weights (uniform_rule nodes) (λ u. refl) (decisions_of nodes) v (decision_listed nodes v is) i;
      })
      (so.plain.rule v is)

  -- no rule's total is more than its decision has states
  pub mixed_room : KeepsStates nodes base
  mixed_room e d = go (is_true (holds held e))
    where
      total : rule_total (uniform_profile nodes) e ≡ states_of nodes e
      total = made_total (uniform_rule nodes) (λ u. refl) (decisions_of nodes) e (decision_listed nodes e d)

      some : 0 < rule_total (uniform_profile nodes) e
      some = (so.plain.rule e d).positive

      go : (holds held e ≡ true) ⊎ (holds held e ≡ true → ⊥) → rule_total base e ≤ states_of nodes e
      go (inl i) = let t = (so.pure e i d).total in let one = answered_total nodes answers e d in omega (arith, t, one, total, some)
      go (inr o) = let t = (so.uniform e d o).total in omega (arith, t, total)

  -- with the answered rules at just the decisions that d relies on it is the base of d
  pub mixed_base : (d : ℕ) → ((e : ℕ) → ReliesOn nodes d e → Contains (decided answers) e) → ((e : ℕ) → Contains (decided answers) e → IsIn held e ↔ ReliesOn nodes d e) → IsBase nodes (pure_profile nodes answers) d base
  mixed_base d relied same = record {
    profile = so.profile;
    relied = λ e r. so.pure e ((same e (relied e r)).1 r) r.on_decision;
    others = λ e is none. so.uniform e is (λ i. none ((same e (so.answered e i)).0 i));
  }

-- more is answered, and the base stays
pub turning_more : (nodes : List NodeView) (answers : List AnswerView) (base : TurningBase) → IsTurningBase nodes answers base → (a : AnswerView) → IsTurningBase nodes (answers ++ a ∷ []) base
turning_more nodes answers base so a = record { mixed = mixed_more nodes answers base.held base.profile so.mixed a; has_totals = so.has_totals }
