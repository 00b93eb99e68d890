-- A base that is made of uniform rules, answer by answer.
use Rattle.std.proofs.Common.{◌≡◌, ◌∙◌, ◌⊎◌, ℕ, zero, suc, ◌+◌, ◌<◌, ◌≤◌, List, [], ◌∷◌, ◌++◌, All, map, length, take, Contains, get_or, sym, ap, subst, inl, inr, arith}
use Rattle.std.proofs.Math.Decide.{ℕ_discrete}
use Rattle.std.proofs.lemmas.List.{length-map, take_more}
use Rattle.std.proofs.lemmas.List.Elements.{Contains-append_left, Contains-push, Contains-push_cases}
use Rattle.maid_model.specs.Answers.{FitsAnswer, IsBase, pure_profile}
use Rattle.maid_model.specs.Graph.{AllDifferent}
use Rattle.maid_model.specs.Nodes.{IsDecision, states_of}
use Rattle.maid_model.specs.Profiles.{IsProfile, SameRule, Replaces, pure_rule, uniform_profile}
use Rattle.maid_model.specs.Relevance.{ReliesOn}
use Rattle.maid_model.specs.Tables.{rule_total}
use Rattle.maid_model.specs.Views.{NodeView, RuleView, AnswerView}
use Rattle.rule_solver.specs.Masses.{KeepsStates}
use Rattle.rule_solver.proofs.AnsweredRules.{answered_weights, answered_total, own_rows}
use Rattle.rule_solver.proofs.Members.{taken_whole}

abbrev pub decided : List AnswerView → List ℕ
decided answers = map (λ a. a.decision) answers

-- the rule that takes the choices of an answer
abbrev pub rule_of : List NodeView → AnswerView → RuleView
rule_of nodes a = pure_rule nodes a.decision (map (λ r. r.choice) a.rows)

pub fits_at : (nodes : List NodeView) (answers : List AnswerView) (i : ℕ) (a : AnswerView) → All (FitsAnswer nodes) answers → i < length answers → get_or answers i a ≡ a → FitsAnswer nodes a
fits_at nodes answers i a all h e = subst (FitsAnswer nodes) e (all i a h)

pub same_then : (p q r : List RuleView) (v : ℕ) → SameRule p q v → SameRule q r v → SameRule p r v
same_then p q r v a b = record { weights = a.weights ∙ b.weights; total = a.total ∙ b.total }

-- the base has the answered rules at those of the first n answered decisions that d relies on, and
-- uniform rules elsewhere
pub record BaseSoFar (nodes : List NodeView) (answers : List AnswerView) (d n : ℕ) (base : List RuleView) : Type 0 where
  pub profile : IsProfile nodes base
  pub room : KeepsStates nodes base
  pub relied : (e : ℕ) → Contains (take n (decided answers)) e → ReliesOn nodes d e → SameRule base (pure_profile nodes answers) e
  pub others : (e : ℕ) → IsDecision nodes e → (Contains (take n (decided answers)) e → ReliesOn nodes d e → ⊥) → SameRule base (uniform_profile nodes) e

module _ (nodes : List NodeView) (answers : List AnswerView) (d : ℕ) where
  module _ (n : ℕ) (base : List RuleView) (so : BaseSoFar nodes answers d n base) (a : AnswerView) (h : n < length answers) (at : get_or answers n a ≡ a) where
    inside : n < length (decided answers)
    inside = subst (λ k. n < k) (sym (length-map answers (λ (x : AnswerView). x.decision))) h

    decision_at : (answers : List AnswerView) (n : ℕ) → n < length answers → get_or answers n a ≡ a → get_or (decided answers) n 0 ≡ a.decision
    decision_at [] n l e = absurd (omega arith)
    decision_at (x ∷ answers) zero l e = ap (λ (y : AnswerView). y.decision) e
    decision_at (x ∷ answers) (suc n) l e = decision_at answers n (omega arith) e

    one_more : take (n + 1) (decided answers) ≡ take n (decided answers) ++ a.decision ∷ []
    one_more = take_more (decided answers) n 0 inside ∙ ap (λ v. take n (decided answers) ++ v ∷ []) (decision_at answers n h at)

    cases : (e : ℕ) → Contains (take (n + 1) (decided answers)) e → Contains (take n (decided answers)) e ⊎ (a.decision ≡ e)
    cases e c = Contains-push_cases (take n (decided answers)) a.decision e (subst (λ l. Contains l e) one_more c)

    earlier : (e : ℕ) → Contains (take n (decided answers)) e → Contains (take (n + 1) (decided answers)) e
    earlier e c = subst (λ l. Contains l e) (sym one_more) (Contains-append_left (take n (decided answers)) (a.decision ∷ []) e c)

    last : Contains (take (n + 1) (decided answers)) a.decision
    last = subst (λ l. Contains l a.decision) (sym one_more) (Contains-push (take n (decided answers)) a.decision)

    -- an answer on which d does not rely
    pub base_skip : (ReliesOn nodes d a.decision → ⊥) → BaseSoFar nodes answers d (n + 1) base
    base_skip none = record {
      profile = so.profile;
      room = so.room;
      relied = λ e c r. go e r (cases e c);
      others = λ e is out. so.others e is (λ c. out (earlier e c));
    }
      where
        go : (e : ℕ) → ReliesOn nodes d e → Contains (take n (decided answers)) e ⊎ (a.decision ≡ e) → SameRule base (pure_profile nodes answers) e
        go e r (inl c) = so.relied e c r
        go e r (inr f) = absurd (none (subst (ReliesOn nodes d) (sym f) r))

    -- an answer on which d relies: its rule is put in
    pub base_put : (base' : List RuleView) → Replaces base base' (rule_of nodes a) → FitsAnswer nodes a → AllDifferent (decided answers) → ReliesOn nodes d a.decision
        → IsProfile nodes base' → BaseSoFar nodes answers d (n + 1) base'
    base_put base' put fits different relies profile = record {
      profile = profile;
      room = λ v is. room v is (ℕ_discrete v a.decision);
      relied = λ e c r. relied e r (cases e c) (ℕ_discrete e a.decision);
      others = λ e is out. same_then base' base (uniform_profile nodes) e (put.others e (apart e out)) (so.others e is (λ c. out (earlier e c)));
    }
      where
        -- the rule that stood there has a positive total, which is at most the count of states
        some : (v : ℕ) → IsDecision nodes v → 1 ≤ states_of nodes v
        some v is = chain (rule_total base v) (states_of nodes v) ((so.profile.rule v is).positive) (so.room v is)
          where
            chain : (t n : ℕ) → 0 < t → t ≤ n → 1 ≤ n
            chain t n h k = omega arith

        room : (v : ℕ) → IsDecision nodes v → Dec (v ≡ a.decision) → rule_total base' v ≤ states_of nodes v
        room v is (yes e) = subst (λ n. n ≤ states_of nodes v) (sym (ap (rule_total base') e ∙ put.total)) (some v is)
        room v is (no m) = subst (λ n. n ≤ states_of nodes v) (sym ((put.others v m).total)) (so.room v is)

        own : SameRule base' (pure_profile nodes answers) a.decision
        own = record {
          weights = put.weights ∙ ap (λ rows. (pure_rule nodes a.decision (map (λ r. r.choice) rows)).weights) (sym (own_rows answers n a different h at)) ∙ sym (answered_weights nodes answers a.decision fits.decision);
          total = put.total ∙ sym (answered_total nodes answers a.decision fits.decision);
        }

        relied : (e : ℕ) → ReliesOn nodes d e → Contains (take n (decided answers)) e ⊎ (a.decision ≡ e) → Dec (e ≡ a.decision) → SameRule base' (pure_profile nodes answers) e
        relied e r c (yes f) = subst (SameRule base' (pure_profile nodes answers)) (sym f) own
        relied e r (inl c) (no m) = same_then base' base (pure_profile nodes answers) e (put.others e m) (so.relied e c r)
        relied e r (inr f) (no m) = absurd (m (sym f))

        apart : (e : ℕ) → (Contains (take (n + 1) (decided answers)) e → ReliesOn nodes d e → ⊥) → e ≡ a.decision → ⊥
        apart e out f = out (subst (Contains (take (n + 1) (decided answers))) (sym f) last) (subst (ReliesOn nodes d) (sym f) relies)

  -- in the end it is the base
  pub base_end : (n : ℕ) (base : List RuleView) → BaseSoFar nodes answers d n base → length answers ≤ n → ((e : ℕ) → ReliesOn nodes d e → Contains (decided answers) e) → IsBase nodes (pure_profile nodes answers) d base
  base_end n base so h relied = record {
    profile = so.profile;
    relied = λ e r. so.relied e (subst (λ l. Contains l e) (sym (taken_whole (decided answers) n long)) (relied e r)) r;
    others = λ e is none. so.others e is (λ c r. none r);
  }
    where
      long : length (decided answers) ≤ n
      long = subst (λ k. k ≤ n) (sym (length-map answers (λ (x : AnswerView). x.decision))) h
