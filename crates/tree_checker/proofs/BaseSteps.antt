-- A base is made of uniform rules, into which the chosen rules of the relied-on decisions are put.
use Rattle.std.proofs.Common.{◌≡◌, ◌∙◌, ◌⊎◌, ◌↔◌, ℕ, ◌+◌, ◌<◌, ◌≤◌, List, [], ◌∷◌, ◌++◌, take, length, get_or, sym, subst, inl, inr}
use Rattle.std.proofs.Math.Decide.{ℕ_discrete}
use Rattle.std.proofs.lemmas.List.{take_more, take_all}
use Rattle.std.proofs.lemmas.List.Elements.{Contains-append_left, Contains-push, Contains-push_cases}
use Rattle.std.specs.Prelude.{Contains}
use Rattle.maid_model.specs.Answers.{IsBase}
use Rattle.maid_model.specs.Nodes.{IsDecision}
use Rattle.maid_model.specs.Profiles.{IsProfile, SameRule, Replaces, uniform_profile}
use Rattle.maid_model.specs.Relevance.{ReliesOn}
use Rattle.maid_model.specs.Tables.{weights_of, rule_total}
use Rattle.maid_model.specs.Views.{NodeView, RuleView}

-- the base has the chosen rules at the first n relied-on decisions, and uniform rules elsewhere
pub record BaseSoFar (nodes : List NodeView) (chosen : List RuleView) (relied : List ℕ) (n : ℕ) (base : List RuleView) : Type 0 where
  pub profile : IsProfile nodes base
  pub same : (e : ℕ) → Contains (take n relied) e → SameRule base chosen e
  pub others : (e : ℕ) → IsDecision nodes e → (Contains (take n relied) e → ⊥) → SameRule base (uniform_profile nodes) e

-- the chosen rule of a decision
abbrev pub chosen_rule : List RuleView → ℕ → RuleView
chosen_rule chosen e = record { decision = e; total = rule_total chosen e; weights = weights_of chosen e }

module _ (nodes : List NodeView) (chosen : List RuleView) (relied : List ℕ) where
  -- the next relied-on decision's rule is put in
  pub base_put : (n : ℕ) (base base' : List RuleView) → BaseSoFar nodes chosen relied n base → n < length relied → Replaces base base' (chosen_rule chosen (get_or relied n 0)) → IsProfile nodes base' → BaseSoFar nodes chosen relied (n + 1) base'
  base_put n base base' so h put profile = record {
    profile = profile;
    same = λ e c. same e (cases e c) (ℕ_discrete e v);
    others = λ e k out.
        let other = put.others e (λ f. out (subst (Contains (take (n + 1) relied)) (sym f) last)) in
        let before = so.others e k (λ c. out (earlier e c)) in
        record { weights = other.weights ∙ before.weights; total = other.total ∙ before.total };
  }
    where
      v : ℕ
      v = get_or relied n 0

      one_more : take (n + 1) relied ≡ take n relied ++ v ∷ []
      one_more = take_more relied n 0 h

      cases : (e : ℕ) → Contains (take (n + 1) relied) e → Contains (take n relied) e ⊎ (v ≡ e)
      cases e c = Contains-push_cases (take n relied) v e (subst (λ l. Contains l e) one_more c)

      earlier : (e : ℕ) → Contains (take n relied) e → Contains (take (n + 1) relied) e
      earlier e c = subst (λ l. Contains l e) (sym one_more) (Contains-append_left (take n relied) (v ∷ []) e c)

      last : Contains (take (n + 1) relied) v
      last = subst (λ l. Contains l v) (sym one_more) (Contains-push (take n relied) v)

      same : (e : ℕ) → Contains (take n relied) e ⊎ (v ≡ e) → Dec (e ≡ v) → SameRule base' chosen e
      same e c (yes f) = subst (SameRule base' chosen) (sym f) (record { weights = put.weights; total = put.total })
      same e (inl c) (no m) = let other = put.others e m in let before = so.same e c in record { weights = other.weights ∙ before.weights; total = other.total ∙ before.total }
      same e (inr f) (no m) = absurd (m (sym f))

  -- in the end it is the base of the decision that relies on these
  pub base_end : (d n : ℕ) (base : List RuleView) → BaseSoFar nodes chosen relied n base → length relied ≤ n → ((e : ℕ) → Contains relied e ↔ ReliesOn nodes d e) → IsBase nodes chosen d base
  base_end d n base so h tells = record {
    profile = so.profile;
    relied = λ e r. so.same e (subst (λ l. Contains l e) (sym whole) ((tells e).1 r));
    others = λ e k none. so.others e k (λ c. none ((tells e).0 (subst (λ l. Contains l e) whole c)));
  }
    where
      whole : take n relied ≡ relied
      whole = take_all n relied h
