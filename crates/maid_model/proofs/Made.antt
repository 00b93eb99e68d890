-- A profile made node by node: a rule for each decision, by a function of the decision.
use Rattle.std.proofs.Common.{◌≡◌, ◌≢◌, ◌∙◌, ◌⊎◌, ℕ, suc, ◌+◌, ◌-◌, ◌<◌, ◌≤◌, Bool, false, cond, eqb, filter, List, [], ◌∷◌, ◌++◌, map, length, refl, sym, ap, subst, inl, inr, arith, append_assoc}
use Rattle.std.proofs.Math.Decide.{ℕ_discrete}
use Rattle.std.specs.List.{range_with_len}
use Rattle.maid_model.specs.declared.diagrams.Kind.{Kind}
use Rattle.maid_model.specs.declared.diagrams.Kind.TheVariants.{Chance, Decision, Utility}
use Rattle.maid_model.specs.Nodes.{IsDecision, node_at, is_decision, decisions_of}
use Rattle.maid_model.specs.Profiles.{IsProfile, IsRule}
use Rattle.maid_model.specs.Tables.{weights_of, rule_total}
use Rattle.maid_model.specs.Views.{NodeView, RuleView}
use Rattle.finite_sums.specs.Members.{Among}
use Rattle.maid_model.proofs.Members.{decision_listed}
use Rattle.maid_model.proofs.Found.{eqb_yes, eqb_no}

-- ---- it is a profile
made_weights : (rule : ℕ → RuleView) → ((v : ℕ) → (rule v).decision ≡ v) → (ds : List ℕ) (v : ℕ) → Among v ds → weights_of (map rule ds) v ≡ (rule v).weights
made_weights rule own [] v h = absurd h
made_weights rule own (d ∷ ds) v h = go (ℕ_discrete (rule d).decision v) h (made_weights rule own ds v)
  where
    go : Dec ((rule d).decision ≡ v) → (v ≡ d) ⊎ Among v ds → (Among v ds → weights_of (map rule ds) v ≡ (rule v).weights) → cond (eqb (rule d).decision v) (rule d).weights (weights_of (map rule ds) v) ≡ (rule v).weights
    go (yes e) m r = ap (λ b. cond b (rule d).weights (weights_of (map rule ds) v)) (eqb_yes (rule d).decision v e) ∙ ap (λ u. (rule u).weights) (sym (own d) ∙ e)
    go (no n) (inl e) r = absurd (n (own d ∙ sym e))
    go (no n) (inr m) r = ap (λ b. cond b (rule d).weights (weights_of (map rule ds) v)) (eqb_no (rule d).decision v n) ∙ r m

pub made_total : (rule : ℕ → RuleView) → ((v : ℕ) → (rule v).decision ≡ v) → (ds : List ℕ) (v : ℕ) → Among v ds → rule_total (map rule ds) v ≡ (rule v).total
made_total rule own [] v h = absurd h
made_total rule own (d ∷ ds) v h = go (ℕ_discrete (rule d).decision v) h (made_total rule own ds v)
  where
    go : Dec ((rule d).decision ≡ v) → (v ≡ d) ⊎ Among v ds → (Among v ds → rule_total (map rule ds) v ≡ (rule v).total) → cond (eqb (rule d).decision v) (rule d).total (rule_total (map rule ds) v) ≡ (rule v).total
    go (yes e) m r = ap (λ b. cond b (rule d).total (rule_total (map rule ds) v)) (eqb_yes (rule d).decision v e) ∙ ap (λ u. (rule u).total) (sym (own d) ∙ e)
    go (no n) (inl e) r = absurd (n (own d ∙ sym e))
    go (no n) (inr m) r = ap (λ b. cond b (rule d).total (rule_total (map rule ds) v)) (eqb_no (rule d).decision v n) ∙ r m

pub made_is_profile : (nodes : List NodeView) (rule : ℕ → RuleView) → ((v : ℕ) → (rule v).decision ≡ v) → ((v : ℕ) → IsDecision nodes v → IsRule nodes (record { decision = v; total = (rule v).total; weights = (rule v).weights })) → IsProfile nodes (map rule (decisions_of nodes))
made_is_profile nodes rule own is = record {
  decisions = back (decisions_of nodes);
  rule = λ v d. subst (IsRule nodes) (λ i. record { decision = v; total = sym (made_total rule own (decisions_of nodes) v (decision_listed nodes v d)) i; weights = sym (made_weights rule own (decisions_of nodes) v (decision_listed nodes v d)) i }) (is v d);
}
  where
    back : (ds : List ℕ) → map (λ r. r.decision) (map rule ds) ≡ ds
    back [] = refl
    back (d ∷ ds) = λ i. own d i ∷ back ds i

-- ---- made node by node
-- the rules so far, with those of the nodes from v on
pub record MadeSoFar (nodes : List NodeView) (rule : ℕ → RuleView) (rules : List RuleView) (v : ℕ) : Type 0 where
  pub rest : rules ++ map rule (filter (λ u. is_decision (node_at nodes u).kind) (range_with_len v (length nodes - v))) ≡ map rule (decisions_of nodes)

module _ (nodes : List NodeView) (rule : ℕ → RuleView) (rules : List RuleView) (v : ℕ) (s : MadeSoFar nodes rule rules v) (l : v < length nodes) where
  abbrev test : ℕ → Bool
  test u = is_decision (node_at nodes u).kind

  rest_next : range_with_len v (length nodes - v) ≡ v ∷ range_with_len (v + 1) (length nodes - (v + 1))
  rest_next = ap (range_with_len v) (one (length nodes) v l)
    where
      one : (n v : ℕ) → v < n → n - v ≡ suc (n - (v + 1))
      one n v l = omega arith

  -- a decision's rule is added, and nothing at another node
  pub made_step : (node_at nodes v).kind ≡ Decision → MadeSoFar nodes rule (rules ++ rule v ∷ []) (v + 1)
  made_step k = record {
    rest = append_assoc rules (rule v ∷ []) (map rule (filter test (range_with_len (v + 1) (length nodes - (v + 1)))))
        ∙ ap (λ b. rules ++ map rule (cond b (v ∷ filter test (range_with_len (v + 1) (length nodes - (v + 1)))) (filter test (range_with_len (v + 1) (length nodes - (v + 1)))))) (sym (ap is_decision k))
        ∙ ap (λ l. rules ++ map rule (filter test l)) (sym rest_next) ∙ s.rest;
  }

  skip : is_decision (node_at nodes v).kind ≡ false → MadeSoFar nodes rule rules (v + 1)
  skip k = record {
    rest = ap (λ b. rules ++ map rule (cond b (v ∷ filter test (range_with_len (v + 1) (length nodes - (v + 1)))) (filter test (range_with_len (v + 1) (length nodes - (v + 1)))))) (sym k)
        ∙ ap (λ l. rules ++ map rule (filter test l)) (sym rest_next) ∙ s.rest;
  }

  pub made_skip : ((node_at nodes v).kind ≢ Decision) → MadeSoFar nodes rule rules (v + 1)
  made_skip n = skip (other (node_at nodes v).kind n)
    where
      other : (k : Kind) → k ≢ Decision → is_decision k ≡ false
      other Chance n = refl
      other Decision n = absurd (n refl)
      other Utility n = refl

pub made_end : (nodes : List NodeView) (rule : ℕ → RuleView) (rules : List RuleView) (v : ℕ) → MadeSoFar nodes rule rules v → length nodes ≤ v → rules ≡ map rule (decisions_of nodes)
made_end nodes rule rules v s h = sym (append_nil rules) ∙ sym (ap (λ n. rules ++ map rule (filter (λ u. is_decision (node_at nodes u).kind) (range_with_len v n))) (none (length nodes) v h)) ∙ s.rest
  where
    none : (n v : ℕ) → n ≤ v → n - v ≡ 0
    none n v h = omega arith

    append_nil : (xs : List RuleView) → xs ++ [] ≡ xs
    append_nil [] = refl
    append_nil (x ∷ xs) = ap (λ l. x ∷ l) (append_nil xs)
