-- The rules of the profile of answered choices, and that they stay when more is answered.
use Rattle.std.proofs.Common.{◌≡◌, ◌∙◌, ◌⊎◌, ℕ, zero, suc, ◌<◌, cond, eqb, List, [], ◌∷◌, ◌++◌, map, length, Contains, get_or, refl, sym, ap, subst, inl, inr, arith}
use Rattle.std.proofs.Math.Decide.{ℕ_discrete}
use Rattle.maid_model.specs.Answers.{pure_profile, rows_at}
use Rattle.maid_model.specs.Graph.{AllDifferent}
use Rattle.maid_model.specs.Nodes.{IsDecision, decisions_of}
use Rattle.maid_model.specs.Profiles.{SameRule, pure_rule}
use Rattle.maid_model.specs.Tables.{weights_of, rule_total}
use Rattle.maid_model.specs.Views.{NodeView, RuleView, AnswerView}
use Rattle.maid_laws.proofs.Booleans.{eqb_yes}
use Rattle.rule_solver.proofs.Members.{after, head_or_rest, decision_listed}
use Rattle.rule_solver.proofs.Equals.{no_at}

-- ---- the rule of a profile that is made for each decision of a list
module _ (f : ℕ → RuleView) (own : (v : ℕ) → (f v).decision ≡ v) where
  pub made_weights : (ds : List ℕ) (v : ℕ) → Contains ds v → weights_of (map f ds) v ≡ (f v).weights
  made_weights [] v c = absurd (omega (arith, c.1))
  made_weights (d ∷ ds) v c = go (ℕ_discrete d v) (head_or_rest d ds v c) (made_weights ds v)
    where
      go : Dec (d ≡ v) → (d ≡ v) ⊎ Contains ds v → (Contains ds v → weights_of (map f ds) v ≡ (f v).weights) → cond (eqb (f d).decision v) (f d).weights (weights_of (map f ds) v) ≡ (f v).weights
      go (yes e) m r = ap (λ b. cond b (f d).weights (weights_of (map f ds) v)) (eqb_yes (f d).decision v (own d ∙ e)) ∙ ap (λ u. (f u).weights) e
      go (no n) (inl e) r = absurd (n e)
      go (no n) (inr m) r = ap (λ b. cond b (f d).weights (weights_of (map f ds) v)) (no_at (f d).decision v (λ e. n (sym (own d) ∙ e))) ∙ r m

  pub made_total : (ds : List ℕ) (v : ℕ) → Contains ds v → rule_total (map f ds) v ≡ (f v).total
  made_total [] v c = absurd (omega (arith, c.1))
  made_total (d ∷ ds) v c = go (ℕ_discrete d v) (head_or_rest d ds v c) (made_total ds v)
    where
      go : Dec (d ≡ v) → (d ≡ v) ⊎ Contains ds v → (Contains ds v → rule_total (map f ds) v ≡ (f v).total) → cond (eqb (f d).decision v) (f d).total (rule_total (map f ds) v) ≡ (f v).total
      go (yes e) m r = ap (λ b. cond b (f d).total (rule_total (map f ds) v)) (eqb_yes (f d).decision v (own d ∙ e)) ∙ ap (λ u. (f u).total) e
      go (no n) (inl e) r = absurd (n e)
      go (no n) (inr m) r = ap (λ b. cond b (f d).total (rule_total (map f ds) v)) (no_at (f d).decision v (λ e. n (sym (own d) ∙ e))) ∙ r m

-- the answered rule of a decision
abbrev pub answered_rule : List NodeView → List AnswerView → ℕ → RuleView
answered_rule nodes answers v = pure_rule nodes v (map (λ r. r.choice) (rows_at answers v))

pub answered_weights : (nodes : List NodeView) (answers : List AnswerView) (v : ℕ) → IsDecision nodes v → weights_of (pure_profile nodes answers) v ≡ (answered_rule nodes answers v).weights
answered_weights nodes answers v d = made_weights (answered_rule nodes answers) (λ u. refl) (decisions_of nodes) v (decision_listed nodes v d)

pub answered_total : (nodes : List NodeView) (answers : List AnswerView) (v : ℕ) → IsDecision nodes v → rule_total (pure_profile nodes answers) v ≡ 1
answered_total nodes answers v d = made_total (answered_rule nodes answers) (λ u. refl) (decisions_of nodes) v (decision_listed nodes v d)

-- ---- the rows found
-- where decisions differ, the rows at an answer's decision are its own
pub own_rows : (answers : List AnswerView) (i : ℕ) (a : AnswerView) → AllDifferent (map (λ a. a.decision) answers) → i < length answers → get_or answers i a ≡ a → rows_at answers a.decision ≡ a.rows
own_rows [] i a different h e = absurd (omega arith)
own_rows (x ∷ answers) zero a different h e = ap (λ b. cond b x.rows (rows_at answers a.decision)) (eqb_yes x.decision a.decision (ap (λ (y : AnswerView). y.decision) e)) ∙ ap (λ (y : AnswerView). y.rows) e
own_rows (x ∷ answers) (suc i) a different h e =
    ap (λ b. cond b x.rows (rows_at answers a.decision)) (no_at x.decision a.decision (λ f. different.0 (subst (Contains (map (λ a. a.decision) answers)) (sym f) (listed answers i (omega arith) e))))
    ∙ own_rows answers i a different.1 (omega arith) e
  where
    listed : (answers : List AnswerView) (i : ℕ) → i < length answers → get_or answers i a ≡ a → Contains (map (λ a. a.decision) answers) a.decision
    listed [] i h e = absurd (omega arith)
    listed (x ∷ answers) zero h e = (0, omega arith, ap (λ (y : AnswerView). y.decision) e)
    listed (x ∷ answers) (suc i) h e = after x.decision (map (λ a. a.decision) answers) a.decision (listed answers i (omega arith) e)

-- an answered decision keeps its rows when more is answered
rows_stay : (answers : List AnswerView) (a : AnswerView) (v : ℕ) → Contains (map (λ a. a.decision) answers) v → rows_at (answers ++ a ∷ []) v ≡ rows_at answers v
rows_stay [] a v c = absurd (omega (arith, c.1))
rows_stay (x ∷ answers) a v c = go (ℕ_discrete x.decision v) (head_or_rest x.decision (map (λ a. a.decision) answers) v c) (rows_stay answers a v)
  where
    go : Dec (x.decision ≡ v) → (x.decision ≡ v) ⊎ Contains (map (λ a. a.decision) answers) v → (Contains (map (λ a. a.decision) answers) v → rows_at (answers ++ a ∷ []) v ≡ rows_at answers v)
        → cond (eqb x.decision v) x.rows (rows_at (answers ++ a ∷ []) v) ≡ cond (eqb x.decision v) x.rows (rows_at answers v)
    go (yes e) m r = ap (λ b. cond b x.rows (rows_at (answers ++ a ∷ []) v)) (eqb_yes x.decision v e) ∙ ap (λ b. cond b x.rows (rows_at answers v)) (sym (eqb_yes x.decision v e))
    go (no n) (inl e) r = absurd (n e)
    go (no n) (inr m) r = ap (cond (eqb x.decision v) x.rows) (r m)

pub rule_stays : (nodes : List NodeView) (answers : List AnswerView) (a : AnswerView) (v : ℕ) → IsDecision nodes v → Contains (map (λ a. a.decision) answers) v → SameRule (pure_profile nodes answers) (pure_profile nodes (answers ++ a ∷ [])) v
rule_stays nodes answers a v d c = record {
  weights = answered_weights nodes answers v d ∙ ap (λ rows. (pure_rule nodes v (map (λ r. r.choice) rows)).weights) (sym (rows_stay answers a v c)) ∙ sym (answered_weights nodes (answers ++ a ∷ []) v d);
  total = answered_total nodes answers v d ∙ sym (answered_total nodes (answers ++ a ∷ []) v d);
}
