-- A profile is settled by its weights and totals.
use Rattle.std.proofs.Common.{◌≡◌, ◌≢◌, ◌∙◌, ℕ, false, cond, eqb, List, [], ◌∷◌, map, length, refl, sym, ap, subst, inl, inr}
use Rattle.maid_model.specs.Nodes.{IsDecision, node_at, numbers_of, is_decision, decisions_of}
use Rattle.maid_model.specs.Profiles.{IsProfile}
use Rattle.maid_model.specs.Tables.{weights_of, rule_total}
use Rattle.maid_model.specs.Views.{NodeView, RuleView}
use Rattle.finite_sums.specs.Members.{Among}
use Rattle.finite_sums.proofs.Lists.{among_filter}
use Rattle.maid_laws.proofs.Booleans.{eqb_yes, eqb_no}
use Rattle.maid_laws.proofs.Collapse.{Apart}
use Rattle.maid_laws.proofs.Members.{not_among}
use Rattle.maid_laws.proofs.Rearranged.{range_apart, apart_filter, numbered}
use Rattle.maid_laws.proofs.Rules.{decision_kind}

-- the decisions differ
pub decisions_apart : (nodes : List NodeView) → Apart (decisions_of nodes)
decisions_apart nodes = apart_filter (λ v. is_decision (node_at nodes v).kind) (numbers_of nodes) (range_apart 0 (length nodes))

-- what is listed is one
pub decided : (nodes : List NodeView) (d : ℕ) → Among d (decisions_of nodes) → IsDecision nodes d
decided nodes d m = let a = among_filter (λ v. is_decision (node_at nodes v).kind) d (numbers_of nodes) m in record { within = numbered nodes d a.0; kind = decision_kind (node_at nodes d).kind a.1 }

-- profiles with the same rules are one list
same_rules : (ds : List ℕ) (p q : List RuleView) → Apart ds → map (λ (r : RuleView). r.decision) p ≡ ds → map (λ (r : RuleView). r.decision) q ≡ ds
    → ((v : ℕ) → Among v ds → (weights_of p v ≡ weights_of q v) × (rule_total p v ≡ rule_total q v)) → p ≡ q
same_rules [] [] [] a e f h = refl
same_rules [] [] (r ∷ rs) a e f h = cc
same_rules [] (r ∷ rs) q a e f h = cc
same_rules (d ∷ ds) [] q a e f h = cc
same_rules (d ∷ ds) (r ∷ rs) [] a e f h = cc
same_rules (d ∷ ds) (r ∷ rs) (t ∷ ts) a e f h =
    let er : r.decision ≡ d = cc in
    let et : t.decision ≡ d = cc in
    let es : map (λ (r : RuleView). r.decision) rs ≡ ds = cc in
    let fs : map (λ (r : RuleView). r.decision) ts ≡ ds = cc in
    let w = h d (inl refl) in
    (λ i. record {
      decision = (er ∙ sym et) i;
      total = (sym (ap (λ b. cond b r.total (rule_total rs d)) (eqb_yes r.decision d er)) ∙ w.1 ∙ ap (λ b. cond b t.total (rule_total ts d)) (eqb_yes t.decision d et)) i;
      weights = (sym (ap (λ b. cond b r.weights (weights_of rs d)) (eqb_yes r.decision d er)) ∙ w.0 ∙ ap (λ b. cond b t.weights (weights_of ts d)) (eqb_yes t.decision d et)) i;
    }
    ∷ same_rules ds rs ts a.1 es fs (λ v m. off er et v m (λ g. not_among d ds a.0 (subst (λ z. Among z ds) (sym g) m))) i)
  where
    off : r.decision ≡ d → t.decision ≡ d → (v : ℕ) → Among v ds → (d ≢ v) → (weights_of rs v ≡ weights_of ts v) × (rule_total rs v ≡ rule_total ts v)
    off er et v m n =
        let b : eqb r.decision v ≡ false = eqb_no r.decision v (λ g. n (sym er ∙ g)) in
        let c : eqb t.decision v ≡ false = eqb_no t.decision v (λ g. n (sym et ∙ g)) in
        let w = h v (inr m) in
        (sym (ap (λ x. cond x r.weights (weights_of rs v)) b) ∙ w.0 ∙ ap (λ x. cond x t.weights (weights_of ts v)) c, sym (ap (λ x. cond x r.total (rule_total rs v)) b) ∙ w.1 ∙ ap (λ x. cond x t.total (rule_total ts v)) c)

pub same_profile : (nodes : List NodeView) (p q : List RuleView) → IsProfile nodes p → IsProfile nodes q → ((v : ℕ) → IsDecision nodes v → (weights_of p v ≡ weights_of q v) × (rule_total p v ≡ rule_total q v)) → p ≡ q
same_profile nodes p q hp hq h = same_rules (decisions_of nodes) p q (decisions_apart nodes) hp.decisions hq.decisions (λ v m. h v (decided nodes v m))
