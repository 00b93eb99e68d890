-- What stays settled where one decision is improved: that decision, and those whose scope lacks it.
use Rattle.std.proofs.Common.{◌≡◌, ◌≢◌, ◌∙◌, ◌⊎◌, ◌↔◌, ℕ, ◌+◌, ◌*◌, ◌<◌, List, Contains, length, slice_index, get_or, refl, sym, ap, subst, inl, inr, ℤ, ◌≤ℤ◌, ◌<ℤ◌}
use Rattle.std.proofs.lemmas.List.{get_or_default, length-map}
use Rattle.std.proofs.Math.Decide.{ℕ_discrete}
use Rattle.finite_sums.proofs.Members.{contains_from_among}
use Rattle.maid_model.specs.Gains.{gain_at}
use Rattle.maid_model.specs.Nodes.{IsDecision, decisions_of, node_at, states_of}
use Rattle.maid_model.specs.Parts.{part_of, renumbered, rule_in, rules_in}
use Rattle.maid_model.specs.Scopes.{place_in_scope, rules_in_scope, scope_of, scope_part}
use Rattle.maid_model.specs.Tables.{rule_total, weights_of}
use Rattle.maid_model.specs.Views.{NodeView, RuleView}
use Rattle.maid_laws.specs.Optimum.{IsPure}
use Rattle.node_sets.specs.declared.sets.NodeSet.{NodeSet}
use Rattle.node_sets.specs.Sets.{IsIn, no_nodes}
use Rattle.maid_laws.proofs.Rules.{among_decisions}
use Rattle.maid_laws.proofs.SameProfile.{decided}
use Rattle.arc_laws.proofs.Unreached.{same_else}
use Rattle.part_laws.specs.PartLaws.{DecidesAlike}
use Rattle.reach_laws.specs.Updates.{IsImproved, IsStep}
use Rattle.reach_laws.proofs.ByRows.{gains_else}
use Rattle.reach_laws.proofs.Steps.{row_cases}
use Rattle.policy_update.specs.declared.keeping.Kept.{Kept}
use Rattle.policy_update.specs.Kept.{AddsAffected, IsAffected, IsKept}
use Rattle.policy_update.specs.Steps.{AreSettledBut}
use Rattle.policy_update.proofs.Choices.{ComparesAlike, equal_alike, improved_alike, not_most}
use Rattle.policy_update.proofs.Kept.{scope_at, scopes_within}
use Rattle.policy_update.proofs.Plans.{map_like}

-- a row that was improved keeps its choice
kept_then : (gain : ℕ → ℤ) (states before after : ℕ) → IsImproved gain states before after → IsImproved gain states after after
kept_then gain states before after h = record {
  was = h.within;
  within = h.within;
  keeps = λ all. refl;
  takes = λ s l less. absurd (not_most (gain after) (gain s) less (most (row_cases gain states before after h) s l));
}
  where
    most : ((after ≡ before) × ((s : ℕ) → s < states → gain s ≤ℤ gain before)) ⊎ (gain before <ℤ gain after) → (s : ℕ) → s < states → gain s ≤ℤ gain after
    most (inl (e, all)) s l = subst (λ c. gain s ≤ℤ gain c) (sym e) (all s l)
    most (inr less) s l = (h.takes after h.within less).greatest s l

-- profiles that differ at one node have the same rules in a part without it
same_in : (nodes : List NodeView) (p q : List RuleView) (d : ℕ) (kept : List ℕ) → ((v : ℕ) → v ≢ d → (weights_of p v ≡ weights_of q v) × (rule_total p v ≡ rule_total q v)) → (Contains kept d → ⊥)
    → rules_in nodes p kept ≡ rules_in nodes q kept
same_in nodes p q d kept same out = map_like (rule_in p kept) (rule_in q kept) (decisions_of (part_of nodes kept)) (λ k m. here k (decided (part_of nodes kept) k m))
  where
    apart : (k : ℕ) → k < length kept → slice_index kept k ≢ d
    apart k l e = out (k, l, get_or_default kept k d 0 l ∙ e)

    here : (k : ℕ) → IsDecision (part_of nodes kept) k → rule_in p kept k ≡ rule_in q kept k
    here k is = λ i. record { decision = k; total = (same (slice_index kept k) n).1 i; weights = (same (slice_index kept k) n).0 i }
      where
        n : slice_index kept k ≢ d
        n = apart k (subst (λ n. k < n) (length-map kept (λ v. renumbered kept (node_at nodes v))) is.within)

module _ (nodes : List NodeView) (p q : List RuleView) (d : ℕ) (hp : IsPure nodes p) (step : IsStep nodes p d q) where
  same : (v : ℕ) → v ≢ d → (weights_of p v ≡ weights_of q v) × (rule_total p v ≡ rule_total q v)
  same = same_else nodes p q d hp.profile step.pure.profile (λ v k n. let o = step.others v k n in record { weights = sym o.weights; total = sym o.total })

  -- the decision itself
  pub settled_own : IsStep nodes q d q
  settled_own = record {
    pure = step.pure;
    others = λ v k n. record { weights = refl; total = refl };
    rows = λ row l.
        let r = step.rows row l in
        record {
          before = r.after;
          after = r.after;
          chosen = r.taken;
          taken = r.taken;
          improved = improved_alike (λ s. gain_at nodes p d s row) (λ s. gain_at nodes q d s row) (states_of nodes d) r.after r.after
              (equal_alike (λ s. gain_at nodes p d s row) (λ s. gain_at nodes q d s row) (states_of nodes d) (λ s m. gains_else nodes p q d (λ v n. (same v n).0) s row))
              (kept_then (λ s. gain_at nodes p d s row) (states_of nodes d) r.before r.after r.improved);
        };
  }

  module _ (e : ℕ) (apart : e ≢ d) (out : Contains (scope_of nodes e) d → ⊥) (in_p : (row : ℕ) → DecidesAlike nodes p (scope_of nodes e) e row) (in_q : (row : ℕ) → DecidesAlike nodes q (scope_of nodes e) e row) where
    -- no state of another decision whose scope lacks it gains more or less beside others
    abbrev InPart : List RuleView → ℕ → ℕ → ℕ → Type 0
    InPart rules row s t = gain_at (scope_part nodes e) rules (place_in_scope nodes e) s row ≤ℤ gain_at (scope_part nodes e) rules (place_in_scope nodes e) t row

    rules_same : rules_in_scope nodes p e ≡ rules_in_scope nodes q e
    rules_same = same_in nodes p q d (scope_of nodes e) same out

    compares : (row : ℕ) → ComparesAlike (λ s. gain_at nodes p e s row) (λ s. gain_at nodes q e s row) (states_of nodes e)
    compares row s t l m = (
      (λ h. ((in_q row).best s t).1 (subst (λ r. InPart r row s t) rules_same (((in_p row).best s t).0 h))),
      (λ h. ((in_p row).best s t).1 (subst (λ r. InPart r row s t) (sym rules_same) (((in_q row).best s t).0 h))),
    )

    pub settled_else : IsStep nodes p e p → IsStep nodes q e q
    settled_else h = record {
      pure = step.pure;
      others = λ v k n. record { weights = refl; total = refl };
      rows = λ row l.
          let r = h.rows row l in
          record {
            before = r.before;
            after = r.after;
            chosen = subst (λ w. slice_index w (row * states_of nodes e + r.before) ≡ 1) (same e apart).0 r.chosen;
            taken = subst (λ w. slice_index w (row * states_of nodes e + r.after) ≡ 1) (same e apart).0 r.taken;
            improved = improved_alike (λ s. gain_at nodes p e s row) (λ s. gain_at nodes q e s row) (states_of nodes e) r.before r.after (compares row) r.improved;
          };
    }

-- ---- the sets of those that are not settled
-- a decision whose scope has d is one of those that d affects
affected : (nodes : List NodeView) (kept : Kept) → IsKept nodes kept → (d e : ℕ) → IsDecision nodes e → Contains (scope_of nodes e) d → IsAffected kept d e
affected nodes kept is d e k has = at (contains_from_among (decisions_of nodes) e (among_decisions nodes e k))
  where
    at : Contains (decisions_of nodes) e → IsAffected kept d e
    at (i, l, f) =
        let here : get_or (decisions_of nodes) i 0 ≡ e = sym (get_or_default (decisions_of nodes) i e 0 l) ∙ f in
        record {
          place = i;
          within = scopes_within nodes kept is i l;
          is = ap (λ ds. get_or ds i 0) is.decided ∙ here;
          looks = (scope_at nodes kept is i l no_nodes d).1 (subst (λ x. Contains (scope_of nodes x) d) (sym here) has);
        }

-- a node that is taken out of a set, and one that stays out
abbrev Takes : ℕ → NodeSet → NodeSet → Type 0
Takes d before after = (x : ℕ) → IsIn after x ↔ (IsIn before x × (x ≡ d → ⊥))

still_out : (d : ℕ) (before after : NodeSet) → Takes d before after → (e : ℕ) → e ≢ d → (IsIn after e → ⊥) → IsIn before e → ⊥
still_out d before after takes e n out h = out ((takes e).1 (h, n))

-- what is left unsettled after a step at d: d is taken out, and if the profile changed, those that
-- it affects come in
module _ (nodes : List NodeView) (p q : List RuleView) (d : ℕ) (hp : IsPure nodes p) (step : IsStep nodes p d q) (alike : (r : List RuleView) → IsPure nodes r → (e : ℕ) → IsDecision nodes e → (row : ℕ) → DecidesAlike nodes r (scope_of nodes e) e row)
    (before after : NodeSet) (settled : AreSettledBut nodes p before) where
  own : (e : ℕ) → e ≡ d → IsStep nodes q e q
  own e same = subst (λ v. IsStep nodes q v q) (sym same) (settled_own nodes p q d hp step)

  pub settled_unchanged : p ≡ q → Takes d before after → AreSettledBut nodes q after
  settled_unchanged same takes e k out = at (ℕ_discrete e d)
    where
      at : Dec (e ≡ d) → IsStep nodes q e q
      at (yes here) = own e here
      at (no n) = subst (λ r. IsStep nodes r e r) same (settled e k (still_out d before after takes e n out))

  pub settled_changed : (kept : Kept) → IsKept nodes kept → (more : NodeSet) → AddsAffected kept d before more → Takes d more after → AreSettledBut nodes q after
  settled_changed kept is more adds takes e k out = at (ℕ_discrete e d)
    where
      at : Dec (e ≡ d) → IsStep nodes q e q
      at (yes here) = own e here
      at (no n) =
          let none : IsIn more e → ⊥ = still_out d more after takes e n out in
          settled_else nodes p q d hp step e n (λ has. none ((adds e).1 (inr (affected nodes kept is d e k has)))) (alike p hp e k) (alike q step.pure e k)
          (settled e k (λ h. none ((adds e).1 (inl h))))
