-- One total more, of the node's own table or of the next rule.
use Rattle.std.proofs.Common.{◌≡◌, ◌∙◌, ℕ, ◌+◌, ◌<◌, List, [], ◌∷◌, ◌++◌, length, get_or, slice_index, sym, ap, subst, arith, length-append}
use Rattle.std.proofs.lemmas.List.{get_or_append_left}
use Rattle.std.proofs.Math.Decide.{ℕ_discrete}
use Rattle.std.proofs.Math.Seq.{get_or-append_seam}
use Rattle.maid_model.specs.declared.diagrams.Kind.TheVariants.{Decision}
use Rattle.maid_model.specs.Nodes.{is_decision, node_at}
use Rattle.maid_model.specs.Profiles.{no_rule}
use Rattle.maid_model.specs.Tables.{chance_total, rule_total, total_by, weight_total}
use Rattle.maid_model.specs.Views.{NodeView, RuleView}
use Rattle.rule_solver.proofs.NextRules.{AreNext, first_rules, next_total, next_within, rules_go_on, rules_stay}
use Rattle.rule_solver.proofs.totals.list_totals.Goals as goal
use Rattle.rule_solver.proofs.totals.list_totals.Goals.{in-Chance, in-Decision, in-Utility}

-- what holds of each number so far, and of the next one
put_last : (f : ℕ → ℕ) (n : ℕ) (xs more : List ℕ) (x : ℕ) → more ≡ xs ++ x ∷ [] → length xs ≡ n → ((u : ℕ) → u < n → slice_index xs u ≡ f u) → x ≡ f n → (u : ℕ) → u < n + 1 → slice_index more u ≡ f u
put_last f n xs more x is len so last u h = ap (λ (l : List ℕ). slice_index l u) is ∙ go (ℕ_discrete u n)
  where
    below : (u ≡ n → ⊥) → u < n
    below m = omega (arith, h, m)

    go : Dec (u ≡ n) → slice_index (xs ++ x ∷ []) u ≡ f u
    go (yes e) = ap (λ k. slice_index (xs ++ x ∷ []) k) (e ∙ sym len) ∙ get_or-append_seam xs x [] 0 ∙ last ∙ ap f (sym e)
    go (no m) = get_or_append_left xs (x ∷ []) 0 u (subst (λ k. u < k) (sym len) (below m)) ∙ so u (below m)

-- at a decision there is a next rule
rule_within : (nodes : List NodeView) (p rules : List RuleView) (v place n : ℕ) → rules ≡ p → AreNext nodes p v place → n ≡ length nodes → v < n → Decision ≡ (node_at nodes v).kind → place < length rules
rule_within nodes p rules v place n is next all here kind = subst (λ (l : List RuleView). place < length l) (sym is) (next_within nodes p v place next (omega (arith, all, here)) (sym kind))

pub loop-v-init : goal.loop-v-init
loop-v-init c = record {
  count = ap (λ (l : List ℕ). length l) c.in_ok-totals.ensures.items;
  each = λ u h. absurd (omega (arith, h));
  next = first_rules c.args.diagram.now.nodes c.args.profile.now c.requires.decisions;
}

pub loop-v-preserved : goal.loop-v-preserved
loop-v-preserved c =
    let nodes = c.args.diagram.now.nodes in
    let p = c.args.profile.now in
    let v = c.loop-v.v in
    let inside : v < length nodes = subst (λ n. v < n) c.count-v-end.ensures.count c.loop-v-test.true in
    let next = c.loop-v.invariant.next in
    let last : c.match-kind.total ≡ weight_total nodes p v = elim c.match-kind.branch [
      | in-Chance w ↦ w.total-is ∙ w.weight_total-total.ensures ∙ ap (λ k. total_by k (chance_total nodes v) (rule_total p v)) w.in-Chance.ensures.kind
      | in-Decision w ↦ w.total-is ∙ ap (λ (r : RuleView). r.total) (w.rule.view_is ∙ w.index-rules-place.is ∙ ap (λ l. get_or l c.loop-v.place w.index-rules-place.result) c.rules-rules.ensures)
          ∙ next_total nodes p v c.loop-v.place next inside (sym w.in-Decision.ensures.kind) w.index-rules-place.result ∙ ap (λ k. total_by k (chance_total nodes v) (rule_total p v)) w.in-Decision.ensures.kind
      | in-Utility w ↦ w.total-is ∙ ap (λ k. total_by k (chance_total nodes v) (rule_total p v)) w.in-Utility.ensures.kind
    ] in
    record {
      count = ap (λ (l : List ℕ). length l) c.in_ok-push.ensures.items ∙ length-append c.loop-v.totals.items (c.match-kind.total ∷ []) ∙ ap (λ n. n + 1) c.loop-v.invariant.count;
      each = put_last (weight_total nodes p) v c.loop-v.totals.items c.push.new.self.items c.match-kind.total c.in_ok-push.ensures.items c.loop-v.invariant.count c.loop-v.invariant.each last;
      next = elim c.match-kind.branch [
        | in-Chance w ↦ subst (AreNext nodes p (v + 1)) (sym w.place-is) (rules_stay nodes p v c.loop-v.place next inside (ap is_decision (sym w.in-Chance.ensures.kind)))
        | in-Decision w ↦ subst (AreNext nodes p (v + 1)) (sym w.place-is) (rules_go_on nodes p v c.loop-v.place next inside (sym w.in-Decision.ensures.kind) no_rule)
        | in-Utility w ↦ subst (AreNext nodes p (v + 1)) (sym w.place-is) (rules_stay nodes p v c.loop-v.place next inside (ap is_decision (sym w.in-Utility.ensures.kind)))
      ];
    }

pub returns-clause-totals : goal.returns-clause-totals
returns-clause-totals c = record {
  count = omega (arith, c.loop-v.invariant.count, c.loop-v-test.false, c.loop-v.auto.v-end, c.count-v-end.ensures.count);
  each = λ u h. c.loop-v.invariant.each u (omega (arith, h, c.loop-v-test.false, c.count-v-end.ensures.count));
}

pub returns-clause-diagram : goal.returns-clause-diagram
returns-clause-diagram c = c.count-v-end.ensures.diagram

pub bounds-rules-place : goal.bounds-rules-place
bounds-rules-place c =
    let here = rule_within c.args.diagram.now.nodes c.args.profile.now c.rules-rules.result.now c.loop-v.v c.loop-v.place c.count-v-end.result c.rules-rules.ensures c.loop-v.invariant.next c.count-v-end.ensures.count c.loop-v-test.true c.in-Decision.ensures.kind in
    omega (arith, here)

pub offset_bounds-rules-place : goal.offset_bounds-rules-place
offset_bounds-rules-place c = record { fits = omega (arith, bounds-rules-place c, c.rules-rules.type_inv.0) }

pub overflow_add-place : goal.overflow_add-place
overflow_add-place c =
    let here = rule_within c.args.diagram.now.nodes c.args.profile.now c.rules-rules.result.now c.loop-v.v c.loop-v.place c.count-v-end.result c.rules-rules.ensures c.loop-v.invariant.next c.count-v-end.ensures.count c.loop-v-test.true c.in-Decision.ensures.kind in
    record { fits = omega (arith, here, c.rules-rules.type_inv.0) }
