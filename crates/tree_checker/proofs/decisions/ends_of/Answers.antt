use Rattle.std.proofs.Common.{◌≡◌, ◌∙◌, ◌∷◌, ◌++◌, [], filter, length, sym, ap, arith}
use Rattle.std.specs.List.{range_with_len}
use Rattle.node_sets.specs.Sets.{holds}
use Rattle.finite_sums.proofs.Ranges.{filter_yes, filter_no}
use Rattle.tree_checker.proofs.Listed.{goals_listed}
use Rattle.tree_checker.proofs.decisions.ends_of.Goals as goal
use Rattle.tree_checker.proofs.decisions.ends_of.Goals.{then-holds+in_ok-push-2, else-holds}

pub loop-v-preserved : goal.loop-v-preserved
loop-v-preserved c =
    elim c.if-holds.branch [
      | then-holds+in_ok-push-2 w ↦
          ap (λ v. v.items) w.ends-is ∙ w.in_ok-push-2.ensures.items ∙ ap (λ l. l ++ c.loop-v.v ∷ []) c.loop-v.invariant
          ∙ ap (λ l. c.args.decision ∷ l) (sym (filter_yes (holds c.goals_of-goals.result) c.loop-v.v (sym c.holds.ensures ∙ w.if-holds.true)))
      | else-holds w ↦
          ap (λ v. v.items) w.ends-is ∙ c.loop-v.invariant
          ∙ ap (λ l. c.args.decision ∷ l) (sym (filter_no (holds c.goals_of-goals.result) c.loop-v.v (sym c.holds.ensures ∙ w.if-holds.false)))
    ]

pub returns : goal.returns
returns c =
    let nodes = c.args.diagram.now.nodes in
    let all : c.loop-v.v ≡ length nodes = omega (arith, c.count-v-end.ensures.count) in
    c.loop-v.invariant
    ∙ ap (λ n. c.args.decision ∷ filter (holds c.goals_of-goals.result) (range_with_len 0 n)) all
    ∙ ap (λ l. c.args.decision ∷ l) (goals_listed nodes c.args.decision c.goals_of-goals.result c.goals_of-goals.ensures c.descent_is_tested.ensures)
