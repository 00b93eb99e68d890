use Rattle.std.specs.List.{range_with_len}
use Rattle.std.proofs.lemmas.Result.{IfOk-from_err}
use Rattle.std.proofs.Common.{arith, filter, ◌∙◌, ◌++◌, cond, [], ◌∷◌, ℕ, Vec, Global, sym, ap}
use Rattle.node_sets.specs.Sets.{holds}
use Rattle.std.proofs.lemmas.List.{append-nil}
use Rattle.diagram_graph.proofs.Kept.{picked_more}
use Rattle.diagram_graph.proofs.parts.listed.Goals.{then-holds+in_ok-push, else-holds}
use Rattle.diagram_graph.proofs.parts.listed.Goals as goal

pub loop-v-preserved : goal.loop-v-preserved
loop-v-preserved c =
    let v = c.loop-v.v in
    let more = picked_more (holds c.args.set.now) v in
    elim c.if-holds.branch [
      | then-holds+in_ok-push w ↦
          let test = sym c.holds.ensures ∙ w.if-holds.true in
          ap (λ (l : Vec ℕ Global). l.items) w.list-is ∙ w.in_ok-push.ensures.items ∙ (λ i. c.loop-v.invariant i ++ cond (sym test i) (v ∷ []) []) ∙ sym more
      | else-holds w ↦
          let test = sym c.holds.ensures ∙ w.if-holds.false in
          ap (λ (l : Vec ℕ Global). l.items) w.list-is ∙ sym (append-nil c.loop-v.list.items) ∙ (λ i. c.loop-v.invariant i ++ cond (sym test i) (v ∷ []) []) ∙ sym more
    ]

pub loop-v-init : goal.loop-v-init
loop-v-init c = c.new-list.ensures.items

pub returns-in_err-push : goal.returns-in_err-push
returns-in_err-push c = IfOk-from_err _ _ c.from_residual.ensures.0

pub returns : goal.returns
returns c = c.loop-v.invariant ∙ ap (λ n. filter (holds c.args.set.now) (range_with_len 0 n)) (omega (arith, c.loop-v-test.false, c.loop-v.auto.v-end, c.count-v-end.ensures.count))
