use Rattle.maid_model.specs.Answers.{FitsAnswers}
use Rattle.std.proofs.lemmas.Result.{IfOk-from_err}
use Rattle.std.proofs.Common.{IfOk, List, length, ◌≡◌, ◌∙◌, map, ap, sym, subst, arith}
use Rattle.std.specs.List.{range_with_len}
use Rattle.maid_model.specs.Diagrams.{IsDiagram}
use Rattle.maid_model.specs.Edits.{one_agent, fixed_by}
use Rattle.maid_model.specs.Nodes.{node_at}
use Rattle.maid_model.specs.Views.{AnswerView, NodeView, SolvedView}
use Rattle.diagram_graph.specs.Edited.{with_nodes}
use Rattle.diagram_graph.proofs.Fixing.{alone_kept, fixed_more}
use Rattle.diagram_graph.proofs.kinds.fix_others.Goals as goal

pub loop-v-preserved : goal.loop-v-preserved
loop-v-preserved c =
    let nodes = c.args.diagram.now.nodes in
    let agent = c.args.agent in
    let answers = c.args.solved.now.answers in
    let read : c.deref.result.now ≡ answers = c.deref.ensures.value ∙ ap (λ (s : SolvedView). s.answers) c.solved.view_is in
    let fixed = c.in_ok-fixed_node.ensures ∙ ap (λ a. fixed_by (node_at nodes c.loop-v.v).kind nodes agent a c.loop-v.v) read in
    c.in_ok-push.ensures.items ∙ fixed_more nodes agent answers c.loop-v.v c.loop-v.nodes.items c.in_ok-fixed_node.field-0 c.loop-v.invariant fixed

pub with_nodes-requires : goal.with_nodes-requires
with_nodes-requires c =
    let diagram = c.args.diagram.now in
    let agent = c.args.agent in
    let answers = c.args.solved.now.answers in
    let is_diagram = c.count.ensures.diagram in
    let kept = c.answer_is_optimum.ensures.diagram diagram.nodes agent answers is_diagram.graph is_diagram.tables c.requires in
    let l = c.loop-v-test.false in
    let k = c.loop-v.auto.v-end in
    let n = c.count-v-end.ensures.count in
    let nodes : c.loop-v.nodes.items ≡ one_agent diagram.nodes agent answers =
    c.loop-v.invariant ∙ ap (λ m. map (λ v. fixed_by (node_at diagram.nodes v).kind diagram.nodes agent answers v) (range_with_len 0 m)) (omega arith) in
    subst (λ (ns : List NodeView). IsDiagram (with_nodes diagram ns)) (sym nodes) (alone_kept diagram.nodes agent answers diagram.agents diagram.decimals kept.0 kept.1 is_diagram)

pub loop-v-init : goal.loop-v-init
loop-v-init c = c.in_ok-nodes.ensures.items

pub fixed_node-requires-clause-within : goal.fixed_node-requires-clause-within
fixed_node-requires-clause-within c = omega (arith, c.loop-v-test.true, c.count-v-end.ensures.count)

pub fixed_node-requires-clause-fits : goal.fixed_node-requires-clause-fits
fixed_node-requires-clause-fits c =
    let read = c.deref.ensures.value ∙ ap (λ (s : SolvedView). s.answers) c.solved.view_is in
    subst (λ (answers : List AnswerView). FitsAnswers c.args.diagram.now.nodes answers) (sym read) c.requires

pub returns-in_err-nodes : goal.returns-in_err-nodes
returns-in_err-nodes c = IfOk-from_err _ _ c.from_residual.ensures.0

pub returns-in_err-fixed_node : goal.returns-in_err-fixed_node
returns-in_err-fixed_node c = IfOk-from_err _ _ c.from_residual-in_err-fixed_node.ensures.0

pub returns-in_err-push : goal.returns-in_err-push
returns-in_err-push c = IfOk-from_err _ _ c.from_residual-in_err-push.ensures.0

pub returns : goal.returns
returns c =
    let diagram = c.args.diagram.now in
    let agent = c.args.agent in
    let answers = c.args.solved.now.answers in
    let all : c.loop-v.v ≡ length diagram.nodes = omega (arith, c.loop-v-test.false, c.loop-v.auto.v-end, c.count-v-end.ensures.count) in
    let nodes : c.loop-v.nodes.items ≡ one_agent diagram.nodes agent answers =
    c.loop-v.invariant ∙ ap (λ m. map (λ v. fixed_by (node_at diagram.nodes v).kind diagram.nodes agent answers v) (range_with_len 0 m)) all in
    subst (λ (ns : List NodeView). IfOk c.with_nodes.result (λ made. made ≡ with_nodes diagram ns)) nodes c.with_nodes.ensures
