use Rattle.std.proofs.Common.{◌≡◌, ◌∙◌, ◌++◌, length, sym, ap, append_assoc, arith}
use Rattle.std.specs.List.{flat_map, range_with_len}
use Rattle.maid_model.specs.Nodes.{numbers_of}
use Rattle.app_forms.specs.GraphLines.{relies_line_of}
use Rattle.app_forms.proofs.Nodes.{one_more, lines_are}
use Rattle.app_forms.proofs.forms.graph.push_decisions.Goals as goal

-- one more node behind those before it
pub loop-v-preserved : goal.loop-v-preserved
loop-v-preserved c =
    let line = relies_line_of c.args.diagram.now.nodes c.args.names.now c.args.relevance.now in
    c.in_ok-push_node.ensures ∙ ap (λ xs. xs ++ line c.loop-v.v) c.loop-v.invariant ∙ append_assoc c.args.out.now.items (flat_map line (range_with_len 0 c.loop-v.v)) (line c.loop-v.v)
    ∙ ap (λ xs. c.args.out.now.items ++ xs) (sym (one_more line c.loop-v.v))

-- all nodes' lines are those of the decisions
pub returns : goal.returns
returns c =
    let nodes = c.args.diagram.now.nodes in
    let line = relies_line_of nodes c.args.names.now c.args.relevance.now in
    let all : c.loop-v.v ≡ length nodes = omega (arith, c.loop-v-test.false, c.loop-v.auto.v-end, c.count-v-end.ensures.count) in
    c.loop-v.invariant ∙ ap (λ n. c.args.out.now.items ++ flat_map line (range_with_len 0 n)) all
    ∙ ap (λ xs. c.args.out.now.items ++ xs) (lines_are nodes c.args.names.now c.args.relevance.now (numbers_of nodes))
