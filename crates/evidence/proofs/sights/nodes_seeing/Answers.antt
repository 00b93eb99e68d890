-- A node more is copied in each round.
use Rattle.std.proofs.Common.{◌≡◌, ◌∙◌, ◌+◌, ◌<◌, ℕ, List, [], ◌∷◌, ◌++◌, ap, arith, length, map, subst, sym, take}
use Rattle.std.proofs.lemmas.List.{map_more, take_all}
use Rattle.maid_model.specs.Nodes.{no_node, node_at}
use Rattle.maid_model.specs.Views.{NodeView}
use Rattle.reach_laws.specs.Evidence.{seeing}
use borrow.Author.Count.{falls}
use Rattle.std.proofs.lemmas.Result.{IfOk-from_err}
use Rattle.evidence.proofs.sights.nodes_seeing.Goals as goal

one_more : (x : ℕ) (nodes : List NodeView) (v : ℕ) (before now : List NodeView) (copy : NodeView) → v < length nodes → before ≡ map (seeing x) (take v nodes) → copy ≡ seeing x (node_at nodes v) → now ≡ before ++ copy ∷ [] → now ≡ map (seeing x) (take (v + 1) nodes)
one_more x nodes v before now copy within so_far is more = more ∙ (λ i. so_far i ++ is i ∷ []) ∙ sym (map_more (seeing x) nodes v no_node within)

pub returns-in_err-nodes : goal.returns-in_err-nodes
returns-in_err-nodes c = IfOk-from_err _ _ c.from_residual.ensures.0

pub node_seeing-requires : goal.node_seeing-requires
node_seeing-requires c = subst (λ n. c.loop-v.v < n) c.count-v-end.ensures.count c.loop-v-test.true

pub returns-in_err-node_seeing : goal.returns-in_err-node_seeing
returns-in_err-node_seeing c = IfOk-from_err _ _ c.from_residual-in_err-node_seeing.ensures.0

pub returns-in_err-push : goal.returns-in_err-push
returns-in_err-push c = IfOk-from_err _ _ c.from_residual-in_err-push.ensures.0

pub loop-v-smaller : goal.loop-v-smaller
loop-v-smaller c = falls _ _ c.loop-v-test.true

pub loop-v-preserved : goal.loop-v-preserved
loop-v-preserved c =
    let within = subst (λ n. c.loop-v.v < n) c.count-v-end.ensures.count c.loop-v-test.true in
    one_more c.args.node c.args.diagram.now.nodes c.loop-v.v c.loop-v.nodes.items c.push.new.self.items c.in_ok-node_seeing.field-0 within c.loop-v.invariant c.in_ok-node_seeing.ensures c.in_ok-push.ensures.items

pub returns : goal.returns
returns c =
    let end : c.loop-v.v ≡ length c.args.diagram.now.nodes = omega (arith, c.loop-v-test.false, c.loop-v.auto.v-end, c.count-v-end.ensures.count) in
    c.loop-v.invariant ∙ ap (λ n. map (seeing c.args.node) (take n c.args.diagram.now.nodes)) end ∙ ap (map (seeing c.args.node)) (take_all (length c.args.diagram.now.nodes) c.args.diagram.now.nodes (omega arith))
