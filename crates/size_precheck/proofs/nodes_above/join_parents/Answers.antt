use Rattle.std.proofs.Common.{ℕ, ◌<◌, List, get_or, refl, sym, subst, arith}
use Rattle.size_precheck.specs.Above.{set_at}
use Rattle.size_precheck.proofs.Above.{above_own, above_more, above_all, parent_there}
use Rattle.size_precheck.proofs.nodes_above.join_parents.Goals as goal

pub of-set-requires : goal.of-set-requires
of-set-requires c = let a = c.parents-parents.ensures.diagram.limits.nodes in let b = c.requires.within in omega arith

pub loop-parent-init : goal.loop-parent-init
loop-parent-init c = above_own c.args.diagram.now.nodes c.args.v c.parents-parents.result.now c.of-set.result c.of-set.ensures

pub bounds-above-parent : goal.bounds-above-parent
bounds-above-parent c =
    let nodes = c.args.diagram.now.nodes in
    let there = parent_there nodes c.args.v c.parents-parents.result.now c.loop-parent.parent-index c.loop-parent-test.true c.parents-parents.ensures.parents in
    subst (λ n. get_or c.parents-parents.result.now c.loop-parent.parent-index 0 < n) (sym c.requires.all) (c.parents-parents.ensures.diagram.graph.parents_known (get_or c.parents-parents.result.now c.loop-parent.parent-index 0) c.args.v there)

pub offset_bounds-above-parent : goal.offset_bounds-above-parent
offset_bounds-above-parent c =
    let there = parent_there c.args.diagram.now.nodes c.args.v c.parents-parents.result.now c.loop-parent.parent-index c.loop-parent-test.true c.parents-parents.ensures.parents in
    let l = c.parents-parents.ensures.diagram.graph.parents_known (get_or c.parents-parents.result.now c.loop-parent.parent-index 0) c.args.v there in
    let few = c.parents-parents.ensures.diagram.limits.nodes in
    omega arith

pub loop-parent-preserved : goal.loop-parent-preserved
loop-parent-preserved c =
    let nodes = c.args.diagram.now.nodes in
    let parents : List ℕ = c.parents-parents.result.now in
    let p : ℕ = get_or parents c.loop-parent.parent-index 0 in
    let there = parent_there nodes c.args.v parents c.loop-parent.parent-index c.loop-parent-test.true c.parents-parents.ensures.parents in
    above_more nodes c.args.v p parents c.loop-parent.parent-index c.loop-parent.set (set_at c.args.above.now p) c.union-set.result c.loop-parent-test.true refl c.parents-parents.ensures.parents
    (c.requires.found p (c.requires.parents p there)) c.union-set.ensures c.loop-parent.invariant

pub returns : goal.returns
returns c = above_all c.args.diagram.now.nodes c.args.v c.parents-parents.result.now c.loop-parent.parent-index c.loop-parent.set (let l = c.loop-parent-test.false in omega arith) c.parents-parents.ensures.parents c.loop-parent.invariant
