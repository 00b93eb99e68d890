-- One more list, and it is empty.
use Rattle.std.proofs.Common.{◌≡◌, ◌++◌, ℕ, [], ◌∷◌, replicate, ap, ◌∙◌, arith}
use Rattle.std.proofs.lemmas.List.{map-append, replicate_more}
use Rattle.std.proofs.lemmas.Result.{IfOk-from_err}
use Rattle.std.specs.Global.{Vec}
use borrow.Author.Count.{falls}
use Rattle.net_build.specs.Lists.{numbers_of_lists}
use Rattle.net_build.proofs.potentials.no_parents.Goals as goal

pub returns-in_err-lists : goal.returns-in_err-lists
returns-in_err-lists c = IfOk-from_err _ _ c.from_residual.ensures.0

pub loop-node-init : goal.loop-node-init
loop-node-init c = ap numbers_of_lists c.in_ok-lists.ensures.items

pub returns-in_err-push : goal.returns-in_err-push
returns-in_err-push c = IfOk-from_err _ _ c.from_residual-in_err-push.ensures.0

pub loop-node-smaller : goal.loop-node-smaller
loop-node-smaller c = falls _ _ c.loop-node-test.true

pub loop-node-preserved : goal.loop-node-preserved
loop-node-preserved c =
    ap numbers_of_lists c.in_ok-push.ensures.items ∙ map-append (λ (v : Vec ℕ). v.items) c.loop-node.lists.items (c.new.result ∷ [])
    ∙ (λ i. c.loop-node.invariant i ++ c.new.ensures.items i ∷ []) ∙ replicate_more c.loop-node._node []

pub returns : goal.returns
returns c =
    let done : c.loop-node._node ≡ c.args.count = omega (arith, c.loop-node-test.false, c.loop-node.auto._node-end) in
    c.loop-node.invariant ∙ ap (λ n. replicate n []) done
