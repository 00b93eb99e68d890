use Rattle.std.proofs.Common.{◌∙◌, arith}
use Rattle.std.proofs.lemmas.List.{get_or_default}
use Rattle.pure_search.proofs.Followed.{place_first}
use Rattle.pure_search.proofs.following.place_of.Goals as goal

pub returns-then-v-node : goal.returns-then-v-node
returns-then-v-node c = place_first c.args.kept.now c.args.node c.loop-place.place c.loop-place-test.true c.if-v-node.true c.loop-place.invariant

pub returns : goal.returns
returns c = λ m. c.loop-place.invariant m.0 (let h = c.loop-place-test.false in let l = m.1 in omega (arith, l, h)) (get_or_default c.args.kept.now m.0 0 c.args.node m.1 ∙ m.2)
