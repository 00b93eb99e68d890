use Rattle.std.proofs.Common.{◌∙◌, ◌<◌, get_or, refl, subst, arith}
use Rattle.std.proofs.lemmas.List.{get_or_default}
use Rattle.std.proofs.lemmas.List.Elements.{Contains-get_or}
use Rattle.node_sets.specs.Sets.{IsIn}
use Rattle.tree_checker.proofs.orders.are_placed.Goals as goal

pub holds-requires : goal.holds-requires
holds-requires c = c.requires (get_or c.args.list.now c.loop-v.v-index 0) (Contains-get_or c.args.list.now c.loop-v.v-index 0 c.loop-v-test.true)

pub returns : goal.returns
returns c = (
  λ t v m. subst (IsIn c.args.placed.now) (get_or_default c.args.list.now m.0 0 v m.1 ∙ m.2) (c.loop-v.invariant m.0 (let l : m.0 < _ = m.1 in let h = c.loop-v-test.false in omega (arith, l, h))),
  λ h. refl,
)
