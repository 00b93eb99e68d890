use Rattle.std.proofs.Common.{ℕ, List, subst, arith}
use Rattle.std.specs.Prelude.{Contains}
use Rattle.std.proofs.lemmas.List.{take_all}
use Rattle.std.proofs.lemmas.List.Elements.{Contains-get_or}
use Rattle.node_sets.specs.Sets.{Adds}
use Rattle.node_sets.proofs.Growing.{adds_none, adds_then, first_more}
use Rattle.node_sets.proofs.sets.NodeSet.insert_all.Goals as goal

pub insert-changed-requires : goal.insert-changed-requires
insert-changed-requires c = c.requires _ (Contains-get_or _ _ 0 c.loop-v-test.true)

pub loop-v-init : goal.loop-v-init
loop-v-init c = adds_none _ _ (λ x h. let l = h.1 in absurd (omega arith))

pub loop-v-preserved : goal.loop-v-preserved
loop-v-preserved c = adds_then _ _ _ _ _ _ _ _ (λ x. first_more c.args.list.now c.loop-v.v-index x c.loop-v-test.true) c.loop-v.invariant c.insert-changed.ensures

pub returns : goal.returns
returns c = subst (λ (xs : List ℕ). Adds (Contains xs) c.args.self.now c.loop-v.self c.loop-v.changed) (take_all _ c.args.list.now c.loop-v-test.false) c.loop-v.invariant
