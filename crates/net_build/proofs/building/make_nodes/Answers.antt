-- The node at the place is made of the head, the parents and the table there.
use Rattle.std.proofs.Common.{arith}
use Rattle.std.proofs.lemmas.List.{get_or_default}
use Rattle.net_build.specs.Stages.{no_head}
use Rattle.net_build.proofs.MadeLemmas.{made_more, tables_behind}
use Rattle.net_build.proofs.building.make_nodes.Goals as goal

pub loop-v-preserved : goal.loop-v-preserved
loop-v-preserved c = record {
  made = made_more c.args.heads.now c.args.more.now c.args.parents.now c.loop-v.tables c.args.tables.now c.loop-v.v c.loop-v.nodes.items _ _ c.index-more-v.result c.index-parents-v.result c.index-tables-v.result c.in_ok-make_node.field-0
      (omega (arith, c.requires.more)) (omega (arith, c.requires.parents)) (omega (arith, c.requires.tables)) (get_or_default c.args.heads.now c.loop-v.v _ no_head c.loop-v-test.true) c.index-more-v.is c.index-parents-v.is c.index-tables-v.is c.loop-v.invariant.left
      (rw (c.deref.ensures.value, c.deref-in-loop-v.ensures.value, c.replace-cells.ensures.value, ← c.index-tables-v.is) at c.in_ok-make_node.ensures) c.loop-v.invariant.made c.in_ok-push.ensures.items;
  left = tables_behind c.loop-v.tables c.args.tables.now c.loop-v.v _ c.loop-v.invariant.left;
}
