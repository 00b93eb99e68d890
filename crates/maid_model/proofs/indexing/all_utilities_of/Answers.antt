use Rattle.std.proofs.Common.{◌+◌, refl, sym, subst, arith}
use Rattle.std.proofs.lemmas.Bool.{iff_false}
use Rattle.node_sets.specs.declared.sets.NodeSet.{NodeSet}
use Rattle.node_sets.specs.Sets.{IsIn}
use Rattle.maid_model.specs.Nodes.{IsUtility}
use Rattle.maid_model.proofs.Owners.{node_read}
use Rattle.maid_model.proofs.Indexes.{utility_node, MembersBelow, member_more, member_skip, member_all}
use Rattle.maid_model.proofs.indexing.all_utilities_of.Goals.{then-is_utility, else-is_utility}
use Rattle.maid_model.proofs.indexing.all_utilities_of.Goals as goal

pub loop-v-init : goal.loop-v-init
loop-v-init c u = ((λ m. absurd (c.empty-utilities.ensures u m)), (λ h. let l = h.0 in absurd (omega arith)))

pub loop-v-preserved : goal.loop-v-preserved
loop-v-preserved c =
    let nodes = c.args.nodes.now in
    let v = c.loop-v.v in
    let live = utility_node nodes v c.index-nodes-v.result c.loop-v-test.true (node_read nodes nodes v c.index-nodes-v.result refl c.loop-v-test.true c.index-nodes-v.is) in
    elim c.if-is_utility.branch [
      | then-is_utility w ↦
          subst (λ (s : NodeSet). MembersBelow (IsUtility nodes) (v + 1) (IsIn s)) (sym w.utilities-is)
          (member_more (IsUtility nodes) v (IsIn c.loop-v.utilities) (IsIn w.insert.new.self) (live.0 (c.is_utility.ensures.0 w.if-is_utility.true)) w.insert.ensures.all c.loop-v.invariant)
      | else-is_utility w ↦
          subst (λ (s : NodeSet). MembersBelow (IsUtility nodes) (v + 1) (IsIn s)) (sym w.utilities-is)
          (member_skip (IsUtility nodes) v (IsIn c.loop-v.utilities) (λ l. iff_false c.is_utility.ensures w.if-is_utility.false (live.1 l)) c.loop-v.invariant)
    ]

pub returns : goal.returns
returns c = member_all (IsUtility c.args.nodes.now) c.loop-v.v (IsIn c.loop-v.utilities) (λ u live. let l = live.within in let k = c.loop-v-test.false in omega arith) c.loop-v.invariant
