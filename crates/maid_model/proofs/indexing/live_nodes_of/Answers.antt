use Rattle.std.proofs.Common.{◌+◌, refl, sym, subst, arith}
use Rattle.std.proofs.lemmas.Bool.{iff_false}
use Rattle.node_sets.specs.declared.sets.NodeSet.{NodeSet}
use Rattle.node_sets.specs.Sets.{IsIn}
use Rattle.maid_model.specs.Relevance.{IsLive}
use Rattle.maid_model.proofs.Owners.{node_read}
use Rattle.maid_model.proofs.Indexes.{live_node, MembersBelow, member_more, member_skip, member_all}
use Rattle.maid_model.proofs.indexing.live_nodes_of.Goals.{then-has_live_states, else-has_live_states}
use Rattle.maid_model.proofs.indexing.live_nodes_of.Goals as goal

pub loop-v-init : goal.loop-v-init
loop-v-init c u = ((λ m. absurd (c.empty-live.ensures u m)), (λ h. let l = h.0 in absurd (omega arith)))

pub loop-v-preserved : goal.loop-v-preserved
loop-v-preserved c =
    let nodes = c.args.nodes.now in
    let v = c.loop-v.v in
    let live = live_node nodes v c.index-nodes-v.result c.loop-v-test.true (node_read nodes nodes v c.index-nodes-v.result refl c.loop-v-test.true c.index-nodes-v.is) in
    elim c.if-has_live_states.branch [
      | then-has_live_states w ↦
          subst (λ (s : NodeSet). MembersBelow (IsLive nodes) (v + 1) (IsIn s)) (sym w.live-is)
          (member_more (IsLive nodes) v (IsIn c.loop-v.live) (IsIn w.insert.new.self) (live.0 (c.has_live_states.ensures.0 w.if-has_live_states.true)) w.insert.ensures.all c.loop-v.invariant)
      | else-has_live_states w ↦
          subst (λ (s : NodeSet). MembersBelow (IsLive nodes) (v + 1) (IsIn s)) (sym w.live-is)
          (member_skip (IsLive nodes) v (IsIn c.loop-v.live) (λ l. iff_false c.has_live_states.ensures w.if-has_live_states.false (live.1 l)) c.loop-v.invariant)
    ]

pub returns : goal.returns
returns c = member_all (IsLive c.args.nodes.now) c.loop-v.v (IsIn c.loop-v.live) (λ u live. let l = live.within in let k = c.loop-v-test.false in omega arith) c.loop-v.invariant
