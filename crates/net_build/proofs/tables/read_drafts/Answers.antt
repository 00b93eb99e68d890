-- One node after another.
use Rattle.std.proofs.Common.{◌<◌, ◌+◌, ℕ, length, ◌∙◌, ap, arith}
use Rattle.first_fault.proofs.HandedOn.{hands_on}
use Rattle.std.proofs.lemmas.Result.{IfOk-from_err}
use Rattle.net_build.proofs.OutOfMemory.{out_of_memory}
use Rattle.std.proofs.lemmas.List.{length_push}
use Rattle.net_build.specs.Passes.{build_fault}
use Rattle.net_build.specs.Stages.{NodeLists}
use Rattle.net_build.specs.TableParts.{IsDraftAt, drafts_pass, node_part_at}
use Rattle.first_fault.proofs.Items.{number_step, number_refused, number_end}
use Rattle.net_build.proofs.NodeSteps.{items_more}
use Rattle.net_build.proofs.tables.read_drafts.Goals as goal

pub returns-in_err-read_node-clause-rows : goal.returns-in_err-read_node-clause-rows
returns-in_err-read_node-clause-rows c =
    let near : c.loop-node.node < length c.args.nodes.now.heads = rw (← ap (λ (n : NodeLists). length n.heads) c.nodes.view_is) (omega (arith, c.loop-node-test.true, c.len-node-end.ensures)) in
    hands_on build_fault (drafts_pass c.args.text.now c.args.nodes.now.heads c.args.links.now) _ _ c.from_residual-in_err-read_node.ensures
    (number_refused (node_part_at c.args.text.now c.args.nodes.now.heads c.args.links.now) (length c.args.nodes.now.heads) _ c.loop-node.node c.loop-node.invariant.lead (build_fault c.in_err-read_node.field-0.0) near c.in_err-read_node.ensures.rows)

pub loop-node-preserved : goal.loop-node-preserved
loop-node-preserved c =
    let near : c.loop-node.node < length c.args.nodes.now.heads = rw (← ap (λ (n : NodeLists). length n.heads) c.nodes.view_is) (omega (arith, c.loop-node-test.true, c.len-node-end.ensures)) in
    record {
      lead = number_step (node_part_at c.args.text.now c.args.nodes.now.heads c.args.links.now) (length c.args.nodes.now.heads) _ c.loop-node.node c.loop-node.invariant.lead near c.in_ok-read_node.ensures.rows;
      len = ap length c.in_ok-push.ensures.items ∙ length_push c.loop-node.drafts.items c.in_ok-read_node.field-0 ∙ ap (λ (n : ℕ). n + 1) c.loop-node.invariant.len;
      are = items_more (IsDraftAt c.args.text.now c.args.nodes.now.heads c.args.links.now) c.loop-node.drafts.items c.push.new.self.items c.in_ok-read_node.field-0 c.loop-node.node c.loop-node.invariant.len c.loop-node.invariant.are c.in_ok-read_node.ensures.draft c.in_ok-push.ensures.items;
    }

pub returns-clause-rows : goal.returns-clause-rows
returns-clause-rows c = number_end (node_part_at c.args.text.now c.args.nodes.now.heads c.args.links.now) (length c.args.nodes.now.heads) _ c.loop-node.node c.loop-node.invariant.lead (rw (← ap (λ (n : NodeLists). length n.heads) c.nodes.view_is) (omega (arith, c.loop-node-test.false, c.len-node-end.ensures)))

pub returns-in_err-drafts-clause-rows : goal.returns-in_err-drafts-clause-rows
returns-in_err-drafts-clause-rows c = out_of_memory (drafts_pass c.args.text.now c.args.nodes.now.heads c.args.links.now) _ c.from_residual.ensures

pub returns-in_err-push-clause-rows : goal.returns-in_err-push-clause-rows
returns-in_err-push-clause-rows c = out_of_memory (drafts_pass c.args.text.now c.args.nodes.now.heads c.args.links.now) _ c.from_residual-in_err-push.ensures

pub returns-in_err-drafts-clause-drafts : goal.returns-in_err-drafts-clause-drafts
returns-in_err-drafts-clause-drafts c = IfOk-from_err _ _ c.from_residual.ensures.0

pub returns-in_err-read_node-clause-drafts : goal.returns-in_err-read_node-clause-drafts
returns-in_err-read_node-clause-drafts c = IfOk-from_err _ _ c.from_residual-in_err-read_node.ensures.0

pub returns-in_err-push-clause-drafts : goal.returns-in_err-push-clause-drafts
returns-in_err-push-clause-drafts c = IfOk-from_err _ _ c.from_residual-in_err-push.ensures.0
