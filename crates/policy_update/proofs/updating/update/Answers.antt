use Rattle.std.proofs.lemmas.Result.{IfOk-weaker, IfOk-from_err}
use Rattle.maid_model.specs.Answers.{pure_profile}
use Rattle.maid_model.specs.Nodes.{agent_of}
use Rattle.reach_laws.proofs.Rounds.{reached_pure}
use Rattle.policy_update.specs.Updated.{IsLocalOptimum, IsUpdateOf}
use Rattle.policy_update.proofs.Owners.{owns_of, some_owner}
use Rattle.policy_update.proofs.Spent.{rounds_raise}
use Rattle.first_fault.proofs.Leading.{passes_on, refused_first, refused_later}
use Rattle.policy_update.specs.Faults.{owners_pass, rounds_pass, update_bound_pass, update_fault, update_pass, update_size_pass}
use Rattle.std.proofs.Common.{◌∙◌}
use Rattle.first_fault.proofs.HandedOn.{hands_on}
use Rattle.policy_update.specs.declared.faults.UpdateFault.TheVariants.{NoMemory}
use Rattle.first_fault.specs.Passes.{◌▸◌}
use Rattle.policy_update.proofs.updating.update.Goals as goal

pub update_within-requires-clause-owner : goal.update_within-requires-clause-owner
update_within-requires-clause-owner c = some_owner c.args.diagram.now.nodes c.in_ok-keep_one_owner.ensures

-- where the last round changes nothing, no rule of one decision gains
pub returns-clause-local : goal.returns-clause-local
returns-clause-local c =
    let nodes = c.args.diagram.now.nodes in
    let is = c.count-count.ensures.diagram in
    IfOk-weaker c.update_within.result (IsUpdateOf c.args.diagram.now) (λ u. IsLocalOptimum nodes (pure_profile nodes u.answers))
    (λ u h d t k ht others.
    let owns = owns_of nodes c.in_ok-keep_one_owner.ensures d k in
    c.local_optimum.ensures.law nodes (agent_of nodes d) (pure_profile nodes u.answers) t d is.graph is.tables owns (reached_pure nodes is.graph is.tables (agent_of nodes d) owns h.result.reached) h.result.settled k ht others)
    c.update_within.ensures.ok

-- each round that raises is worth more
pub returns-clause-rises : goal.returns-clause-rises
returns-clause-rises c none = rounds_raise c.args.diagram.now.nodes c.count-count.ensures.diagram.graph c.count-count.ensures.diagram.tables c.round_raises.ensures.raises none

pub returns-in_err-decisions-clause-rises : goal.returns-in_err-decisions-clause-rises
returns-in_err-decisions-clause-rises c none = rounds_raise c.args.diagram.now.nodes c.count-count.ensures.diagram.graph c.count-count.ensures.diagram.tables c.round_raises.ensures.raises none

pub returns-in_err-keep_one_owner-clause-rises : goal.returns-in_err-keep_one_owner-clause-rises
returns-in_err-keep_one_owner-clause-rises c none = rounds_raise c.args.diagram.now.nodes c.count-count.ensures.diagram.graph c.count-count.ensures.diagram.tables c.round_raises.ensures.raises none

pub returns-in_err-keep_bound-clause-rises : goal.returns-in_err-keep_bound-clause-rises
returns-in_err-keep_bound-clause-rises c none = rounds_raise c.args.diagram.now.nodes c.count-count.ensures.diagram.graph c.count-count.ensures.diagram.tables c.round_raises.ensures.raises none

pub returns-in_err-run-clause-rises : goal.returns-in_err-run-clause-rises
returns-in_err-run-clause-rises c none = rounds_raise c.args.diagram.now.nodes c.count-count.ensures.diagram.graph c.count-count.ensures.diagram.tables c.round_raises.ensures.raises none

pub keep_one_owner-requires : goal.keep_one_owner-requires
keep_one_owner-requires c = c.deref.ensures.value ∙ c.in_ok-decisions.ensures

pub keep_sizes-requires : goal.keep_sizes-requires
keep_sizes-requires c = c.deref-2.ensures.value ∙ c.in_ok-decisions.ensures

pub update_within-requires-clause-decisions : goal.update_within-requires-clause-decisions
update_within-requires-clause-decisions c = c.deref-3.ensures.value ∙ c.in_ok-decisions.ensures

pub update_within-requires-clause-bound : goal.update_within-requires-clause-bound
update_within-requires-clause-bound c = c.in_ok-keep_bound.ensures.bound

pub update_within-requires-clause-run : goal.update_within-requires-clause-run
update_within-requires-clause-run c = c.in_ok-run.ensures.run

pub update_within-requires-clause-some : goal.update_within-requires-clause-some
update_within-requires-clause-some c = c.requires

-- one stage behind another
pub returns-clause-rows : goal.returns-clause-rows
returns-clause-rows c =
    let d = c.args.diagram.now in
    let rounds = rounds_pass d c.args.rounds in
    passes_on update_fault (owners_pass d) (update_bound_pass d ▸ update_size_pass d ▸ rounds) c.update_within.result c.in_ok-keep_one_owner.ensures
    (passes_on update_fault (update_bound_pass d) (update_size_pass d ▸ rounds) c.update_within.result c.in_ok-keep_bound.ensures.rows
    (passes_on update_fault (update_size_pass d) rounds c.update_within.result c.in_ok-run.ensures.rows c.update_within.ensures.rows))

pub returns-clause-ok : goal.returns-clause-ok
returns-clause-ok c = c.update_within.ensures.ok

pub returns-in_err-decisions-clause-rows : goal.returns-in_err-decisions-clause-rows
returns-in_err-decisions-clause-rows c = hands_on update_fault (update_pass c.args.diagram.now c.args.rounds) _ NoMemory c.from_residual.ensures tt

pub returns-in_err-decisions-clause-ok : goal.returns-in_err-decisions-clause-ok
returns-in_err-decisions-clause-ok c = IfOk-from_err _ _ c.from_residual.ensures.0

pub returns-in_err-decisions-clause-local : goal.returns-in_err-decisions-clause-local
returns-in_err-decisions-clause-local c = IfOk-from_err _ _ c.from_residual.ensures.0

pub returns-in_err-keep_one_owner-clause-rows : goal.returns-in_err-keep_one_owner-clause-rows
returns-in_err-keep_one_owner-clause-rows c =
    let d = c.args.diagram.now in
    let fault = c.in_err-keep_one_owner.field-0.0 in
    hands_on update_fault (update_pass d c.args.rounds) _ fault c.from_residual-in_err-keep_one_owner.ensures
    (refused_first (owners_pass d) (update_bound_pass d ▸ update_size_pass d ▸ rounds_pass d c.args.rounds) (update_fault fault) c.in_err-keep_one_owner.ensures)

pub returns-in_err-keep_one_owner-clause-ok : goal.returns-in_err-keep_one_owner-clause-ok
returns-in_err-keep_one_owner-clause-ok c = IfOk-from_err _ _ c.from_residual-in_err-keep_one_owner.ensures.0

pub returns-in_err-keep_one_owner-clause-local : goal.returns-in_err-keep_one_owner-clause-local
returns-in_err-keep_one_owner-clause-local c = IfOk-from_err _ _ c.from_residual-in_err-keep_one_owner.ensures.0

pub returns-in_err-keep_bound-clause-rows : goal.returns-in_err-keep_bound-clause-rows
returns-in_err-keep_bound-clause-rows c =
    let d = c.args.diagram.now in
    let fault = c.in_err-keep_bound.field-0.0 in
    let rest = update_size_pass d ▸ rounds_pass d c.args.rounds in
    hands_on update_fault (update_pass d c.args.rounds) _ fault c.from_residual-in_err-keep_bound.ensures
    (refused_later (owners_pass d) (update_bound_pass d ▸ rest) (update_fault fault) c.in_ok-keep_one_owner.ensures
    (refused_first (update_bound_pass d) rest (update_fault fault) c.in_err-keep_bound.ensures.rows))

pub returns-in_err-keep_bound-clause-ok : goal.returns-in_err-keep_bound-clause-ok
returns-in_err-keep_bound-clause-ok c = IfOk-from_err _ _ c.from_residual-in_err-keep_bound.ensures.0

pub returns-in_err-keep_bound-clause-local : goal.returns-in_err-keep_bound-clause-local
returns-in_err-keep_bound-clause-local c = IfOk-from_err _ _ c.from_residual-in_err-keep_bound.ensures.0

pub returns-in_err-run-clause-rows : goal.returns-in_err-run-clause-rows
returns-in_err-run-clause-rows c =
    let d = c.args.diagram.now in
    let fault = c.in_err-run.field-0.0 in
    let rounds = rounds_pass d c.args.rounds in
    hands_on update_fault (update_pass d c.args.rounds) _ fault c.from_residual-in_err-run.ensures
    (refused_later (owners_pass d) (update_bound_pass d ▸ update_size_pass d ▸ rounds) (update_fault fault) c.in_ok-keep_one_owner.ensures
    (refused_later (update_bound_pass d) (update_size_pass d ▸ rounds) (update_fault fault) c.in_ok-keep_bound.ensures.rows
    (refused_first (update_size_pass d) rounds (update_fault fault) c.in_err-run.ensures.rows)))

pub returns-in_err-run-clause-ok : goal.returns-in_err-run-clause-ok
returns-in_err-run-clause-ok c = IfOk-from_err _ _ c.from_residual-in_err-run.ensures.0

pub returns-in_err-run-clause-local : goal.returns-in_err-run-clause-local
returns-in_err-run-clause-local c = IfOk-from_err _ _ c.from_residual-in_err-run.ensures.0
