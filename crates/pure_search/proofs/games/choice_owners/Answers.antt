-- The rows of one decision more.
use Rattle.std.proofs.Common.{◌≡◌, ◌∙◌, ℕ, ◌+◌, ◌<◌, ◌++◌, List, [], get_or, length, replicate, take, sym, ap}
use Rattle.std.proofs.lemmas.List.{flat_map_more, take_all, take_more}
use Rattle.std.proofs.lemmas.Result.{IfOk-from_err}
use borrow.Author.Count.{falls}
use Rattle.maid_model.specs.Nodes.{agent_of, rows_of}
use Rattle.maid_model.specs.Views.{NodeView}
use Rattle.reach_laws.specs.Equilibria.{choice_owners}
use Rattle.pure_search.proofs.games.choice_owners.Goals as goal

one_more : (nodes : List NodeView) (ds : List ℕ) (n : ℕ) → n < length ds → choice_owners nodes (take n ds) ++ replicate (rows_of nodes (get_or ds n 0)) (agent_of nodes (get_or ds n 0)) ≡ choice_owners nodes (take (n + 1) ds)
one_more nodes ds n h = flat_map_more (λ v. replicate (rows_of nodes v) (agent_of nodes v)) [] (take n ds) (get_or ds n 0) ∙ ap (choice_owners nodes) (sym (take_more ds n 0 h))

pub bounds-decisions-v-index : goal.bounds-decisions-v-index
bounds-decisions-v-index c = c.loop-v-test.true

pub returns-in_err-push_times : goal.returns-in_err-push_times
returns-in_err-push_times c = IfOk-from_err _ _ c.from_residual.ensures.0

pub loop-v-smaller : goal.loop-v-smaller
loop-v-smaller c = falls _ _ c.loop-v-test.true

pub returns : goal.returns
returns c = c.loop-v.invariant ∙ ap (choice_owners c.args.diagram.now.nodes) (take_all c.loop-v.v-index c.args.decisions.now c.loop-v-test.false)

pub loop-v-preserved : goal.loop-v-preserved
loop-v-preserved c =
    c.in_ok-push_times.ensures ∙ (λ i. c.loop-v.invariant i ++ replicate (c.rows.ensures i) (c.agent_of.ensures.agent i)) ∙ one_more c.args.diagram.now.nodes c.args.decisions.now c.loop-v.v-index c.loop-v-test.true
