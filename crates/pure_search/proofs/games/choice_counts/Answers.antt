-- The rows of one decision more.
use Rattle.std.proofs.Common.{◌≡◌, ◌∙◌, ◌++◌, [], ap, get_or, replicate, rules, sym, take}
use Rattle.std.proofs.lemmas.List.{flat_map_more, take_all, take_more}
use Rattle.std.proofs.lemmas.Result.{IfOk-from_err}
use borrow.Author.Count.{falls}
use Rattle.maid_model.specs.Nodes.{rows_of, states_of}
use Rattle.reach_laws.specs.Equilibria.{choice_counts}
use Rattle.pure_search.proofs.games.choice_counts.Goals as goal

pub bounds-decisions-v-index : goal.bounds-decisions-v-index
bounds-decisions-v-index c = c.loop-v-test.true

pub returns-in_err-push_times : goal.returns-in_err-push_times
returns-in_err-push_times c = IfOk-from_err _ _ c.from_residual.ensures.0

pub loop-v-smaller : goal.loop-v-smaller
loop-v-smaller c = falls _ _ c.loop-v-test.true

pub returns : goal.returns
returns c = c.loop-v.invariant ∙ ap (choice_counts c.args.diagram.now.nodes) (take_all c.loop-v.v-index c.args.decisions.now c.loop-v-test.false)

pub states-requires : goal.states-requires
states-requires c = c.requires c.loop-v.v-index 0 c.loop-v-test.true

pub loop-v-preserved : goal.loop-v-preserved
loop-v-preserved c =
    let nodes = c.args.diagram.now.nodes in
    let ds = c.args.decisions.now in
    let i = c.loop-v.v-index in
    let pushed : c.push_times.new.list.items ≡ c.loop-v.list.items ++ replicate (rows_of nodes (get_or ds i 0)) (states_of nodes (get_or ds i 0)) = search rules in
    pushed
    ∙ ap (λ l. l ++ replicate (rows_of nodes (get_or ds i 0)) (states_of nodes (get_or ds i 0))) c.loop-v.invariant
    ∙ flat_map_more (λ v. replicate (rows_of nodes v) (states_of nodes v)) [] (take i ds) (get_or ds i 0)
    ∙ ap (choice_counts nodes) (sym (take_more ds i 0 c.loop-v-test.true))
