-- A table for each node that needs one, no cycle, and the sizes, one after the other.
use Rattle.std.proofs.Common.{rules, None, ◌<◌, sym, subst}
use Rattle.std.proofs.lemmas.Result.{IfOk-from_err}
use Rattle.first_fault.specs.Passes.{◌▸◌}
use Rattle.first_fault.proofs.Leading.{refused_first, refused_later}
use Rattle.net_build.specs.Linking.{borrowed_trees, missing_steps, graph_steps, size_steps, links_steps}
use Rattle.net_build.specs.Lists.{numbers_of_lists}
use Rattle.net_build.proofs.FitLemmas.{known_arcs, links_fit}
use Rattle.first_fault.proofs.HandedOn.{hands_on}
use Rattle.net_build.specs.Passes.{build_fault}
use Rattle.net_build.proofs.links.check_links.Goals as goal

pub check_tables-requires : goal.check_tables-requires
check_tables-requires c = c.requires.potentials

pub returns-in_err-check_tables-clause-rows : goal.returns-in_err-check_tables-clause-rows
returns-in_err-check_tables-clause-rows c =
    let missing = missing_steps c.args.heads.now (borrowed_trees c.args.potentials.now) in
    let parents = numbers_of_lists c.args.parents.now in
    hands_on build_fault (links_steps c.args.heads.now (borrowed_trees c.args.potentials.now) parents) _ _ c.from_residual.ensures
    (refused_first missing (graph_steps c.args.heads.now parents ▸ size_steps c.args.heads.now parents) _ c.in_err-check_tables.ensures)

pub returns-in_err-check_tables-clause-fit : goal.returns-in_err-check_tables-clause-fit
returns-in_err-check_tables-clause-fit c = IfOk-from_err _ _ c.from_residual.ensures.0

pub check_graph-requires-clause-len : goal.check_graph-requires-clause-len
check_graph-requires-clause-len c = c.requires.parents

pub check_graph-requires-clause-known : goal.check_graph-requires-clause-known
check_graph-requires-clause-known c u v arc =
    subst (λ n. u < n) (sym c.requires.parents) (known_arcs c.args.heads.now (numbers_of_lists c.args.parents.now) c.requires.fit u v arc)

pub returns-in_err-check_graph-clause-rows : goal.returns-in_err-check_graph-clause-rows
returns-in_err-check_graph-clause-rows c =
    let missing = missing_steps c.args.heads.now (borrowed_trees c.args.potentials.now) in
    let parents = numbers_of_lists c.args.parents.now in
    hands_on build_fault (links_steps c.args.heads.now (borrowed_trees c.args.potentials.now) parents) _ _ c.from_residual-in_err-check_graph.ensures
    (refused_later missing (graph_steps c.args.heads.now parents ▸ size_steps c.args.heads.now parents) _ c.in_ok-check_tables.ensures
    (refused_first (graph_steps c.args.heads.now parents) (size_steps c.args.heads.now parents) _ c.in_err-check_graph.ensures))

pub returns-in_err-check_graph-clause-fit : goal.returns-in_err-check_graph-clause-fit
returns-in_err-check_graph-clause-fit c = IfOk-from_err _ _ c.from_residual-in_err-check_graph.ensures.0

pub check_sizes-requires-clause-len : goal.check_sizes-requires-clause-len
check_sizes-requires-clause-len c = c.requires.parents

pub check_sizes-requires-clause-parents : goal.check_sizes-requires-clause-parents
check_sizes-requires-clause-parents c k d h = (c.requires.fit k d h).known

pub returns-in_err-check_sizes-clause-rows : goal.returns-in_err-check_sizes-clause-rows
returns-in_err-check_sizes-clause-rows c =
    let missing = missing_steps c.args.heads.now (borrowed_trees c.args.potentials.now) in
    let parents = numbers_of_lists c.args.parents.now in
    let graph : graph_steps c.args.heads.now parents None = search rules in
    hands_on build_fault (links_steps c.args.heads.now (borrowed_trees c.args.potentials.now) parents) _ _ c.from_residual-in_err-check_sizes.ensures
    (refused_later missing (graph_steps c.args.heads.now parents ▸ size_steps c.args.heads.now parents) _ c.in_ok-check_tables.ensures
    (refused_later (graph_steps c.args.heads.now parents) (size_steps c.args.heads.now parents) _ graph c.in_err-check_sizes.ensures.rows))

pub returns-in_err-check_sizes-clause-fit : goal.returns-in_err-check_sizes-clause-fit
returns-in_err-check_sizes-clause-fit c = IfOk-from_err _ _ c.from_residual-in_err-check_sizes.ensures.0

pub returns-clause-rows : goal.returns-clause-rows
returns-clause-rows c = (c.in_ok-check_tables.ensures, (c.in_ok-check_graph.ensures, c.in_ok-check_sizes.ensures.rows))

pub returns-clause-fit : goal.returns-clause-fit
returns-clause-fit c = links_fit c.args.heads.now (numbers_of_lists c.args.parents.now) c.requires.fit c.in_ok-check_graph.ensures c.in_ok-check_sizes.ensures.cells c.in_ok-check_sizes.ensures.rules
