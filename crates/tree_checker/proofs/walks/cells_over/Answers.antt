use Rattle.diagram_graph.specs.Cycles.{IsNodeOrder, lists_in}
use Rattle.std.proofs.lemmas.Result.{err_from_is_err_and}
use Rattle.std.proofs.Common.{◌∙◌, ap, sym, subst, replicate, pos, length, take, drop, ◌++◌}
use Rattle.std.proofs.Math.ListN.{length-replicate}
use Rattle.tree_checker.specs.Walks.{HoldsFactors, ListsCells}
use Rattle.tree_checker.proofs.WalkOpened.{written}
use Rattle.tree_checker.proofs.walks.cells_over.Goals as goal

pub add_worlds-requires-clause-order : goal.add_worlds-requires-clause-order
add_worlds-requires-clause-order c = subst (IsNodeOrder c.args.diagram.now.nodes) (sym c.deref.ensures.value) c.in_ok-nodes.ensures

pub add_worlds-requires-clause-factors : goal.add_worlds-requires-clause-factors
add_worlds-requires-clause-factors c = subst (λ l. HoldsFactors c.args.diagram.now.nodes c.args.profile.now c.args.left_out (lists_in l)) (sym c.deref-2.ensures.value) c.in_ok-factors.ensures

pub add_worlds-requires-clause-gains : goal.add_worlds-requires-clause-gains
add_worlds-requires-clause-gains c = c.deref_mut.ensures.value ∙ c.in_ok-gains.ensures.items_if_clones_equal (λ y e. e) ∙ ap (λ n. replicate n (pos 0)) c.cell_count-count.ensures.cells

pub add_worlds-requires-clause-masses : goal.add_worlds-requires-clause-masses
add_worlds-requires-clause-masses c = c.deref_mut-2.ensures.value ∙ c.in_ok-masses.ensures.items_if_clones_equal (λ y e. e) ∙ ap (λ n. replicate n 0) c.cell_count-count.ensures.cells

pub returns : goal.returns
returns c =
    let gains_len = c.add_worlds.ensures.cells.gain_count ∙ sym c.cell_count-count.ensures.cells ∙ sym (length-replicate c.cell_count-count.result (pos 0)) ∙ sym (ap length (c.deref_mut.ensures.value ∙ c.in_ok-gains.ensures.items_if_clones_equal (λ y e. e))) in
    let masses_len = c.add_worlds.ensures.cells.mass_count ∙ sym c.cell_count-count.ensures.cells ∙ sym (length-replicate c.cell_count-count.result 0) ∙ sym (ap length (c.deref_mut-2.ensures.value ∙ c.in_ok-masses.ensures.items_if_clones_equal (λ y e. e))) in
    subst (λ l. ListsCells c.args.diagram.now c.args.profile.now c.args.left_out c.args.marks.now l (take c.in_ok-masses.masses.len (c.add_worlds.new.masses ++ drop (length c.add_worlds.new.masses) c.in_ok-masses.masses.items)))
    (sym (written c.in_ok-gains.gains.len c.add_worlds.new.gains (drop (length c.add_worlds.new.gains) c.in_ok-gains.gains.items) (gains_len ∙ c.deref_mut.ensures.len)))
    (subst (λ l. ListsCells c.args.diagram.now c.args.profile.now c.args.left_out c.args.marks.now c.add_worlds.new.gains l)
    (sym (written c.in_ok-masses.masses.len c.add_worlds.new.masses (drop (length c.add_worlds.new.masses) c.in_ok-masses.masses.items) (masses_len ∙ c.deref_mut-2.ensures.len)))
    c.add_worlds.ensures.cells)

pub returns-in_err-gains : goal.returns-in_err-gains
returns-in_err-gains c = rw (err_from_is_err_and c.from_residual.result c.from_residual.ensures.1).1 tt

pub returns-in_err-masses : goal.returns-in_err-masses
returns-in_err-masses c = rw (err_from_is_err_and c.from_residual-in_err-masses.result c.from_residual-in_err-masses.ensures.1).1 tt

pub returns-in_err-world : goal.returns-in_err-world
returns-in_err-world c = rw (err_from_is_err_and c.from_residual-in_err-world.result c.from_residual-in_err-world.ensures.1).1 tt

pub all_factors-requires : goal.all_factors-requires
all_factors-requires c = c.requires.profile

pub returns-in_err-factors : goal.returns-in_err-factors
returns-in_err-factors c = rw (err_from_is_err_and c.from_residual-in_err-factors.result c.from_residual-in_err-factors.ensures.1).1 tt

pub returns-in_err-nodes : goal.returns-in_err-nodes
returns-in_err-nodes c = rw (err_from_is_err_and c.from_residual-in_err-nodes.result c.from_residual-in_err-nodes.ensures.1).1 tt

pub add_worlds-requires-clause-profile : goal.add_worlds-requires-clause-profile
add_worlds-requires-clause-profile c = c.requires.profile

pub add_worlds-requires-clause-marks : goal.add_worlds-requires-clause-marks
add_worlds-requires-clause-marks c = c.requires.marks

pub add_worlds-requires-clause-decision : goal.add_worlds-requires-clause-decision
add_worlds-requires-clause-decision c = c.requires.decision

pub add_worlds-requires-clause-fits : goal.add_worlds-requires-clause-fits
add_worlds-requires-clause-fits c = c.requires.fits

pub add_worlds-requires-clause-world : goal.add_worlds-requires-clause-world
add_worlds-requires-clause-world c = c.in_ok-world.ensures.first

pub add_worlds-requires-clause-known : goal.add_worlds-requires-clause-known
add_worlds-requires-clause-known c = c.in_ok-world.ensures.world
