use Rattle.std.proofs.Common.{◌∙◌, ◌*◌, ◌^◌, ◌≤◌, ap, length, max, replicate, sym, subst, FitsSigned, arith}
use Rattle.std.proofs.lemmas.Int.{to_z-of_z}
use Rattle.std.specs.Int.{w128}
use Rattle.std.specs.Prelude.{slice_index_or, pos}
use Rattle.diagram_graph.specs.Cycles.{IsNodeOrder, lists_in}
use Rattle.diagram_graph.specs.Room.{cells_at}
use Rattle.maid_model.specs.Diagrams.{greatest_number}
use Rattle.maid_model.specs.Gains.{base_mass, greatest_utility}
use Rattle.maid_model.proofs.Leaves.{whole_mass}
use Rattle.tree_checker.specs.Walks.{HoldsFactors, ListsCells}
use Rattle.tree_checker.proofs.WalkCells.{gain_listed, some_cell}
use Rattle.tree_checker.proofs.WalkOpened.{small_fits}
use Rattle.tree_checker.proofs.agent_sums.AgentSum.gain.Goals as goal

pub add_worlds-requires-clause-fits : goal.add_worlds-requires-clause-fits
add_worlds-requires-clause-fits c =
    subst (λ n. n * max (10 ^ c.args.diagram.now.decimals) (greatest_utility c.args.diagram.now.nodes) ≤ greatest_number)
    (sym (ap (base_mass c.args.diagram.now.nodes c.args.self.now.rules) c.count.ensures.count ∙ whole_mass c.args.diagram.now.nodes c.args.self.now.rules)) c.requires.fits

pub returns-clause-gain : goal.returns-clause-gain
returns-clause-gain c =
    let all = subst (λ n. ListsCells c.args.diagram.now c.args.self.now.rules n c.args.self.now.marks c.add_worlds.new.gains c.add_worlds.new.masses) c.count.ensures.count c.add_worlds.ensures.cells in
    let fits : FitsSigned w128 (slice_index_or c.add_worlds.new.gains 0 (pos 0)) = small_fits (slice_index_or c.add_worlds.new.gains 0 (pos 0)) (all.gain_small 0) in
    to_z-of_z w128 (slice_index_or c.add_worlds.new.gains 0 (pos 0)) fits
    ∙ gain_listed c.args.diagram.now c.count.ensures.diagram c.args.self.now.rules c.args.self.now.agent c.args.self.now.marks c.add_worlds.new.gains c.add_worlds.new.masses c.requires.sum.tested all

pub add_worlds-requires-clause-profile : goal.add_worlds-requires-clause-profile
add_worlds-requires-clause-profile c = c.requires.sum.profile

pub add_worlds-requires-clause-marks : goal.add_worlds-requires-clause-marks
add_worlds-requires-clause-marks c = c.requires.sum.marked

pub add_worlds-requires-clause-decision : goal.add_worlds-requires-clause-decision
add_worlds-requires-clause-decision c = omega (arith, c.count.ensures.count)

pub add_worlds-requires-clause-order : goal.add_worlds-requires-clause-order
add_worlds-requires-clause-order c = subst (IsNodeOrder c.args.diagram.now.nodes) (sym c.deref.ensures.value) c.requires.sum.order

pub add_worlds-requires-clause-factors : goal.add_worlds-requires-clause-factors
add_worlds-requires-clause-factors c =
    subst (λ n. HoldsFactors c.args.diagram.now.nodes c.args.self.now.rules n (lists_in c.deref-2.result.now)) (sym c.count.ensures.count)
    (subst (λ lists. HoldsFactors c.args.diagram.now.nodes c.args.self.now.rules (length c.args.diagram.now.nodes) (lists_in lists)) (sym c.deref-2.ensures.value) c.requires.sum.factors)

pub add_worlds-requires-clause-world : goal.add_worlds-requires-clause-world
add_worlds-requires-clause-world c = c.requires.sum.first

pub add_worlds-requires-clause-known : goal.add_worlds-requires-clause-known
add_worlds-requires-clause-known c = c.requires.sum.world

pub add_worlds-requires-clause-gains : goal.add_worlds-requires-clause-gains
add_worlds-requires-clause-gains c =
    sym (ap (λ n. replicate (cells_at c.args.diagram.now.nodes n) (pos 0)) c.count.ensures.count ∙ ap (λ n. replicate n (pos 0)) (some_cell c.args.diagram.now c.count.ensures.diagram))

pub add_worlds-requires-clause-masses : goal.add_worlds-requires-clause-masses
add_worlds-requires-clause-masses c =
    sym (ap (λ n. replicate (cells_at c.args.diagram.now.nodes n) 0) c.count.ensures.count ∙ ap (λ n. replicate n 0) (some_cell c.args.diagram.now c.count.ensures.diagram))
