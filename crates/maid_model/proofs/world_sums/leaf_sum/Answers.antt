use Rattle.std.proofs.Common.{length, sym, refl, ap, arith, ◌∙◌, ◌≡◌, ◌≤◌, pos, subst}
use Rattle.std.specs.Int.{w128}
use Rattle.std.specs.Int.RustNames.{FitsSigned}
use mir.Val.{to_z}
use Rattle.maid_model.specs.Diagrams.{greatest_number}
use Rattle.maid_model.specs.Gains.{base_mass}
use Rattle.maid_model.proofs.Adding.{HasRoom, weight_in}
use Rattle.maid_model.proofs.Leaves.{leaves_start, leaves_room, leaves_step, leaves_end, leaves_small, bits_fit}
use Rattle.maid_model.proofs.world_sums.leaf_sum.Goals as goal

pub worlds-init : goal.worlds-init
worlds-init c = leaves_start c.args.diagram.now c.count-nothing.ensures.diagram c.args.profile.now c.requires.profile c.args.agent c.utilities_of-marks.result c.utilities_of-marks.ensures.tested c.args.world.now c.requires.first

pub world_weight-weight-requires-clause-fits : goal.world_weight-weight-requires-clause-fits
world_weight-weight-requires-clause-fits c =
    subst (λ n. base_mass c.args.diagram.now.nodes c.args.profile.now n ≤ greatest_number) (sym c.count-nothing.ensures.count)
    (leaves_room c.args.diagram.now c.count-nothing.ensures.diagram c.args.profile.now c.requires.profile c.args.agent c.utilities_of-marks.result c.utilities_of-marks.ensures.tested c.requires.fits).mass

pub world_gain-sum-requires-clause-marks : goal.world_gain-sum-requires-clause-marks
world_gain-sum-requires-clause-marks c v l m = ((c.utilities_of-marks.ensures.utilities v).0 m).kind

pub world_gain-sum-requires-clause-utility : goal.world_gain-sum-requires-clause-utility
world_gain-sum-requires-clause-utility c = (leaves_room c.args.diagram.now c.count-nothing.ensures.diagram c.args.profile.now c.requires.profile c.args.agent c.utilities_of-marks.result c.utilities_of-marks.ensures.tested c.requires.fits).utility

pub world_gain-sum-requires-clause-weight : goal.world_gain-sum-requires-clause-weight
world_gain-sum-requires-clause-weight c =
    let room : HasRoom c.args.diagram.now.nodes (base_mass c.args.diagram.now.nodes c.args.profile.now (length c.args.diagram.now.nodes)) = leaves_room c.args.diagram.now c.count-nothing.ensures.diagram c.args.profile.now c.requires.profile c.args.agent c.utilities_of-marks.result c.utilities_of-marks.ensures.tested c.requires.fits in
    omega (arith, room.mass, (subst (λ n. c.world_weight-weight.result ≤ base_mass c.args.diagram.now.nodes c.args.profile.now n) c.count-nothing.ensures.count c.world_weight-weight.ensures.within))

pub world_gain-sum-requires-clause-fits : goal.world_gain-sum-requires-clause-fits
world_gain-sum-requires-clause-fits c =
    (leaves_room c.args.diagram.now c.count-nothing.ensures.diagram c.args.profile.now c.requires.profile c.args.agent c.utilities_of-marks.result c.utilities_of-marks.ensures.tested c.requires.fits).product c.world_weight-weight.result (subst (λ n. c.world_weight-weight.result ≤ base_mass c.args.diagram.now.nodes c.args.profile.now n) c.count-nothing.ensures.count c.world_weight-weight.ensures.within)

pub overflow_add-sum : goal.overflow_add-sum
overflow_add-sum c =
    let f : FitsSigned w128 c.world_gain-sum.result = record { sfits = c.world_gain-sum.type_inv } in
    bits_fit c.args.diagram.now c.count-nothing.ensures.diagram c.args.profile.now c.requires.profile c.args.agent c.utilities_of-marks.result c.utilities_of-marks.ensures.tested c.requires.fits (to_z w128 c.worlds.sum-bits) c.worlds.world c.worlds.invariant c.world_weight-weight.result (subst (λ n. pos c.world_weight-weight.result ≡ weight_in c.args.diagram.now.nodes c.args.profile.now n c.worlds.world) c.count-nothing.ensures.count c.world_weight-weight.ensures.weight) c.world_gain-sum.result c.world_gain-sum.ensures f

pub returns-then-not-next-clause-sum : goal.returns-then-not-next-clause-sum
returns-then-not-next-clause-sum c =
    let f : FitsSigned w128 c.world_gain-sum.result = record { sfits = c.world_gain-sum.type_inv } in
    leaves_end c.args.diagram.now c.count-nothing.ensures.diagram c.args.profile.now c.requires.profile c.args.agent c.utilities_of-marks.result c.utilities_of-marks.ensures.tested c.requires.fits (to_z w128 c.worlds.sum-bits) c.worlds.world c.worlds.invariant c.world_weight-weight.result (subst (λ n. pos c.world_weight-weight.result ≡ weight_in c.args.diagram.now.nodes c.args.profile.now n c.worlds.world) c.count-nothing.ensures.count c.world_weight-weight.ensures.weight) c.world_gain-sum.result c.world_gain-sum.ensures f (c.if-not-next.ensures.last refl)

pub returns-then-not-next-clause-small : goal.returns-then-not-next-clause-small
returns-then-not-next-clause-small c =
    let f : FitsSigned w128 c.world_gain-sum.result = record { sfits = c.world_gain-sum.type_inv } in
    leaves_small c.args.diagram.now c.count-nothing.ensures.diagram c.args.profile.now c.requires.profile c.args.agent c.utilities_of-marks.result c.utilities_of-marks.ensures.tested c.requires.fits (to_z w128 c.worlds.sum-bits) c.worlds.world c.worlds.invariant c.world_weight-weight.result (subst (λ n. pos c.world_weight-weight.result ≡ weight_in c.args.diagram.now.nodes c.args.profile.now n c.worlds.world) c.count-nothing.ensures.count c.world_weight-weight.ensures.weight) c.world_gain-sum.result c.world_gain-sum.ensures f

pub worlds-preserved : goal.worlds-preserved
worlds-preserved c =
    let f : FitsSigned w128 c.world_gain-sum.result = record { sfits = c.world_gain-sum.type_inv } in
    leaves_step c.args.diagram.now c.count-nothing.ensures.diagram c.args.profile.now c.requires.profile c.args.agent c.utilities_of-marks.result c.utilities_of-marks.ensures.tested c.requires.fits (to_z w128 c.worlds.sum-bits) c.worlds.world c.worlds.invariant c.world_weight-weight.result (subst (λ n. pos c.world_weight-weight.result ≡ weight_in c.args.diagram.now.nodes c.args.profile.now n c.worlds.world) c.count-nothing.ensures.count c.world_weight-weight.ensures.weight) c.world_gain-sum.result c.world_gain-sum.ensures f c.next.new.self c.if-not-next.ensures.world (c.if-not-next.ensures.more refl)

pub worlds-smaller : goal.worlds-smaller
worlds-smaller c = omega (arith, ap length (c.if-not-next.ensures.more refl))

pub returns-then-not-next-clause-again : goal.returns-then-not-next-clause-again
returns-then-not-next-clause-again c = c.if-not-next.ensures.again refl ∙ sym c.requires.first
