use Rattle.std.proofs.Common.{arith, rules, refl}
use Rattle.cell_rings.specs.KindLaws.{small_gain_laws, small_gain_sizes}
use Rattle.cell_rings.specs.Kinds.{small_gain_kind}
use Rattle.cell_rings.proofs.Runs.{sum_is}
use Rattle.cell_rings.proofs.Together.{cells_are_factors}
use Rattle.cell_rings.proofs.TwoRuns.{two_fit, two_step}
use Rattle.cell_rings.proofs.small_gains.add_two_long.Goals as goal

pub mul-requires : goal.mul-requires
mul-requires c =
    let fit = two_fit (cells_are_factors small_gain_laws small_gain_sizes) c.args.at c.args.cells.now c.args.pair c.args.n c.requires.room c.loop-i.i c.loop-i-test.true c.loop-i.invariant.1 in
    fit.first refl

pub mul-requires-in-loop-i : goal.mul-requires-in-loop-i
mul-requires-in-loop-i c =
    let fit = two_fit (cells_are_factors small_gain_laws small_gain_sizes) c.args.at c.args.cells.now c.args.pair c.args.n c.requires.room c.loop-i.i c.loop-i-test.true c.loop-i.invariant.1 in
    fit.second refl

pub add-both-requires : goal.add-both-requires
add-both-requires c =
    let fit = two_fit (cells_are_factors small_gain_laws small_gain_sizes) c.args.at c.args.cells.now c.args.pair c.args.n c.requires.room c.loop-i.i c.loop-i-test.true c.loop-i.invariant.1 in
    fit.both c.mul.ensures c.mul-in-loop-i.ensures

pub add-requires : goal.add-requires
add-requires c =
    let fit = two_fit (cells_are_factors small_gain_laws small_gain_sizes) c.args.at c.args.cells.now c.args.pair c.args.n c.requires.room c.loop-i.i c.loop-i-test.true c.loop-i.invariant.1 in
    fit.all refl (sum_is small_gain_kind c.add-both.ensures c.mul.ensures c.mul-in-loop-i.ensures)

pub loop-i-preserved : goal.loop-i-preserved
loop-i-preserved c =
    let both = sum_is small_gain_kind c.add-both.ensures c.mul.ensures c.mul-in-loop-i.ensures in (
      search rules,
      two_step (cells_are_factors small_gain_laws small_gain_sizes) c.args.at c.args.cells.now c.args.pair c.loop-i.i (omega (arith, c.requires.out, c.loop-i.invariant.0)) (sum_is small_gain_kind c.add.ensures refl both) c.loop-i.invariant.1,
    )

pub bounds-cells-pair : goal.bounds-cells-pair
bounds-cells-pair c = omega (arith, c.requires.cells.0, c.loop-i-test.true)

pub bounds-cells-pair-in-loop-i : goal.bounds-cells-pair-in-loop-i
bounds-cells-pair-in-loop-i c = omega (arith, c.requires.cells.1, c.loop-i-test.true)

pub bounds-out-at : goal.bounds-out-at
bounds-out-at c = omega (arith, c.requires.out, c.loop-i-test.true, c.loop-i.invariant.0)
