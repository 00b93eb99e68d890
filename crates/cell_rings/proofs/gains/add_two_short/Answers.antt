use Rattle.std.proofs.Common.{arith, rules, refl}
use Rattle.cell_rings.specs.KindLaws.{gain_laws, gain_sizes}
use Rattle.cell_rings.specs.Kinds.{gain_kind, as_gain}
use Rattle.std.specs.Prelude.{pos}
use Rattle.cell_rings.proofs.Runs.{sum_is}
use Rattle.cell_rings.proofs.Together.{AreFactors}
use Rattle.cell_rings.proofs.TwoRuns.{two_fit, two_step}
use Rattle.cell_rings.proofs.gains.add_two_short.Goals as goal

factors : AreFactors gain_kind (λ f. as_gain (pos f)) (λ f. f)
factors = record { laws = gain_laws; sizes = gain_sizes; same = λ a. refl }

pub short_product-requires : goal.short_product-requires
short_product-requires c =
    let fit = two_fit factors c.args.at c.args.cells.now c.args.pair c.args.n c.requires.room c.loop-i.i c.loop-i-test.true c.loop-i.invariant.1 in
    fit.first refl

pub short_product-requires-in-loop-i : goal.short_product-requires-in-loop-i
short_product-requires-in-loop-i c =
    let fit = two_fit factors c.args.at c.args.cells.now c.args.pair c.args.n c.requires.room c.loop-i.i c.loop-i-test.true c.loop-i.invariant.1 in
    fit.second refl

pub add-both-requires : goal.add-both-requires
add-both-requires c =
    let fit = two_fit factors c.args.at c.args.cells.now c.args.pair c.args.n c.requires.room c.loop-i.i c.loop-i-test.true c.loop-i.invariant.1 in
    fit.both c.short_product.ensures c.short_product-in-loop-i.ensures

pub add-requires : goal.add-requires
add-requires c =
    let fit = two_fit factors c.args.at c.args.cells.now c.args.pair c.args.n c.requires.room c.loop-i.i c.loop-i-test.true c.loop-i.invariant.1 in
    fit.all refl (sum_is gain_kind c.add-both.ensures c.short_product.ensures c.short_product-in-loop-i.ensures)

pub loop-i-preserved : goal.loop-i-preserved
loop-i-preserved c =
    let both = sum_is gain_kind c.add-both.ensures c.short_product.ensures c.short_product-in-loop-i.ensures in (
      search rules,
      two_step factors c.args.at c.args.cells.now c.args.pair c.loop-i.i (omega (arith, c.requires.out, c.loop-i.invariant.0)) (sum_is gain_kind c.add.ensures refl both) c.loop-i.invariant.1,
    )

pub bounds-cells-pair : goal.bounds-cells-pair
bounds-cells-pair c = omega (arith, c.requires.cells.0, c.loop-i-test.true)

pub bounds-cells-pair-in-loop-i : goal.bounds-cells-pair-in-loop-i
bounds-cells-pair-in-loop-i c = omega (arith, c.requires.cells.1, c.loop-i-test.true)

pub bounds-out-at : goal.bounds-out-at
bounds-out-at c = omega (arith, c.requires.out, c.loop-i-test.true, c.loop-i.invariant.0)
