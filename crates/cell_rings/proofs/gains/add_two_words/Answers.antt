use Rattle.std.proofs.Common.{arith, rules, refl}
use Rattle.cell_rings.specs.KindLaws.{gain_laws, gain_sizes}
use Rattle.cell_rings.specs.Kinds.{gain_kind}
use Rattle.cell_rings.specs.Words.{of_word, word_size}
use Rattle.cell_rings.proofs.Runs.{sum_is}
use Rattle.cell_rings.proofs.Together.{AreFactors}
use Rattle.cell_rings.proofs.TwoRuns.{two_fit, two_step}
use Rattle.cell_rings.proofs.gains.add_two_words.Goals as goal

factors : AreFactors gain_kind of_word word_size
factors = record { laws = gain_laws; sizes = gain_sizes; same = λ a. refl }

pub word_sum-requires-clause-cells : goal.word_sum-requires-clause-cells
word_sum-requires-clause-cells c = (omega (arith, c.requires.cells), omega (arith, c.requires.cells))

pub word_sum-requires-clause-narrow : goal.word_sum-requires-clause-narrow
word_sum-requires-clause-narrow c =
    (λ k h. c.requires.narrow.0 k (omega (arith, c.loop-i-test.true)), λ k h. c.requires.narrow.1 k (omega (arith, c.loop-i-test.true)))

pub word_sum-requires-clause-room : goal.word_sum-requires-clause-room
word_sum-requires-clause-room c =
    let fit = two_fit factors c.args.at c.args.cells.now c.args.pair c.args.n c.requires.room c.loop-i.i c.loop-i-test.true c.loop-i.invariant.1 in
    fit.sum

pub add-requires : goal.add-requires
add-requires c =
    let fit = two_fit factors c.args.at c.args.cells.now c.args.pair c.args.n c.requires.room c.loop-i.i c.loop-i-test.true c.loop-i.invariant.1 in
    fit.all refl c.word_sum.ensures

pub loop-i-preserved : goal.loop-i-preserved
loop-i-preserved c = (
  search rules,
  two_step factors c.args.at c.args.cells.now c.args.pair c.loop-i.i (omega (arith, c.requires.out, c.loop-i.invariant.0)) (sum_is gain_kind c.add.ensures refl c.word_sum.ensures) c.loop-i.invariant.1,
)
