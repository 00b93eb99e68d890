use Rattle.std.proofs.Common.{ℕ, ◌+◌, ◌<◌, ◌≤◌, List, arith, rules, refl, ap}
use Rattle.cell_rings.specs.Sums.{cell_at, four_scaled, four_sizes, AddsFour, HasRoomForFour}
use Rattle.cell_rings.specs.KindLaws.{gain_laws, gain_sizes}
use Rattle.cell_rings.specs.Kinds.{gain_kind}
use Rattle.cell_rings.specs.Words.{of_word, word_size}
use Rattle.cell_rings.specs.declared.gains.Gain.{Gain}
use Rattle.cell_rings.specs.declared.gains.Word.{Word}
use Rattle.cell_rings.specs.declared.pairs.RunPair.{RunPair}
use Rattle.cell_rings.proofs.Runs.{run_room, run_step, sum_is}
use Rattle.cell_rings.proofs.Together.{AreFactors, two_size, four_size}
use Rattle.cell_rings.proofs.gains.add_four_words.Goals as goal

factors : AreFactors gain_kind of_word word_size
factors = record { laws = gain_laws; sizes = gain_sizes; same = λ a. refl }

-- room for the next cells of the four runs
four_room : (n at : ℕ) (cells : List Gain) (one other : RunPair Word) {xs now : List Gain} → HasRoomForFour gain_kind word_size xs at n cells one other → (i : ℕ) → i < n → AddsFour gain_kind of_word xs now at i cells one other → gain_kind.size (cell_at gain_kind now (at + i)) + four_sizes gain_kind word_size cells one other i ≤ gain_kind.most
four_room n at cells one other room i h adds =
    run_room gain_laws gain_sizes n at (four_scaled gain_kind of_word cells one other) (four_sizes gain_kind word_size cells one other) (four_size factors cells one other) room i h adds

pub word_sum-requires-clause-room : goal.word_sum-requires-clause-room
word_sum-requires-clause-room c =
    let room = four_room c.args.n c.args.at c.args.cells.now c.args.one c.args.other c.requires.room c.loop-i.i c.loop-i-test.true c.loop-i.invariant.1 in
    omega (arith, room)

pub word_sum-requires-in-loop-i-clause-room : goal.word_sum-requires-in-loop-i-clause-room
word_sum-requires-in-loop-i-clause-room c =
    let room = four_room c.args.n c.args.at c.args.cells.now c.args.one c.args.other c.requires.room c.loop-i.i c.loop-i-test.true c.loop-i.invariant.1 in
    omega (arith, room)

pub add-four-requires : goal.add-four-requires
add-four-requires c =
    let room = four_room c.args.n c.args.at c.args.cells.now c.args.one c.args.other c.requires.room c.loop-i.i c.loop-i-test.true c.loop-i.invariant.1 in
    let size = two_size factors c.args.cells.now in
    omega (arith, room, ap gain_kind.size c.word_sum.ensures, ap gain_kind.size c.word_sum-in-loop-i.ensures, size c.args.one c.loop-i.i, size c.args.other c.loop-i.i)

pub add-requires : goal.add-requires
add-requires c =
    let room = four_room c.args.n c.args.at c.args.cells.now c.args.one c.args.other c.requires.room c.loop-i.i c.loop-i-test.true c.loop-i.invariant.1 in
    let four = sum_is gain_kind c.add-four.ensures c.word_sum.ensures c.word_sum-in-loop-i.ensures in
    omega (arith, room, ap gain_kind.size four, four_size factors c.args.cells.now c.args.one c.args.other c.loop-i.i)

pub loop-i-preserved : goal.loop-i-preserved
loop-i-preserved c =
    let four = sum_is gain_kind c.add-four.ensures c.word_sum.ensures c.word_sum-in-loop-i.ensures in (
      search rules,
      run_step gain_laws gain_sizes c.args.at (four_scaled gain_kind of_word c.args.cells.now c.args.one c.args.other) c.loop-i.i (omega (arith, c.requires.out, c.loop-i.invariant.0)) (sum_is gain_kind c.add.ensures refl four) c.loop-i.invariant.1,
    )
