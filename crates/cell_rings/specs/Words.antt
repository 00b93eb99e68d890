-- Cells whose bits are few. Only private contracts cite this file.
use Rattle.std.specs.Prelude.{ℕ, ℤ, pos, nat_abs, ◌+◌, ◌^◌, ◌<◌, ◌+ℤ◌, ◌*ℤ◌, List}
use Rattle.std.specs.Int.{w64, w128, cast_unsigned, int_wrap}
use Rattle.cell_rings.specs.Kinds.{small_gain_kind, gain_kind, as_gain}
use Rattle.cell_rings.specs.Sums.{cell_at}
use Rattle.cell_rings.specs.declared.gains.Gain.{Gain}
use Rattle.cell_rings.specs.declared.gains.Split.{Split}
use Rattle.cell_rings.specs.declared.gains.Word.{Word}
use Rattle.cell_rings.specs.declared.pairs.RunPair.{RunPair}
use Rattle.cell_rings.specs.declared.small_gains.SmallGain.{SmallGain}

-- half a word: a number from 0 and below 2^32
abbrev pub FitsHalf : SmallGain → Type 0
FitsHalf a = cast_unsigned w64 a.0 < 2 ^ 32

-- n cells from a place on are such
abbrev pub AreHalves : List SmallGain → ℕ → ℕ → Type 0
AreHalves cells from n = (i : ℕ) → i < n → FitsHalf (cell_at small_gain_kind cells (from + i))

-- one word: a number whose absolute value is below 2^63
abbrev pub FitsWord : Gain → Type 0
FitsWord a = nat_abs a.0 < 2 ^ 63

-- n cells from a place on are such
abbrev pub AreWords : List Gain → ℕ → ℕ → Type 0
AreWords cells from n = (i : ℕ) → i < n → FitsWord (cell_at gain_kind cells (from + i))

-- those of both runs of n cells are
abbrev pub AreWordPair : {F : Type 0} → List Gain → RunPair F → ℕ → Type 0
AreWordPair cells pair n = AreWords cells pair.from n × AreWords cells pair.beside n

-- the cell that a number in one word makes
abbrev pub of_word : Word → Gain
of_word a = as_gain a.value

-- the size of a number in one word: its absolute value
abbrev pub word_size : Word → ℕ
word_size a = nat_abs a.value

-- the same runs with both factors in one word
abbrev pub word_pair : RunPair Gain → RunPair Word
word_pair pair = record {
  first = record { value = pair.first.0 };
  second = record { value = pair.second.0 };
  from = pair.from;
  beside = pair.beside;
}

-- the number that its two words make up, in 128 bits
abbrev pub whole : Split → ℤ
whole a = int_wrap w128 (a.low +ℤ (a.high *ℤ pos (2 ^ 64)))
