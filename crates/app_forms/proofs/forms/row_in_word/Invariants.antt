use Rattle.std.proofs.Common.{◌≡◌, ◌<◌, ◌^◌, take}
use Rattle.app_forms.proofs.forms.row_in_word.Given as goal
use Rattle.weight_scale.specs.Numeral.{number_of}

-- the number of the digits so far
abbrev pub invariant-loop-byte : goal.invariant-loop-byte
invariant-loop-byte l = (l.row ≡ number_of (take l.byte-index l.word)) × (l.row < 10 ^ l.byte-index)
