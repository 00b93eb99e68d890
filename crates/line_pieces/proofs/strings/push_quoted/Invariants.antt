use Rattle.std.proofs.Common.{◌≡◌, ◌∷◌, ◌++◌, take, flat_map}
use Rattle.maid_model.specs.Reports.{escaped}
use Rattle.line_pieces.proofs.strings.push_quoted.Given as goal

-- the opening quote and the bytes so far
abbrev pub invariant-loop-byte : goal.invariant-loop-byte
invariant-loop-byte l = l.out.items ≡ l.fn.out.items ++ 34 ∷ flat_map escaped (take l.byte-index l.bytes)
