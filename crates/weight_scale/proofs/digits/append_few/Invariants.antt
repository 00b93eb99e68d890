use Rattle.std.proofs.Common.{◌≡◌, ◌<◌, ◌+◌, ◌^◌, drop}
use Rattle.weight_scale.specs.Numeral.{number_behind}
use Rattle.weight_scale.proofs.digits.append_few.Given as goal

-- the number so far is below the tens of its digits, and those to come follow them
abbrev pub invariant-loop-digit : goal.invariant-loop-digit
invariant-loop-digit l = record {
  small : l.longer < 10 ^ (l.digit-index + 9);
  whole : number_behind l.longer (drop l.digit-index l.digits) ≡ number_behind l.number l.digits;
}
