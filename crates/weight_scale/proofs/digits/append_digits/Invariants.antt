use Rattle.std.proofs.Common.{◌≡◌, ◌<◌, ◌^◌, drop}
use Rattle.weight_scale.specs.Numeral.{number_behind}
use Rattle.weight_scale.proofs.digits.append_digits.Given as goal

abbrev pub invariant-loop-digit : goal.invariant-loop-digit
invariant-loop-digit l = record {
  small : l.longer < 2 ^ 126;
  whole : number_behind l.longer (drop l.digit-index l.digits) ≡ number_behind l.number l.digits;
}
