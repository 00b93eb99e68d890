use Rattle.std.proofs.Common.{◌≡◌, ◌<◌, ◌^◌, drop}
use Rattle.std.specs.List.{list_all}
use Rattle.net_lexer.specs.Bytes.{is_digit}
use Rattle.weight_scale.specs.Numeral.{number_behind, number_of}
use Rattle.weight_scale.proofs.digits.few_digits.Given as goal

-- the digits so far are below the tens of their count, and those to come follow them
abbrev pub invariant-loop-byte : goal.invariant-loop-byte
invariant-loop-byte l = record {
  small : l.number < 10 ^ l.byte-index;
  whole : number_behind l.number (drop l.byte-index l.bytes) ≡ number_of l.bytes;
  digits : list_all is_digit (drop l.byte-index l.bytes) ≡ list_all is_digit l.bytes;
}
