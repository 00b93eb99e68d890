use Rattle.std.proofs.Common.{◌≡◌, ◌<◌, ◌≤ℤ◌, ℕ, pos, All, map, take, get_or}
use Rattle.net_lexer.specs.Token.{token_bytes}
use Rattle.net_build.specs.Blocks.{no_token}
use Rattle.net_build.specs.TableParts.{AreWholeNumbers, IsFewDigits, few_number}
use Rattle.net_build.proofs.plain_tables.whole_numbers.Given as goal

-- the tokens so far are numbers of few digits, and these are they
abbrev pub invariant-loop-token : goal.invariant-loop-token
invariant-loop-token l = record {
  few : (k : ℕ) → k < l.token-index → IsFewDigits l.text (get_or l.tokens k no_token);
  numbers : l.numbers.items ≡ map (few_number l.text) (take l.token-index l.tokens);
  whole : AreWholeNumbers (map (token_bytes l.text) (take l.token-index l.tokens)) l.numbers.items;
  above : All (λ x. pos 0 ≤ℤ x) l.numbers.items;
}
