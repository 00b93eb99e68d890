use Rattle.std.proofs.Common.{◌≡◌, ◌≢◌, ◌≤◌, ◌⊎◌, get_or, length, rules, ◌∙◌, arith}
use Rattle.net_lexer.proofs.Quotes.{past_escape, past_byte}
use Rattle.net_lexer.proofs.strings.behind_quote.Goals as goal

pub loop-rest-preserved-in-92 : goal.loop-rest-preserved-in-92
loop-rest-preserved-in-92 c =
    let xs = c.loop-rest.rest.now in
    let first : get_or xs 0 0 ≡ 92 = search rules in
    let second : (get_or xs 1 0 ≡ 34) ⊎ (get_or xs 1 0 ≡ 92) = search rules in
    past_escape xs c.in-92.len_at_least first second ∙ c.loop-rest.invariant

pub loop-rest-preserved : goal.loop-rest-preserved
loop-rest-preserved c =
    let xs = c.loop-rest.rest.now in
    let some : 1 ≤ length xs = search rules in
    let first : get_or xs 0 0 ≢ 34 = grind arith in
    let second : 2 ≤ length xs → get_or xs 0 0 ≡ 92 → (get_or xs 1 0 ≢ 34) × (get_or xs 1 0 ≢ 92) = grind arith in
    past_byte xs some first second ∙ c.loop-rest.invariant
