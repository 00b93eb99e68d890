use Rattle.std.proofs.Common.{◌≡◌, ◌≢◌, ◌≤◌, ◌⊎◌, ◌-◌, get_or, length, drop, rules, arith}
use Rattle.std.proofs.lemmas.List.{length-take, length-drop}
use Rattle.net_lexer.proofs.Quotes.{meant_escape, meant_byte}
use Rattle.net_lexer.proofs.strings.first_meant.Goals as goal

pub returns-in-92-clause-meant : goal.returns-in-92-clause-meant
returns-in-92-clause-meant c =
    let xs = c.args.bytes.now in
    let first : get_or xs 0 0 ≡ 92 = search rules in
    let second : (get_or xs 1 0 ≡ 34) ⊎ (get_or xs 1 0 ≡ 92) = search rules in
    meant_escape xs c.in-92.len_at_least first second

pub returns-in-len1-up-clause-meant : goal.returns-in-len1-up-clause-meant
returns-in-len1-up-clause-meant c =
    let xs = c.args.bytes.now in
    let some : 1 ≤ length xs = search rules in
    let second : 2 ≤ length xs → get_or xs 0 0 ≡ 92 → (get_or xs 1 0 ≢ 34) × (get_or xs 1 0 ≢ 92) = grind arith in
    meant_byte xs some second

pub returns-in-92-clause-shorter : goal.returns-in-92-clause-shorter
returns-in-92-clause-shorter c =
    let xs = c.args.bytes.now in
    omega (arith, c.in-92.len_at_least, length-take (length xs - 2) (drop 2 xs), length-drop 2 xs)

pub returns-in-len1-up-clause-shorter : goal.returns-in-len1-up-clause-shorter
returns-in-len1-up-clause-shorter c =
    let xs = c.args.bytes.now in
    let some : 1 ≤ length xs = search rules in
    omega (arith, some, length-take (length xs - 1) (drop 1 xs), length-drop 1 xs)
