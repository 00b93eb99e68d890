use Rattle.std.proofs.Common.{arith, sym, ◌∙◌}
use Rattle.std.proofs.Math.Nat.{pos_of_ne-zero}
use Rattle.std.proofs.lemmas.List.Sums.{prefix_len-le-length}
use Rattle.net_lexer.specs.Bytes.{is_digit, is_run_byte}
use Rattle.net_lexer.proofs.Plain.{plain_whole, plain_point}
use Rattle.net_lexer.proofs.pieces.plain_len.Goals as goal

pub behind-rest-requires : goal.behind-rest-requires
behind-rest-requires c = omega (arith, c.digits_len-whole.ensures, prefix_len-le-length is_digit c.args.bytes.now)

pub overflow_add-result-in-Some-last_digits_len : goal.overflow_add-result-in-Some-last_digits_len
overflow_add-result-in-Some-last_digits_len c =
    let front = plain_point _ _ _ _ c.digits_len-whole.ensures (pos_of_ne-zero c.if-whole-eq0.false) (sym c.behind-rest.ensures ∙ c.in-Some.ensures) c.in-Some-last_digits_len.ensures.len c.in-Some-last_digits_len.ensures.ends in
    omega (arith, front.0, prefix_len-le-length is_run_byte c.args.bytes.now)

pub returns-in-Some-last_digits_len-clause-len : goal.returns-in-Some-last_digits_len-clause-len
returns-in-Some-last_digits_len-clause-len c = (plain_point _ _ _ _ c.digits_len-whole.ensures (pos_of_ne-zero c.if-whole-eq0.false) (sym c.behind-rest.ensures ∙ c.in-Some.ensures) c.in-Some-last_digits_len.ensures.len c.in-Some-last_digits_len.ensures.ends).0

pub returns-in-Some-last_digits_len-clause-numeral : goal.returns-in-Some-last_digits_len-clause-numeral
returns-in-Some-last_digits_len-clause-numeral c = (plain_point _ _ _ _ c.digits_len-whole.ensures (pos_of_ne-zero c.if-whole-eq0.false) (sym c.behind-rest.ensures ∙ c.in-Some.ensures) c.in-Some-last_digits_len.ensures.len c.in-Some-last_digits_len.ensures.ends).1

pub returns-in-None-2-clause-len : goal.returns-in-None-2-clause-len
returns-in-None-2-clause-len c = (plain_whole _ _ c.digits_len-whole.ensures (pos_of_ne-zero c.if-whole-eq0.false) (rw c.behind-rest.ensures at (sym c.run_goes_on.ensures ∙ c.if-run_goes_on.false))).0

pub returns-in-None-2-clause-numeral : goal.returns-in-None-2-clause-numeral
returns-in-None-2-clause-numeral c = (plain_whole _ _ c.digits_len-whole.ensures (pos_of_ne-zero c.if-whole-eq0.false) (rw c.behind-rest.ensures at (sym c.run_goes_on.ensures ∙ c.if-run_goes_on.false))).1
