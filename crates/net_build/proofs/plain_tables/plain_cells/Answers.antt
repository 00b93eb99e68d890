use Rattle.std.proofs.Common.{◌≡◌, ◌∙◌, arith, length, subst, sym}
use Rattle.std.specs.Int.{◌∣◌}
use Rattle.net_build.proofs.PlainParts.{of_none, whole_len}
use Rattle.net_build.proofs.plain_tables.plain_cells.Goals as goal

pub plain_total-requires-clause-whole : goal.plain_total-requires-clause-whole
plain_total-requires-clause-whole c =
    let whole = rw c.in-Some.is at c.in_ok-cells.ensures.whole in
    let count : length c.args.numerals.now ≡ c.args.want = omega (arith, c.if-numerals-want.false) in
    rw c.deref.ensures.value (subst (λ n. c.args.states ∣ n) (sym (whole_len c.args.text.now c.args.numerals.now c.in-Some.cells.items whole ∙ count)) c.requires.whole)

pub returns-then-is_none-clause-none : goal.returns-then-is_none-clause-none
returns-then-is_none-clause-none c = λ plain.
    let numbers = rw c.in-Some.is at c.in_ok-cells.ensures.numbers in
    let none = rw (c.deref.ensures.value, numbers) at c.plain_total.ensures.none in
    of_none c.plain_total.result c.if-is_none.ensures none plain.2.0 plain.2.1
