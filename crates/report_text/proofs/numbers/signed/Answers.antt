-- A number is parsed back from its digits, and nothing is that prints otherwise.
use Rattle.std.proofs.Common.{◌≡◌, ℤ, Result, Ok, true, sym, ◌∙◌, ap}
use Rattle.std.specs.Fmt.{signed_decimal}
use mir.Val.{to_z, of_z}
use mir.Syntax.{w128}
use Rattle.std.proofs.lemmas.Int.{to_z-of_z}
use Rattle.std.proofs.lemmas.Bool.{false≢true}
use Rattle.std.proofs.lemmas.Slice.Eq.{bytes_eq-Decides}
use Rattle.report_text.proofs.Digits.{parses_signed, signed_is_text}
use Rattle.report_text.proofs.numbers.signed.Goals as goal

read_one : {E : Type 0} (r : Result ℤ E) (x y : ℤ) → r ≡ Ok x → r ≡ Ok y → x ≡ y
read_one r x y p q = cc

pub returns-in_default-clause-none : goal.returns-in_default-clause-none
returns-in_default-clause-none c z h e = c.in_default.ensures.cases.0 (signed_is_text z c.args.bytes.now h e)

pub returns-in_default-parse-clause-none : goal.returns-in_default-parse-clause-none
returns-in_default-parse-clause-none c z h e =
    c.in_default-parse.not-Ok z (parses_signed z c.in-Ok.text.now c.parse.result h (c.in-Ok.ensures.cases.0 ∙ e) c.parse.ensures.value.0)

pub returns-else-eq-clause-none : goal.returns-else-eq-clause-none
returns-else-eq-clause-none c z h e =
    let read = parses_signed z c.in-Ok.text.now c.parse.result h (c.in-Ok.ensures.cases.0 ∙ e) c.parse.ensures.value.0 in
    let number : c.in-Ok-parse.integer ≡ z = read_one c.parse.result c.in-Ok-parse.integer z c.in-Ok-parse.is read in
    let same : c.format.result.now ≡ c.in-Ok.text.now = c.format.ensures.text ∙ ap (λ x. signed_decimal (to_z w128 (of_z w128 x))) number ∙ ap signed_decimal (to_z-of_z w128 z h) ∙ sym e ∙ sym c.in-Ok.ensures.cases.0 in
    let equal : c.eq.result ≡ true = c.eq.ensures ∙ (bytes_eq-Decides c.format.result.now c.in-Ok.text.now).1 same in
    absurd (false≢true (sym c.if-eq.false ∙ equal))
