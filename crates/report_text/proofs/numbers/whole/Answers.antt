-- A number is parsed back from its digits, and nothing is that prints otherwise.
use Rattle.std.proofs.Common.{◌≡◌, ℕ, Result, Ok, true, sym, ◌∙◌, ap, arith}
use Rattle.std.specs.Prelude.{decimal}
use Rattle.std.proofs.lemmas.Bool.{false≢true}
use Rattle.std.proofs.lemmas.Slice.Eq.{bytes_eq-Decides}
use Rattle.report_text.proofs.Digits.{parses_whole, whole_is_text}
use Rattle.report_text.proofs.numbers.whole.Goals as goal

read_one : {E : Type 0} (r : Result ℕ E) (x y : ℕ) → r ≡ Ok x → r ≡ Ok y → x ≡ y
read_one r x y p q = cc

pub returns-in_default-clause-none : goal.returns-in_default-clause-none
returns-in_default-clause-none c n h e = c.in_default.ensures.cases.0 (whole_is_text n c.args.bytes.now (omega (arith, h)) e)

pub returns-in_default-parse-clause-none : goal.returns-in_default-parse-clause-none
returns-in_default-parse-clause-none c n h e =
    c.in_default-parse.not-Ok n (parses_whole n c.in-Ok.text.now c.parse.result h (c.in-Ok.ensures.cases.0 ∙ e) c.parse.ensures.value.0)

pub returns-else-eq-clause-none : goal.returns-else-eq-clause-none
returns-else-eq-clause-none c n h e =
    let read = parses_whole n c.in-Ok.text.now c.parse.result h (c.in-Ok.ensures.cases.0 ∙ e) c.parse.ensures.value.0 in
    let number : c.in-Ok-parse.number ≡ n = read_one c.parse.result c.in-Ok-parse.number n c.in-Ok-parse.is read in
    let same : c.format.result.now ≡ c.in-Ok.text.now = c.format.ensures.text ∙ ap decimal number ∙ sym e ∙ sym c.in-Ok.ensures.cases.0 in
    let equal : c.eq.result ≡ true = c.eq.ensures ∙ (bytes_eq-Decides c.format.result.now c.in-Ok.text.now).1 same in
    absurd (false≢true (sym c.if-eq.false ∙ equal))
