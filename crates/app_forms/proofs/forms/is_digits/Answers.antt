use Rattle.std.proofs.Common.{ℕ, [], ◌∷◌, ap, sym, ◌∙◌, arith}
use Rattle.std.proofs.lemmas.Fmt.{decimal_digit}
use Rattle.std.specs.Str.{bytes_eq}
use Rattle.app_forms.proofs.Digits.{two_digits}
use Rattle.app_forms.proofs.forms.is_digits.Goals as goal

-- a number below 10 has one digit
pub returns-then-k-lt10 : goal.returns-then-k-lt10
returns-then-k-lt10 c = c.eq.ensures ∙ ap (bytes_eq c.args.word.now) (c.as_slice.ensures ∙ ap (λ (n : ℕ). n ∷ []) (omega (arith, c.if-k-lt10.true)) ∙ sym (decimal_digit c.args.k c.if-k-lt10.true))

-- and another below 100 has two
pub returns-else-k-lt10 : goal.returns-else-k-lt10
returns-else-k-lt10 c = c.eq-else-k-lt10.ensures ∙ ap (bytes_eq c.args.word.now) (c.as_slice-else-k-lt10.ensures ∙ sym (two_digits c.args.k c.if-k-lt10.false c.requires))
