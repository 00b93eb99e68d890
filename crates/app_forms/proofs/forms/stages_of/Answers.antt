use Rattle.std.proofs.Common.{◌∙◌, refl, sym, decimal}
use Rattle.std.specs.Str.{bytes_eq}
use Rattle.app_forms.specs.Request.{stages_of}
use Rattle.app_forms.proofs.Digits.{found_here, found_behind}
use Rattle.app_forms.proofs.forms.stages_of.Goals as goal

-- at first all numbers are to come
pub loop-k-init : goal.loop-k-init
unfolding stages_of
loop-k-init c = refl

-- the word is not this one's digits
pub loop-k-preserved : goal.loop-k-preserved
loop-k-preserved c = c.loop-k.invariant ∙ found_behind (λ k. bytes_eq c.args.word.now (decimal k)) c.loop-k.k c.loop-k-test.true (sym c.is_digits.ensures ∙ c.if-is_digits.false)

-- or it is
pub returns-then-is_digits : goal.returns-then-is_digits
returns-then-is_digits c = sym (c.loop-k.invariant ∙ found_here (λ k. bytes_eq c.args.word.now (decimal k)) c.loop-k.k c.loop-k-test.true (sym c.is_digits.ensures ∙ c.if-is_digits.true))
