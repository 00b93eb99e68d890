use Rattle.std.proofs.Common.{◌≡◌, ◌+◌, ◌*◌, ◌^◌, arith, sym, ap, ◌∙◌}
use Rattle.std.proofs.Math.Nat.{pow-suc}
use Rattle.std.proofs.lemmas.List.{at_drop_more}
use Rattle.weight_scale.specs.Numeral.{number_behind}
use Rattle.weight_scale.proofs.Few.{few_fit}
use Rattle.weight_scale.proofs.digits.append_few.Goals as goal

pub overflow_mul-longer : goal.overflow_mul-longer
overflow_mul-longer c = omega (arith, few_fit c.loop-digit.longer (c.loop-digit.digit-index + 9) 18 c.loop-digit.invariant.small (omega arith) (omega arith))

pub overflow_add-longer : goal.overflow_add-longer
overflow_add-longer c = omega (arith, c.digit_value.ensures.small, few_fit c.loop-digit.longer (c.loop-digit.digit-index + 9) 18 c.loop-digit.invariant.small (omega arith) (omega arith))

pub loop-digit-preserved : goal.loop-digit-preserved
loop-digit-preserved c =
    let i = c.loop-digit.digit-index in
    let more : 10 ^ (i + 1 + 9) ≡ 10 ^ (i + 9) * 10 = ap (λ n. 10 ^ n) (omega arith) ∙ pow-suc 10 (i + 9) in
    record {
      small = omega (arith, more, c.digit_value.ensures.small, c.loop-digit.invariant.small);
      whole = rw c.digit_value.ensures.value (sym (at_drop_more (number_behind c.loop-digit.longer) c.args.digits.now i 0 c.loop-digit-test.true) ∙ c.loop-digit.invariant.whole);
    }
