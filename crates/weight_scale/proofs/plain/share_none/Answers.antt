use Rattle.std.proofs.Common.{rules, ◌≡◌, pos, get_or, unsigned_abs, refl}
use Rattle.weight_scale.proofs.PlainParts.{shares_start, shares_none, shares_more, shares_end}
use Rattle.weight_scale.proofs.plain.share_none.Goals as goal

pub loop-number-init : goal.loop-number-init
loop-number-init c = shares_start c.args.numbers.now

pub loop-number-preserved : goal.loop-number-preserved
loop-number-preserved c =
    let e : c.size.result ≡ unsigned_abs (get_or c.args.numbers.now c.loop-number.number-index (pos 0)) = search rules in
    shares_more c.args.numbers.now c.loop-number.number-index c.loop-number.divisor c.size.result c.gcd-divisor.result c.loop-number-test.true e c.gcd-divisor.ensures.greatest c.loop-number.invariant c.if-divisor-eq1.false

pub returns-then-divisor-eq1 : goal.returns-then-divisor-eq1
returns-then-divisor-eq1 c =
    let e : c.size.result ≡ unsigned_abs (get_or c.args.numbers.now c.loop-number.number-index (pos 0)) = search rules in
    (λ _. shares_none c.args.numbers.now c.loop-number.number-index c.loop-number.divisor c.size.result c.gcd-divisor.result c.loop-number-test.true e c.gcd-divisor.ensures.greatest c.loop-number.invariant c.if-divisor-eq1.true, λ _. refl)

pub returns : goal.returns
returns c =
    let shared = shares_end c.args.numbers.now c.loop-number.number-index c.loop-number.divisor c.loop-number-test.false c.loop-number.invariant in
    (λ e. absurd (cc), λ none. absurd (shared none))
