use Rattle.std.proofs.Common.{length, refl, arith}
use Rattle.eliminate.proofs.Filing.{no_rank}
use Rattle.eliminate.proofs.places.set_order.Goals as goal

pub loop-i-init : goal.loop-i-init
loop-i-init c =
    let steps = length c.args.steps.now in
    let none = no_rank c.loop-v.ranks steps c.loop-v.v c.loop-v.invariant.0 (omega (arith, c.loop-v.invariant.1, c.loop-v-test.false)) in
    (c.loop-v.invariant.1, (λ j a b. absurd (omega (arith, a, b))), (λ u l. absurd (omega (arith, l, none u))), refl, (λ u k other l ranked. absurd (omega (arith, ranked, none u))))
