use Rattle.std.proofs.Common.{◌≡◌, ◌∙◌, ◌+◌, ◌*◌, ◌≤◌, ap, arith, length}
use Rattle.std.specs.List.{range_with_len}
use Rattle.finite_sums.specs.Sums.{nat_product_over}
use Rattle.evidence.proofs.Products.{factor_at, one_factor, product_so_far}
use Rattle.evidence.proofs.stakes.chance_product.Goals as goal
use Rattle.evidence.proofs.stakes.chance_product.Goals.{After-chance_factor-product}

-- with the next factor
next : (c : After-chance_factor-product) → c.loop-v.product * c.chance_factor-product.result ≡ nat_product_over (factor_at c.args.diagram.now.nodes c.args.set.now) (range_with_len 0 (c.loop-v.v + 1))
next c =
    ap (λ n. c.loop-v.product * n) c.chance_factor-product.ensures
    ∙ one_factor (factor_at c.args.diagram.now.nodes c.args.set.now) c.loop-v.v c.loop-v.product c.loop-v.invariant

pub overflow_mul-product : goal.overflow_mul-product
overflow_mul-product c =
    let d = c.args.diagram.now in
    let below : c.loop-v.v + 1 ≤ length d.nodes = let l = c.loop-v-test.true in let e = c.count-v-end.ensures.count in omega arith in
    let small = product_so_far d.nodes c.args.set.now c.count-v-end.ensures.diagram.tables (c.loop-v.v + 1) below in
    let fits = c.requires in
    omega (arith, next c, small, fits)

pub loop-v-preserved : goal.loop-v-preserved
loop-v-preserved c = next c

pub returns : goal.returns
returns c =
    let d = c.args.diagram.now in
    let all : c.loop-v.v ≡ length d.nodes = let l = c.loop-v-test.false in let k = c.loop-v.auto.v-end in let e = c.count-v-end.ensures.count in omega arith in
    c.loop-v.invariant ∙ ap (λ n. nat_product_over (factor_at d.nodes c.args.set.now) (range_with_len 0 n)) all
