use Rattle.std.proofs.Common.{◌≡◌, ◌∙◌, ◌+◌, ◌++◌, take, length, ap, arith}
use Rattle.factor_core.specs.Copies.{gathered, count_of_steps}
use Rattle.factor_core.proofs.Copying.{take_behind}
use Rattle.factor_core.proofs.copies.copy_at.Goals as goal

pub returns : goal.returns
returns g c =
    let r = g.C.Cell.ring in
    let front = c.split_at_mut-cells.result.0.now in
    let out = c.copy_walk.new.out in
    let m = count_of_steps c.args.steps.now in
    let next : c.copy_walk.result ≡ m = omega (arith, c.copy_walk.ensures.next) in
    ap (λ k. take (k + m) (front ++ out)) (let e : c.args.start ≡ length front = omega (arith, c.split_at_mut-cells.ensures.front_len) in e)
    ∙ take_behind front out m
    ∙ ap (λ k. front ++ take k out) (let e : m ≡ c.copy_walk.result = omega (arith, next) in e)
    ∙ ap (λ l. front ++ l) c.copy_walk.ensures.cells
    ∙ ap (λ cells. cells ++ gathered r cells c.args.steps.now c.args.from) c.split_at_mut-cells.ensures.front
