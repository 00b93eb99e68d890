-- A cell can be raised where the division says so.
use Rattle.std.proofs.Common.{rules, ◌≡◌, ◌<◌, ℤ, pos, nat_abs, FitsSigned, get_or, below_more, refl, ap, subst, sym, ◌∙◌, arith}
use Rattle.std.proofs.lemmas.Bool.{false≢true}
use Rattle.std.proofs.lemmas.Int.{to_z-of_z}
use Rattle.std.proofs.lemmas.List.{get_or_default}
use Rattle.std.specs.Int.{w128}
use Rattle.net_build.specs.TableParts.{FitsRaised}
use Rattle.net_build.proofs.RaisedCells.{raised_beyond, raised_within}
use Rattle.net_build.proofs.ScaleLemmas.{tens_fit, tens_positive}
use Rattle.net_build.proofs.scales.can_raise.Goals as goal

pub pow-most-requires : goal.pow-most-requires
pow-most-requires c = tens_fit _ c.requires.few

pub nonzero_div-most : goal.nonzero_div-most
nonzero_div-most c = subst (λ n. 0 < n) (sym c.pow-most.ensures) (tens_positive c.args.decimals)

pub returns-then-unsigned_abs-most : goal.returns-then-unsigned_abs-most
returns-then-unsigned_abs-most c =
    let cell : ℤ = get_or c.args.cells.now c.loop-cell.cell-index (pos 0) in
    let fits : FitsSigned w128 cell = search rules in
    let size : c.unsigned_abs.result ≡ nat_abs cell = c.unsigned_abs.ensures.value ∙ ap nat_abs (to_z-of_z w128 cell fits) in (
      (λ t. absurd (false≢true t)),
      λ all. absurd (raised_beyond cell c.args.decimals _ c.pow-most.result c.unsigned_abs.result refl c.pow-most.ensures size c.if-unsigned_abs-most.true (all c.loop-cell.cell-index (pos 0) c.loop-cell-test.true)),
    )

pub loop-cell-preserved : goal.loop-cell-preserved
loop-cell-preserved c =
    let cell : ℤ = get_or c.args.cells.now c.loop-cell.cell-index (pos 0) in
    let fits : FitsSigned w128 cell = search rules in
    let size : c.unsigned_abs.result ≡ nat_abs cell = c.unsigned_abs.ensures.value ∙ ap nat_abs (to_z-of_z w128 cell fits) in
    below_more _ _ c.loop-cell.invariant (raised_within cell c.args.decimals _ c.pow-most.result c.unsigned_abs.result refl c.pow-most.ensures size c.if-unsigned_abs-most.false)

pub returns : goal.returns
returns c = (
  (λ t k d h. subst (FitsRaised c.args.decimals) (get_or_default c.args.cells.now k (pos 0) d h) (c.loop-cell.invariant k (omega (arith, h, c.loop-cell-test.false)))),
  λ all. refl,
)
