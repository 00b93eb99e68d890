use Rattle.std.proofs.Common.{arith, below_more, subst, sym, ◌≡◌, ◌≢◌, ◌∙◌, ◌<◌, ◌/◌, ℕ, ℤ, List, length}
use Rattle.weight_scale.specs.Plain.{AddsUpTo, HaveTotal}
use Rattle.weight_scale.specs.Scaling.{row_at}
use Rattle.weight_scale.proofs.PlainParts.{row_needs, has_row}
use Rattle.weight_scale.proofs.plain.common_total.Goals as goal

-- rows of two totals have no total in common
two_totals : (cells : List ℤ) (states r one other total : ℕ) → AddsUpTo (row_at states cells 0) one → AddsUpTo (row_at states cells r) other → other ≢ one
    → r < length cells / states → HaveTotal cells states total → ⊥
two_totals cells states r one other total first here differ l have = differ (sym here.0 ∙ (have.each r l).0 ∙ sym (have.each 0 have.some).0 ∙ first.0)

pub returns-then-cells-states-clause-some : goal.returns-then-cells-states-clause-some
returns-then-cells-states-clause-some c = tt

pub returns-then-cells-states-clause-none : goal.returns-then-cells-states-clause-none
returns-then-cells-states-clause-none c = λ total have. omega (arith, row_needs c.args.cells.now c.args.states total c.requires have, c.if-cells-states.true)

pub row_at-requires-clause-positive : goal.row_at-requires-clause-positive
row_at-requires-clause-positive c = c.requires

pub row_at-requires-clause-within : goal.row_at-requires-clause-within
row_at-requires-clause-within c = has_row c.args.cells.now c.args.states c.requires (omega (arith, c.if-cells-states.false))

pub returns-in_err-total-clause-some : goal.returns-in_err-total-clause-some
returns-in_err-total-clause-some c = rw c.from_residual.ensures tt

pub returns-in_err-total-clause-none : goal.returns-in_err-total-clause-none
returns-in_err-total-clause-none c =
    let none = rw c.row_at.ensures.row at c.in_err-total.ensures.none in
    rw c.from_residual.ensures (λ total have. none total (have.each 0 have.some))

pub loop-r-init : goal.loop-r-init
loop-r-init c k l =
    let first = rw c.row_at.ensures.row at c.in_ok-total.ensures.some in
    subst (λ r. AddsUpTo (row_at c.args.states c.args.cells.now r) c.in_ok-total.total) (omega (arith, l)) first

pub row_at-requires-in-loop-r-clause-positive : goal.row_at-requires-in-loop-r-clause-positive
row_at-requires-in-loop-r-clause-positive c = c.requires

pub row_at-requires-in-loop-r-clause-within : goal.row_at-requires-in-loop-r-clause-within
row_at-requires-in-loop-r-clause-within c = c.loop-r-test.true

pub returns-in_err-total_within-clause-some : goal.returns-in_err-total_within-clause-some
returns-in_err-total_within-clause-some c = rw c.from_residual-in_err-total_within.ensures tt

pub returns-in_err-total_within-clause-none : goal.returns-in_err-total_within-clause-none
returns-in_err-total_within-clause-none c =
    let none = rw c.row_at-in-loop-r.ensures.row at c.in_err-total_within.ensures.none in
    rw c.from_residual-in_err-total_within.ensures (λ total have. none total (have.each c.loop-r.r c.loop-r-test.true))

pub returns-then-branch-total-clause-some : goal.returns-then-branch-total-clause-some
returns-then-branch-total-clause-some c = tt

pub returns-then-branch-total-clause-none : goal.returns-then-branch-total-clause-none
returns-then-branch-total-clause-none c =
    let one = rw c.row_at.ensures.row at c.in_ok-total.ensures.some in
    let other = rw c.row_at-in-loop-r.ensures.row at c.in_ok-total_within.ensures.some in
    λ total have. two_totals c.args.cells.now c.args.states c.loop-r.r c.in_ok-total.total c.in_ok-total_within.field-0 total one other c.if-branch-total.true c.loop-r-test.true have

pub loop-r-preserved : goal.loop-r-preserved
loop-r-preserved c =
    let row = rw c.row_at-in-loop-r.ensures.row at c.in_ok-total_within.ensures.some in
    let same : c.in_ok-total_within.field-0 ≡ c.in_ok-total.total = omega (arith, c.if-branch-total.false) in
    below_more _ _ c.loop-r.invariant (subst (AddsUpTo (row_at c.args.states c.args.cells.now c.loop-r.r)) same row)

pub returns-clause-some : goal.returns-clause-some
returns-clause-some c = record {
  some = has_row c.args.cells.now c.args.states c.requires (omega (arith, c.if-cells-states.false));
  each = λ r l. c.loop-r.invariant r (omega (arith, l, c.loop-r-test.false));
}

pub returns-clause-none : goal.returns-clause-none
returns-clause-none c = tt
