use Rattle.std.proofs.Common.{◌∙◌, ◌≤◌, ◌^◌, ℕ, subst, sym}
use Rattle.node_sets.specs.Sets.{holds}
use Rattle.size_precheck.proofs.Counting.{counted_few}
use Rattle.size_precheck.proofs.Dividing.{divided_out, divided_few}
use Rattle.size_precheck.proofs.counts.count_less.Goals as goal

pub returns-then-can_divide : goal.returns-then-can_divide
returns-then-can_divide c =
    let can = c.can_divide.ensures.0 c.if-can_divide.true in
    record {
      few = subst (λ (n : ℕ). n ≤ 10 ^ 18) (sym c.divide.ensures) (divided_few c.args.cells _ can.2);
      counted = λ less counted. c.divide.ensures ∙ divided_out c.args.states.now c.args.before.now (holds c.args.after.now) c.args.v c.args.cells c.requires.len c.requires.small can.0 less can.1 can.2 counted;
    }

pub returns-else-can_divide-clause-few : goal.returns-else-can_divide-clause-few
returns-else-can_divide-clause-few c = subst (λ (n : ℕ). n ≤ 10 ^ 18) (sym c.count_cells.ensures) (counted_few _ _)
