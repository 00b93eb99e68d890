use Rattle.std.proofs.Common.{◌<◌, ◌^◌, ◌+◌, arith, rules}
use Rattle.report_text.proofs.Fractions.{none_of}
use Rattle.report_text.proofs.Tails.{state_digits, state_number}
use Rattle.report_text.proofs.value_lines.read_state.Goals as goal

pub returns-in-Some-clause-value : goal.returns-in-Some-clause-value
returns-in-Some-clause-value c other rest h e =
    let small : c.in-Some.number < 2 ^ 128 = search rules in
    omega (arith, state_number c.args.bytes.now c.front.result.0.now c.front.result.1.now other c.args.states c.in-Some.number rest c.front.ensures c.in-Some.ensures.some small h c.ranges.states.fits e)

pub returns-in_default-clause-none : goal.returns-in_default-clause-none
returns-in_default-clause-none c choice rest h e =
    let small : c.in-Some.number < 2 ^ 128 = search rules in
    omega (arith, state_number c.args.bytes.now c.front.result.0.now c.front.result.1.now choice c.args.states c.in-Some.number rest c.front.ensures c.in-Some.ensures.some small h c.ranges.states.fits e)

pub returns-in_default-2-clause-none : goal.returns-in_default-2-clause-none
returns-in_default-2-clause-none c choice rest h e =
    let small : c.in-Some.number < 2 ^ 128 = search rules in
    omega (arith, state_number c.args.bytes.now c.front.result.0.now c.front.result.1.now choice c.args.states c.in-Some.number rest c.front.ensures c.in-Some.ensures.some small h c.ranges.states.fits e)

pub returns-in_default-3-clause-none : goal.returns-in_default-3-clause-none
returns-in_default-3-clause-none c choice rest h e =
    none_of c.whole.result c.in_default.is c.whole.ensures.none (choice + 1) (omega (arith, c.ranges.states.fits)) (state_digits c.args.bytes.now c.front.result.0.now c.front.result.1.now choice c.args.states rest c.front.ensures h c.ranges.states.fits e)
