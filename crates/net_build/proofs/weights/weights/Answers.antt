-- The scaling's answer and its faults are those of the rows.
use Rattle.std.proofs.Common.{subst}
use Rattle.weight_scale.specs.Scaling.{IsScaleFault}
use Rattle.net_build.proofs.WeightPasses.{weight_clear, weight_negative, weight_zero, weight_wide, rows_are}
use Rattle.net_build.proofs.weights.weights.Goals as goal

pub returns-in-Ok-clause-rows : goal.returns-in-Ok-clause-rows
returns-in-Ok-clause-rows c = λ text rows len are.
    let ok = c.in-Ok.ensures.ok in
    let clear = c.in-Ok.ensures.faultless in
    weight_clear text c.args.states rows c.args.at c.args.tokens.now c.args.decimals.now c.requires.states len (rows_are rows c.args.states _ _ c.requires.states len c.requires.len) are _ clear.0 clear.1 ok

pub returns-in-Err-Negative-clause-rows : goal.returns-in-Err-Negative-clause-rows
returns-in-Err-Negative-clause-rows c = λ text rows len are.
    let err = c.in-Err-Negative.ensures.err in
    let first = subst (IsScaleFault c.args.decimals.now c.args.states) c.in-Err-Negative.field-0-is err in
    weight_negative text c.args.states rows c.args.at c.args.tokens.now c.args.decimals.now c.requires.states len (rows_are rows c.args.states _ _ c.requires.states len c.requires.len) are c.in-Err-Negative.place c.at.result first c.at.ensures

pub returns-in-Err-ZeroRow-clause-rows : goal.returns-in-Err-ZeroRow-clause-rows
returns-in-Err-ZeroRow-clause-rows c = λ text rows len are.
    let err = c.in-Err-ZeroRow.ensures.err in
    let first = subst (IsScaleFault c.args.decimals.now c.args.states) c.in-Err-ZeroRow.field-0-is err in
    weight_zero text c.args.states rows c.args.at c.args.tokens.now c.args.decimals.now c.requires.states len (rows_are rows c.args.states _ _ c.requires.states len c.requires.len) are c.in-Err-ZeroRow.row c.at-in-Err-ZeroRow.result first.0 first.1 c.at-in-Err-ZeroRow.ensures

pub returns-in-Err-WideWeight-clause-rows : goal.returns-in-Err-WideWeight-clause-rows
returns-in-Err-WideWeight-clause-rows c = λ text rows len are.
    let err = c.in-Err-WideWeight.ensures.err in
    let first = subst (IsScaleFault c.args.decimals.now c.args.states) c.in-Err-WideWeight.field-0-is err in
    weight_wide text c.args.states rows c.args.at c.args.tokens.now c.args.decimals.now c.requires.states len (rows_are rows c.args.states _ _ c.requires.states len c.requires.len) are c.at-in-Err-WideWeight.result first.0 first.1 first.2 c.at-in-Err-WideWeight.ensures
