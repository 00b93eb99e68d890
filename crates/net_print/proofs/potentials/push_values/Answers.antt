use Rattle.std.proofs.Common.{◌≡◌, ◌++◌, pos, get_or, rules, ap}
use Rattle.net_print.specs.Printed.{value_text}
use Rattle.net_print.specs.Parts.{gap}
use Rattle.net_print.proofs.Steps.{parted_first, parted_more}
use Rattle.net_print.proofs.potentials.push_values.Goals as goal

pub loop-place-init : goal.loop-place-init
loop-place-init c = ap (λ rest. c.args.out.now.items ++ rest) (parted_first (value_text c.args.decimals) c.args.cells.now)

pub loop-place-preserved : goal.loop-place-preserved
loop-place-preserved c =
    let i = c.loop-place.place in
    let step : c.push_value.new.out.items ≡ (c.loop-place.out.items ++ gap i) ++ value_text c.args.decimals (get_or c.args.cells.now i (pos 0)) = search rules in
    parted_more (value_text c.args.decimals) i c.args.cells.now i (pos 0) c.loop-place-test.true c.loop-place.out.items c.push_value.new.out.items _ step c.loop-place.invariant
