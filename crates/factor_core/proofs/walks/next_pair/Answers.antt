use Rattle.std.proofs.Common.{rules, ◌≡◌, length, get_or, arith, sym, ap, subst, ◌∙◌}
use Rattle.factor_core.specs.Walks.{shifted, CanReadRun, IsRunAt}
use Rattle.factor_core.proofs.Shifts.{is_shifted, length-shifted, get-shifted}
use Rattle.factor_core.proofs.walks.next_pair.Goals as goal

pub read_run-second-requires : goal.read_run-second-requires
read_run-second-requires g c =
    let moved : c.advance.new.places ≡ shifted 1 c.args.strides.now c.args.places.now = is_shifted 1 c.args.strides.now c.args.places.now c.advance.new.places (search rules) (λ i l. omega (arith, c.advance.ensures i l)) in
    subst (CanReadRun c.args.turned g.C.Cell.ring c.args.cells.now) (sym moved) c.requires.second

pub returns-clause-second : goal.returns-clause-second
returns-clause-second g c =
    let moved : c.advance.new.places ≡ shifted 1 c.args.strides.now c.args.places.now = is_shifted 1 c.args.strides.now c.args.places.now c.advance.new.places (search rules) (λ i l. omega (arith, c.advance.ensures i l)) in
    subst (λ ps. IsRunAt c.args.turned g.C.Cell.ring c.args.cells.now ps c.read_run-second.result.factor c.read_run-second.result.from) moved c.read_run-second.ensures

pub returns-clause-places : goal.returns-clause-places
returns-clause-places g c =
    let moved : c.advance.new.places ≡ shifted 1 c.args.strides.now c.args.places.now = is_shifted 1 c.args.strides.now c.args.places.now c.advance.new.places (search rules) (λ i l. omega (arith, c.advance.ensures i l)) in
    let same = ap length moved ∙ length-shifted 1 c.args.strides.now c.args.places.now in
    let again : length c.advance-2.new.places ≡ length c.advance.new.places = search rules in
    is_shifted 2 c.args.strides.now c.args.places.now c.advance-2.new.places (again ∙ same)
    (λ i l.
    let once = ap (λ ps. get_or ps i 0) moved ∙ get-shifted 1 c.args.strides.now c.args.places.now i l in
    omega (arith, c.advance-2.ensures i (omega (arith, same)), once))
