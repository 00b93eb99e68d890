use Rattle.std.proofs.Common.{◌≡◌, ◌∙◌, ◌+◌, ◌/◌, ◌<◌, pos, ◌++◌, length, map, drop, get_or, unsigned_abs, decimal, rules, arith, subst, sym, ap}
use Rattle.std.proofs.lemmas.List.{get_or-map, length-map}
use Rattle.net_build.specs.Plain.{reduced_row, row_divisor}
use Rattle.net_print.specs.Parts.{gap, parted_behind}
use Rattle.net_print.proofs.Steps.{parted_more}
use Rattle.net_print.proofs.numbers.push_reduced_row.Goals as goal

pub loop-place-preserved : goal.loop-place-preserved
loop-place-preserved c =
    let row = map unsigned_abs c.args.row.now in
    let i = c.loop-place.place in
    let within : i < length (reduced_row row) = simp length-map (omega arith) in
    let item : get_or (reduced_row row) i 0 ≡ unsigned_abs (get_or c.args.row.now i (pos 0)) / row_divisor row =
    get_or-map (λ x. x / row_divisor row) row i 0 0 (simp length-map (omega arith)) ∙ ap (λ x. x / row_divisor row) (get_or-map unsigned_abs c.args.row.now i (pos 0) 0 c.loop-place-test.true) in
    let size : c.unsigned_abs.result ≡ unsigned_abs (get_or c.args.row.now i (pos 0)) = search rules in
    let quotient : c.unsigned_abs.result / c.row_divisor-divisor.result ≡ get_or (reduced_row row) i 0 = ap (λ x. x / c.row_divisor-divisor.result) size ∙ ap (λ d. unsigned_abs (get_or c.args.row.now i (pos 0)) / d) c.row_divisor-divisor.ensures ∙ sym item in
    let step : c.push_number.new.out.items ≡ (c.loop-place.out.items ++ gap (c.args.before + i)) ++ decimal (c.unsigned_abs.result / c.row_divisor-divisor.result) = search rules in
    let count : c.args.before + (i + 1) ≡ c.args.before + i + 1 = omega arith in
    subst (λ n. c.push_number.new.out.items ++ parted_behind decimal n (drop (i + 1) (reduced_row row)) ≡ c.args.out.now.items ++ parted_behind decimal c.args.before (reduced_row row)) (sym count)
    (parted_more decimal (c.args.before + i) (reduced_row row) i 0 within c.loop-place.out.items c.push_number.new.out.items _ (step ∙ ap (λ n. (c.loop-place.out.items ++ gap (c.args.before + i)) ++ decimal n) quotient) c.loop-place.invariant)
