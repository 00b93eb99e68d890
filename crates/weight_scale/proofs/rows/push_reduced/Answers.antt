use Rattle.std.proofs.Common.{subst, map, sum, ◌<◌}
use Rattle.std.specs.Int.{◌∣◌}
use Rattle.maid_model.specs.Diagrams.{greatest_number}
use Rattle.weight_scale.specs.Scaling.{whole_number}
use Rattle.weight_scale.specs.Rows.{shares, AppendsShares, AppendsReduced, OnWide, IsWideRow}
use Rattle.weight_scale.proofs.Lists.{all_unmapped}
use Rattle.weight_scale.proofs.Pivots.{size_positive}
use Rattle.weight_scale.proofs.Shares.{shares_reduced, reduced_same}
use Rattle.weight_scale.proofs.Results.{if_ok_more, if_err_more, on_wide_more}
use Rattle.weight_scale.proofs.rows.push_reduced.Goals as goal

pub common_divisor-divisor-requires-clause-positive :
    goal.common_divisor-divisor-requires-clause-positive
common_divisor-divisor-requires-clause-positive c = size_positive c.args.row.now c.finest-finest.result.size c.finest-finest.result.decimals c.finest-finest.ensures c.requires

pub push_row-requires-clause-divides : goal.push_row-requires-clause-divides
push_row-requires-clause-divides c = all_unmapped (λ x. c.common_divisor-divisor.result ∣ x) (whole_number c.finest-finest.result.decimals) c.args.row.now c.common_divisor-divisor.ensures.greatest.divides

pub returns-clause-ok : goal.returns-clause-ok
returns-clause-ok c =
    let reduced = shares_reduced c.args.row.now c.finest-finest.result.size c.finest-finest.result.decimals c.common_divisor-divisor.result c.finest-finest.ensures c.common_divisor-divisor.ensures.greatest in
    if_ok_more (AppendsShares c.args.reduced.now.items c.push_row.new.reduced.items (shares c.finest-finest.result.decimals c.common_divisor-divisor.result c.args.row.now))
    (AppendsReduced (map (whole_number 30) c.args.row.now) c.args.reduced.now.items c.push_row.new.reduced.items)
    (λ total appends. record { reduced = shares c.finest-finest.result.decimals c.common_divisor-divisor.result c.args.row.now; is_reduced = reduced; appends = appends })
    c.push_row.result c.push_row.ensures.ok

pub returns-clause-err : goal.returns-clause-err
returns-clause-err c =
    let reduced = shares_reduced c.args.row.now c.finest-finest.result.size c.finest-finest.result.decimals c.common_divisor-divisor.result c.finest-finest.ensures c.common_divisor-divisor.ensures.greatest in
    if_err_more (λ fault. OnWide fault (greatest_number < sum (shares c.finest-finest.result.decimals c.common_divisor-divisor.result c.args.row.now))) (λ fault. OnWide fault (IsWideRow (map (whole_number 30) c.args.row.now)))
    (on_wide_more _ (IsWideRow (map (whole_number 30) c.args.row.now)) (λ wide other is. subst (λ xs. greatest_number < sum xs) (reduced_same (map (whole_number 30) c.args.row.now) _ other reduced is) wide))
    c.push_row.result c.push_row.ensures.err
