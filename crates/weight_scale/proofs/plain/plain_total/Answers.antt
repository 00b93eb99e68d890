-- Where the rows have one total and the numbers share no divisor, the cells are the weights.
use Rattle.weight_scale.specs.Plain.{ArePlainRows}
use Rattle.weight_scale.proofs.PlainRows.{cells_scaled, cells_table, cells_faultless}
use Rattle.weight_scale.proofs.plain.plain_total.Goals as goal

pub common_total-requires : goal.common_total-requires
common_total-requires c = c.requires.states

pub returns-in_err-total-clause-none : goal.returns-in_err-total-clause-none
returns-in_err-total-clause-none c = rw c.from_residual.ensures (λ total plain. c.in_err-total.ensures.none total plain.rows)

pub returns : goal.returns
returns c =
    let plain : ArePlainRows c.args.cells.now c.args.states c.in_ok-total.total = record { rows = c.in_ok-total.ensures.some; alone = c.share_none.ensures.0 c.if-not-share_none.false } in
    record {
      plain = plain;
      none = tt;
      scaled = λ rows whole. cells_scaled rows c.args.cells.now c.args.states c.in_ok-total.total c.requires.states c.requires.above c.requires.whole whole plain;
      table = λ rows whole. cells_table rows c.args.cells.now c.args.states c.in_ok-total.total c.requires.states c.requires.above c.requires.whole whole plain;
      faultless = λ rows whole. cells_faultless rows c.args.cells.now c.args.states c.in_ok-total.total c.requires.states c.requires.above c.requires.whole whole plain;
    }
