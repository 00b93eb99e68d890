use Rattle.std.proofs.Common.{◌≡◌, ◌∙◌, ◌+◌, ◌-◌, ◌*◌, ℕ, take, drop, length, ap, arith}
use Rattle.weight_scale.proofs.RowParts.{row_within, row_length}
use Rattle.weight_scale.proofs.rows.row_at.Goals as goal

-- a row is as wide as the states
width : (r states : ℕ) → (r + 1) * states - r * states ≡ states
width r states = omega arith

pub returns-clause-row : goal.returns-clause-row
returns-clause-row g c = ap (λ n. take n (drop (c.args.r * c.args.states) c.args.cells.now)) (width c.args.r c.args.states)

pub returns-clause-len : goal.returns-clause-len
returns-clause-len g c =
    ap (λ n. length (take n (drop (c.args.r * c.args.states) c.args.cells.now))) (width c.args.r c.args.states)
    ∙ row_length c.args.states c.args.cells.now c.args.r (row_within (length c.args.cells.now) c.args.states c.args.r c.requires.within)
