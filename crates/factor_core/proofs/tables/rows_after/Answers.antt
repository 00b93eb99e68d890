use Rattle.std.proofs.Common.{ℕ, List, ◌≡◌, ◌∙◌, ◌+◌, ◌-◌, ◌*◌, ◌<◌, drop, length, get_or, sym, ap, arith}
use Rattle.std.proofs.lemmas.List.{drop_more, drop_all, get_or_default}
use Rattle.maid_model.specs.Nodes.{rows_under}
use Rattle.factor_core.specs.Tables.{states_in}
use Rattle.factor_core.proofs.ListTables.{rows_drop}
use Rattle.factor_core.proofs.tables.rows_after.Goals as goal

-- the rows with one node more
more_rows : (counts list : List ℕ) (i next rows : ℕ) → i + 1 ≡ next → i < length list → get_or list i 0 < length counts → rows ≡ rows_under (states_in counts) (drop next list) → rows * get_or counts (get_or list i 0) 0 ≡ rows_under (states_in counts) (drop i list)
more_rows counts list i next rows e inside node is =
    let count = states_in counts in
    let v = get_or list i 0 in
    let step : rows_under count (drop i list) ≡ count v * rows_under count (drop (i + 1) list) = ap (rows_under count) (drop_more list i 0 inside) in
    let back : rows_under count (drop (i + 1) list) ≡ rows = ap (λ k. rows_under count (drop k list)) e ∙ sym is in
    ap (λ k. rows * k) (get_or_default counts v 0 1 node) ∙ swap rows (count v) ∙ ap (λ k. count v * k) (sym back) ∙ sym step
  where
    swap : (a b : ℕ) → a * b ≡ b * a
    swap a b = omega arith

pub loop-i-init : goal.loop-i-init
loop-i-init c = (ap (rows_under (states_in c.args.counts.now)) (sym (drop_all (length c.args.list.now) c.args.list.now (omega arith))), c.requires.from, omega arith)

pub bounds-list-i : goal.bounds-list-i
bounds-list-i c = omega (arith, c.loop-i.invariant.2, c.loop-i-test.true)

pub bounds-counts-list : goal.bounds-counts-list
bounds-counts-list c = c.requires.list (c.loop-i.i - 1) 0 (omega (arith, c.loop-i.invariant.2, c.loop-i-test.true))

pub overflow_mul-rows : goal.overflow_mul-rows
overflow_mul-rows c =
    let counts = c.args.counts.now in
    let list = c.args.list.now in
    let i = c.loop-i.i - 1 in
    let inside : i < length list = omega (arith, c.loop-i.invariant.2, c.loop-i-test.true) in
    let product = more_rows counts list i c.loop-i.i c.loop-i.rows (omega (arith, c.loop-i-test.true)) inside (c.requires.list i 0 inside) c.loop-i.invariant.0 in
    omega (arith, product, rows_drop (states_in counts) c.requires.counts.some i list, c.requires.fits)

pub loop-i-smaller : goal.loop-i-smaller
loop-i-smaller c = omega (arith, c.loop-i-test.true)

pub loop-i-preserved : goal.loop-i-preserved
loop-i-preserved c =
    let list = c.args.list.now in
    let i = c.loop-i.i - 1 in
    let inside : i < length list = omega (arith, c.loop-i.invariant.2, c.loop-i-test.true) in
    (more_rows c.args.counts.now list i c.loop-i.i c.loop-i.rows (omega (arith, c.loop-i-test.true)) inside (c.requires.list i 0 inside) c.loop-i.invariant.0, omega (arith, c.loop-i-test.true), omega (arith, inside))

pub returns : goal.returns
returns c = c.loop-i.invariant.0 ∙ ap (λ k. rows_under (states_in c.args.counts.now) (drop k c.args.list.now)) (let end : c.loop-i.i ≡ c.args.from = omega (arith, c.loop-i-test.false, c.loop-i.invariant.1) in end)
