use Rattle.std.proofs.Common.{rules, ◌≡◌, ◌∙◌, ◌<◌, ◌+◌, ℕ, ℤ, List, length, get_or, drop, max, pos, unsigned_abs, FitsSigned, sym, ap, arith}
use Rattle.std.specs.Int.{w128}
use Rattle.std.proofs.lemmas.Int.{to_z-of_z}
use Rattle.std.proofs.lemmas.List.{drop_more, drop_all}
use Rattle.maid_model.specs.Gains.{greatest_abs}
use Rattle.weight_scale.proofs.scopes.greatest_abs.Goals as goal

-- one cell moves from those to come to those before
one_moves : (cells : List ℤ) (i so_far size next : ℕ) → i < length cells → size ≡ unsigned_abs (get_or cells i (pos 0)) → next ≡ max size so_far
    → max (greatest_abs (drop i cells)) so_far ≡ greatest_abs cells → max (greatest_abs (drop (i + 1) cells)) next ≡ greatest_abs cells
one_moves cells i so_far size next l is are whole =
    ap (λ n. max rest n) (are ∙ ap (λ n. max n so_far) is)
    ∙ swap (unsigned_abs (get_or cells i (pos 0))) rest so_far
    ∙ sym (ap (λ (k : List ℤ). max (greatest_abs k) so_far) (drop_more cells i (pos 0) l))
    ∙ whole
  where
    rest : ℕ
    rest = greatest_abs (drop (i + 1) cells)

    swap : (a b c : ℕ) → max b (max a c) ≡ max (max a b) c
    swap a b c = omega arith

nought_last : (n : ℕ) → max n 0 ≡ n
nought_last n = omega arith

nought_first : (n : ℕ) → n ≡ max 0 n
nought_first n = omega arith

pub loop-cell-init : goal.loop-cell-init
loop-cell-init c = nought_last (greatest_abs c.args.cells.now)

pub loop-cell-preserved : goal.loop-cell-preserved
loop-cell-preserved c =
    let i = c.loop-cell.cell-index in
    let fits : FitsSigned w128 (get_or c.args.cells.now i (pos 0)) = search rules in
    one_moves c.args.cells.now i c.loop-cell.greatest c.unsigned_abs.result c.max-greatest.result c.loop-cell-test.true
    (c.unsigned_abs.ensures.value ∙ ap unsigned_abs (to_z-of_z w128 (get_or c.args.cells.now i (pos 0)) fits)) c.max-greatest.ensures c.loop-cell.invariant

pub returns : goal.returns
returns c =
    nought_first c.loop-cell.greatest
    ∙ sym (ap (λ (k : List ℤ). max (greatest_abs k) c.loop-cell.greatest) (drop_all c.loop-cell.cell-index c.args.cells.now c.loop-cell-test.false))
    ∙ c.loop-cell.invariant
