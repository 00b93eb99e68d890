use Rattle.std.proofs.Common.{◌≡◌, ◌≢◌, ◌∙◌, ℕ, ◌+◌, ◌<◌, List, length, get_or, drop, sym, arith}
use Rattle.std.proofs.lemmas.Bool.Decides.{nat_tests}
use Rattle.std.proofs.lemmas.List.{at_drop_more, at_drop_all}
use Rattle.maid_model.specs.Nodes.{rows_under}
use Rattle.factor_core.specs.Copies.{list_stride}
use Rattle.factor_core.specs.Tables.{states_in}
use Rattle.factor_core.proofs.tables.stride_in.Goals as goal

met : (f : ℕ → ℕ) (xs : List ℕ) (v i r : ℕ) → i < length xs → get_or xs i 0 ≡ v → list_stride f (drop i xs) v ≡ list_stride f xs v → r ≡ rows_under f (drop (i + 1) xs) → r ≡ list_stride f xs v
met f xs v i r within same so_far e = let here = at_drop_more (λ l. list_stride f l v) xs i 0 within in grind (arith, nat_tests)

passed : (f : ℕ → ℕ) (xs : List ℕ) (v i : ℕ) → i < length xs → get_or xs i 0 ≢ v → list_stride f (drop i xs) v ≡ list_stride f xs v → list_stride f (drop (i + 1) xs) v ≡ list_stride f xs v
passed f xs v i within other so_far = let here = at_drop_more (λ l. list_stride f l v) xs i 0 within in grind (arith, nat_tests)

pub rows_after-requires-clause-from : goal.rows_after-requires-clause-from
rows_after-requires-clause-from c = omega (arith, c.loop-i-test.true)

pub returns-then-list-i : goal.returns-then-list-i
returns-then-list-i c = met (states_in c.args.counts.now) c.args.list.now c.args.node c.loop-i.i c.rows_after.result c.loop-i-test.true c.if-list-i.true c.loop-i.invariant c.rows_after.ensures

pub loop-i-preserved : goal.loop-i-preserved
loop-i-preserved c = passed (states_in c.args.counts.now) c.args.list.now c.args.node c.loop-i.i c.loop-i-test.true c.if-list-i.false c.loop-i.invariant

pub returns : goal.returns
returns c = sym (at_drop_all (λ l. list_stride (states_in c.args.counts.now) l c.args.node) c.args.list.now c.loop-i.i c.loop-i-test.false) ∙ c.loop-i.invariant
