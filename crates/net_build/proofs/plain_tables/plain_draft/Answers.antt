use Rattle.net_build.proofs.NumberLemmas.{own_leaves}
use Rattle.std.proofs.lemmas.Result.{IfOk-from_err}
use Rattle.net_build.proofs.PlainParts.{plain_clear}
use Rattle.std.proofs.Common.{◌≡◌, ◌∙◌, ℕ, ℤ, List, ◌*◌, sym, subst, arith}
use Rattle.std.proofs.lemmas.List.{length-map}
use Rattle.std.proofs.Math.Nat.{dvd-mul_left}
use Rattle.std.specs.Global.{Vec}
use Rattle.maid_model.specs.declared.diagrams.Kind.{Kind}
use Rattle.maid_model.specs.declared.diagrams.Kind.TheVariants.{Chance}
use Rattle.net_lexer.specs.Token.{token_bytes}
use Rattle.net_lexer.specs.declared.tokens.Token.{Token}
use Rattle.net_build.specs.TableParts.{IsDraftFrom, IsPlainTable}
use Rattle.net_build.specs.declared.drafts.Draft.TheVariants.{Cells}
use Rattle.net_build.proofs.plain_tables.plain_draft.Goals as goal

plain_is_draft : (text : List ℕ) (kind : Kind) (rows states : ℕ) (tokens : List Token) (cells : Vec ℤ) → kind ≡ Chance → IsPlainTable text states (rows * states) tokens cells.items → IsDraftFrom text kind rows states tokens (Cells cells)
plain_is_draft text kind rows states tokens cells is plain =
    subst (λ k. IsDraftFrom text k rows states tokens (Cells cells)) (sym is) (plain.decimals, plain.are, plain.weighed, plain.are.len ∙ length-map tokens (token_bytes text) ∙ plain.count)

pub returns-in-Some-clause-rows : goal.returns-in-Some-clause-rows
returns-in-Some-clause-rows c =
    let plain = rw c.in-Some.is at c.in_ok-cells.ensures.some in
    plain_clear c.args.text.now c.args.head.now.kind c.args.rows c.args.head.now.states c.args.table.now c.args.numerals.now c.in-Some.cells c.in-Chance.is c.requires.states c.requires.numerals plain

pub plain_cells-requires-clause-own : goal.plain_cells-requires-clause-own
plain_cells-requires-clause-own c = own_leaves c.args.text.now _ _ c.requires.numerals c.requires.own.value

pub plain_cells-requires-clause-states : goal.plain_cells-requires-clause-states
plain_cells-requires-clause-states c = c.requires.states

pub returns-in_err-cells-clause-rows : goal.returns-in_err-cells-clause-rows
returns-in_err-cells-clause-rows c = IfOk-from_err _ _ c.from_residual.ensures.0

pub returns-in_err-cells-clause-draft : goal.returns-in_err-cells-clause-draft
returns-in_err-cells-clause-draft c = IfOk-from_err _ _ c.from_residual.ensures.0

pub returns-in_err-cells-clause-none : goal.returns-in_err-cells-clause-none
returns-in_err-cells-clause-none c = IfOk-from_err _ _ c.from_residual.ensures.0

pub returns-in-Some-clause-none : goal.returns-in-Some-clause-none
returns-in-Some-clause-none c = tt

pub returns-in-None-clause-rows : goal.returns-in-None-clause-rows
returns-in-None-clause-rows c = tt

pub returns-in-None-clause-draft : goal.returns-in-None-clause-draft
returns-in-None-clause-draft c = tt

pub returns-in-None-clause-none : goal.returns-in-None-clause-none
returns-in-None-clause-none c = λ _. rw c.in-None.is at c.in_ok-cells.ensures.none

pub overflow_mul-rows : goal.overflow_mul-rows
overflow_mul-rows c = omega (arith, c.requires.small)

pub plain_cells-requires-clause-whole : goal.plain_cells-requires-clause-whole
plain_cells-requires-clause-whole c = dvd-mul_left c.args.head.now.states c.args.rows

pub returns-in-Some-clause-draft : goal.returns-in-Some-clause-draft
returns-in-Some-clause-draft c =
    plain_is_draft c.args.text.now c.args.head.now.kind c.args.rows c.args.head.now.states c.args.numerals.now c.in-Some.cells c.in-Chance.is (rw c.in-Some.is at c.in_ok-cells.ensures.some)
