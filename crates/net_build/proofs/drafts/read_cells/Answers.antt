-- A chance table's weights are its numbers'.
use Rattle.first_fault.proofs.HandedOn.{hands_on}
use Rattle.first_fault.proofs.Leading.{refused_first}
use Rattle.net_parser.specs.Owned.{leaves}
use Rattle.maid_model.specs.Nodes.{is_chance}
use Rattle.first_fault.specs.Passes.{only}
use Rattle.net_lexer.specs.Token.{token_bytes}
use Rattle.std.proofs.lemmas.List.{length-map}
use Rattle.std.proofs.lemmas.Result.{IfOk-from_err}
use Rattle.std.proofs.Common.{◌≡◌, ◌*◌, length, map, ap, sym, subst, ◌∙◌}
use Rattle.net_build.specs.Passes.{build_fault}
use Rattle.net_build.specs.TableParts.{IsDraftOf, data_part, number_rows, weight_part}
use Rattle.net_build.specs.declared.drafts.Draft.TheVariants.{Cells}
use Rattle.net_lexer.specs.declared.tokens.Token.{Token}
use Rattle.net_build.proofs.DraftLemmas.{chance_refused, chance_clear, same_count, divides_by}
use Rattle.net_build.proofs.drafts.read_cells.Goals as goal

pub returns-in_err-cells-in-Chance-clause-rows : goal.returns-in_err-cells-in-Chance-clause-rows
returns-in_err-cells-in-Chance-clause-rows c =
    let same = c.requires.numerals in
    let count : length c.args.numerals.now ≡ c.args.rows * c.args.head.now.states = ap length same ∙ same_count _ _ c.in_ok-decimals.ensures.rows.1.0 in
    hands_on build_fault (data_part c.args.text.now c.args.head.now.kind c.args.rows c.args.head.now.states c.args.table.now) _ _ c.from_residual-in_err-cells-in-Chance.ensures
    (chance_refused c.args.text.now c.args.head.now.kind c.args.rows c.args.head.now.states _ c.args.table.now c.in-Chance.is c.in_ok-decimals.ensures.rows (ap (λ (t : Token). t.start) c.name.ensures) c.args.numerals.now c.in_err-cells-in-Chance.field-0.0 same (c.in_err-cells-in-Chance.ensures.rows c.args.text.now c.args.rows count (rw c.deref.ensures.value c.in_ok-decimals.ensures.decimals)))

pub returns-in_ok-cells-in-Chance-clause-rows : goal.returns-in_ok-cells-in-Chance-clause-rows
returns-in_ok-cells-in-Chance-clause-rows c =
    let same = c.requires.numerals in
    let count : length c.args.numerals.now ≡ c.args.rows * c.args.head.now.states = ap length same ∙ same_count _ _ c.in_ok-decimals.ensures.rows.1.0 in
    chance_clear c.args.text.now c.args.head.now.kind c.args.rows c.args.head.now.states _ c.args.table.now c.in-Chance.is c.in_ok-decimals.ensures.rows (ap (λ (t : Token). t.start) c.name.ensures) c.args.numerals.now same (c.in_ok-cells-in-Chance.ensures.rows c.args.text.now c.args.rows count (rw c.deref.ensures.value c.in_ok-decimals.ensures.decimals))

pub read_numbers-requires-clause-own : goal.read_numbers-requires-clause-own
read_numbers-requires-clause-own c = c.requires.own

pub read_numbers-requires-clause-numerals : goal.read_numbers-requires-clause-numerals
read_numbers-requires-clause-numerals c = c.requires.numerals

pub returns-in_err-decimals-clause-rows : goal.returns-in_err-decimals-clause-rows
returns-in_err-decimals-clause-rows c =
    let numbers = number_rows c.args.text.now (c.args.rows * c.args.head.now.states) c.args.table.now in
    let weighed = only (is_chance c.args.head.now.kind) (weight_part c.args.text.now c.args.head.now.states c.args.rows c.args.table.now.name.start (leaves c.args.table.now.value)) in
    hands_on build_fault (data_part c.args.text.now c.args.head.now.kind c.args.rows c.args.head.now.states c.args.table.now) _ _ c.from_residual.ensures (refused_first numbers weighed _ c.in_err-decimals.ensures.rows)

pub returns-in_err-decimals-clause-draft : goal.returns-in_err-decimals-clause-draft
returns-in_err-decimals-clause-draft c = IfOk-from_err _ _ c.from_residual.ensures.0

pub weights-requires-clause-states : goal.weights-requires-clause-states
weights-requires-clause-states c = c.requires.states

pub weights-requires-clause-whole : goal.weights-requires-clause-whole
weights-requires-clause-whole c = divides_by _ c.args.rows c.args.head.now.states (ap length c.deref.ensures.value ∙ c.in_ok-decimals.ensures.decimals.len ∙ length-map c.args.numerals.now (token_bytes c.args.text.now) ∙ ap length c.requires.numerals ∙ same_count _ _ c.in_ok-decimals.ensures.rows.1.0)

pub weights-requires-clause-len : goal.weights-requires-clause-len
weights-requires-clause-len c = ap length c.deref.ensures.value ∙ c.in_ok-decimals.ensures.decimals.len ∙ length-map c.args.numerals.now (token_bytes c.args.text.now)

pub returns-in_err-cells-in-Chance-clause-draft : goal.returns-in_err-cells-in-Chance-clause-draft
returns-in_err-cells-in-Chance-clause-draft c = IfOk-from_err _ _ c.from_residual-in_err-cells-in-Chance.ensures.0

pub returns-in_ok-cells-in-Chance-clause-draft : goal.returns-in_ok-cells-in-Chance-clause-draft
returns-in_ok-cells-in-Chance-clause-draft c =
    let bytes = map (token_bytes c.args.text.now) c.args.numerals.now in
    let count : length c.deref.result.now ≡ c.args.rows * c.args.head.now.states = ap length c.deref.ensures.value ∙ c.in_ok-decimals.ensures.decimals.len ∙ length-map c.args.numerals.now (token_bytes c.args.text.now) ∙ ap length c.requires.numerals ∙ same_count _ _ c.in_ok-decimals.ensures.rows.1.0 in
    subst (λ k. IsDraftOf k c.args.rows c.args.head.now.states bytes (Cells c.in_ok-cells-in-Chance.cells)) (sym c.in-Chance.is) (c.deref.result.now, rw c.deref.ensures.value c.in_ok-decimals.ensures.decimals, c.in_ok-cells-in-Chance.ensures.weighed, count)
