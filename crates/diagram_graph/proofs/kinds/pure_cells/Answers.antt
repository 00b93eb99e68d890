use Rattle.std.proofs.Common.{◌≡◌, ◌∙◌, ℕ, ◌+◌, ◌<◌, ℤ, pos, List, [], ◌∷◌, ◌++◌, None, length, get_or, take, map, sym, ap}
use Rattle.std.specs.List.{flat_map}
use Rattle.std.proofs.lemmas.Grind.{flat_map-append}
use Rattle.std.proofs.lemmas.List.{append-nil, map-append, map_more, take_all}
use Rattle.maid_model.specs.declared.answers.Row.{Row}
use Rattle.maid_model.specs.Profiles.{pure_row}
use Rattle.diagram_graph.specs.Edited.{pure_cells}
use Rattle.std.proofs.lemmas.Result.{IfOk-from_err}
use Rattle.diagram_graph.proofs.kinds.pure_cells.Goals as goal

one_more : (states : ℕ) (rows : List Row) (i : ℕ) (x : Row) (old new : List ℤ) → i < length rows → old ≡ pure_cells states (take i rows) → new ≡ old ++ map pos (pure_row states (get_or rows i x).choice) → new ≡ pure_cells states (take (i + 1) rows)
one_more states rows i x old new within so_far step =
    let choices = map (λ (r : Row). r.choice) (take i rows) in
    let row = pure_row states (get_or rows i x).choice in
    step ∙ ap (λ zs. zs ++ map pos row) so_far ∙ sym (map-append pos (flat_map (pure_row states) choices) row)
    ∙ ap (λ ns. map pos (flat_map (pure_row states) choices ++ ns)) (sym (append-nil row))
    ∙ ap (map pos) (sym (ap (flat_map (pure_row states)) (map_more (λ (r : Row). r.choice) rows i x within) ∙ flat_map-append (pure_row states) choices ((get_or rows i x).choice ∷ [])))

pub loop-row-init : goal.loop-row-init
loop-row-init c = c.in_ok-cells.ensures.items

pub loop-row-preserved : goal.loop-row-preserved
loop-row-preserved c = one_more c.args.states c.args.rows.now c.loop-row.row-index (record { choice = 0; worth = None }) c.loop-row.cells.items c.push_row.new.cells.items c.loop-row-test.true c.loop-row.invariant c.in_ok-push_row.ensures

pub returns : goal.returns
returns c = c.loop-row.invariant ∙ ap (pure_cells c.args.states) (take_all c.loop-row.row-index c.args.rows.now c.loop-row-test.false)

pub returns-in_err-cells : goal.returns-in_err-cells
returns-in_err-cells c = IfOk-from_err _ _ c.from_residual.ensures.0

pub returns-in_err-push_row : goal.returns-in_err-push_row
returns-in_err-push_row c = IfOk-from_err _ _ c.from_residual-in_err-push_row.ensures.0
