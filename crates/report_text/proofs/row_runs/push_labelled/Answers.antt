use Rattle.std.proofs.Common.{[], ◌∷◌}
use Rattle.std.proofs.lemmas.Result.{on_ok_weaker}
use Rattle.line_pieces.proofs.Appending.{on_ok}
use Rattle.report_text.proofs.RowParts.{labelled_parts}
use Rattle.report_text.proofs.row_runs.push_labelled.Goals as goal

pub returns : goal.returns
returns c =
    on_ok_weaker c.extend_from_slice.result
    (λ ended. labelled_parts c.args.names.now c.args.decision c.args.number c.args.row.now c.args.out.now.items c.push_pieces.new.out.items c.push_state.new.out.items c.push_worth.new.out.items c.extend_from_slice.new.self.items c.args.labels.now c.in_ok-push_pieces.ensures c.in_ok-push_state.ensures c.in_ok-push_worth.ensures ended)
    (on_ok c.extend_from_slice.result c.push_worth.new.out.items (10 ∷ []) _ c.extend_from_slice.ensures.items)
