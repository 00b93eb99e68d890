-- A whole text, from its first line to its end.
use Rattle.std.proofs.Common.{◌≡◌, ℕ, List, [], ◌∷◌, ◌++◌, sym, ap, ◌∙◌, subst, append_assoc}
use Rattle.std.specs.Prelude.{Result, Ok, Err, IfOk, codes}
use Rattle.std.specs.List.{flat_map}
use Rattle.maid_model.specs.Views.{DiagramView, SolvedView}
use Rattle.maid_model.specs.Names.{NamesView}
use Rattle.maid_model.specs.Reports.{decision_lines, gain_lines, line, report}
use Rattle.report_text.specs.Reading.{CanStand, IsReadAs}
use Rattle.report_text.specs.declared.reading.ReportFault.{ReportFault}
use Rattle.report_text.specs.Slots.{IsTaken, LinesView, ShowsSolved, order_words}

module _ (d : DiagramView) (names : NamesView) (order : List ℕ) (first titled ordered : LinesView) (title : IsTaken (codes "maidsolve report 1") first titled) (orders : IsTaken (order_words names order) titled ordered) where
  -- the title, the order and what stands behind it are the report
  whole : (solved : SolvedView) → solved.order ≡ order → ShowsSolved d names ordered.rest solved → first.rest ≡ report d names solved
  whole solved same behind =
      let answers = flat_map (decision_lines d.nodes names) solved.answers in
      let gains = gain_lines names 0 solved.gains in
      let words = order_words names order in
      let second = orders.bytes ∙ ap (λ xs. words ++ 10 ∷ xs) behind ∙ sym (append_assoc words (10 ∷ []) (answers ++ gains)) ∙ sym (append_assoc (line words) answers gains) in
      subst (λ o. first.rest ≡ line (codes "maidsolve report 1") ++ line (order_words names o) ++ answers ++ gains) (sym same)
      (title.bytes ∙ ap (λ xs. codes "maidsolve report 1" ++ 10 ∷ xs) second)

  -- what was read behind the order is read of the whole text
  pub read_as : (r : Result SolvedView ReportFault) → IfOk r (CanStand d) → IfOk r (λ solved. solved.order ≡ order) → IfOk r (ShowsSolved d names ordered.rest) → IfOk r (IsReadAs d names first.rest)
  read_as (Ok solved) value same behind = record { value = value; is = whole solved same behind }
  read_as (Err fault) value same behind = tt
