-- A report is the text of one value: line by line, each is made of one order, one row, one gain.
use Rattle.std.proofs.Common.{◌≡◌, ℕ, ◌+◌, ◌<◌, ◌≤◌, List, [], ◌∷◌, ◌++◌, map, length, get_or, refl, sym, ◌∙◌, ap, subst, arith, append_assoc}
use Rattle.std.specs.Prelude.{All, Option, Some, None, IfSome, codes, decimal}
use Rattle.std.specs.List.{flat_map}
use Rattle.std.proofs.lemmas.List.Elements.{All-head, All-tail}
use Rattle.maid_model.specs.declared.answers.Ratio.{Ratio}
use Rattle.maid_model.specs.declared.answers.Row.{Row}
use Rattle.maid_model.specs.Views.{DiagramView, AnswerView, SolvedView}
use Rattle.maid_model.specs.Names.{NamesView, name_of, label_of}
use Rattle.maid_model.specs.Nodes.{IsDecision, states_of, rows_of}
use Rattle.maid_model.specs.Reports.{gain_line, line, quoted, report, row_line, spaced, worth_text}
use Rattle.report_text.specs.Reading.{CanStand, FitsRatio, lines_of}
use Rattle.report_text.specs.Laws.{IsToldApart}
use Rattle.report_text.specs.Slots.{IsDecisionOrder, IsRead, IsRow, gain_front, gain_words, order_words, row_front, row_words, state_text}
use Rattle.report_text.proofs.Digits.{decimal_lacks, decimal_one}
use Rattle.report_text.proofs.Fractions.{ratio_one}
use Rattle.report_text.proofs.InOrder.{name_lacks_space, one_name, spaced_begins}
use Rattle.report_text.proofs.OneCut.{one_cut}
use Rattle.report_text.proofs.ReportLines.{answer_list, gain_list, list_behind, report_lines, row_list}
use Rattle.report_text.proofs.Standing.{standing_answers, standing_order}
use Rattle.report_text.proofs.Tails.{same_front, same_rest}
use Rattle.report_text.proofs.Unended.{gain_line_is, row_line_is}

worth_one : (v w : Option Ratio) → IfSome v FitsRatio → IfSome w FitsRatio → worth_text v ≡ worth_text w → v ≡ w
worth_one None None p q e = refl
worth_one None (Some r) p q e = let second : 110 ≡ 61 = ap (λ (x : List ℕ). get_or x 1 0) e in absurd (omega (arith, second))
worth_one (Some r) None p q e = let second : 61 ≡ 110 = ap (λ (x : List ℕ). get_or x 1 0) e in absurd (omega (arith, second))
worth_one (Some r) (Some s) p q e = ap Some (ratio_one r s p q (same_rest (codes " = ") _ _ e))

same_row : (r s : Row) → r.choice ≡ s.choice → r.worth ≡ s.worth → r ≡ s
same_row r s c w = λ i. record { choice = c i; worth = w i }

module _ (d : DiagramView) (names : NamesView) (is : IsToldApart d names) where
  named : (v : ℕ) → IsDecision d.nodes v → v < length names.nodes
  named v decision = subst (λ n. v < n) (sym is.fit.nodes) decision.within

  spaced_one : (order other : List ℕ) → All (IsDecision d.nodes) order → All (IsDecision d.nodes) other → spaced (map (name_of names) order) ≡ spaced (map (name_of names) other) → order ≡ other
  spaced_one [] [] p q e = refl
  spaced_one [] (v ∷ other) p q e = absurd cc
  spaced_one (u ∷ order) [] p q e = absurd cc
  spaced_one (u ∷ order) (v ∷ other) p q e =
      let tail : name_of names u ++ spaced (map (name_of names) order) ≡ name_of names v ++ spaced (map (name_of names) other) = cc in
      let one = named u (All-head (IsDecision d.nodes) u order p) in
      let two = named v (All-head (IsDecision d.nodes) v other q) in
      let cut = one_cut 32 (name_of names u) (spaced (map (name_of names) order)) (name_of names v) (spaced (map (name_of names) other)) (name_lacks_space names is.told u one) (spaced_begins (map (name_of names) order)) (name_lacks_space names is.told v two) (spaced_begins (map (name_of names) other)) tail in
      let head = one_name names is.told u v one two cut.front in
      let rest = spaced_one order other (All-tail (IsDecision d.nodes) u order p) (All-tail (IsDecision d.nodes) v other q) cut.rest in
      λ i. head i ∷ rest i

  -- one order for a line
  pub order_one : (order other : List ℕ) → IsDecisionOrder d.nodes order → IsDecisionOrder d.nodes other → order_words names order ++ 10 ∷ [] ≡ order_words names other ++ 10 ∷ [] → order ≡ other
  order_one order other p q e = spaced_one order other p.decisions q.decisions (same_rest (codes "order:") _ _ (same_front (order_words names order) (order_words names other) e))

  few_states : (v : ℕ) → states_of d.nodes v ≤ 256
  few_states v = is.diagram.limits.states v

  choice_one : (v c e : ℕ) (x y : List ℕ) → c < states_of d.nodes v → e < states_of d.nodes v → state_text names v c ++ x ≡ state_text names v e ++ y → c ≡ e
  choice_one v c e x y h k same =
      let n = few_states v in
      let parted = sym (append_assoc (decimal (c + 1)) (32 ∷ quoted (label_of names v c)) x) ∙ same ∙ append_assoc (decimal (e + 1)) (32 ∷ quoted (label_of names v e)) y in
      let cut = one_cut 32 (decimal (c + 1)) (32 ∷ (quoted (label_of names v c) ++ x)) (decimal (e + 1)) (32 ∷ (quoted (label_of names v e) ++ y)) (decimal_lacks 32 (c + 1) (omega arith) (omega arith)) refl (decimal_lacks 32 (e + 1) (omega arith) (omega arith)) refl parted in
      let number : c + 1 ≡ e + 1 = decimal_one (c + 1) (e + 1) (omega arith) (omega arith) cut.front in
      omega arith

  -- one row
  row_one : (v number : ℕ) (r s : Row) → IsRow d.nodes v r → IsRow d.nodes v s → row_line d.nodes names v number r ≡ row_line d.nodes names v number s → r ≡ s
  row_one v number r s p q e =
      let words = same_front (row_words d.nodes names v number r) (row_words d.nodes names v number s) (sym (row_line_is d.nodes names v number r) ∙ e ∙ row_line_is d.nodes names v number s) in
      let tail = same_rest (row_front d.nodes names v number) (state_text names v r.choice ++ worth_text r.worth) (state_text names v s.choice ++ worth_text s.worth) words in
      let choice = choice_one v r.choice s.choice (worth_text r.worth) (worth_text s.worth) p.choice q.choice tail in
      let worth = same_rest (state_text names v s.choice) (worth_text r.worth) (worth_text s.worth) (ap (λ c. state_text names v c ++ worth_text r.worth) (sym choice) ∙ tail) in
      same_row r s choice (worth_one r.worth s.worth p.worth q.worth worth)

  gain_one : (agent : ℕ) (r s : Ratio) → FitsRatio r → FitsRatio s → gain_line names agent r ≡ gain_line names agent s → r ≡ s
  gain_one agent r s p q e = ratio_one r s p q (same_rest (gain_front names agent) _ _ (same_front (gain_words names agent r) (gain_words names agent s) (sym (gain_line_is names agent r) ∙ e ∙ gain_line_is names agent s)))

  -- and so all of them
  record SameRows (rows others : List Row) (rest more : List (List ℕ)) : Type 0 where
    same : rows ≡ others
    behind : rest ≡ more

  rows_one : (v number : ℕ) (rows others : List Row) (rest more : List (List ℕ)) → All (IsRow d.nodes v) rows → All (IsRow d.nodes v) others → length rows ≡ length others → row_list d.nodes names v number rows ++ rest ≡ row_list d.nodes names v number others ++ more → SameRows rows others rest more
  rows_one v number [] [] rest more p q l e = record { same = refl; behind = e }
  rows_one v number [] (s ∷ others) rest more p q l e = absurd (omega arith)
  rows_one v number (r ∷ rows) [] rest more p q l e = absurd (omega arith)
  rows_one v number (r ∷ rows) (s ∷ others) rest more p q l e =
      let line : row_line d.nodes names v number r ≡ row_line d.nodes names v number s = cc in
      let tail : row_list d.nodes names v (number + 1) rows ++ rest ≡ row_list d.nodes names v (number + 1) others ++ more = cc in
      let head = row_one v number r s (All-head (IsRow d.nodes v) r rows p) (All-head (IsRow d.nodes v) s others q) line in
      let so = rows_one v (number + 1) rows others rest more (All-tail (IsRow d.nodes v) r rows p) (All-tail (IsRow d.nodes v) s others q) (omega arith) tail in
      record { same = λ i. head i ∷ so.same i; behind = so.behind }

  gains_one : (agent : ℕ) (gains others : List Ratio) → All FitsRatio gains → All FitsRatio others → gain_list names agent gains ≡ gain_list names agent others → gains ≡ others
  gains_one agent [] [] p q e = refl
  gains_one agent [] (s ∷ others) p q e = absurd cc
  gains_one agent (r ∷ gains) [] p q e = absurd cc
  gains_one agent (r ∷ gains) (s ∷ others) p q e =
      let line : gain_line names agent r ≡ gain_line names agent s = cc in
      let tail : gain_list names (agent + 1) gains ≡ gain_list names (agent + 1) others = cc in
      let head = gain_one agent r s (All-head FitsRatio r gains p) (All-head FitsRatio s others q) line in
      let so = gains_one (agent + 1) gains others (All-tail FitsRatio r gains p) (All-tail FitsRatio s others q) tail in
      λ i. head i ∷ so i

  record SameAnswers (answers others : List AnswerView) (rest more : List (List ℕ)) : Type 0 where
    same : answers ≡ others
    behind : rest ≡ more

  answers_one : (answers others : List AnswerView) (rest more : List (List ℕ)) → All (IsRead d.nodes) answers → All (IsRead d.nodes) others → map (λ (a : AnswerView). a.decision) answers ≡ map (λ (a : AnswerView). a.decision) others → flat_map (answer_list d.nodes names) answers ++ rest ≡ flat_map (answer_list d.nodes names) others ++ more → SameAnswers answers others rest more
  answers_one [] [] rest more p q l e = record { same = refl; behind = e }
  answers_one [] (b ∷ others) rest more p q l e = absurd cc
  answers_one (a ∷ answers) [] rest more p q l e = absurd cc
  answers_one (a ∷ answers) (b ∷ others) rest more p q l e =
      let decision : a.decision ≡ b.decision = cc in
      let decisions : map (λ (x : AnswerView). x.decision) answers ≡ map (λ (x : AnswerView). x.decision) others = cc in
      let one = All-head (IsRead d.nodes) a answers p in
      let two = All-head (IsRead d.nodes) b others q in
      let whole = sym (append_assoc (answer_list d.nodes names a) (flat_map (answer_list d.nodes names) answers) rest) ∙ e ∙ append_assoc (answer_list d.nodes names b) (flat_map (answer_list d.nodes names) others) more in
      let rows = rows_of_both a b (flat_map (answer_list d.nodes names) answers ++ rest) (flat_map (answer_list d.nodes names) others ++ more) decision one two whole in
      let so = answers_one answers others rest more (All-tail (IsRead d.nodes) a answers p) (All-tail (IsRead d.nodes) b others q) decisions rows.behind in
      record { same = (λ i. record { decision = decision i; rows = rows.same i } ∷ so.same i); behind = so.behind }
    where
      rows_of_both : (a b : AnswerView) (x y : List (List ℕ)) → a.decision ≡ b.decision → IsRead d.nodes a → IsRead d.nodes b → answer_list d.nodes names a ++ x ≡ answer_list d.nodes names b ++ y → SameRows a.rows b.rows x y
      rows_of_both a b x y decision one two e =
          let here : row_list d.nodes names b.decision 0 a.rows ++ x ≡ row_list d.nodes names a.decision 0 a.rows ++ x = ap (λ v. row_list d.nodes names v 0 a.rows ++ x) (sym decision) in
          let tail : row_list d.nodes names a.decision 0 a.rows ++ x ≡ row_list d.nodes names b.decision 0 b.rows ++ y = cc in
          rows_one b.decision 0 a.rows b.rows x y (subst (λ v. All (IsRow d.nodes v) a.rows) decision one.rows) two.rows (one.count ∙ ap (rows_of d.nodes) decision ∙ sym two.count) (here ∙ tail)

  pub value_one : (solved other : SolvedView) → CanStand d solved → CanStand d other → report d names solved ≡ report d names other → solved ≡ other
  value_one solved other p q e =
      let lines = sym (report_lines d names is.told solved) ∙ ap lines_of e ∙ report_lines d names is.told other in
      let order_line : line (order_words names solved.order) ≡ line (order_words names other.order) = cc in
      let behind : list_behind d.nodes names solved ≡ list_behind d.nodes names other = cc in
      let order = order_one solved.order other.order (standing_order d solved p) (standing_order d other q) order_line in
      let answers = answers_one solved.answers other.answers (gain_list names 0 solved.gains) (gain_list names 0 other.gains) (standing_answers d solved p) (standing_answers d other q) (p.fits.follow ∙ order ∙ sym q.fits.follow) behind in
      let gains = gains_one 0 solved.gains other.gains p.gains q.gains answers.behind in
      λ i. record { order = order i; answers = answers.same i; gains = gains i }
