-- A report as a list of lines, each of which may stand at its place; and lines at all places are a
-- report's.
use Rattle.std.proofs.Common.{◌≡◌, ℕ, zero, suc, ◌+◌, List, [], ◌∷◌, ◌++◌, map, length, true, refl, sym, ◌∙◌, ap, subst, append_assoc}
use Rattle.std.specs.Prelude.{All, codes}
use Rattle.std.specs.List.{flat_map}
use Rattle.std.proofs.lemmas.List.{append-nil}
use Rattle.std.proofs.lemmas.List.Elements.{All-nil, All-cons, All-head, All-tail}
use Rattle.maid_model.specs.declared.answers.Ratio.{Ratio}
use Rattle.maid_model.specs.declared.answers.Row.{Row}
use Rattle.maid_model.specs.Views.{NodeView, DiagramView, AnswerView, SolvedView}
use Rattle.maid_model.specs.Names.{NamesView}
use Rattle.maid_model.specs.Nodes.{rows_of}
use Rattle.maid_model.specs.Reports.{decision_head, decision_lines, gain_line, gain_lines, line, report, row_line, row_lines}
use Rattle.report_text.specs.Reading.{AreTold, FitsRatio, lines_of}
use Rattle.report_text.specs.Slots.{Slot, Shows, IsRead, IsRow, answer_slots, decision_words, gain_slots, gain_words, lacks, lines_behind, order_words, row_slots, row_words}
use Rattle.report_text.proofs.OneLine.{decision_line, gain_one_line, order_line, row_one_line}
use Rattle.report_text.proofs.Stops.{lines_line}
use Rattle.report_text.proofs.Unended.{gain_line_is, row_line_is}

-- the same as lists of lines
abbrev pub row_list : List NodeView → NamesView → ℕ → ℕ → List Row → List (List ℕ)
row_list nodes names d number [] = []
row_list nodes names d number (row ∷ rows) = row_line nodes names d number row ∷ row_list nodes names d (number + 1) rows

abbrev pub answer_list : List NodeView → NamesView → AnswerView → List (List ℕ)
answer_list nodes names answer = decision_head nodes names answer.decision ∷ row_list nodes names answer.decision 0 answer.rows

abbrev pub gain_list : NamesView → ℕ → List Ratio → List (List ℕ)
gain_list names agent [] = []
gain_list names agent (gain ∷ gains) = gain_line names agent gain ∷ gain_list names (agent + 1) gains

abbrev pub list_behind : List NodeView → NamesView → SolvedView → List (List ℕ)
list_behind nodes names solved = flat_map (answer_list nodes names) solved.answers ++ gain_list names 0 solved.gains

abbrev pub title : List ℕ
title = line (codes "maidsolve report 1")

-- one line at each place
abbrev pub Follows : List NodeView → NamesView → List Slot → List (List ℕ) → Type 0
Follows nodes names [] [] = Unit {0}
Follows nodes names [] (l ∷ lines) = ⊥
Follows nodes names (s ∷ slots) [] = ⊥
Follows nodes names (s ∷ slots) (l ∷ lines) = Shows nodes names s l × Follows nodes names slots lines

ended_lines : (words whole rest : List ℕ) → whole ≡ words ++ 10 ∷ [] → lacks 10 words ≡ true → lines_of (whole ++ rest) ≡ whole ∷ lines_of rest
ended_lines words whole rest e l =
    ap (λ x. lines_of (x ++ rest)) e ∙ ap lines_of (append_assoc words (10 ∷ []) rest) ∙ lines_line words rest l ∙ ap (λ x. x ∷ lines_of rest) (sym e)

module _ (nodes : List NodeView) (names : NamesView) (told : AreTold names) where
  rows_lines : (d number : ℕ) (rows : List Row) (rest : List ℕ) → lines_of (row_lines nodes names d number rows ++ rest) ≡ row_list nodes names d number rows ++ lines_of rest
  rows_lines d number [] rest = refl
  rows_lines d number (row ∷ rows) rest =
      ap lines_of (append_assoc (row_line nodes names d number row) (row_lines nodes names d (number + 1) rows) rest)
      ∙ ended_lines (row_words nodes names d number row) (row_line nodes names d number row) (row_lines nodes names d (number + 1) rows ++ rest) (row_line_is nodes names d number row) (row_one_line names told nodes d number row)
      ∙ ap (λ ls. row_line nodes names d number row ∷ ls) (rows_lines d (number + 1) rows rest)

  gains_lines : (agent : ℕ) (gains : List Ratio) (rest : List ℕ) → lines_of (gain_lines names agent gains ++ rest) ≡ gain_list names agent gains ++ lines_of rest
  gains_lines agent [] rest = refl
  gains_lines agent (gain ∷ gains) rest =
      ap lines_of (append_assoc (gain_line names agent gain) (gain_lines names (agent + 1) gains) rest)
      ∙ ended_lines (gain_words names agent gain) (gain_line names agent gain) (gain_lines names (agent + 1) gains ++ rest) (gain_line_is names agent gain) (gain_one_line names told agent gain)
      ∙ ap (λ ls. gain_line names agent gain ∷ ls) (gains_lines (agent + 1) gains rest)

  answer_lines : (answer : AnswerView) (rest : List ℕ) → lines_of (decision_lines nodes names answer ++ rest) ≡ answer_list nodes names answer ++ lines_of rest
  answer_lines answer rest =
      ap lines_of (append_assoc (decision_head nodes names answer.decision) (row_lines nodes names answer.decision 0 answer.rows) rest)
      ∙ ended_lines (decision_words nodes names answer.decision) (decision_head nodes names answer.decision) (row_lines nodes names answer.decision 0 answer.rows ++ rest) refl (decision_line names told nodes answer.decision)
      ∙ ap (λ ls. decision_head nodes names answer.decision ∷ ls) (rows_lines answer.decision 0 answer.rows rest)

  answers_lines : (answers : List AnswerView) (rest : List ℕ) → lines_of (flat_map (decision_lines nodes names) answers ++ rest) ≡ flat_map (answer_list nodes names) answers ++ lines_of rest
  answers_lines [] rest = refl
  answers_lines (a ∷ answers) rest =
      ap lines_of (append_assoc (decision_lines nodes names a) (flat_map (decision_lines nodes names) answers) rest)
      ∙ answer_lines a (flat_map (decision_lines nodes names) answers ++ rest)
      ∙ ap (λ ls. answer_list nodes names a ++ ls) (answers_lines answers rest)
      ∙ sym (append_assoc (answer_list nodes names a) (flat_map (answer_list nodes names) answers) (lines_of rest))

  -- the lines of what stands behind the order's line
  pub behind_lines : (solved : SolvedView) → lines_of (lines_behind nodes names solved) ≡ list_behind nodes names solved
  behind_lines solved =
      answers_lines solved.answers (gain_lines names 0 solved.gains)
      ∙ ap (λ ls. flat_map (answer_list nodes names) solved.answers ++ ls) (ap lines_of (sym (append-nil (gain_lines names 0 solved.gains))) ∙ gains_lines 0 solved.gains [] ∙ append-nil (gain_list names 0 solved.gains))

-- a report is the title, the line of the order and what stands behind it
pub report_is : (d : DiagramView) (names : NamesView) (solved : SolvedView) → report d names solved ≡ codes "maidsolve report 1" ++ 10 ∷ (order_words names solved.order ++ 10 ∷ lines_behind d.nodes names solved)
report_is d names solved = parts (codes "maidsolve report 1") (order_words names solved.order) (flat_map (decision_lines d.nodes names) solved.answers) (gain_lines names 0 solved.gains)
  where
    parts : (t o a g : List ℕ) → ((t ++ 10 ∷ []) ++ (o ++ 10 ∷ []) ++ a) ++ g ≡ t ++ 10 ∷ (o ++ 10 ∷ (a ++ g))
    parts t o a g = simp append_assoc

pub report_lines : (d : DiagramView) (names : NamesView) (told : AreTold names) (solved : SolvedView) → lines_of (report d names solved) ≡ title ∷ line (order_words names solved.order) ∷ list_behind d.nodes names solved
report_lines d names told solved =
    ap lines_of (report_is d names solved)
    ∙ lines_line (codes "maidsolve report 1") (order_words names solved.order ++ 10 ∷ lines_behind d.nodes names solved) refl
    ∙ ap (λ ls. title ∷ ls) (lines_line (order_words names solved.order) (lines_behind d.nodes names solved) (order_line names told solved.order) ∙ ap (λ ls. line (order_words names solved.order) ∷ ls) (behind_lines d.nodes names told solved))

-- each line at its place
module _ (nodes : List NodeView) (names : NamesView) where
  follows_then : (slots others : List Slot) (lines more : List (List ℕ)) → Follows nodes names slots lines → Follows nodes names others more → Follows nodes names (slots ++ others) (lines ++ more)
  follows_then [] others [] more f g = g
  follows_then [] others (l ∷ lines) more f g = absurd f
  follows_then (s ∷ slots) others [] more f g = absurd f
  follows_then (s ∷ slots) others (l ∷ lines) more f g = (f.0, follows_then slots others lines more f.1 g)

  rows_follow : (d number : ℕ) (rows : List Row) → All (IsRow nodes d) rows → Follows nodes names (row_slots d number (length rows)) (row_list nodes names d number rows)
  rows_follow d number [] all = tt
  rows_follow d number (row ∷ rows) all = ((row, All-head (IsRow nodes d) row rows all, refl), rows_follow d (number + 1) rows (All-tail (IsRow nodes d) row rows all))

  gains_follow : (agent : ℕ) (gains : List Ratio) → All FitsRatio gains → Follows nodes names (gain_slots agent (length gains)) (gain_list names agent gains)
  gains_follow agent [] all = tt
  gains_follow agent (gain ∷ gains) all = ((gain, All-head FitsRatio gain gains all, refl), gains_follow (agent + 1) gains (All-tail FitsRatio gain gains all))

  answers_follow : (answers : List AnswerView) → All (IsRead nodes) answers → Follows nodes names (flat_map (answer_slots nodes names) (map (λ (a : AnswerView). a.decision) answers)) (flat_map (answer_list nodes names) answers)
  answers_follow [] all = tt
  answers_follow (a ∷ answers) all =
      let is = All-head (IsRead nodes) a answers all in
      follows_then (answer_slots nodes names a.decision) (flat_map (answer_slots nodes names) (map (λ (b : AnswerView). b.decision) answers)) (answer_list nodes names a) (flat_map (answer_list nodes names) answers)
      (refl, subst (λ n. Follows nodes names (row_slots a.decision 0 n) (row_list nodes names a.decision 0 a.rows)) is.count (rows_follow a.decision 0 a.rows is.rows))
      (answers_follow answers (All-tail (IsRead nodes) a answers all))

  pub behind_follows : (order : List ℕ) (agents : ℕ) (solved : SolvedView) → map (λ (a : AnswerView). a.decision) solved.answers ≡ order → All (IsRead nodes) solved.answers → length solved.gains ≡ agents → All FitsRatio solved.gains → Follows nodes names (flat_map (answer_slots nodes names) order ++ gain_slots 0 agents) (list_behind nodes names solved)
  behind_follows order agents solved follow each count gains =
      follows_then (flat_map (answer_slots nodes names) order) (gain_slots 0 agents) (flat_map (answer_list nodes names) solved.answers) (gain_list names 0 solved.gains)
      (subst (λ o. Follows nodes names (flat_map (answer_slots nodes names) o) (flat_map (answer_list nodes names) solved.answers)) follow (answers_follow solved.answers each))
      (subst (λ n. Follows nodes names (gain_slots 0 n) (gain_list names 0 solved.gains)) count (gains_follow 0 solved.gains gains))

  -- lines at two runs of places fall into two
  pub record Parted (slots others : List Slot) (lines : List (List ℕ)) : Type 0 where
    pub front : List (List ℕ)
    pub rest : List (List ℕ)
    pub is : lines ≡ front ++ rest
    pub first : Follows nodes names slots front
    pub then : Follows nodes names others rest

  follows_parted : (slots others : List Slot) (lines : List (List ℕ)) → Follows nodes names (slots ++ others) lines → Parted slots others lines
  follows_parted [] others lines f = record { front = []; rest = lines; is = refl; first = tt; then = f }
  follows_parted (s ∷ slots) others [] f = absurd f
  follows_parted (s ∷ slots) others (l ∷ lines) f =
      let p = follows_parted slots others lines f.1 in
      record { front = l ∷ p.front; rest = p.rest; is = ap (λ ls. l ∷ ls) p.is; first = (f.0, p.first); then = p.then }

  -- and they are those of rows, of answers and of gains
  pub record OfRows (d number count : ℕ) (lines : List (List ℕ)) : Type 0 where
    pub rows : List Row
    pub size : length rows ≡ count
    pub each : All (IsRow nodes d) rows
    pub is : lines ≡ row_list nodes names d number rows

  rows_from : (d number count : ℕ) (lines : List (List ℕ)) → Follows nodes names (row_slots d number count) lines → OfRows d number count lines
  rows_from d number zero [] f = record { rows = []; size = refl; each = All-nil (IsRow nodes d); is = refl }
  rows_from d number zero (l ∷ lines) f = absurd f
  rows_from d number (suc count) [] f = absurd f
  rows_from d number (suc count) (l ∷ lines) ((row, is, e), f) =
      let r = rows_from d (number + 1) count lines f in
      record { rows = row ∷ r.rows; size = ap suc r.size; each = All-cons (IsRow nodes d) row r.rows is r.each; is = λ i. e i ∷ r.is i }

  pub record OfGains (agent count : ℕ) (lines : List (List ℕ)) : Type 0 where
    pub gains : List Ratio
    pub size : length gains ≡ count
    pub each : All FitsRatio gains
    pub is : lines ≡ gain_list names agent gains

  gains_from : (agent count : ℕ) (lines : List (List ℕ)) → Follows nodes names (gain_slots agent count) lines → OfGains agent count lines
  gains_from agent zero [] f = record { gains = []; size = refl; each = All-nil FitsRatio; is = refl }
  gains_from agent zero (l ∷ lines) f = absurd f
  gains_from agent (suc count) [] f = absurd f
  gains_from agent (suc count) (l ∷ lines) ((gain, is, e), f) =
      let r = gains_from (agent + 1) count lines f in
      record { gains = gain ∷ r.gains; size = ap suc r.size; each = All-cons FitsRatio gain r.gains is r.each; is = λ i. e i ∷ r.is i }

  pub record OfAnswers (order : List ℕ) (lines : List (List ℕ)) : Type 0 where
    pub answers : List AnswerView
    pub follow : map (λ (a : AnswerView). a.decision) answers ≡ order
    pub each : All (IsRead nodes) answers
    pub is : lines ≡ flat_map (answer_list nodes names) answers

  answers_from : (order : List ℕ) (lines : List (List ℕ)) → Follows nodes names (flat_map (answer_slots nodes names) order) lines → OfAnswers order lines
  answers_from [] [] f = record { answers = []; follow = refl; each = All-nil (IsRead nodes); is = refl }
  answers_from [] (l ∷ lines) f = absurd f
  answers_from (d ∷ order) [] f = absurd f
  answers_from (d ∷ order) (l ∷ lines) (e, f) =
      let p = follows_parted (row_slots d 0 (rows_of nodes d)) (flat_map (answer_slots nodes names) order) lines f in
      let r = rows_from d 0 (rows_of nodes d) p.front p.first in
      let a = answers_from order p.rest p.then in
      record {
        answers = record { decision = d; rows = r.rows } ∷ a.answers;
        follow = ap (λ xs. d ∷ xs) a.follow;
        each = All-cons (IsRead nodes) (record { decision = d; rows = r.rows }) a.answers (record { count = r.size; rows = r.each }) a.each;
        is = (λ i. e i ∷ p.is i) ∙ (λ i. decision_head nodes names d ∷ (r.is i ++ a.is i));
      }

  -- a value of which these are the lines
  pub record OfBehind (order : List ℕ) (agents : ℕ) (lines : List (List ℕ)) : Type 0 where
    pub answers : List AnswerView
    pub gains : List Ratio
    pub follow : map (λ (a : AnswerView). a.decision) answers ≡ order
    pub each : All (IsRead nodes) answers
    pub size : length gains ≡ agents
    pub ratios : All FitsRatio gains
    pub is : lines ≡ flat_map (answer_list nodes names) answers ++ gain_list names 0 gains

  pub behind_from : (order : List ℕ) (agents : ℕ) (lines : List (List ℕ)) → Follows nodes names (flat_map (answer_slots nodes names) order ++ gain_slots 0 agents) lines → OfBehind order agents lines
  behind_from order agents lines f =
      let p = follows_parted (flat_map (answer_slots nodes names) order) (gain_slots 0 agents) lines f in
      let a = answers_from order p.front p.first in
      let g = gains_from 0 agents p.rest p.then in
      record { answers = a.answers; gains = g.gains; follow = a.follow; each = a.each; size = g.size; ratios = g.each; is = p.is ∙ (λ i. a.is i ++ g.is i) }
