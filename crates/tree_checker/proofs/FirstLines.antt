-- The lines of a report, gone through from the first: the verdict is the first that fails.
use Rattle.std.proofs.Common.{◌≡◌, ◌∙◌, ℕ, ◌+◌, ◌^◌, ◌<◌, ◌≤◌, List, [], ◌∷◌, length, get_or, slice_index, take, sym, ap, subst, refl, arith, Option, Some, None}
use Rattle.std.proofs.Math.Decide.{ℕ_discrete, dec_lt}
use Rattle.std.proofs.Math.Seq.{take-length}
use Rattle.std.proofs.lemmas.List.{get_or_default}
use Rattle.std.specs.Prelude.{sum_by}
use Rattle.maid_model.specs.declared.answers.Ratio.{Ratio}
use Rattle.maid_model.specs.declared.answers.Row.{Row}
use Rattle.maid_model.specs.Accepted.{IsAccepted, IsAcceptedAt, IsReliedFirst}
use Rattle.maid_model.specs.Answers.{FitsAnswer, FitsDiagram, IsExpectedUtility, answered, answer_at, rows_at}
use Rattle.maid_model.specs.Diagrams.{IsDiagram}
use Rattle.maid_model.specs.Nodes.{IsDecision, rows_of}
use Rattle.maid_model.specs.Views.{AnswerView, RuleView, DiagramView, SolvedView}
use Rattle.maid_laws.proofs.Members.{among_of, index_of}
use Rattle.tree_checker.specs.declared.rows.RowFault.{RowFault}
use Rattle.tree_checker.specs.declared.verdicts.Cause.{Cause}
use Rattle.tree_checker.specs.declared.verdicts.Cause.TheVariants.{Order, Choice, Worth, Never, Gain}
use Rattle.tree_checker.specs.Judged.{JudgesAnswer, JudgesGains}
use Rattle.tree_checker.specs.Verdicts.{FailsAtAgent, FailsAtRow, FailsAtFirst, FailsInRows, FailsLine, FailsRow, line_of_answer, line_count, no_gain, line_of_row}
use Rattle.tree_checker.proofs.LineLaws.{counts, decided, decides, line_next, lines_small, no_answer, order_few, placed, row_before, row_before_gains, rows_count, rows_small, rows_there}
use Rattle.tree_checker.proofs.OneVerdictLaw.{Kinds, AtOrder, AtRow, AtAgent, accepted_clash, kind_of, one_base}
use Rattle.tree_checker.proofs.RowClash.{row_clash, passes_of}

-- the line is that of the answer at this place, and the answers before it are accepted
pub record CheckedSoFar (d : DiagramView) (solved : SolvedView) (place line : ℕ) : Type 0 where
  pub line_is : line ≡ line_of_answer solved place
  pub accepted : (p : ℕ) → p < place → IsAcceptedAt d.nodes d.decimals (answered d solved) (slice_index solved.order p) (rows_at solved.answers (slice_index solved.order p))

pub checked_start : (d : DiagramView) (solved : SolvedView) → CheckedSoFar d solved 0 3
checked_start d solved = record { line_is = first solved; accepted = λ p l. absurd (omega arith) }
  where
    first : (solved : SolvedView) → 3 ≡ line_of_answer solved 0
    first solved = ap (λ n. 3 + n) (none solved.answers)
      where
        none : (xs : List AnswerView) → 0 ≡ sum_by line_count (take 0 xs)
        none [] = refl
        none (x ∷ xs) = refl

-- a row's cause is one of three
row_line_fails : (d : DiagramView) (solved : SolvedView) (line : ℕ) (cause : Cause) → FailsInRows d solved line cause → FailsLine d solved line cause
row_line_fails d solved line Order (p, r, e, x) = absurd x.fails
row_line_fails d solved line Choice f = f
row_line_fails d solved line Worth f = f
row_line_fails d solved line Never f = f
row_line_fails d solved line Gain (p, r, e, x) = absurd x.fails

module _ (d : DiagramView) (solved : SolvedView) (f : FitsDiagram d solved) (right : IsReliedFirst d.nodes solved.order) where
  module _ (place line : ℕ) (so : CheckedSoFar d solved place line) where
    module _ (l : place < length solved.order) (a : AnswerView) (at : get_or solved.answers place a ≡ a) where
      abbrev v : ℕ
      v = slice_index solved.order place

      same_answer : placed solved place ≡ a
      same_answer = get_or_default solved.answers place no_answer a (subst (λ n. place < n) (sym (counts d solved f)) l) ∙ at

      decision_is : a.decision ≡ v
      decision_is = ap (λ (x : AnswerView). x.decision) (sym same_answer) ∙ decides d solved f place l

      rows_are : a.rows ≡ rows_at solved.answers v
      rows_are = ap (λ (x : AnswerView). x.rows) (sym same_answer) ∙ sym (rows_there d solved f place l)

      count_is : length (rows_at solved.answers v) ≡ rows_of d.nodes v
      count_is = ap length (rows_there d solved f place l) ∙ rows_count d solved f place l

      -- the judgement, in the words of the report
      judged : (o : Option RowFault) → JudgesAnswer d (answered d solved) a.decision a.rows o → JudgesAnswer d (answered d solved) v (rows_at solved.answers v) o
      judged o j = subst (λ v. JudgesAnswer d (answered d solved) v (rows_at solved.answers (slice_index solved.order place)) o) decision_is (subst (λ rows. JudgesAnswer d (answered d solved) a.decision rows o) rows_are j)

      -- a decision all of whose rows pass is accepted
      pub checked_next : JudgesAnswer d (answered d solved) a.decision a.rows None → CheckedSoFar d solved (place + 1) (line + (1 + length a.rows))
      checked_next j = record {
        line_is =
            let next = line_next d solved f place l in
            let rows : length a.rows ≡ rows_of d.nodes v = ap length rows_are ∙ count_is in
            let before = so.line_is in
            omega (arith, next, rows, before);
        accepted = λ p k. last p k (ℕ_discrete p place);
      }
        where
          here : JudgesAnswer d (answered d solved) v (rows_at solved.answers v) None
          here = judged None j

          earlier : (p : ℕ) → p < place + 1 → (p ≡ place → ⊥) → p < place
          earlier p k n = omega arith

          own : IsAcceptedAt d.nodes d.decimals (answered d solved) v (rows_at solved.answers v)
          own = record { base = here.base; is_base = here.is_base; each = λ row k. here.judged row (subst (λ n. row < n) (sym count_is) k) }

          last : (p : ℕ) → p < place + 1 → Dec (p ≡ place) → IsAcceptedAt d.nodes d.decimals (answered d solved) (slice_index solved.order p) (rows_at solved.answers (slice_index solved.order p))
          last p k (yes e) = subst (λ p. IsAcceptedAt d.nodes d.decimals (answered d solved) (slice_index solved.order p) (rows_at solved.answers (slice_index solved.order p))) (sym e) own
          last p k (no n) = so.accepted p (earlier p k n)

      -- the first row that doesn't pass is the first line that fails
      pub row_first : (fault : RowFault) → JudgesAnswer d (answered d solved) a.decision a.rows (Some fault) → FailsAtFirst d solved (line + 1 + fault.row) fault.cause
      row_first fault j = record {
        fails = row_line_fails d solved (line + 1 + fault.row) fault.cause (place, fault.row, ap (λ n. n + 1 + fault.row) so.line_is, here_fails);
        first = λ other why g. least other why (kind_of d solved other why g);
      }
        where
          here : JudgesAnswer d (answered d solved) v (rows_at solved.answers v) (Some fault)
          here = judged (Some fault) j

          inside : fault.row < rows_of d.nodes v
          inside = subst (λ n. fault.row < n) count_is here.judged.within

          here_fails : FailsAtRow d solved place fault.row fault.cause
          here_fails = record { place_within = l; row_within = inside; base = here.base; is_base = here.is_base; fails = here.judged.fails }

          -- a row of the same decision isn't before the fault
          not_before : (r : ℕ) (why : Cause) → FailsAtRow d solved place r why → r < fault.row → ⊥
          not_before r why x k =
              row_clash _ _ _ _ (answer_at solved v r) (passes_of d.nodes d.decimals here.base v r (answer_at solved v r) (here.judged.before r k)) why
              (subst (λ b. FailsRow d.nodes d.decimals b v r (answer_at solved v r) why) (one_base d.nodes v (answered d solved) x.base here.base x.is_base here.is_base) x.fails)

          at_row : (p r : ℕ) (why : Cause) → FailsAtRow d solved p r why → Dec (p < place) → Dec (p ≡ place) → Dec (r < fault.row) → line + 1 + fault.row ≤ line_of_row solved p r
          at_row p r why x (yes k) e h = absurd (accepted_clash d solved (slice_index solved.order p) (so.accepted p k) x.base x.is_base r x.row_within why x.fails)
          at_row p r why x (no k) (yes e) (yes h) = absurd (not_before r why (subst (λ p. FailsAtRow d solved p r why) e x) h)
          at_row p r why x (no k) (yes e) (no h) = let same : line_of_answer solved p ≡ line_of_answer solved place = ap (line_of_answer solved) e in let before = so.line_is in omega (arith, same, before)
          at_row p r why x (no k) (no e) h = let later = row_before d solved f place p fault.row (omega arith) l inside in let before = so.line_is in omega (arith, later, before)

          least : (other : ℕ) (why : Cause) → Kinds d solved other why → line + 1 + fault.row ≤ other
          least other why (AtOrder e g n) = absurd (n right)
          least other why (AtRow (p, r, e, x)) = subst (λ n. line + 1 + fault.row ≤ n) (sym e) (at_row p r why x (dec_lt p place) (ℕ_discrete p place) (dec_lt r fault.row))
          least other why (AtAgent e agent g x) = let later = row_before_gains d solved f place fault.row agent l inside in let before = so.line_is in omega (arith, later, before, g)

    module _ (same : place ≡ length solved.order) where
      -- all answers are accepted
      all_accepted : (v : ℕ) → IsDecision d.nodes v → IsAcceptedAt d.nodes d.decimals (answered d solved) v (rows_at solved.answers v)
      all_accepted v k = go (index_of v solved.order (among_of v solved.order (f.all v k)))
        where
          go : (p : ℕ) × (p < length solved.order) × (slice_index solved.order p ≡ v) → IsAcceptedAt d.nodes d.decimals (answered d solved) v (rows_at solved.answers v)
          go (p, h, e) = subst (λ v. IsAcceptedAt d.nodes d.decimals (answered d solved) v (rows_at solved.answers v)) e (so.accepted p (subst (λ n. p < n) (sym same) h))

      pub all_right : JudgesGains d (answered d solved) solved.gains None → IsAccepted d solved
      all_right right_gains = record {
        fits = f;
        order = right;
        rows = all_accepted;
        gains = record { each = λ agent r h. subst (λ (g : Ratio). IsExpectedUtility d.nodes (10 ^ d.decimals) (answered d solved) agent g) (get_or_default solved.gains agent no_gain r (subst (λ n. agent < n) (sym f.gains) h)) (right_gains agent h) };
      }

      line_end : line ≡ 3 + sum_by line_count solved.answers
      line_end = so.line_is ∙ ap (λ xs. 3 + sum_by line_count xs) (ap (λ n. take n solved.answers) (same ∙ sym (counts d solved f)) ∙ take-length solved.answers)

      pub gain_first : (agent : ℕ) → JudgesGains d (answered d solved) solved.gains (Some agent) → FailsAtFirst d solved (line + agent) Gain
      gain_first agent w = record {
        fails = (agent, ap (λ n. n + agent) line_end, record { within = w.within; fails = w.wrong });
        first = λ other why g. least other why (kind_of d solved other why g);
      }
        where
          later : (b : ℕ) → FailsAtAgent d solved b → Dec (b < agent) → agent ≤ b
          later b x (yes h) = absurd (x.fails (w.before b h))
          later b x (no h) = omega arith

          least : (other : ℕ) (why : Cause) → Kinds d solved other why → line + agent ≤ other
          least other why (AtOrder e g n) = absurd (n right)
          least other why (AtRow (p, r, e, x)) = absurd (accepted_clash d solved (slice_index solved.order p) (all_accepted (slice_index solved.order p) (decided d solved f p x.place_within)) x.base x.is_base r x.row_within why x.fails)
          least other why (AtAgent e b g x) = let not_earlier = later b x (dec_lt b agent) in let last = line_end in omega (arith, not_earlier, last, g)

-- ---- what the loop over the answers has at hand
-- the answers are those of the report, and the one at this place is the one that is looked at
pub record IsLookedAt (solved : SolvedView) (place : ℕ) (a : AnswerView) : Type 0 where
  pub within : place < length solved.order
  pub here : get_or solved.answers place a ≡ a

pub looked_at : (d : DiagramView) (solved : SolvedView) → FitsDiagram d solved → (items : List AnswerView) (place : ℕ) (a : AnswerView) → items ≡ solved.answers → place < length items → a ≡ get_or items place a → IsLookedAt solved place a
looked_at d solved f items place a e l h = record {
  within = subst (λ n. place < n) (ap length e ∙ counts d solved f) l;
  here = sym (h ∙ ap (λ xs. get_or xs place a) e);
}

-- what it answers fits its decision
pub answer_fits : (d : DiagramView) (solved : SolvedView) → FitsDiagram d solved → (place : ℕ) (a : AnswerView) (v : ℕ) (rows : List Row) → IsLookedAt solved place a → v ≡ a.decision → rows ≡ a.rows → FitsAnswer d.nodes (record { decision = v; rows = rows })
answer_fits d solved f place a v rows at e r =
    subst (FitsAnswer d.nodes) (λ i. record { decision = sym e i; rows = sym r i })
    (subst (FitsAnswer d.nodes) at.here (f.answers place a (subst (λ n. place < n) (sym (counts d solved f)) at.within)))

-- the same judgement of the same rows
pub judged_like : (d : DiagramView) (s t : List RuleView) (v w : ℕ) (rows qs : List Row) (o q : Option RowFault) → s ≡ t → v ≡ w → rows ≡ qs → o ≡ q → JudgesAnswer d s v rows o → JudgesAnswer d t w qs q
judged_like d s t v w rows qs o q a b c e j =
    subst (λ x. JudgesAnswer d x w qs q) a (subst (λ x. JudgesAnswer d s x qs q) b (subst (λ x. JudgesAnswer d s v x q) c (subst (λ x. JudgesAnswer d s v rows x) e j)))

pub gains_like : (d : DiagramView) (s t : List RuleView) (xs ys : List Ratio) (o q : Option ℕ) → s ≡ t → xs ≡ ys → o ≡ q → JudgesGains d s xs o → JudgesGains d t ys q
gains_like d s t xs ys o q a b e j = subst (λ x. JudgesGains d x ys q) a (subst (λ x. JudgesGains d s x q) b (subst (λ x. JudgesGains d s xs x) e j))

-- all answers are passed
pub passed_all : (d : DiagramView) (solved : SolvedView) → FitsDiagram d solved → (items : List AnswerView) (place : ℕ) → items ≡ solved.answers → length items ≤ place → place ≤ length items → place ≡ length solved.order
passed_all d solved f items place e l m = let same : length items ≡ length solved.order = ap length e ∙ counts d solved f in omega (arith, same, l, m)

-- a line's number has room
pub line_room : (d : DiagramView) (solved : SolvedView) → FitsDiagram d solved → IsDiagram d → (place line : ℕ) → CheckedSoFar d solved place line → place ≤ length solved.order → line ≤ 16777475
line_room d solved f is place line so l =
    let small = lines_small d solved f is place l in
    let order = order_few d solved f is in
    let at = so.line_is in
    omega (arith, small, order, at)

pub rows_room : (d : DiagramView) (solved : SolvedView) → FitsDiagram d solved → IsDiagram d → (place : ℕ) (a : AnswerView) → IsLookedAt solved place a → length a.rows ≤ 65536
rows_room d solved f is place a h =
    let same : placed solved place ≡ a = get_or_default solved.answers place no_answer a (subst (λ n. place < n) (sym (counts d solved f)) h.within) ∙ h.here in
    let rows : length a.rows ≡ rows_of d.nodes (slice_index solved.order place) = ap (λ (x : AnswerView). length x.rows) (sym same) ∙ rows_count d solved f place h.within in
    let small = rows_small d solved f is place h.within in
    omega (arith, rows, small)

-- no line stands before the order
pub order_first : (d : DiagramView) (solved : SolvedView) → (IsReliedFirst d.nodes solved.order → ⊥) → FailsAtFirst d solved 2 Order
order_first d solved wrong = record { fails = (refl, wrong); first = λ other why f. least other why (kind_of d solved other why f) }
  where
    least : (other : ℕ) (why : Cause) → Kinds d solved other why → 2 ≤ other
    least other why (AtOrder e l n) = omega arith
    least other why (AtRow (p, r, e, x)) = omega arith
    least other why (AtAgent e agent l x) = omega arith
