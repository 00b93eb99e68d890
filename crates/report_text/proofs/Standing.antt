-- A value that a report can show, by its parts.
use Rattle.std.proofs.Common.{◌≡◌, ℕ, List, [], ◌∷◌, map, length, sym, subst}
use Rattle.std.specs.Prelude.{All, Option, Some, None, IfSome}
use Rattle.std.proofs.lemmas.List.Elements.{All-nil, All-cons, All-head, All-map, All-tail}
use Rattle.maid_model.specs.declared.answers.Ratio.{Ratio}
use Rattle.maid_model.specs.Views.{NodeView, DiagramView, AnswerView, SolvedView}
use Rattle.maid_model.specs.Answers.{FitsAnswer, IsReduced}
use Rattle.maid_model.specs.Nodes.{IsDecision}
use Rattle.report_text.specs.Reading.{CanStand, FitsRatio}
use Rattle.report_text.specs.Slots.{IsDecisionOrder, IsRead}

worth_reduced : (worth : Option Ratio) → IfSome worth FitsRatio → IfSome worth IsReduced
worth_reduced None h = tt
worth_reduced (Some r) h = h.reduced

read_fits : (nodes : List NodeView) (answer : AnswerView) → IsDecision nodes answer.decision → IsRead nodes answer → FitsAnswer nodes answer
read_fits nodes answer is read = record {
  decision = is;
  rows = read.count;
  choices = λ k d h. (read.rows k d h).choice;
  worths = λ k d h. worth_reduced _ (read.rows k d h).worth;
}

answers_fit : (nodes : List NodeView) (answers : List AnswerView) → All (IsDecision nodes) (map (λ (a : AnswerView). a.decision) answers) → All (IsRead nodes) answers → All (FitsAnswer nodes) answers
answers_fit nodes [] is read = All-nil (FitsAnswer nodes)
answers_fit nodes (a ∷ answers) is read =
    All-cons (FitsAnswer nodes) a answers
    (read_fits nodes a (All-head (IsDecision nodes) a.decision (map (λ (b : AnswerView). b.decision) answers) is) (All-head (IsRead nodes) a answers read))
    (answers_fit nodes answers (All-tail (IsDecision nodes) a.decision (map (λ (b : AnswerView). b.decision) answers) is) (All-tail (IsRead nodes) a answers read))

-- from its parts
pub stands : (d : DiagramView) (order : List ℕ) (answers : List AnswerView) (gains : List Ratio) → IsDecisionOrder d.nodes order → map (λ (a : AnswerView). a.decision) answers ≡ order → All (IsRead d.nodes) answers → length gains ≡ d.agents → All FitsRatio gains → CanStand d (record { order = order; answers = answers; gains = gains })
stands d order answers gains is follow read size ratios = record {
  fits = record {
    follow = follow;
    answers = answers_fit d.nodes answers (subst (λ xs. All (IsDecision d.nodes) xs) (sym follow) is.decisions) read;
    all = is.all;
    once = is.once;
    gains = size;
    reduced = λ k e h. (ratios k e h).reduced;
  };
  worths = λ k e h i r l. ((read k e h).rows i r l).worth;
  gains = ratios;
}

-- and to them
pub standing_order : (d : DiagramView) (solved : SolvedView) → CanStand d solved → IsDecisionOrder d.nodes solved.order
standing_order d solved is = record {
  decisions = subst (λ xs. All (IsDecision d.nodes) xs) is.fits.follow (All-map (IsDecision d.nodes) (λ (a : AnswerView). a.decision) solved.answers (λ k e h. (is.fits.answers k e h).decision));
  all = is.fits.all;
  once = is.fits.once;
}

pub standing_answers : (d : DiagramView) (solved : SolvedView) → CanStand d solved → All (IsRead d.nodes) solved.answers
standing_answers d solved is k e h = record {
  count = (is.fits.answers k e h).rows;
  rows = λ i r l. record { choice = (is.fits.answers k e h).choices i r l; worth = is.worths k e h i r l };
}
