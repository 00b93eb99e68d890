-- One decision more, with the first state in each of its rows.
use Rattle.std.proofs.Common.{◌≡◌, ◌∙◌, ℕ, ◌+◌, ◌<◌, ◌++◌, ◌∷◌, [], List, get_or, length, map, replicate, take, sym, ap}
use Rattle.std.proofs.lemmas.List.{map-append, take_all, take_more}
use Rattle.maid_model.specs.declared.answers.Row.{Row}
use Rattle.maid_model.specs.Answers.{no_row}
use Rattle.maid_model.specs.Nodes.{rows_of}
use Rattle.maid_model.specs.Views.{AnswerView, NodeView}
use Rattle.policy_update.proofs.Owners.{decision_at}
use Rattle.policy_update.proofs.starting.first_choices.Goals as goal

module _ (nodes : List NodeView) (decisions : List ℕ) where
  abbrev first : ℕ → AnswerView
  first v = record { decision = v; rows = replicate (rows_of nodes v) no_row }

  one_more : (n : ℕ) (before after : List AnswerView) (rows : List Row) → n < length decisions → before ≡ map first (take n decisions) → after ≡ before ++ record { decision = get_or decisions n 0; rows = rows } ∷ [] → rows ≡ replicate (rows_of nodes (get_or decisions n 0)) no_row
      → after ≡ map first (take (n + 1) decisions)
  one_more n before after rows within so more is =
      more
      ∙ (λ i. so i ++ record { decision = get_or decisions n 0; rows = is i } ∷ [])
      ∙ sym (map-append first (take n decisions) (get_or decisions n 0 ∷ []))
      ∙ ap (λ (l : List ℕ). map first l) (sym (take_more decisions n 0 within))

pub rows-requires : goal.rows-requires
rows-requires c = (decision_at c.args.diagram.now.nodes c.args.decisions.now c.loop-decision.decision-index c.requires c.loop-decision-test.true).within

pub loop-decision-preserved : goal.loop-decision-preserved
loop-decision-preserved c =
    let same : c.in_ok-rows.rows.items ≡ replicate c.rows.result no_row = c.in_ok-rows.ensures.items_if_clones_equal (λ y e. e) in
    one_more c.args.diagram.now.nodes c.args.decisions.now c.loop-decision.decision-index c.loop-decision.answers.items c.push.new.self.items c.in_ok-rows.rows.items c.loop-decision-test.true c.loop-decision.invariant c.in_ok-push.ensures.items
    (same ∙ ap (λ n. replicate n no_row) c.rows.ensures)

pub returns : goal.returns
returns c = c.loop-decision.invariant ∙ ap (λ (l : List ℕ). map (first c.args.diagram.now.nodes c.args.decisions.now) l) (take_all c.loop-decision.decision-index c.args.decisions.now c.loop-decision-test.false ∙ c.requires)
