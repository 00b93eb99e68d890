use Rattle.std.proofs.Common.{◌≡◌, ◌∙◌, None, ℕ, ◌+◌, ◌<◌, List, [], ◌∷◌, ◌++◌, flat_map, length, map, get_or, take, ap, sym, subst}
use Rattle.std.proofs.lemmas.List.{take_all, append-nil, map_more}
use Rattle.std.proofs.lemmas.List.Concat.{flat_map-append}
use Rattle.maid_model.specs.declared.answers.Row.{Row}
use Rattle.maid_model.specs.Nodes.{states_of}
use Rattle.maid_model.specs.Profiles.{IsRule, pure_row}
use Rattle.maid_model.proofs.Pure.{pure_is_rule}
use Rattle.maid_model.proofs.profiles.Rule.pure.Goals as goal

-- the pushed weights are those of the pure rule
pushed : (c : goal.After-loop-row) → c.loop-row.weights.items ≡ flat_map (pure_row (states_of c.args.diagram.now.nodes c.args.decision)) (map (λ (r : Row). r.choice) c.args.rows.now)
pushed c = c.loop-row.invariant ∙ (λ i. flat_map (pure_row (c.states-states.ensures.states i)) (map (λ (r : Row). r.choice) (take_all c.loop-row.row-index c.args.rows.now c.loop-row-test.false i)))

pub returns-clause-choices : goal.returns-clause-choices
returns-clause-choices c = ap (λ ws. record { decision = c.args.decision; total = 1; weights = ws }) (pushed c)

pub returns-clause-rule : goal.returns-clause-rule
returns-clause-rule c each inside =
    let nodes = c.args.diagram.now.nodes in
    subst (λ ws. IsRule nodes (record { decision = c.args.decision; total = 1; weights = ws })) (sym (pushed c)) (pure_is_rule nodes c.args.decision c.args.rows.now each inside)

-- one row more
more : (f : ℕ → List ℕ) (rows : List Row) (i : ℕ) (d : Row) → i < length rows → flat_map f (map (λ (r : Row). r.choice) (take (i + 1) rows)) ≡ flat_map f (map (λ (r : Row). r.choice) (take i rows)) ++ f (get_or rows i d).choice
more f rows i d l =
    let front = map (λ (r : Row). r.choice) (take i rows) in
    ap (flat_map f) (map_more (λ (r : Row). r.choice) rows i d l)
    ∙ flat_map-append f front ((get_or rows i d).choice ∷ [])
    ∙ ap (λ ws. flat_map f front ++ ws) (append-nil (f (get_or rows i d).choice))

pub loop-row-preserved : goal.loop-row-preserved
loop-row-preserved c =
    let next = more (pure_row c.states-states.result) c.args.rows.now c.loop-row.row-index (record { choice = 0; worth = None }) c.loop-row-test.true in
    c.in_ok-push_row.ensures ∙ ap (λ ws. ws ++ pure_row c.states-states.result (get_or c.args.rows.now c.loop-row.row-index (record { choice = 0; worth = None })).choice) c.loop-row.invariant ∙ sym next
