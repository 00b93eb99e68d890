use Rattle.std.proofs.Common.{◌≡◌, ◌∙◌, ◌<◌, All, ap, length, map, slice_index_or, sym, subst}
use Rattle.std.proofs.lemmas.Result.{IfOk-from_err}
use Rattle.std.specs.Prelude.{IfOk, IfSome, None, Option, Some}
use Rattle.std.specs.Borrow.{Bor}
use Rattle.std.specs.Option.{option_copied}
use Rattle.arc_laws.proofs.Alone.{leaves}
use Rattle.maid_laws.proofs.AnswerLaws.{answers_fit}
use Rattle.maid_model.specs.declared.diagrams.Kind.TheVariants.{Chance}
use Rattle.maid_model.specs.Nodes.{node_at}
use Rattle.maid_model.specs.Trimming.{IsTrimmed}
use Rattle.maid_model.specs.Views.{DiagramView, SolvedView}
use Rattle.optimum_gap.specs.Baselines.{IsBaseline}
use Rattle.optimum_gap.specs.Baselines.{alone}
use Rattle.rule_solver.specs.Kept.{IsKeptDiagram}
use Rattle.control_incentive.specs.Lines.{IsTrimmedAlone, chance_nodes, line_node}
use Rattle.control_incentive.specs.Steps.{HasPaths, IsControlLineAlone}
use Rattle.control_incentive.proofs.Deciding.{chance_there, listed_chance}
use Rattle.finite_sums.proofs.Members.{all_among}
use Rattle.control_incentive.proofs.Told.{lines_there, worths_there}
use Rattle.control_incentive.proofs.lines.control.Goals as goal

-- what holds of a value holds of the reference to it
borrowed : {X : Type 0} (P : X → Type 0) (o : Option (Bor X)) → IfSome (option_copied o) P → IfSome o (λ r. P r.now)
borrowed P None h = tt
borrowed P (Some r) h = h

pub fix_others-requires : goal.fix_others-requires
fix_others-requires c = let is = c.count-count.ensures.diagram in answers_fit c.args.diagram.now c.args.solved.now is.graph is.tables c.requires.answer.fits

-- the answer's gain is the optimum where only the agent decides
pub control_lines-requires-clause-baseline : goal.control_lines-requires-clause-baseline
control_lines-requires-clause-baseline c =
    let d = c.args.diagram.now in
    let solved = c.args.solved.now in
    let gain = c.index.result.now in
    let read : slice_index_or solved.gains c.args.agent gain ≡ gain = sym (c.index.ensures ∙ ap (λ (s : SolvedView). slice_index_or s.gains c.args.agent gain) c.solved.view_is) in
    let base = c.answers_are_baselines.ensures d solved c.args.agent gain c.count-count.ensures.diagram c.requires.answer c.requires.bound c.requires.agent in
    subst (λ (e : DiagramView). IsBaseline e c.args.agent gain) (sym c.in_ok-alone.ensures) (subst (IsBaseline (alone d solved.answers c.args.agent) c.args.agent) read base)

pub control_lines-requires-clause-kept : goal.control_lines-requires-clause-kept
control_lines-requires-clause-kept c = borrowed (IsKeptDiagram c.in_ok-alone.alone.nodes) c.as_ref.result (subst (λ kept. IfSome kept (IsKeptDiagram c.in_ok-alone.alone.nodes)) (sym c.as_ref.ensures.value) c.in_ok-kept.ensures.kept)

-- the chance nodes are nodes, and stay chance nodes
pub control_lines-requires-clause-chance : goal.control_lines-requires-clause-chance
control_lines-requires-clause-chance c =
    let d = c.args.diagram.now in
    let answers = c.args.solved.now.answers in
    subst (All (λ v. (node_at c.in_ok-alone.alone.nodes v).kind ≡ Chance)) (sym (c.deref.ensures.value ∙ c.in_ok-nodes.ensures))
    (subst (λ (e : DiagramView). All (λ v. (node_at e.nodes v).kind ≡ Chance) (chance_nodes d.nodes)) (sym c.in_ok-alone.ensures)
    (all_among (λ v. (node_at (alone d answers c.args.agent).nodes v).kind ≡ Chance) (chance_nodes d.nodes) (λ x m. chance_there d.nodes c.args.agent answers x (listed_chance d.nodes x m).1)))

pub control_lines-requires-clause-within : goal.control_lines-requires-clause-within
control_lines-requires-clause-within c =
    let d = c.args.diagram.now in
    let answers = c.args.solved.now.answers in
    subst (All (λ v. v < length c.in_ok-alone.alone.nodes)) (sym (c.deref.ensures.value ∙ c.in_ok-nodes.ensures))
    (subst (λ (e : DiagramView). All (λ v. v < length e.nodes) (chance_nodes d.nodes)) (sym c.in_ok-alone.ensures)
    (all_among (λ v. v < length (alone d answers c.args.agent).nodes) (chance_nodes d.nodes) (λ x m. subst (λ n. x < n) (sym (leaves d.nodes c.args.agent answers).len) (listed_chance d.nodes x m).0)))

-- the lines tell of the whole diagram
pub returns-clause-lines : goal.returns-clause-lines
returns-clause-lines c =
    let d = c.args.diagram.now in
    let solved = c.args.solved.now in
    let agent = c.args.agent in
    let is = c.count-count.ensures.diagram in
    let fits = answers_fit d solved is.graph is.tables c.requires.answer.fits in
    let trimmed = c.in_ok-trimmed.trimmed.diagram.nodes in
    let cut : IsTrimmedAlone d solved.answers agent trimmed = record { removed = c.in_ok-trimmed.trimmed.removed.items; is = subst (λ (e : DiagramView). IsTrimmed e.nodes c.in_ok-trimmed.trimmed.removed.items trimmed) c.in_ok-alone.ensures c.in_ok-trimmed.ensures.trimmed } in
    let has = subst (λ (e : DiagramView). HasPaths e.nodes trimmed agent c.find-paths.result) c.in_ok-alone.ensures c.find-paths.ensures in
    lines_there d solved.answers agent is.graph is.tables fits trimmed cut c.find-paths.result has c.control_lines.result
    (subst (λ nodes. IfOk c.control_lines.result (λ v. map line_node v.items ≡ nodes)) (c.deref.ensures.value ∙ c.in_ok-nodes.ensures) c.control_lines.ensures.nodes)
    (subst (λ e. IfOk c.control_lines.result (λ lines. All (IsControlLineAlone e agent c.find-paths.result) lines.items)) c.in_ok-alone.ensures c.control_lines.ensures.lines)

pub returns-clause-worths : goal.returns-clause-worths
returns-clause-worths c =
    let d = c.args.diagram.now in
    let solved = c.args.solved.now in
    let agent = c.args.agent in
    let is = c.count-count.ensures.diagram in
    let fits = answers_fit d solved is.graph is.tables c.requires.answer.fits in
    let trimmed = c.in_ok-trimmed.trimmed.diagram.nodes in
    let cut : IsTrimmedAlone d solved.answers agent trimmed = record { removed = c.in_ok-trimmed.trimmed.removed.items; is = subst (λ (e : DiagramView). IsTrimmed e.nodes c.in_ok-trimmed.trimmed.removed.items trimmed) c.in_ok-alone.ensures c.in_ok-trimmed.ensures.trimmed } in
    let has = subst (λ (e : DiagramView). HasPaths e.nodes trimmed agent c.find-paths.result) c.in_ok-alone.ensures c.find-paths.ensures in
    worths_there d solved.answers agent is.graph is.tables fits trimmed cut c.find-paths.result has c.control_lines.result
    (subst (λ nodes. IfOk c.control_lines.result (λ v. map line_node v.items ≡ nodes)) (c.deref.ensures.value ∙ c.in_ok-nodes.ensures) c.control_lines.ensures.nodes)
    (subst (λ e. IfOk c.control_lines.result (λ lines. All (IsControlLineAlone e agent c.find-paths.result) lines.items)) c.in_ok-alone.ensures c.control_lines.ensures.lines)

pub returns-in_err-alone-clause-nodes : goal.returns-in_err-alone-clause-nodes
returns-in_err-alone-clause-nodes c = IfOk-from_err _ _ c.from_residual.ensures.0

pub returns-in_err-alone-clause-lines : goal.returns-in_err-alone-clause-lines
returns-in_err-alone-clause-lines c = IfOk-from_err _ _ c.from_residual.ensures.0

pub returns-in_err-alone-clause-worths : goal.returns-in_err-alone-clause-worths
returns-in_err-alone-clause-worths c = IfOk-from_err _ _ c.from_residual.ensures.0

pub returns-in_err-trimmed-clause-nodes : goal.returns-in_err-trimmed-clause-nodes
returns-in_err-trimmed-clause-nodes c = IfOk-from_err _ _ c.from_residual-in_err-trimmed.ensures.0

pub returns-in_err-trimmed-clause-lines : goal.returns-in_err-trimmed-clause-lines
returns-in_err-trimmed-clause-lines c = IfOk-from_err _ _ c.from_residual-in_err-trimmed.ensures.0

pub returns-in_err-trimmed-clause-worths : goal.returns-in_err-trimmed-clause-worths
returns-in_err-trimmed-clause-worths c = IfOk-from_err _ _ c.from_residual-in_err-trimmed.ensures.0

pub returns-in_err-nodes-clause-nodes : goal.returns-in_err-nodes-clause-nodes
returns-in_err-nodes-clause-nodes c = IfOk-from_err _ _ c.from_residual-in_err-nodes.ensures.0

pub returns-in_err-nodes-clause-lines : goal.returns-in_err-nodes-clause-lines
returns-in_err-nodes-clause-lines c = IfOk-from_err _ _ c.from_residual-in_err-nodes.ensures.0

pub returns-in_err-nodes-clause-worths : goal.returns-in_err-nodes-clause-worths
returns-in_err-nodes-clause-worths c = IfOk-from_err _ _ c.from_residual-in_err-nodes.ensures.0

pub returns-in_err-kept-clause-nodes : goal.returns-in_err-kept-clause-nodes
returns-in_err-kept-clause-nodes c = IfOk-from_err _ _ c.from_residual-in_err-kept.ensures.0

pub returns-in_err-kept-clause-lines : goal.returns-in_err-kept-clause-lines
returns-in_err-kept-clause-lines c = IfOk-from_err _ _ c.from_residual-in_err-kept.ensures.0

pub returns-in_err-kept-clause-worths : goal.returns-in_err-kept-clause-worths
returns-in_err-kept-clause-worths c = IfOk-from_err _ _ c.from_residual-in_err-kept.ensures.0

pub returns-clause-nodes : goal.returns-clause-nodes
returns-clause-nodes c = subst (λ nodes. IfOk c.control_lines.result (λ v. map line_node v.items ≡ nodes)) (c.deref.ensures.value ∙ c.in_ok-nodes.ensures) c.control_lines.ensures.nodes
