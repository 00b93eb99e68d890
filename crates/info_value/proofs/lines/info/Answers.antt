use Rattle.std.proofs.Common.{◌≡◌, ◌∙◌, All, ap, slice_index_or, sym, subst}
use Rattle.std.specs.Prelude.{IfOk}
use Rattle.maid_laws.proofs.AnswerLaws.{answers_fit}
use Rattle.maid_model.specs.Views.{DiagramView, SolvedView}
use Rattle.optimum_gap.specs.Baselines.{IsBaseline}
use Rattle.info_value.specs.Alone.{CanAskAll, IsInfoLineAlone}
use Rattle.optimum_gap.specs.Baselines.{alone}
use Rattle.info_value.specs.Lines.{IsInfoLine, TellsWorth}
use Rattle.info_value.proofs.Asked.{all_asked}
use Rattle.info_value.proofs.Told.{line_there, ok_lines, worth_there}
use Rattle.info_value.proofs.lines.info.Goals as goal

pub fix_others-requires : goal.fix_others-requires
fix_others-requires c = let is = c.count-count.ensures.diagram in answers_fit c.args.diagram.now c.args.solved.now is.graph is.tables c.requires.answer.fits

-- the answer's gain is the optimum where only the agent decides
pub info_lines-requires-clause-baseline : goal.info_lines-requires-clause-baseline
info_lines-requires-clause-baseline c =
    let d = c.args.diagram.now in
    let solved = c.args.solved.now in
    let gain = c.index.result.now in
    let read : slice_index_or solved.gains c.args.agent gain ≡ gain = sym (c.index.ensures ∙ ap (λ (s : SolvedView). slice_index_or s.gains c.args.agent gain) c.solved.view_is) in
    let base = c.answers_are_baselines.ensures d solved c.args.agent gain c.count-count.ensures.diagram c.requires.answer c.requires.bound c.requires.agent in
    subst (λ (e : DiagramView). IsBaseline e c.args.agent gain) (sym c.in_ok-alone.ensures) (subst (IsBaseline (alone d solved.answers c.args.agent) c.args.agent) read base)

pub info_lines-requires-clause-asked : goal.info_lines-requires-clause-asked
info_lines-requires-clause-asked c v within own =
    let d = c.args.diagram.now in
    let answers = c.args.solved.now.answers in
    subst (λ (e : DiagramView). CanAskAll d.nodes e.nodes v) (sym c.in_ok-alone.ensures) (all_asked d.nodes c.args.agent answers c.descent_is_tested.ensures v within own)

-- each line tells of the whole diagram
pub returns-clause-lines : goal.returns-clause-lines
returns-clause-lines c =
    let d = c.args.diagram.now in
    let solved = c.args.solved.now in
    let is = c.count-count.ensures.diagram in
    let fits = answers_fit d solved is.graph is.tables c.requires.answer.fits in
    ok_lines c.info_lines.result (IsInfoLineAlone (alone d solved.answers c.args.agent) c.args.agent) (IsInfoLine d solved.answers c.args.agent)
    (λ line l. line_there d solved.answers c.args.agent is.graph is.tables fits line l)
    (subst (λ e. IfOk c.info_lines.result (λ lines. All (IsInfoLineAlone e c.args.agent) lines.items)) c.in_ok-alone.ensures c.info_lines.ensures.lines)

pub returns-clause-worths : goal.returns-clause-worths
returns-clause-worths c =
    let d = c.args.diagram.now in
    let solved = c.args.solved.now in
    let is = c.count-count.ensures.diagram in
    let fits = answers_fit d solved is.graph is.tables c.requires.answer.fits in
    ok_lines c.info_lines.result (IsInfoLineAlone (alone d solved.answers c.args.agent) c.args.agent) (TellsWorth d solved.answers c.args.agent)
    (λ line l. worth_there d solved.answers c.args.agent is.graph is.tables fits line l)
    (subst (λ e. IfOk c.info_lines.result (λ lines. All (IsInfoLineAlone e c.args.agent) lines.items)) c.in_ok-alone.ensures c.info_lines.ensures.lines)
