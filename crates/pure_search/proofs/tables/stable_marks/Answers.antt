use Rattle.std.proofs.Common.{◌≡◌, ◌∙◌, ℕ, ◌+◌, ◌<◌, Bool, List, ◌++◌, length, take, drop, arith, sym, subst}
use Rattle.std.proofs.lemmas.Result.{IfOk-from_err}
use borrow.Author.Count.{falls}
use Rattle.maid_model.specs.Views.{NodeView}
use Rattle.pure_search.specs.Games.{MarksBest}
use Rattle.pure_search.proofs.Marking.{all_tried, none_tried}
use Rattle.pure_search.proofs.Steps.{written}
use Rattle.pure_search.proofs.tables.stable_marks.Goals as goal

-- the marks are those that a call wrote over the old ones
best_of_written : (nodes : List NodeView) (more agents n : ℕ) (new old : List Bool) → n ≡ length old → MarksBest nodes agents old → MarksBest nodes more new → MarksBest nodes more (take n (new ++ drop (length new) old))
best_of_written nodes more agents n new old e was is = subst (MarksBest nodes more) (sym (written n new old (is.len ∙ sym was.len) e)) is

pub returns : goal.returns
returns c =
    let all : c.loop-agent.agent ≡ c.args.diagram.now.agents = let h = c.loop-agent-test.false in let k = c.loop-agent.auto.agent-end in let e = c.agents-agent-end.ensures.agents in omega (arith, h, k, e) in
    all_tried c.args.diagram.now c.agents-agent-end.ensures.diagram c.loop-agent.marks.items (subst (λ n. MarksBest c.args.diagram.now.nodes n c.loop-agent.marks.items) all c.loop-agent.invariant)

pub keep_best-requires-clause-game : goal.keep_best-requires-clause-game
keep_best-requires-clause-game c = c.requires.game

pub keep_best-requires-clause-agent : goal.keep_best-requires-clause-agent
keep_best-requires-clause-agent c = subst (λ n. c.loop-agent.agent < n) c.agents-agent-end.ensures.agents c.loop-agent-test.true

pub keep_best-requires-clause-bound : goal.keep_best-requires-clause-bound
keep_best-requires-clause-bound c = c.requires.bound

pub keep_best-requires-clause-marks : goal.keep_best-requires-clause-marks
keep_best-requires-clause-marks c = subst (MarksBest c.args.diagram.now.nodes c.loop-agent.agent) (sym c.deref_mut.ensures.value) c.loop-agent.invariant

pub loop-agent-init : goal.loop-agent-init
loop-agent-init c = subst (MarksBest c.args.diagram.now.nodes 0) (sym (c.in_ok-marks.ensures.items_if_clones_equal (λ y e. e))) (none_tried c.args.diagram.now.nodes c.args.profiles c.requires.profiles)

pub loop-agent-smaller : goal.loop-agent-smaller
loop-agent-smaller c = falls _ _ c.loop-agent-test.true

pub returns-in_err-marks : goal.returns-in_err-marks
returns-in_err-marks c = IfOk-from_err _ _ c.from_residual.ensures.0

pub returns-in_err-keep_best : goal.returns-in_err-keep_best
returns-in_err-keep_best c = IfOk-from_err _ _ c.from_residual-in_err-keep_best.ensures.0

pub loop-agent-preserved : goal.loop-agent-preserved
loop-agent-preserved c =
    best_of_written c.args.diagram.now.nodes (c.loop-agent.agent + 1) c.loop-agent.agent c.loop-agent.marks.len c.keep_best.new.marks c.loop-agent.marks.items c.loop-agent.marks.ok.0 c.loop-agent.invariant
    c.in_ok-keep_best.ensures
