use Rattle.std.proofs.Common.{◌∙◌, ◌++◌, [], ◌∷◌, All, List, map, sym, ap, subst}
use Rattle.std.proofs.lemmas.List.{map-append, take_all, take_more}
use Rattle.std.proofs.lemmas.List.Elements.{All-append, All-cons, All-nil}
use Rattle.std.proofs.lemmas.Result.{IfOk-from_err}
use Rattle.control_incentive.specs.declared.lines.ControlLine.{ControlLine}
use Rattle.control_incentive.specs.Lines.{line_node}
use Rattle.control_incentive.specs.Steps.{IsControlLineAlone}
use borrow.Author.Count.{falls}
use Rattle.control_incentive.proofs.lines.control_lines.Goals as goal

-- one more line behind those before it
pub loop-node-preserved : goal.loop-node-preserved
loop-node-preserved c =
    let IsLine = IsControlLineAlone c.args.baseline.now.diagram.now c.args.baseline.now.agent c.args.paths.now in
    let lines = c.loop-node.lines.items in
    let line = c.in_ok-line.line in
    let pushed = c.in_ok-push.ensures.items in
    let node = c.in_ok-line.ensures.node in
    record {
      nodes = ap (map line_node) pushed ∙ map-append line_node lines (line ∷ []) ∙ (λ i. c.loop-node.invariant.nodes i ++ node i ∷ []) ∙ sym (take_more c.args.nodes.now c.loop-node.node-index 0 c.loop-node-test.true);
      lines = subst (All IsLine) (sym {A = List ControlLine} pushed) (All-append IsLine lines (line ∷ []) c.loop-node.invariant.lines (All-cons IsLine line [] c.in_ok-line.ensures.line (All-nil IsLine)));
      left = c.control_line.ensures.left;
      copy = c.control_line.ensures.again ∙ c.loop-node.invariant.copy;
    }

pub returns-in_err-lines-clause-nodes : goal.returns-in_err-lines-clause-nodes
returns-in_err-lines-clause-nodes c = IfOk-from_err _ _ c.from_residual.ensures.0

pub returns-in_err-lines-clause-lines : goal.returns-in_err-lines-clause-lines
returns-in_err-lines-clause-lines c = IfOk-from_err _ _ c.from_residual.ensures.0

pub returns-in_err-line-clause-nodes : goal.returns-in_err-line-clause-nodes
returns-in_err-line-clause-nodes c = IfOk-from_err _ _ c.from_residual-in_err-line.ensures.0

pub returns-in_err-line-clause-lines : goal.returns-in_err-line-clause-lines
returns-in_err-line-clause-lines c = IfOk-from_err _ _ c.from_residual-in_err-line.ensures.0

pub returns-in_err-push-clause-nodes : goal.returns-in_err-push-clause-nodes
returns-in_err-push-clause-nodes c = IfOk-from_err _ _ c.from_residual-in_err-push.ensures.0

pub returns-in_err-push-clause-lines : goal.returns-in_err-push-clause-lines
returns-in_err-push-clause-lines c = IfOk-from_err _ _ c.from_residual-in_err-push.ensures.0

pub control_line-requires-clause-baseline : goal.control_line-requires-clause-baseline
control_line-requires-clause-baseline c = c.requires.baseline

pub control_line-requires-clause-kept : goal.control_line-requires-clause-kept
control_line-requires-clause-kept c = c.requires.kept

pub control_line-requires-clause-left : goal.control_line-requires-clause-left
control_line-requires-clause-left c = c.loop-node.invariant.left

pub control_line-requires-clause-chance : goal.control_line-requires-clause-chance
control_line-requires-clause-chance c = c.requires.chance c.loop-node.node-index 0 c.loop-node-test.true

pub control_line-requires-clause-within : goal.control_line-requires-clause-within
control_line-requires-clause-within c = c.requires.within c.loop-node.node-index 0 c.loop-node-test.true

pub returns-clause-nodes : goal.returns-clause-nodes
returns-clause-nodes c = c.loop-node.invariant.nodes ∙ take_all c.loop-node.node-index c.args.nodes.now c.loop-node-test.false

pub returns-clause-lines : goal.returns-clause-lines
returns-clause-lines c = c.loop-node.invariant.lines

pub loop-node-smaller : goal.loop-node-smaller
loop-node-smaller c = falls _ _ c.loop-node-test.true
