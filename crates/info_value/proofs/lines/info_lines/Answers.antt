use Rattle.std.proofs.Common.{◌∙◌, ◌<◌, ℕ, arith, filter, flat_map, ◌++◌, [], cond, All, Vec, Global, map, sym, ap, subst}
use Rattle.std.proofs.lemmas.List.{append-nil}
use Rattle.std.proofs.lemmas.Result.{IfOk-from_err}
use Rattle.std.specs.List.{range_with_len}
use Rattle.info_value.specs.declared.lines.InfoLine.{InfoLine}
use Rattle.info_value.specs.Alone.{IsInfoLineAlone}
use Rattle.info_value.specs.Lines.{arc_of, arcs_into, decides}
use Rattle.info_value.specs.Shared.{IsShared}
use Rattle.info_value.proofs.Ranges.{lists_more}
use borrow.Author.Count.{falls}
use Rattle.info_value.proofs.lines.info_lines.Goals.{then-decides+in_ok-push_lines_into, else-decides}
use Rattle.info_value.proofs.lines.info_lines.Goals as goal

-- one more node, and the lines of the arcs into it where it is a decision of the agent
pub loop-v-preserved : goal.loop-v-preserved
loop-v-preserved c =
    let v = c.loop-v.v in
    let into = arcs_into c.args.diagram.now.nodes in
    let IsLine = IsInfoLineAlone c.args.baseline.now.diagram.now c.args.baseline.now.agent in
    let more = lists_more (decides c.args.diagram.now.nodes c.args.baseline.now.agent) into v in
    elim c.if-decides.branch [
      | then-decides+in_ok-push_lines_into w ↦
          let is = sym c.decides.ensures ∙ w.if-decides.true in
          let pushed = w.in_ok-push_lines_into.ensures in
          record {
            arcs = ap (λ (l : Vec InfoLine Global). map arc_of l.items) w.lines-is ∙ pushed.arcs ∙ (λ i. c.loop-v.invariant.arcs i ++ cond (sym is i) (into v) []) ∙ sym more;
            lines = subst (λ (l : Vec InfoLine Global). All IsLine l.items) (sym w.lines-is) (pushed.lines c.loop-v.invariant.lines);
            shared = subst (IsShared c.args.baseline.now.diagram.now) (sym w.shared-is) pushed.shared;
          }
      | else-decides w ↦
          let is = sym c.decides.ensures ∙ w.if-decides.false in
          record {
            arcs = ap (λ (l : Vec InfoLine Global). map arc_of l.items) w.lines-is ∙ sym (append-nil (map arc_of c.loop-v.lines.items)) ∙ (λ i. c.loop-v.invariant.arcs i ++ cond (sym is i) (into v) []) ∙ sym more;
            lines = subst (λ (l : Vec InfoLine Global). All IsLine l.items) (sym w.lines-is) c.loop-v.invariant.lines;
            shared = subst (IsShared c.args.baseline.now.diagram.now) (sym w.shared-is) c.loop-v.invariant.shared;
          }
    ]

pub returns-in_err-push_lines_into-clause-arcs : goal.returns-in_err-push_lines_into-clause-arcs
returns-in_err-push_lines_into-clause-arcs c = IfOk-from_err _ _ c.from_residual.ensures.0

pub returns-in_err-push_lines_into-clause-lines : goal.returns-in_err-push_lines_into-clause-lines
returns-in_err-push_lines_into-clause-lines c = IfOk-from_err _ _ c.from_residual.ensures.0

pub loop-v-smaller : goal.loop-v-smaller
loop-v-smaller c = falls _ _ c.loop-v-test.true

pub returns-clause-arcs : goal.returns-clause-arcs
returns-clause-arcs c =
    let nodes = c.args.diagram.now.nodes in
    let made = λ (n : ℕ). flat_map (arcs_into nodes) (filter (decides nodes c.args.baseline.now.agent) (range_with_len 0 n)) in
    c.loop-v.invariant.arcs ∙ ap made (omega (arith, c.loop-v-test.false, c.loop-v.auto.v-end, c.count-v-end.ensures.count))

pub returns-clause-lines : goal.returns-clause-lines
returns-clause-lines c = c.loop-v.invariant.lines

pub push_lines_into-requires-clause-asked : goal.push_lines_into-requires-clause-asked
push_lines_into-requires-clause-asked c = c.requires.asked c.loop-v.v (subst (λ n. c.loop-v.v < n) c.count-v-end.ensures.count c.loop-v-test.true) (sym c.decides.ensures ∙ c.if-decides.true)

pub push_lines_into-requires-clause-within : goal.push_lines_into-requires-clause-within
push_lines_into-requires-clause-within c = subst (λ n. c.loop-v.v < n) c.count-v-end.ensures.count c.loop-v-test.true

pub push_lines_into-requires-clause-shared : goal.push_lines_into-requires-clause-shared
push_lines_into-requires-clause-shared c = c.loop-v.invariant.shared
