use Rattle.std.proofs.Common.{◌∙◌, ◌<◌, ℕ, arith, ◌++◌, [], ◌∷◌, cond, All, List, Vec, Global, map, filter, sym, ap, subst, append_assoc}
use Rattle.std.proofs.lemmas.List.{append-nil, map-append}
use Rattle.std.proofs.lemmas.List.Elements.{All-append, All-cons, All-nil}
use Rattle.std.specs.List.{range_with_len}
use Rattle.std.proofs.lemmas.Result.{IfOk-from_err}
use Rattle.info_value.specs.declared.lines.InfoLine.{InfoLine}
use Rattle.info_value.specs.Alone.{IsInfoLineAlone}
use Rattle.info_value.specs.Lines.{arc_of, may_see}
use Rattle.info_value.specs.Shared.{IsShared}
use Rattle.info_value.proofs.Ranges.{pairs_more}
use borrow.Author.Count.{falls}
use Rattle.info_value.proofs.lines.push_lines_into.Goals.{then-may_see+in_ok-info_line+in_ok-push, else-may_see}
use Rattle.info_value.proofs.lines.push_lines_into.Goals as goal

-- one more node, and the line of its arc where it may be seen
pub loop-v-preserved : goal.loop-v-preserved
loop-v-preserved c =
    let v = c.loop-v.v in
    let d = c.args.decision in
    let test = may_see c.args.diagram.now.nodes d in
    let IsLine = IsInfoLineAlone c.args.baseline.now.diagram.now c.args.baseline.now.agent in
    let so_far = map (λ (x : ℕ). (x, d)) (filter test (range_with_len 0 v)) in
    let more = pairs_more test (λ (x : ℕ). (x, d)) v in
    let front = map arc_of c.args.lines.now.items in
    let lines = c.loop-v.lines.items in
    elim c.if-may_see.branch [
      | then-may_see+in_ok-info_line+in_ok-push w ↦
          let is = sym c.may_see.ensures ∙ w.if-may_see.true in
          let line = w.in_ok-info_line.field-0 in
          let pushed = w.in_ok-push.ensures.items in
          let tail = w.in_ok-info_line.ensures.tail in
          let head = w.in_ok-info_line.ensures.head in
          record {
            arcs = ap (λ (l : Vec InfoLine Global). map arc_of l.items) w.lines-is ∙ ap (map arc_of) pushed ∙ map-append arc_of lines (line ∷ [])
                ∙ (λ i. c.loop-v.invariant.arcs i ++ (tail i, head i) ∷ []) ∙ (λ i. (front ++ so_far) ++ cond (sym is i) ((v, d) ∷ []) [])
                ∙ append_assoc front so_far (cond (test v) ((v, d) ∷ []) []) ∙ ap (λ ys. front ++ ys) (sym more);
            lines = λ all. subst (λ (l : Vec InfoLine Global). All IsLine l.items) (sym w.lines-is)
                (subst (All IsLine) (sym {A = List InfoLine} pushed) (All-append IsLine lines (line ∷ []) (c.loop-v.invariant.lines all) (All-cons IsLine line [] w.in_ok-info_line.ensures.line (All-nil IsLine))));
            shared = subst (IsShared c.args.baseline.now.diagram.now) (sym w.shared-is) w.in_ok-info_line.ensures.shared;
          }
      | else-may_see w ↦
          let is = sym c.may_see.ensures ∙ w.if-may_see.false in
          record {
            arcs = ap (λ (l : Vec InfoLine Global). map arc_of l.items) w.lines-is ∙ sym (append-nil (map arc_of lines)) ∙ (λ i. c.loop-v.invariant.arcs i ++ cond (sym is i) ((v, d) ∷ []) [])
                ∙ append_assoc front so_far (cond (test v) ((v, d) ∷ []) []) ∙ ap (λ ys. front ++ ys) (sym more);
            lines = λ all. subst (λ (l : Vec InfoLine Global). All IsLine l.items) (sym w.lines-is) (c.loop-v.invariant.lines all);
            shared = subst (IsShared c.args.baseline.now.diagram.now) (sym w.shared-is) c.loop-v.invariant.shared;
          }
    ]

pub returns-in_err-info_line-clause-arcs : goal.returns-in_err-info_line-clause-arcs
returns-in_err-info_line-clause-arcs c = IfOk-from_err _ _ c.from_residual.ensures.0

pub returns-in_err-info_line-clause-lines : goal.returns-in_err-info_line-clause-lines
returns-in_err-info_line-clause-lines c = IfOk-from_err _ _ c.from_residual.ensures.0

pub returns-in_err-push-clause-arcs : goal.returns-in_err-push-clause-arcs
returns-in_err-push-clause-arcs c = IfOk-from_err _ _ c.from_residual-in_err-push.ensures.0

pub returns-in_err-push-clause-lines : goal.returns-in_err-push-clause-lines
returns-in_err-push-clause-lines c = IfOk-from_err _ _ c.from_residual-in_err-push.ensures.0

pub loop-v-smaller : goal.loop-v-smaller
loop-v-smaller c = falls _ _ c.loop-v-test.true

pub loop-v-init : goal.loop-v-init
loop-v-init c = record { arcs = sym (append-nil (map arc_of c.args.lines.now.items)); lines = λ all. all; shared = c.requires.shared }

pub returns-clause-arcs : goal.returns-clause-arcs
returns-clause-arcs c =
    let d = c.args.decision in
    let made = λ (n : ℕ). map arc_of c.args.lines.now.items ++ map (λ (x : ℕ). (x, d)) (filter (may_see c.args.diagram.now.nodes d) (range_with_len 0 n)) in
    c.loop-v.invariant.arcs ∙ ap made (omega (arith, c.loop-v-test.false, c.loop-v.auto.v-end, c.count-v-end.ensures.count))

pub returns-clause-lines : goal.returns-clause-lines
returns-clause-lines c = c.loop-v.invariant.lines

pub info_line-requires-clause-asked : goal.info_line-requires-clause-asked
info_line-requires-clause-asked c = c.requires.asked.arcs c.loop-v.v (subst (λ n. c.loop-v.v < n) c.count-v-end.ensures.count c.loop-v-test.true) (sym c.may_see.ensures ∙ c.if-may_see.true)

pub may_see-requires-clause-within : goal.may_see-requires-clause-within
may_see-requires-clause-within c = subst (λ n. c.loop-v.v < n) c.count-v-end.ensures.count c.loop-v-test.true

pub returns-in_err-info_line-clause-shared : goal.returns-in_err-info_line-clause-shared
returns-in_err-info_line-clause-shared c = IfOk-from_err _ _ c.from_residual.ensures.0

pub returns-in_err-push-clause-shared : goal.returns-in_err-push-clause-shared
returns-in_err-push-clause-shared c = IfOk-from_err _ _ c.from_residual-in_err-push.ensures.0

pub returns-clause-shared : goal.returns-clause-shared
returns-clause-shared c = c.loop-v.invariant.shared

pub info_line-requires-clause-shared : goal.info_line-requires-clause-shared
info_line-requires-clause-shared c = c.loop-v.invariant.shared
