use Rattle.std.proofs.Common.{◌≡◌, ◌∙◌, ℕ, ◌+◌, ◌<◌, List, ◌++◌, length, drop, slice_index_or, refl, sym, ap, append_assoc, arith}
use Rattle.std.proofs.lemmas.List.{append-nil, drop_more, drop_all}
use Rattle.std.proofs.lemmas.Result.{err_from_is_err_and}
use Rattle.maid_model.specs.declared.answers.Ratio.{Ratio}
use Rattle.maid_model.specs.Names.{NamesView}
use Rattle.maid_model.specs.Reports.{gain_line, gain_lines}
use Rattle.report_text.proofs.report.push_gains.Goals as goal

-- one line more of those to come
line_more : (names : NamesView) (now after all : List ℕ) (gains : List Ratio) (i : ℕ) (d : Ratio) → i < length gains → now ++ gain_lines names i (drop i gains) ≡ all → after ≡ now ++ gain_line names i (slice_index_or gains i d) → after ++ gain_lines names (i + 1) (drop (i + 1) gains) ≡ all
line_more names now after all gains i d within so more =
    ap (λ l. l ++ gain_lines names (i + 1) (drop (i + 1) gains)) more
    ∙ append_assoc now (gain_line names i (slice_index_or gains i d)) (gain_lines names (i + 1) (drop (i + 1) gains))
    ∙ ap (λ l. now ++ gain_lines names i l) (sym (drop_more gains i d within))
    ∙ so

pub loop-agent-init : goal.loop-agent-init
loop-agent-init c = refl

pub bounds-gains-agent : goal.bounds-gains-agent
bounds-gains-agent c = c.loop-agent-test.true

pub push_gain-requires : goal.push_gain-requires
push_gain-requires c = omega (arith, c.requires, c.loop-agent-test.true)

pub returns-in_err-push_gain : goal.returns-in_err-push_gain
returns-in_err-push_gain c = rw (err_from_is_err_and c.from_residual.result c.from_residual.ensures.1).1 tt

pub loop-agent-smaller : goal.loop-agent-smaller
loop-agent-smaller c = omega (arith, c.loop-agent-test.true)

pub loop-agent-preserved : goal.loop-agent-preserved
loop-agent-preserved c =
    line_more c.args.names.now c.loop-agent.out.items c.push_gain.new.out.items (c.args.out.now.items ++ gain_lines c.args.names.now 0 c.args.gains.now) c.args.gains.now c.loop-agent.agent _ c.loop-agent-test.true c.loop-agent.invariant c.in_ok-push_gain.ensures

pub returns : goal.returns
returns c =
    sym (append-nil c.loop-agent.out.items)
    ∙ sym (ap (λ l. c.loop-agent.out.items ++ gain_lines c.args.names.now c.loop-agent.agent l) (drop_all c.loop-agent.agent c.args.gains.now c.loop-agent-test.false))
    ∙ c.loop-agent.invariant
