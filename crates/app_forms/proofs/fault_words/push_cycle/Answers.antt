use Rattle.std.proofs.Common.{◌++◌, ◌∙◌, ℕ, [], map, slice_index_or, ap}
use Rattle.std.proofs.lemmas.List.{take_all}
use Rattle.line_pieces.proofs.Appending.{spaced_more}
use Rattle.maid_model.specs.Reports.{spaced}
use Rattle.net_lexer.specs.Token.{token_bytes}
use Rattle.app_forms.specs.Faults.{cycle_names}
use Rattle.app_forms.proofs.fault_words.push_cycle.Goals as goal

pub loop-v-preserved : goal.loop-v-preserved
loop-v-preserved c =
    let name = λ (v : ℕ). slice_index_or (map (token_bytes c.args.text.now) c.args.names.now) v [] in
    spaced_more name c.args.cycle.now c.loop-v.v-index 0 c.args.out.now.items c.loop-v.out.items c.push.new.self.items c.extend_from_slice.new.self.items c.loop-v-test.true c.loop-v.invariant
    c.in_ok-push.ensures.items
    (c.in_ok-extend_from_slice.ensures.items ∙ ap (λ bytes. c.push.new.self.items ++ bytes) c.name_at.ensures)

pub returns : goal.returns
unfolding cycle_names
returns c = c.loop-v.invariant ∙ ap (λ vs. c.args.out.now.items ++ spaced (map (λ v. slice_index_or (map (token_bytes c.args.text.now) c.args.names.now) v []) vs)) (take_all c.loop-v.v-index c.args.cycle.now c.loop-v-test.false)
