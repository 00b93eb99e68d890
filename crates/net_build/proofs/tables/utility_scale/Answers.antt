-- Where all values fit, the most decimals are the scale; where one doesn't, the numbers of the text
-- say which.
use Rattle.net_build.specs.TableCalls.{values_pass}
use Rattle.net_build.proofs.OutOfMemory.{out_of_memory}
use Rattle.std.proofs.lemmas.Result.{IfOk-from_err}
use Rattle.std.proofs.Common.{None, ◌∙◌, refl, subst, sym}
use Rattle.std.proofs.lemmas.List.{length-map}
use Rattle.std.specs.Result.{IfOk}
use Rattle.first_fault.specs.Passes.{each}
use Rattle.net_build.specs.Table.{wide_row}
use Rattle.first_fault.specs.Answers.{Passes}
use Rattle.net_build.specs.Passes.{build_fault}
use Rattle.net_build.specs.Blocks.{block_name, node_blocks}
use Rattle.net_build.specs.Stages.{head_of, link_lists}
use Rattle.net_build.specs.TableParts.{IsScaleOf, scaled_pass, values_in}
use Rattle.net_build.proofs.DraftScales.{drafts_few, scale_of_them, none_wide_of_them}
use Rattle.net_build.proofs.ScaleLemmas.{scaled_passes}
use Rattle.net_build.proofs.TableLast.{all_own, all_number, all_short, tokens_read}
use Rattle.net_build.proofs.tables.utility_scale.Goals as goal

pub returns-then-drafts_fit-clause-rows : goal.returns-then-drafts_fit-clause-rows
returns-then-drafts_fit-clause-rows c = scaled_passes c.args.text.now (values_in c.args.text.now c.args.nodes.now c.args.syntax.now) c.most_of-most.result
    (scale_of_them c.args.text.now c.args.syntax.now c.requires.blocks c.requires.node_rows c.requires.potential_rows c.args.nodes.now c.requires.nodes c.most_of-most.result c.args.drafts.now c.requires.drafts (c.drafts_fit.ensures.0 c.if-drafts_fit.true) c.most_of-most.ensures.reached)
    (none_wide_of_them c.args.text.now c.args.syntax.now c.requires.blocks c.requires.node_rows c.requires.potential_rows c.args.nodes.now c.requires.nodes c.most_of-most.result c.args.drafts.now c.requires.drafts (c.drafts_fit.ensures.0 c.if-drafts_fit.true))

pub returns-then-drafts_fit-clause-scale : goal.returns-then-drafts_fit-clause-scale
returns-then-drafts_fit-clause-scale c = scale_of_them c.args.text.now c.args.syntax.now c.requires.blocks c.requires.node_rows c.requires.potential_rows c.args.nodes.now c.requires.nodes c.most_of-most.result c.args.drafts.now c.requires.drafts (c.drafts_fit.ensures.0 c.if-drafts_fit.true) c.most_of-most.ensures.reached

pub returns-then-drafts_fit-clause-narrow : goal.returns-then-drafts_fit-clause-narrow
returns-then-drafts_fit-clause-narrow c = none_wide_of_them c.args.text.now c.args.syntax.now c.requires.blocks c.requires.node_rows c.requires.potential_rows c.args.nodes.now c.requires.nodes c.most_of-most.result c.args.drafts.now c.requires.drafts (c.drafts_fit.ensures.0 c.if-drafts_fit.true)

pub scale_of-requires-clause-own : goal.scale_of-requires-clause-own
scale_of-requires-clause-own c = all_own c.args.text.now c.deref.result.now (tokens_read c.args.text.now c.args.syntax.now c.requires.blocks c.requires.node_rows c.requires.potential_rows c.args.nodes.now (link_lists c.args.text.now c.args.syntax.now) c.requires.nodes refl c.deref.result.now (c.deref.ensures.value ∙ c.in_ok-numbers.ensures) c.requires.table_rows)

pub scale_of-requires-clause-numbers : goal.scale_of-requires-clause-numbers
scale_of-requires-clause-numbers c = all_number c.args.text.now c.deref.result.now (tokens_read c.args.text.now c.args.syntax.now c.requires.blocks c.requires.node_rows c.requires.potential_rows c.args.nodes.now (link_lists c.args.text.now c.args.syntax.now) c.requires.nodes refl c.deref.result.now (c.deref.ensures.value ∙ c.in_ok-numbers.ensures) c.requires.table_rows)

pub scale_of-requires-clause-short : goal.scale_of-requires-clause-short
scale_of-requires-clause-short c = all_short c.args.text.now c.deref.result.now (tokens_read c.args.text.now c.args.syntax.now c.requires.blocks c.requires.node_rows c.requires.potential_rows c.args.nodes.now (link_lists c.args.text.now c.args.syntax.now) c.requires.nodes refl c.deref.result.now (c.deref.ensures.value ∙ c.in_ok-numbers.ensures) c.requires.table_rows)

pub returns-clause-rows : goal.returns-clause-rows
returns-clause-rows c = subst (λ tokens. Passes build_fault (scaled_pass c.args.text.now tokens) c.scale_of.result) (c.deref.ensures.value ∙ c.in_ok-numbers.ensures) c.scale_of.ensures.rows

pub most_of-most-requires : goal.most_of-most-requires
most_of-most-requires c = record { few = drafts_few c.args.text.now c.args.nodes.now.heads (link_lists c.args.text.now c.args.syntax.now) c.args.drafts.now c.requires.drafts }

pub drafts_fit-requires-clause-enough : goal.drafts_fit-requires-clause-enough
drafts_fit-requires-clause-enough c = c.most_of-most.ensures.most

pub drafts_fit-requires-clause-few : goal.drafts_fit-requires-clause-few
drafts_fit-requires-clause-few c = c.most_of-most.ensures.few

pub returns-then-drafts_fit-clause-few : goal.returns-then-drafts_fit-clause-few
returns-then-drafts_fit-clause-few c = c.most_of-most.ensures.few

pub utility_numbers-requires-clause-blocks : goal.utility_numbers-requires-clause-blocks
utility_numbers-requires-clause-blocks c = c.requires.blocks

pub returns-in_err-numbers-clause-rows : goal.returns-in_err-numbers-clause-rows
returns-in_err-numbers-clause-rows c = out_of_memory (values_pass c.args.text.now c.args.nodes.now c.args.syntax.now) _ c.from_residual.ensures

pub returns-in_err-numbers-clause-scale : goal.returns-in_err-numbers-clause-scale
returns-in_err-numbers-clause-scale c = IfOk-from_err _ _ c.from_residual.ensures.0

pub returns-in_err-numbers-clause-narrow : goal.returns-in_err-numbers-clause-narrow
returns-in_err-numbers-clause-narrow c = IfOk-from_err _ _ c.from_residual.ensures.0

pub returns-in_err-numbers-clause-few : goal.returns-in_err-numbers-clause-few
returns-in_err-numbers-clause-few c = IfOk-from_err _ _ c.from_residual.ensures.0

pub returns-clause-few : goal.returns-clause-few
returns-clause-few c = c.scale_of.ensures.few

pub returns-clause-scale : goal.returns-clause-scale
returns-clause-scale c = subst (λ tokens. IfOk c.scale_of.result (IsScaleOf c.args.text.now tokens)) (c.deref.ensures.value ∙ c.in_ok-numbers.ensures) c.scale_of.ensures.scale

pub returns-clause-narrow : goal.returns-clause-narrow
returns-clause-narrow c = subst (λ tokens. IfOk c.scale_of.result (λ scale. each (wide_row c.args.text.now scale) tokens None)) (c.deref.ensures.value ∙ c.in_ok-numbers.ensures) c.scale_of.ensures.narrow

pub utility_numbers-requires-clause-len : goal.utility_numbers-requires-clause-len
utility_numbers-requires-clause-len c =
    let nodes = node_blocks c.args.syntax.now in
    rw c.requires.nodes (length-map nodes (block_name c.args.text.now) ∙ sym (length-map nodes (head_of c.args.text.now nodes)))
