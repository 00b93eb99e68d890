use Rattle.std.proofs.Common.{◌∙◌, All, ap, subst, sym, map, arith}
use Rattle.net_lexer.specs.Token.{IsTokenOf, token_bytes}
use Rattle.app_forms.proofs.Titles.{all_titles, names_are, titles_own}
use Rattle.app_forms.proofs.fault_words.node_names.Goals as goal

-- each title is a token of the text
pub returns-clause-own : goal.returns-clause-own
returns-clause-own c =
    subst (λ xs. All (IsTokenOf c.args.text.now) xs) (sym (all_titles c.args.blocks.now c.loop-block.names.items c.loop-block.block-index (omega (arith, c.loop-block-test.false, c.loop-block.auto.block-index-end)) c.loop-block.invariant))
    (titles_own c.args.text.now c.args.blocks.now c.requires)

-- what the titles say are the names
pub returns-clause-names : goal.returns-clause-names
returns-clause-names c =
    ap (map (token_bytes c.args.text.now)) (all_titles c.args.blocks.now c.loop-block.names.items c.loop-block.block-index (omega (arith, c.loop-block-test.false, c.loop-block.auto.block-index-end)) c.loop-block.invariant)
    ∙ names_are c.args.text.now c.args.blocks.now
