-- One more number has its decimal.
use Rattle.std.proofs.Common.{map, refl, subst}
use Rattle.std.proofs.lemmas.List.{take_all}
use Rattle.std.proofs.lemmas.Result.{IfOk-from_err}
use Rattle.std.specs.Global.{Vec}
use borrow.Author.Count.{falls}
use Rattle.first_fault.specs.Passes.{each}
use Rattle.first_fault.proofs.Items.{each_step_at, each_refused_at, each_end}
use Rattle.net_lexer.specs.Token.{token_bytes}
use Rattle.weight_scale.specs.declared.decimal.Decimal.{Decimal}
use Rattle.net_build.specs.Blocks.{no_token}
use Rattle.net_build.specs.Passes.{build_fault}
use Rattle.net_build.specs.Scaling.{AreDecimals, TellDecimals}
use Rattle.net_build.specs.Table.{length_row}
use Rattle.net_build.proofs.DecimalLemmas.{are_none, decimals_step}
use Rattle.net_build.proofs.OutOfMemory.{out_of_memory}
use Rattle.net_build.proofs.numbers.decimals.Goals as goal

pub loop-token-preserved : goal.loop-token-preserved
loop-token-preserved c = record {
  lead = each_step_at (length_row c.args.text.now) c.args.tokens.now _ c.loop-token.token-index no_token c.loop-token-test.true c.loop-token.invariant.lead c.in-Some.ensures.row;
  are = decimals_step c.args.text.now c.args.tokens.now c.loop-token.decimals.items c.push.new.self.items c.loop-token.token-index c.in-Some.number c.loop-token-test.true c.loop-token.invariant.are c.in-Some.ensures.decimal c.in_ok-push.ensures.items;
}

pub returns-in_err-decimals-clause-rows : goal.returns-in_err-decimals-clause-rows
returns-in_err-decimals-clause-rows c = out_of_memory (each (length_row c.args.text.now) c.args.tokens.now) _ c.from_residual.ensures

pub returns-in_err-decimals-clause-decimals : goal.returns-in_err-decimals-clause-decimals
returns-in_err-decimals-clause-decimals c = IfOk-from_err _ (λ (ds : Vec Decimal). TellDecimals c.args.text.now c.args.tokens.now ds.items) c.from_residual.ensures.0

pub loop-token-init : goal.loop-token-init
loop-token-init c = record { lead = λ outcome h. h; are = rw c.in_ok-decimals.ensures.items are_none }

pub bounds-tokens-token-index : goal.bounds-tokens-token-index
bounds-tokens-token-index c = c.loop-token-test.true

pub decimal-requires-clause-own : goal.decimal-requires-clause-own
decimal-requires-clause-own c = c.requires.own c.loop-token.token-index no_token c.loop-token-test.true

pub decimal-requires-clause-number : goal.decimal-requires-clause-number
decimal-requires-clause-number c = c.requires.numbers c.loop-token.token-index no_token c.loop-token-test.true

pub returns-in_default-clause-rows : goal.returns-in_default-clause-rows
returns-in_default-clause-rows c =
    each_refused_at (length_row c.args.text.now) c.args.tokens.now _ c.loop-token.token-index no_token (build_fault c.at.result) c.loop-token-test.true c.loop-token.invariant.lead
    (rw c.at.ensures (c.in_default.ensures.none, refl))

pub returns-in_err-push-clause-rows : goal.returns-in_err-push-clause-rows
returns-in_err-push-clause-rows c = out_of_memory (each (length_row c.args.text.now) c.args.tokens.now) _ c.from_residual-in_err-push.ensures

pub returns-in_err-push-clause-decimals : goal.returns-in_err-push-clause-decimals
returns-in_err-push-clause-decimals c = IfOk-from_err _ (λ (ds : Vec Decimal). TellDecimals c.args.text.now c.args.tokens.now ds.items) c.from_residual-in_err-push.ensures.0

pub loop-token-smaller : goal.loop-token-smaller
loop-token-smaller c = falls _ _ c.loop-token-test.true

pub returns-clause-rows : goal.returns-clause-rows
returns-clause-rows c = each_end (length_row c.args.text.now) c.args.tokens.now _ c.loop-token.token-index c.loop-token-test.false c.loop-token.invariant.lead

pub returns-clause-decimals : goal.returns-clause-decimals
returns-clause-decimals c =
    subst (λ ts. AreDecimals (map (token_bytes c.args.text.now) ts) c.loop-token.decimals.items) (take_all c.loop-token.token-index c.args.tokens.now c.loop-token-test.false) c.loop-token.invariant.are
