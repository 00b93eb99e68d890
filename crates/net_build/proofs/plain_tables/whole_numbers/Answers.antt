use Rattle.net_build.specs.TableParts.{AreWholeNumbers}
use Rattle.net_build.specs.Blocks.{no_token}
use Rattle.net_lexer.specs.Token.{token_bytes}
use Rattle.std.proofs.lemmas.List.{take_all}
use borrow.Author.Count.{falls}
use Rattle.std.proofs.lemmas.Result.{IfOk-from_err}
use Rattle.std.proofs.Common.{rules, arith, ◌≤ℤ◌, pos, below_more, All, subst, sym, FitsSigned, refl, map}
use Rattle.std.specs.Int.{w128}
use Rattle.std.proofs.lemmas.Int.{to_z-of_z}
use Rattle.std.proofs.lemmas.List.Elements.{All-push}
use Rattle.net_build.proofs.PlainParts.{whole_start, whole_step, numbers_step, all_few, all_numbers}
use Rattle.net_build.proofs.plain_tables.whole_numbers.Goals as goal

pub loop-token-init : goal.loop-token-init
loop-token-init c = rw c.in_ok-numbers.ensures.items (record {
  few = λ k l. absurd (omega (arith, l));
  numbers = refl;
  whole = whole_start;
  above = λ k d l. absurd (omega (arith, l));
})

pub loop-token-preserved : goal.loop-token-preserved
loop-token-preserved c =
    let fits : FitsSigned w128 c.in-Some.number = search rules in
    let pushed = simp to_z-of_z at c.in_ok-push.ensures.items in
    record {
      few = below_more _ _ c.loop-token.invariant.few c.in-Some.ensures.number.0;
      numbers = numbers_step c.args.text.now c.args.tokens.now c.loop-token.numbers.items c.push.new.self.items c.loop-token.token-index c.in-Some.number c.loop-token-test.true c.loop-token.invariant.numbers c.in-Some.ensures.number.1 pushed;
      whole = whole_step c.args.text.now c.args.tokens.now c.loop-token.numbers.items c.push.new.self.items c.loop-token.token-index c.in-Some.number c.loop-token-test.true c.loop-token.invariant.whole c.in-Some.ensures.decimal pushed;
      above = subst (λ xs. All (λ x. pos 0 ≤ℤ x) xs) (sym pushed) (All-push (λ x. pos 0 ≤ℤ x) c.loop-token.numbers.items c.in-Some.number c.loop-token.invariant.above c.in-Some.ensures.above);
    }

pub returns-clause-few : goal.returns-clause-few
returns-clause-few c = all_few c.args.text.now c.args.tokens.now c.loop-token.token-index (omega (arith, c.loop-token-test.false)) c.loop-token.invariant.few

pub returns-clause-numbers : goal.returns-clause-numbers
returns-clause-numbers c = all_numbers c.args.text.now c.args.tokens.now c.loop-token.numbers.items c.loop-token.token-index (omega (arith, c.loop-token-test.false)) c.loop-token.invariant.numbers

pub returns-in_err-numbers-clause-few : goal.returns-in_err-numbers-clause-few
returns-in_err-numbers-clause-few c = IfOk-from_err _ _ c.from_residual.ensures.0

pub returns-in_err-numbers-clause-none : goal.returns-in_err-numbers-clause-none
returns-in_err-numbers-clause-none c = IfOk-from_err _ _ c.from_residual.ensures.0

pub returns-in_err-numbers-clause-numbers : goal.returns-in_err-numbers-clause-numbers
returns-in_err-numbers-clause-numbers c = IfOk-from_err _ _ c.from_residual.ensures.0

pub returns-in_err-numbers-clause-whole : goal.returns-in_err-numbers-clause-whole
returns-in_err-numbers-clause-whole c = IfOk-from_err _ _ c.from_residual.ensures.0

pub returns-in_err-numbers-clause-above : goal.returns-in_err-numbers-clause-above
returns-in_err-numbers-clause-above c = IfOk-from_err _ _ c.from_residual.ensures.0

pub bounds-tokens-token-index : goal.bounds-tokens-token-index
bounds-tokens-token-index c = c.loop-token-test.true

pub whole_number-requires : goal.whole_number-requires
whole_number-requires c = c.requires c.loop-token.token-index no_token c.loop-token-test.true

pub returns-in_default-clause-few : goal.returns-in_default-clause-few
returns-in_default-clause-few c = tt

pub returns-in_default-clause-none : goal.returns-in_default-clause-none
returns-in_default-clause-none c = λ few. c.in_default.ensures.number (few c.loop-token.token-index no_token c.loop-token-test.true)

pub returns-in_default-clause-numbers : goal.returns-in_default-clause-numbers
returns-in_default-clause-numbers c = tt

pub returns-in_default-clause-whole : goal.returns-in_default-clause-whole
returns-in_default-clause-whole c = tt

pub returns-in_default-clause-above : goal.returns-in_default-clause-above
returns-in_default-clause-above c = tt

pub returns-in_err-push-clause-few : goal.returns-in_err-push-clause-few
returns-in_err-push-clause-few c = IfOk-from_err _ _ c.from_residual-in_err-push.ensures.0

pub returns-in_err-push-clause-none : goal.returns-in_err-push-clause-none
returns-in_err-push-clause-none c = IfOk-from_err _ _ c.from_residual-in_err-push.ensures.0

pub returns-in_err-push-clause-numbers : goal.returns-in_err-push-clause-numbers
returns-in_err-push-clause-numbers c = IfOk-from_err _ _ c.from_residual-in_err-push.ensures.0

pub returns-in_err-push-clause-whole : goal.returns-in_err-push-clause-whole
returns-in_err-push-clause-whole c = IfOk-from_err _ _ c.from_residual-in_err-push.ensures.0

pub returns-in_err-push-clause-above : goal.returns-in_err-push-clause-above
returns-in_err-push-clause-above c = IfOk-from_err _ _ c.from_residual-in_err-push.ensures.0

pub loop-token-smaller : goal.loop-token-smaller
loop-token-smaller c = falls _ _ c.loop-token-test.true

pub returns-clause-none : goal.returns-clause-none
returns-clause-none c = tt

pub returns-clause-whole : goal.returns-clause-whole
returns-clause-whole c = subst (λ ts. AreWholeNumbers (map (token_bytes c.args.text.now) ts) c.loop-token.numbers.items) (take_all c.loop-token.token-index c.args.tokens.now c.loop-token-test.false) c.loop-token.invariant.whole

pub returns-clause-above : goal.returns-clause-above
returns-clause-above c = c.loop-token.invariant.above
