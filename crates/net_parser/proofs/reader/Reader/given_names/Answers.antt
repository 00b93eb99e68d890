use Rattle.std.proofs.Common.{◌∷◌, ◌++◌, [], inl, inr, refl, sym, ap, ◌∙◌, length, append-nil, append_assoc, arith}
use Rattle.std.proofs.lemmas.Result.{err_from_is_err_and, IfOk-from_err}
use Rattle.net_lexer.specs.declared.tokens.TokenKind.TheVariants.{Bar, ParenClose}
use Rattle.net_parser.specs.Grammar.{Mark, Name}
use Rattle.net_parser.specs.Reading.{names}
use Rattle.net_parser.proofs.Moves.{begun}
use Rattle.net_parser.proofs.Stopped.{closes, mark_shorter}
use Rattle.net_parser.proofs.Turns.{given_closes, given_opens, names_turn, each-push}
use Rattle.net_parser.proofs.reader.Reader.given_names.Goals as goal

pub returns-in_err-expect-clause-follows : goal.returns-in_err-expect-clause-follows
returns-in_err-expect-clause-follows c = λ after.
    let p = err_from_is_err_and c.from_residual.result c.from_residual.ensures.1 in
    let no_bar = sym c.accept.ensures.test ∙ c.if-not-accept.true in
    rw (p.1, p.2, given_closes after c.args.self.now no_bar, ← c.if-not-accept.ensures.refused) (c.in_err-expect.ensures.follows after)

pub returns-in_err-name-clause-follows : goal.returns-in_err-name-clause-follows
returns-in_err-name-clause-follows c = λ after.
    let p = err_from_is_err_and c.from_residual-in_err-name.result c.from_residual-in_err-name.ensures.1 in
    let bar = given_opens after c.args.self.now c.accept.new.self c.if-not-accept.ensures.accepted in
    let turn = names_turn after c.accept.new.self c.loop-self.self c.accept-in-loop-self.new.self (c.loop-self.invariant.follows after) c.loop-self-test.ensures.refused (sym c.accept-in-loop-self.ensures.test ∙ c.loop-self-test.true) in
    rw (p.1, p.2, bar, turn) (c.in_err-name.ensures.follows (names ∷ after))

pub loop-self-preserved : goal.loop-self-preserved
loop-self-preserved c =
    let same = c.loop-self-test.ensures.refused in
    let is_open = sym c.accept-in-loop-self.ensures.test ∙ c.loop-self-test.true in
    let read = c.loop-self.invariant.read in
    record {
      read = (read.0 ++ c.in_ok-name.name ∷ [], c.in_ok-push.ensures.items ∙ ap (λ all. all ++ c.in_ok-name.name ∷ []) read.1 ∙ append_assoc c.args.names.items read.0 (c.in_ok-name.name ∷ []), each-push Name read.0 c.in_ok-name.name c.accept.new.self c.loop-self.self c.name.new.self read.2 (begun (Name c.in_ok-name.name) (sym same) c.in_ok-name.ensures.rule));
      follows = λ after. names_turn after c.accept.new.self c.loop-self.self c.accept-in-loop-self.new.self (c.loop-self.invariant.follows after) same is_open ∙ c.in_ok-name.ensures.follows (names ∷ after);
      shorter = omega (arith, c.in_ok-name.ensures.shorter, c.loop-self.invariant.shorter, ap length same);
    }

pub returns-in_err-expect-clause-rule : goal.returns-in_err-expect-clause-rule
returns-in_err-expect-clause-rule c = IfOk-from_err _ _ c.from_residual.ensures.0

pub returns-then-not-accept-clause-rule : goal.returns-then-not-accept-clause-rule
returns-then-not-accept-clause-rule c =
    ([], sym (append-nil c.args.names.items), (c.args.self.now, inl refl, begun (Mark ParenClose) (sym c.if-not-accept.ensures.refused) c.in_ok-expect.ensures.rule))

pub returns-then-not-accept-clause-follows : goal.returns-then-not-accept-clause-follows
returns-then-not-accept-clause-follows c = λ after.
    let no_bar = sym c.accept.ensures.test ∙ c.if-not-accept.true in
    rw (given_closes after c.args.self.now no_bar, ← c.if-not-accept.ensures.refused) (c.in_ok-expect.ensures.follows after)

pub returns-then-not-accept-clause-shorter : goal.returns-then-not-accept-clause-shorter
returns-then-not-accept-clause-shorter c = omega (arith, c.in_ok-expect.ensures.shorter, ap length c.if-not-accept.ensures.refused)

pub returns-in_err-name-clause-rule : goal.returns-in_err-name-clause-rule
returns-in_err-name-clause-rule c = IfOk-from_err _ _ c.from_residual-in_err-name.ensures.0

pub loop-self-init : goal.loop-self-init
loop-self-init c = record { read = ([], sym (append-nil c.args.names.items), refl); follows = λ after. refl; shorter = omega (arith) }

pub loop-self-smaller : goal.loop-self-smaller
loop-self-smaller c = omega (arith, c.in_ok-name.ensures.shorter, ap length c.loop-self-test.ensures.refused)

pub returns-in_err-push-clause-rule : goal.returns-in_err-push-clause-rule
returns-in_err-push-clause-rule c = IfOk-from_err _ _ c.from_residual-in_err-push.ensures.0

pub returns-in_err-push-clause-follows : goal.returns-in_err-push-clause-follows
returns-in_err-push-clause-follows c = λ after.
    let p = err_from_is_err_and c.from_residual-in_err-push.result c.from_residual-in_err-push.ensures.1 in
    rw (p.1, p.2) tt

pub returns-clause-rule : goal.returns-clause-rule
returns-clause-rule c =
    let read = c.loop-self.invariant.read in
    (read.0, read.1, (c.loop-self.self, inr (c.accept.new.self, c.if-not-accept.ensures.accepted, read.2), c.loop-self-test.ensures.accepted))

pub returns-clause-follows : goal.returns-clause-follows
returns-clause-follows c = λ after.
    given_opens after c.args.self.now c.accept.new.self c.if-not-accept.ensures.accepted ∙ c.loop-self.invariant.follows after ∙ closes names ParenClose (λ bytes. refl) after c.loop-self.self c.accept-in-loop-self.new.self c.loop-self-test.ensures.accepted

pub returns-clause-shorter : goal.returns-clause-shorter
returns-clause-shorter c = omega (arith, mark_shorter Bar c.args.self.now c.accept.new.self c.if-not-accept.ensures.accepted, c.loop-self.invariant.shorter, mark_shorter ParenClose c.loop-self.self c.accept-in-loop-self.new.self c.loop-self-test.ensures.accepted)
