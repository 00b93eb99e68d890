use Rattle.std.proofs.Common.{◌≡◌, true, [], length, length-drop, drop, refl, sym, ap, subst, ◌∙◌, arith}
use Rattle.std.specs.Prelude.{if◌then◌else◌, Some, None}
use Rattle.net_lexer.specs.Token.{is_token}
use Rattle.net_parser.specs.declared.reader.Stop.TheVariants.{Unexpected}
use Rattle.net_parser.specs.Grammar.{Name}
use Rattle.net_parser.specs.Lexemes.{Lexeme}
use Rattle.net_parser.specs.Reading as reading
use Rattle.net_parser.specs.Reading.{stop, within, next, refusal_at}
use Rattle.net_parser.proofs.Moves.{begun}
use Rattle.net_parser.proofs.Stopped.{same_word, other_word, no_name, ended_at, stopped_at, went_on_at}
use Rattle.net_parser.proofs.reader.Reader.name.Goals as goal

pub is_name-requires : goal.is_name-requires
is_name-requires c =
    subst (λ kind. is_token kind c.in-Some.bytes.now ≡ true) (same_word c.in-Some.token.kind c.if-eq.ensures) c.in-Some.ensures.form

pub advance-requires : goal.advance-requires
advance-requires c = omega (arith, ap length c.in-Some.ensures.some)

pub returns-in-Some-clause-rule : goal.returns-in-Some-clause-rule
returns-in-Some-clause-rule c =
    let word = same_word c.in-Some.token.kind c.if-eq.ensures in
    begun (Name c.in-Some.token) c.in-Some.ensures.some ((record { kind = word; unsigned = sym c.if-is_name.ensures }, refl), sym c.advance.ensures)

pub returns-in-Some-clause-follows : goal.returns-in-Some-clause-follows
returns-in-Some-clause-follows c = λ after.
    let l : Lexeme = record { token = c.in-Some.token; bytes = c.in-Some.bytes.now } in
    let word = same_word l.token.kind c.if-eq.ensures in
    let some = ap (λ kind. next reading.name kind l.bytes) word ∙ ap (λ test. if test then Some [] else None) (sym c.if-is_name.ensures) in
    went_on_at reading.name after l c.args.self.now (drop 1 c.args.self.now) [] c.in-Some.ensures.some some ∙ ap (stop (within after)) (sym c.advance.ensures)

pub returns-in-Some-clause-shorter : goal.returns-in-Some-clause-shorter
returns-in-Some-clause-shorter c = omega (arith, ap length c.in-Some.ensures.some, ap length c.advance.ensures, length-drop 1 c.args.self.now)

pub returns-in_default-clause-follows : goal.returns-in_default-clause-follows
returns-in_default-clause-follows c = λ after.
    let l : Lexeme = record { token = c.in-Some.token; bytes = c.in-Some.bytes.now } in
    let word = same_word l.token.kind c.if-eq.ensures in
    let none = ap (λ kind. next reading.name kind l.bytes) word ∙ ap (λ test. if test then Some [] else None) (sym c.if-is_name.ensures) in
    stopped_at reading.name after l c.args.self.now (drop 1 c.args.self.now) Unexpected c.in-Some.ensures.some none (ap (λ kind. refusal_at reading.name kind l.bytes) word)

pub returns-in_default-2-clause-follows : goal.returns-in_default-2-clause-follows
returns-in_default-2-clause-follows c = λ after.
    let l : Lexeme = record { token = c.in-Some.token; bytes = c.in-Some.bytes.now } in
    let no = no_name l.token.kind l.bytes (other_word l.token.kind c.if-eq.ensures) in
    stopped_at reading.name after l c.args.self.now (drop 1 c.args.self.now) Unexpected c.in-Some.ensures.some no.0 no.1

pub returns-in_default-3-clause-follows : goal.returns-in_default-3-clause-follows
returns-in_default-3-clause-follows c = λ after. ended_at reading.name after c.args.self.now (rw c.in_default.is at c.peek.ensures.none)

pub returns-in_default-clause-rule : goal.returns-in_default-clause-rule
returns-in_default-clause-rule c = tt

pub returns-in_default-clause-shorter : goal.returns-in_default-clause-shorter
returns-in_default-clause-shorter c = tt

pub returns-in_default-2-clause-rule : goal.returns-in_default-2-clause-rule
returns-in_default-2-clause-rule c = tt

pub returns-in_default-2-clause-shorter : goal.returns-in_default-2-clause-shorter
returns-in_default-2-clause-shorter c = tt

pub returns-in_default-3-clause-rule : goal.returns-in_default-3-clause-rule
returns-in_default-3-clause-rule c = tt

pub returns-in_default-3-clause-shorter : goal.returns-in_default-3-clause-shorter
returns-in_default-3-clause-shorter c = tt
