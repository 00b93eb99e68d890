use Rattle.std.proofs.Common.{◌≡◌, true, [], ◌∷◌, length, length-drop, drop, sym, ap, subst, ◌∙◌, arith}
use Rattle.std.specs.Prelude.{if◌then◌else◌, Some, None}
use Rattle.std.proofs.lemmas.Bool.{false≢true}
use Rattle.net_lexer.specs.Token.{is_token}
use Rattle.net_parser.specs.declared.reader.Stop.TheVariants.{Unexpected, Unsupported}
use Rattle.net_parser.specs.Grammar.{AttributeName}
use Rattle.net_parser.specs.Lexemes.{Lexeme}
use Rattle.net_parser.specs.Reading as reading
use Rattle.net_parser.specs.Reading.{stop, within, next, refusal_at}
use Rattle.net_parser.proofs.Moves.{begun, named}
use Rattle.net_parser.proofs.Stopped.{same_word, other_word, no_attribute_name, ended_at, signed_name, model_name, other_name, stopped_at, went_on_at}
use Rattle.net_parser.proofs.reader.Reader.attribute_name.Goals as goal
use Rattle.net_parser.proofs.reader.Reader.attribute_name.Goals.{else-potential-via-then-potential+else-is_model_name, else-potential-via-else-potential}

pub is_name-requires : goal.is_name-requires
is_name-requires c =
    subst (λ kind. is_token kind c.in-Some.bytes.now ≡ true) (same_word c.in-Some.token.kind c.if-eq.ensures) c.in-Some.ensures.form

pub advance-requires : goal.advance-requires
advance-requires c = omega (arith, ap length c.in-Some.ensures.some)

pub returns-then-is_model_name-clause-follows : goal.returns-then-is_model_name-clause-follows
returns-then-is_model_name-clause-follows c = λ after.
    let l : Lexeme = record { token = c.in-Some.token; bytes = c.in-Some.bytes.now } in
    let word = same_word l.token.kind c.if-eq.ensures in
    let no = model_name c.args.potential l.bytes c.if-potential.true (sym c.if-is_model_name.ensures) in
    let none = ap (λ kind. next (reading.attribute_name c.args.potential) kind l.bytes) word ∙ no.0 in
    let told = ap (λ kind. refusal_at (reading.attribute_name c.args.potential) kind l.bytes) word ∙ no.1 in
    stopped_at (reading.attribute_name c.args.potential) after l c.args.self.now (drop 1 c.args.self.now) Unsupported c.in-Some.ensures.some none told

pub returns-else-potential-clause-rule : goal.returns-else-potential-clause-rule
returns-else-potential-clause-rule c =
    let l : Lexeme = record { token = c.in-Some.token; bytes = c.in-Some.bytes.now } in
    let may = other_name c.args.potential l.bytes (sym c.if-is_name.ensures) (λ yes. elim c.else-potential.branch [
      | else-potential-via-then-potential+else-is_model_name w ↦ sym w.if-is_model_name.ensures
      | else-potential-via-else-potential w ↦ absurd (false≢true (sym w.if-potential.false ∙ yes))
    ]) in
    begun (AttributeName c.args.potential c.in-Some.token) c.in-Some.ensures.some
    (subst (AttributeName c.args.potential c.in-Some.token (l ∷ drop 1 c.args.self.now)) (sym c.advance.ensures) (named c.args.potential l (drop 1 c.args.self.now) (same_word l.token.kind c.if-eq.ensures) may))

pub returns-else-potential-clause-follows : goal.returns-else-potential-clause-follows
returns-else-potential-clause-follows c = λ after.
    let l : Lexeme = record { token = c.in-Some.token; bytes = c.in-Some.bytes.now } in
    let word = same_word l.token.kind c.if-eq.ensures in
    let may = other_name c.args.potential l.bytes (sym c.if-is_name.ensures) (λ yes. elim c.else-potential.branch [
      | else-potential-via-then-potential+else-is_model_name w ↦ sym w.if-is_model_name.ensures
      | else-potential-via-else-potential w ↦ absurd (false≢true (sym w.if-potential.false ∙ yes))
    ]) in
    let some = ap (λ kind. next (reading.attribute_name c.args.potential) kind l.bytes) word ∙ ap (λ test. if test then Some [] else None) may in
    went_on_at (reading.attribute_name c.args.potential) after l c.args.self.now (drop 1 c.args.self.now) [] c.in-Some.ensures.some some ∙ ap (stop (within after)) (sym c.advance.ensures)

pub returns-else-potential-clause-shorter : goal.returns-else-potential-clause-shorter
returns-else-potential-clause-shorter c = omega (arith, ap length c.in-Some.ensures.some, ap length c.advance.ensures, length-drop 1 c.args.self.now)

pub returns-in_default-clause-follows : goal.returns-in_default-clause-follows
returns-in_default-clause-follows c = λ after.
    let l : Lexeme = record { token = c.in-Some.token; bytes = c.in-Some.bytes.now } in
    let word = same_word l.token.kind c.if-eq.ensures in
    let no = signed_name c.args.potential l.bytes (sym c.if-is_name.ensures) in
    let none = ap (λ kind. next (reading.attribute_name c.args.potential) kind l.bytes) word ∙ no.0 in
    let told = ap (λ kind. refusal_at (reading.attribute_name c.args.potential) kind l.bytes) word ∙ no.1 in
    stopped_at (reading.attribute_name c.args.potential) after l c.args.self.now (drop 1 c.args.self.now) Unexpected c.in-Some.ensures.some none told

pub returns-in_default-2-clause-follows : goal.returns-in_default-2-clause-follows
returns-in_default-2-clause-follows c = λ after.
    let l : Lexeme = record { token = c.in-Some.token; bytes = c.in-Some.bytes.now } in
    let no = no_attribute_name c.args.potential l.token.kind l.bytes (other_word l.token.kind c.if-eq.ensures) in
    stopped_at (reading.attribute_name c.args.potential) after l c.args.self.now (drop 1 c.args.self.now) Unexpected c.in-Some.ensures.some no.0 no.1

pub returns-in_default-3-clause-follows : goal.returns-in_default-3-clause-follows
returns-in_default-3-clause-follows c = λ after. ended_at (reading.attribute_name c.args.potential) after c.args.self.now (rw c.in_default.is at c.peek.ensures.none)

pub returns-then-is_model_name-clause-rule : goal.returns-then-is_model_name-clause-rule
returns-then-is_model_name-clause-rule c = tt

pub returns-then-is_model_name-clause-shorter : goal.returns-then-is_model_name-clause-shorter
returns-then-is_model_name-clause-shorter c = tt

pub returns-in_default-clause-rule : goal.returns-in_default-clause-rule
returns-in_default-clause-rule c = tt

pub returns-in_default-clause-shorter : goal.returns-in_default-clause-shorter
returns-in_default-clause-shorter c = tt

pub returns-in_default-2-clause-rule : goal.returns-in_default-2-clause-rule
returns-in_default-2-clause-rule c = tt

pub returns-in_default-2-clause-shorter : goal.returns-in_default-2-clause-shorter
returns-in_default-2-clause-shorter c = tt

pub returns-in_default-3-clause-rule : goal.returns-in_default-3-clause-rule
returns-in_default-3-clause-rule c = tt

pub returns-in_default-3-clause-shorter : goal.returns-in_default-3-clause-shorter
returns-in_default-3-clause-shorter c = tt
