use Rattle.std.proofs.Common.{[], length, length-drop, drop, refl, sym, ap, ◌∙◌, arith}
use Rattle.std.specs.Prelude.{bytes_eq, if◌then◌else◌, Some, None, is_some}
use Rattle.net_parser.specs.declared.reader.Stop.TheVariants.{Unexpected, Unsupported}
use Rattle.net_parser.specs.Grammar.{Word}
use Rattle.net_parser.specs.Lexemes.{Lexeme}
use Rattle.net_parser.specs.Reading as reading
use Rattle.net_parser.specs.Reading.{stop, within, next, refusal_at}
use Rattle.net_parser.proofs.Moves.{begun}
use Rattle.net_parser.proofs.Stopped.{word_kind, other_kind, no_node_word, ended_at, stopped_at, went_on_at}
use Rattle.net_parser.proofs.reader.Reader.node_word.Goals as goal

pub returns-in_default-clause-follows : goal.returns-in_default-clause-follows
returns-in_default-clause-follows c = λ after. ended_at reading.node_word after c.args.self.now c.in_default.ensures.none

pub returns-then-ne-clause-follows : goal.returns-then-ne-clause-follows
returns-then-ne-clause-follows c = λ after.
    let l : Lexeme = record { token = c.in-Some.token; bytes = c.in-Some.bytes.now } in
    let no = no_node_word l.token.kind l.bytes (other_kind l.token.kind c.if-ne.ensures) in
    stopped_at reading.node_word after l c.args.self.now (drop 1 c.args.self.now) Unexpected c.in-Some.ensures.some no.0 no.1

pub advance-requires : goal.advance-requires
advance-requires c = omega (arith, ap length c.in-Some.ensures.some)

pub returns-in-Some-node_kind-clause-rule : goal.returns-in-Some-node_kind-clause-rule
returns-in-Some-node_kind-clause-rule c =
    let word = word_kind c.in-Some.token.kind c.if-ne.ensures in
    (c.in-Some.bytes.now, sym c.in-Some-node_kind.ensures, begun (Word c.in-Some.bytes.now) c.in-Some.ensures.some (record { kind = word; bytes = refl }, sym c.advance.ensures))

pub returns-in-Some-node_kind-clause-follows : goal.returns-in-Some-node_kind-clause-follows
returns-in-Some-node_kind-clause-follows c = λ after.
    let l : Lexeme = record { token = c.in-Some.token; bytes = c.in-Some.bytes.now } in
    let word = word_kind l.token.kind c.if-ne.ensures in
    let some = ap (λ kind. next reading.node_word kind l.bytes) word ∙ ap (λ found. if is_some found then Some [] else None) (sym c.in-Some-node_kind.ensures) in
    went_on_at reading.node_word after l c.args.self.now (drop 1 c.args.self.now) [] c.in-Some.ensures.some some ∙ ap (stop (within after)) (sym c.advance.ensures)

pub returns-in-Some-node_kind-clause-shorter : goal.returns-in-Some-node_kind-clause-shorter
returns-in-Some-node_kind-clause-shorter c = omega (arith, ap length c.in-Some.ensures.some, ap length c.advance.ensures, length-drop 1 c.args.self.now)

pub returns-then-eq-clause-follows : goal.returns-then-eq-clause-follows
returns-then-eq-clause-follows c = λ after.
    let l : Lexeme = record { token = c.in-Some.token; bytes = c.in-Some.bytes.now } in
    let word = word_kind l.token.kind c.if-ne.ensures in
    let none = ap (λ kind. next reading.node_word kind l.bytes) word ∙ ap (λ found. if is_some found then Some [] else None) (sym c.in_default-node_kind.ensures) in
    let told = ap (λ kind. refusal_at reading.node_word kind l.bytes) word ∙ ap (λ test. if test then Unsupported else Unexpected) (sym (c.if-eq.ensures ∙ ap (bytes_eq l.bytes) c.as_slice.ensures)) in
    stopped_at reading.node_word after l c.args.self.now (drop 1 c.args.self.now) Unsupported c.in-Some.ensures.some none told

pub returns-else-eq-clause-follows : goal.returns-else-eq-clause-follows
returns-else-eq-clause-follows c = λ after.
    let l : Lexeme = record { token = c.in-Some.token; bytes = c.in-Some.bytes.now } in
    let word = word_kind l.token.kind c.if-ne.ensures in
    let none = ap (λ kind. next reading.node_word kind l.bytes) word ∙ ap (λ found. if is_some found then Some [] else None) (sym c.in_default-node_kind.ensures) in
    let told = ap (λ kind. refusal_at reading.node_word kind l.bytes) word ∙ ap (λ test. if test then Unsupported else Unexpected) (sym (c.if-eq.ensures ∙ ap (bytes_eq l.bytes) c.as_slice.ensures)) in
    stopped_at reading.node_word after l c.args.self.now (drop 1 c.args.self.now) Unexpected c.in-Some.ensures.some none told

pub returns-in_default-clause-rule : goal.returns-in_default-clause-rule
returns-in_default-clause-rule c = tt

pub returns-in_default-clause-shorter : goal.returns-in_default-clause-shorter
returns-in_default-clause-shorter c = tt

pub returns-then-ne-clause-rule : goal.returns-then-ne-clause-rule
returns-then-ne-clause-rule c = tt

pub returns-then-ne-clause-shorter : goal.returns-then-ne-clause-shorter
returns-then-ne-clause-shorter c = tt

pub returns-then-eq-clause-rule : goal.returns-then-eq-clause-rule
returns-then-eq-clause-rule c = tt

pub returns-then-eq-clause-shorter : goal.returns-then-eq-clause-shorter
returns-then-eq-clause-shorter c = tt

pub returns-else-eq-clause-rule : goal.returns-else-eq-clause-rule
returns-else-eq-clause-rule c = tt

pub returns-else-eq-clause-shorter : goal.returns-else-eq-clause-shorter
returns-else-eq-clause-shorter c = tt
