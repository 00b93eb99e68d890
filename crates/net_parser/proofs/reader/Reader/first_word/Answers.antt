use Rattle.std.proofs.Common.{length, length-drop, drop, refl, sym, ap, ◌∙◌, arith}
use Rattle.std.specs.Prelude.{if◌then◌else◌}
use Rattle.net_parser.specs.declared.reader.Stop.TheVariants.{Unexpected, Unsupported}
use Rattle.net_parser.specs.Grammar.{Word}
use Rattle.net_parser.specs.Lexemes.{Lexeme}
use Rattle.net_parser.specs.Reading.{stop, within, behind, block_token, block_refusal}
use Rattle.net_parser.proofs.Moves.{begun}
use Rattle.net_parser.proofs.Stopped.{word_kind, other_kind, no_block, stopped, went_on}
use Rattle.net_parser.proofs.reader.Reader.first_word.Goals as goal

pub returns-in_default-clause-follows : goal.returns-in_default-clause-follows
returns-in_default-clause-follows c = absurd (omega (arith, c.requires, ap length c.in_default.ensures.none))

pub returns-then-ne-clause-rule : goal.returns-then-ne-clause-rule
returns-then-ne-clause-rule c = tt

pub returns-then-ne-clause-follows : goal.returns-then-ne-clause-follows
returns-then-ne-clause-follows c =
    let l : Lexeme = record { token = c.in-Some.token; bytes = c.in-Some.bytes.now } in
    let no = no_block c.args.first l.token.kind l.bytes (other_kind l.token.kind c.if-ne.ensures) in
    stopped c.args.first l c.args.self.now (drop 1 c.args.self.now) Unexpected c.in-Some.ensures.some no.0 no.1

pub returns-then-ne-clause-shorter : goal.returns-then-ne-clause-shorter
returns-then-ne-clause-shorter c = tt

pub advance-requires : goal.advance-requires
advance-requires c = c.requires

pub returns-in-Some-block_word-clause-rule : goal.returns-in-Some-block_word-clause-rule
returns-in-Some-block_word-clause-rule c =
    let word = word_kind c.in-Some.token.kind c.if-ne.ensures in
    (c.in-Some.bytes.now, c.in-Some-block_word.ensures.word, begun (Word c.in-Some.bytes.now) c.in-Some.ensures.some (record { kind = word; bytes = refl }, sym c.advance.ensures))

pub returns-in-Some-block_word-clause-follows : goal.returns-in-Some-block_word-clause-follows
returns-in-Some-block_word-clause-follows c =
    let l : Lexeme = record { token = c.in-Some.token; bytes = c.in-Some.bytes.now } in
    let word = word_kind l.token.kind c.if-ne.ensures in
    let begins = ap (λ kind. block_token c.args.first kind l.bytes) word ∙ sym c.in-Some-block_word.ensures.behind in
    went_on c.args.first l c.args.self.now (drop 1 c.args.self.now) (behind c.in-Some-block_word.begins) c.in-Some.ensures.some begins
    ∙ ap (stop (within (behind c.in-Some-block_word.begins))) (sym c.advance.ensures)

pub returns-in-Some-block_word-clause-shorter : goal.returns-in-Some-block_word-clause-shorter
returns-in-Some-block_word-clause-shorter c = omega (arith, c.requires, ap length c.advance.ensures, length-drop 1 c.args.self.now)

pub returns-then-is_foreign-clause-rule : goal.returns-then-is_foreign-clause-rule
returns-then-is_foreign-clause-rule c = tt

pub returns-then-is_foreign-clause-follows : goal.returns-then-is_foreign-clause-follows
returns-then-is_foreign-clause-follows c =
    let l : Lexeme = record { token = c.in-Some.token; bytes = c.in-Some.bytes.now } in
    let word = word_kind l.token.kind c.if-ne.ensures in
    let none = ap (λ kind. block_token c.args.first kind l.bytes) word ∙ sym c.in_default-block_word.ensures.behind in
    let told = ap (λ kind. block_refusal kind l.bytes) word ∙ ap (λ test. if test then Unsupported else Unexpected) (sym c.if-is_foreign.ensures) in
    stopped c.args.first l c.args.self.now (drop 1 c.args.self.now) Unsupported c.in-Some.ensures.some none told

pub returns-then-is_foreign-clause-shorter : goal.returns-then-is_foreign-clause-shorter
returns-then-is_foreign-clause-shorter c = tt

pub returns-else-is_foreign-clause-rule : goal.returns-else-is_foreign-clause-rule
returns-else-is_foreign-clause-rule c = tt

pub returns-else-is_foreign-clause-follows : goal.returns-else-is_foreign-clause-follows
returns-else-is_foreign-clause-follows c =
    let l : Lexeme = record { token = c.in-Some.token; bytes = c.in-Some.bytes.now } in
    let word = word_kind l.token.kind c.if-ne.ensures in
    let none = ap (λ kind. block_token c.args.first kind l.bytes) word ∙ sym c.in_default-block_word.ensures.behind in
    let told = ap (λ kind. block_refusal kind l.bytes) word ∙ ap (λ test. if test then Unsupported else Unexpected) (sym c.if-is_foreign.ensures) in
    stopped c.args.first l c.args.self.now (drop 1 c.args.self.now) Unexpected c.in-Some.ensures.some none told

pub returns-else-is_foreign-clause-shorter : goal.returns-else-is_foreign-clause-shorter
returns-else-is_foreign-clause-shorter c = tt
