-- Tests of words and kinds, and what they tell.
use Rattle.std.proofs.Common.{◌≡◌, ℕ, Bool, true, false, not, ◌&&◌, ◌||◌, List, ◌⊎◌, inl, inr, refl, bytes_eq}
use Rattle.std.specs.Prelude.{codes}
use Rattle.std.proofs.lemmas.Slice.Eq.{bytes_eq-Decides}
use Rattle.std.proofs.lemmas.Bool.{and_parts, not-true}
use Rattle.net_lexer.specs.Token.{is_name}
use Rattle.net_lexer.specs.declared.tokens.TokenKind.{TokenKind}
use Rattle.net_lexer.specs.declared.tokens.TokenKind.TheVariants as kinds
use Rattle.net_parser.specs.Lexemes.{Lexeme}
use Rattle.net_parser.specs.Grammar.{IsModelName}
use Rattle.net_parser.specs.Reading.{same_kind, is_model_name, may_name}

pub same_kind-refl : (kind : TokenKind) → same_kind kind kind ≡ true
same_kind-refl kinds.Word = refl
same_kind-refl kinds.Text = refl
same_kind-refl kinds.Number = refl
same_kind-refl kinds.BraceOpen = refl
same_kind-refl kinds.BraceClose = refl
same_kind-refl kinds.ParenOpen = refl
same_kind-refl kinds.ParenClose = refl
same_kind-refl kinds.Equals = refl
same_kind-refl kinds.Semicolon = refl
same_kind-refl kinds.Bar = refl

pub same_kind-true : (a b : TokenKind) → same_kind a b ≡ true → a ≡ b
same_kind-true kinds.Word kinds.Word e = refl
same_kind-true kinds.Text kinds.Text e = refl
same_kind-true kinds.Number kinds.Number e = refl
same_kind-true kinds.BraceOpen kinds.BraceOpen e = refl
same_kind-true kinds.BraceClose kinds.BraceClose e = refl
same_kind-true kinds.ParenOpen kinds.ParenOpen e = refl
same_kind-true kinds.ParenClose kinds.ParenClose e = refl
same_kind-true kinds.Equals kinds.Equals e = refl
same_kind-true kinds.Semicolon kinds.Semicolon e = refl
same_kind-true kinds.Bar kinds.Bar e = refl
same_kind-true a b e = cc

-- bytes that pass the test are the word
pub word_is : (bytes word : List ℕ) → bytes_eq bytes word ≡ true → bytes ≡ word
word_is bytes word e = (bytes_eq-Decides bytes word).0 e

-- one test of two holds
pub either : (a b : Bool) → (a || b) ≡ true → (a ≡ true) ⊎ (b ≡ true)
either true b e = inl refl
either false b e = inr e

pub is_model_name-true : (l : Lexeme) → l.token.kind ≡ kinds.Word → is_model_name l.bytes ≡ true → IsModelName l
is_model_name-true l kind e = elim (either (bytes_eq l.bytes (codes "model_nodes")) (bytes_eq l.bytes (codes "model_data")) e) [
  | inl t ↦ record { is = inl (record { kind = kind; bytes = word_is _ _ t }) }
  | inr t ↦ record { is = inr (record { kind = kind; bytes = word_is _ _ t }) }
]

pub is_model_name-is : (l : Lexeme) → IsModelName l → is_model_name l.bytes ≡ true
is_model_name-is l h = elim h.is [ inl w ↦ rw w.bytes refl | inr w ↦ rw w.bytes refl ]

-- the test of an attribute's name
pub may_name-true : (potential : Bool) (word : List ℕ) → may_name potential word ≡ true → (is_name word ≡ true) × (potential ≡ true → is_model_name word ≡ false)
may_name-true potential word e =
    let p = and_parts (is_name word) (not (potential && is_model_name word)) e in
    (p.0, λ t. rw t at (not-true (potential && is_model_name word) p.1))

pub may_name-free : (word : List ℕ) → is_name word ≡ true → may_name false word ≡ true
may_name-free word e = rw e refl

pub may_name-other : (word : List ℕ) → is_name word ≡ true → is_model_name word ≡ false → may_name true word ≡ true
may_name-other word e f = rw (e, f) refl
