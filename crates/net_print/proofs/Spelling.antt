-- Tokens that spell a tree, one part after the other.
use Rattle.std.proofs.Common.{◌≡◌, ℕ, true, List, [], ◌∷◌, ◌++◌, refl, sym, ap, subst, lit<}
use Rattle.net_lexer.specs.Token.{is_name}
use Rattle.net_lexer.specs.declared.tokens.Token.{Token}
use Rattle.net_lexer.specs.declared.tokens.TokenKind.{TokenKind}
use Rattle.net_lexer.specs.declared.tokens.TokenKind.TheVariants as kinds
use Rattle.net_parser.specs.Grammar as grammar
use Rattle.net_parser.specs.Grammar.{Rule, ◌▹◌}
use Rattle.net_parser.specs.Lexemes.{Lexeme, is_leaf}
use Rattle.net_parser.specs.Trees.{ValueTrees, leaf, list, none, more, BlockTree}
use Rattle.net_print.proofs.Written.{Written, behind, end_at, token_at, tokens_at, lexemes_at}

-- the lexemes of these, and then the rest
abbrev pub lexemes_onto : ℕ → List Written → List Lexeme → List Lexeme
lexemes_onto from [] rest = rest
lexemes_onto from (w ∷ ws) rest = record { token = token_at from w; bytes = w.bytes } ∷ lexemes_onto (behind from w) ws rest

pub lexemes_onto-append : (from : ℕ) (xs ys : List Written) (rest : List Lexeme) → lexemes_onto from (xs ++ ys) rest ≡ lexemes_onto from xs (lexemes_onto (end_at from xs) ys rest)
lexemes_onto-append from [] ys rest = refl
lexemes_onto-append from (w ∷ ws) ys rest = ap (λ ls. record { token = token_at from w; bytes = w.bytes } ∷ ls) (lexemes_onto-append (behind from w) ws ys rest)

pub lexemes_onto_none : (from : ℕ) (ws : List Written) → lexemes_onto from ws [] ≡ lexemes_at from ws
lexemes_onto_none from [] = refl
lexemes_onto_none from (w ∷ ws) = ap (λ ls. record { token = token_at from w; bytes = w.bytes } ∷ ls) (lexemes_onto_none (behind from w) ws)

-- the rule leads from these to what is behind them
abbrev pub Spelled : Rule → ℕ → List Written → Type 0
Spelled R from ws = (rest : List Lexeme) → R (lexemes_onto from ws rest) rest

pub spelled-append : (P Q : Rule) (from : ℕ) (xs ys : List Written) → Spelled P from xs → Spelled Q (end_at from xs) ys → Spelled (P ▹ Q) from (xs ++ ys)
spelled-append P Q from xs ys p q rest = subst (λ ls. (P ▹ Q) ls rest) (sym (lexemes_onto-append from xs ys rest)) (lexemes_onto (end_at from xs) ys rest, p (lexemes_onto (end_at from xs) ys rest), q rest)

-- one token, and then others
pub spelled-cons : (P Q : Rule) (from : ℕ) (w : Written) (ws : List Written) → Spelled P from (w ∷ []) → Spelled Q (behind from w) ws → Spelled (P ▹ Q) from (w ∷ ws)
spelled-cons P Q from w ws p q rest = (lexemes_onto (behind from w) ws rest, p (lexemes_onto (behind from w) ws rest), q rest)

pub mark_spelled : (kind : TokenKind) (from : ℕ) (w : Written) → w.kind ≡ kind → Spelled (grammar.Mark kind) from (w ∷ [])
mark_spelled kind from w e rest = (e, refl)

pub word_spelled : (from : ℕ) (w : Written) → w.kind ≡ kinds.Word → Spelled (grammar.Word w.bytes) from (w ∷ [])
word_spelled from w e rest = (record { kind = e; bytes = refl }, refl)

pub name_spelled : (from : ℕ) (w : Written) → w.kind ≡ kinds.Word → is_name w.bytes ≡ true → Spelled (grammar.Name (token_at from w)) from (w ∷ [])
name_spelled from w e is rest = ((record { kind = e; unsigned = is }, refl), refl)

-- each of these is a name
abbrev pub AreNames : List Written → Type 0
AreNames [] = Unit {0}
AreNames (w ∷ ws) = (w.kind ≡ kinds.Word) × (is_name w.bytes ≡ true) × AreNames ws

pub names_spelled : (from : ℕ) (ws : List Written) → AreNames ws → Spelled (grammar.Each grammar.Name (tokens_at from ws)) from ws
names_spelled from [] are rest = refl
names_spelled from (w ∷ ws) are rest = (lexemes_onto (behind from w) ws rest, name_spelled from w are.0 are.1 (lexemes_onto (behind from w) ws rest), names_spelled (behind from w) ws are.2 rest)

-- tokens as values
abbrev pub leaf_trees : List Token → ValueTrees
leaf_trees [] = none
leaf_trees (t ∷ ts) = more (leaf t) (leaf_trees ts)

-- each of these is a string, a numeral or a word
abbrev pub AreLeaves : List Written → Type 0
AreLeaves [] = Unit {0}
AreLeaves (w ∷ ws) = (is_leaf w.kind ≡ true) × AreLeaves ws

pub leaf_spelled : (depth from : ℕ) (w : Written) → is_leaf w.kind ≡ true → Spelled (grammar.Value depth (leaf (token_at from w))) from (w ∷ [])
leaf_spelled depth from w is rest = ((is, refl), refl)

pub leaves_spelled : (depth from : ℕ) (ws : List Written) → AreLeaves ws → Spelled (grammar.Values depth (leaf_trees (tokens_at from ws))) from ws
leaves_spelled depth from [] are rest = refl
leaves_spelled depth from (w ∷ ws) are rest = (lexemes_onto (behind from w) ws rest, leaf_spelled depth from w are.0 (lexemes_onto (behind from w) ws rest), leaves_spelled depth (behind from w) ws are.1 rest)

-- a list of leaves between its parentheses
pub list_spelled : (from : ℕ) (opening closing : Written) (ws : List Written) → opening.kind ≡ kinds.ParenOpen → closing.kind ≡ kinds.ParenClose → AreLeaves ws → Spelled (grammar.Value 32 (list (leaf_trees (tokens_at (behind from opening) ws)))) from (opening ∷ (ws ++ closing ∷ []))
list_spelled from opening closing ws is_open is_close are rest = (
  lit< tt,
  spelled-cons (grammar.Mark kinds.ParenOpen) (grammar.Values 31 (leaf_trees (tokens_at (behind from opening) ws)) ▹ grammar.Mark kinds.ParenClose) from opening (ws ++ closing ∷ []) (mark_spelled kinds.ParenOpen from opening is_open)
      (spelled-append (grammar.Values 31 (leaf_trees (tokens_at (behind from opening) ws))) (grammar.Mark kinds.ParenClose) (behind from opening) ws (closing ∷ []) (leaves_spelled 31 (behind from opening) ws are) (mark_spelled kinds.ParenClose (end_at (behind from opening) ws) closing is_close)) rest,
)

-- the trees of some lines, one after the other
abbrev pub trees_at : (ℕ → ℕ → BlockTree) → (ℕ → List Written) → ℕ → List ℕ → List BlockTree
trees_at tree words from [] = []
trees_at tree words from (v ∷ vs) = tree from v ∷ trees_at tree words (end_at from (words v)) vs
