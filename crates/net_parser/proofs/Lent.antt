-- An attribute is the tokens that are gone past while it is read.
use Rattle.std.proofs.Common.{◌≡◌, ◌-◌, Bool, true, false, List, [], ◌∷◌, ◌++◌, length, take, refl, sym, ap, subst, ◌∙◌, arith}
use Rattle.std.proofs.Math.Seq.{take-append_seam}
use Rattle.std.proofs.lemmas.List.{length-append}
use Rattle.net_lexer.specs.declared.tokens.Token.{Token}
use Rattle.net_lexer.specs.declared.tokens.TokenKind.TheVariants.{Equals, Semicolon}
use Rattle.net_parser.specs.Grammar.{One, Mark, AttributeName, Attribute}
use Rattle.net_parser.specs.Lexemes.{Lexeme, tokens_in}
use Rattle.net_parser.specs.ReaderCalls.{PassesValue}
use Rattle.net_parser.specs.Trees.{AttributeTree}
use Rattle.net_parser.specs.Views.{attribute_of}

one_front : (P : Lexeme → Type 0) (a b : List Lexeme) → One P a b → (l : Lexeme) × (a ≡ l ∷ b) × P l
one_front P [] b h = absurd h
one_front P (l ∷ ls) b h = (l, ap (λ rest. l ∷ rest) h.1, h.0)

name_front : (potential : Bool) (t : Token) (a b : List Lexeme) → AttributeName potential t a b → (l : Lexeme) × (a ≡ l ∷ b) × (l.token ≡ t)
name_front false t a b h = let f = one_front _ a b h in (f.0, f.1, f.2.1)
name_front true t a b h = let f = one_front _ a b h in (f.0, f.1, f.2.1)

tokens_joined : (front rest : List Lexeme) → tokens_in (front ++ rest) ≡ tokens_in front ++ tokens_in rest
tokens_joined [] rest = refl
tokens_joined (l ∷ front) rest = ap (λ ts. l.token ∷ ts) (tokens_joined front rest)

-- the tokens before those that are left
front_of : (all front rest : List Token) → all ≡ front ++ rest → take (length all - length rest) all ≡ front
front_of all front rest is =
    let len : length (front ++ rest) - length rest ≡ length front = simp length-append (omega arith) in
    ap (λ ts. take (length ts - length rest) ts) is ∙ ap (λ n. take n (front ++ rest)) len ∙ take-append_seam front rest

module _ (potential : Bool) (t : Token) (old named equal valued further : List Lexeme) (name : AttributeName potential t old named) (equals : Mark Equals named equal) (value : PassesValue 32 equal valued) (semicolon : Mark Semicolon valued further) where
  -- its tokens are those up to the mark that ends it
  pub attribute_passed : (all left : List Token) (attribute : AttributeTree) → all ≡ tokens_in old → left ≡ tokens_in valued → attribute ≡ attribute_of (take (length all - length left) all) → Attribute potential attribute old further
  attribute_passed all left attribute is rest e =
      let first = name_front potential t old named name in
      let mark = one_front _ named equal equals in
      let passed = value.0 in
      let front = first.0.token ∷ mark.0.token ∷ tokens_in passed in
      let whole : tokens_in old ≡ front ++ tokens_in valued =
      ap tokens_in (first.1 ∙ ap (λ ls. first.0 ∷ ls) (mark.1 ∙ ap (λ ls. mark.0 ∷ ls) value.1)) ∙ ap (λ ts. first.0.token ∷ mark.0.token ∷ ts) (tokens_joined passed valued) in
      let tree : attribute ≡ attribute_of front = e ∙ ap (λ ts. attribute_of (take (length all - length ts) all)) rest ∙ ap attribute_of (front_of all front (tokens_in valued) (is ∙ whole)) in
      subst (λ (a : AttributeTree). Attribute potential a old further) (sym tree)
      (named, subst (λ u. AttributeName potential u old named) (sym first.2) name, (equal, equals, (valued, value.2, semicolon)))
