use Rattle.std.proofs.Common.{◌≡◌, ℕ, List, [], ◌∷◌, refl, sym, ap, ◌∙◌}
use Rattle.net_lexer.specs.declared.tokens.Token.{Token}
use Rattle.net_parser.specs.Lexemes.{lexemes, tokens_in}
use Rattle.net_parser.proofs.reader.Reader.tokens.Goals as goal

-- the tokens of their lexemes
same_tokens : (text : List ℕ) (tokens : List Token) → tokens_in (lexemes text tokens) ≡ tokens
same_tokens text [] = refl
same_tokens text (t ∷ tokens) = ap (λ ts. t ∷ ts) (same_tokens text tokens)

pub returns : goal.returns
returns c = sym (same_tokens c.self.inside.text.now c.self.inside.rest.now) ∙ ap tokens_in c.self.view_is
