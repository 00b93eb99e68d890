-- Laws of token lists and faults.
use Rattle.std.specs.Prelude.{◌≡◌, ℕ, ◌≤◌, List, All, AllPairs}
use Rattle.first_fault.specs.Properties.{IsCovered, IsExclusive, HasOneFault}
use Rattle.net_lexer.specs.Pieces.{IsTokens, token_pass}
use Rattle.net_lexer.specs.Token.{IsTokenOf}
use Rattle.net_lexer.specs.declared.tokens.Token.{Token}

-- every text has a token list or a fault
abbrev pub Covered : Type 0
Covered = (text : List ℕ) → IsCovered (token_pass text)

-- no text has both a token list and a fault
abbrev pub Exclusive : Type 0
Exclusive = (text : List ℕ) → IsExclusive (token_pass text)

-- a text's token list is the only one
abbrev pub OneList : Type 0
OneList = (text : List ℕ) (tokens others : List Token) → IsTokens text tokens → IsTokens text others
    → tokens ≡ others

-- a text's fault is the only one
abbrev pub OneFault : Type 0
OneFault = (text : List ℕ) → HasOneFault (token_pass text)

-- each token of a text's list is a token of the text
abbrev pub EachToken : Type 0
EachToken =
    (text : List ℕ) (tokens : List Token) → IsTokens text tokens → All (IsTokenOf text) tokens

-- each token of a text's list ends before every later one begins
abbrev pub InOrder : Type 0
InOrder = (text : List ℕ) (tokens : List Token) → IsTokens text tokens
    → AllPairs (λ token later. token.end ≤ later.start) tokens
