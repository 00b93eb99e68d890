-- Reading from left to right, for the contracts of private functions. No public contract needs it.
use Rattle.std.specs.Prelude.{◌≡◌, ◌-◌, ℕ, Bool, true, false, not, ◌&&◌, ◌||◌, List, [], ◌∷◌, ◌++◌, Option, None, Some, is_some, nat_lt, bytes_eq, if◌then◌else◌, codes, Result, Ok, Err}
use Rattle.std.specs.Option.{option_map, option_map_or}
use Rattle.net_lexer.specs.Token.{is_name}
use Rattle.net_lexer.specs.declared.tokens.Token.{Token}
use Rattle.net_lexer.specs.declared.tokens.TokenKind.{TokenKind}
use Rattle.net_lexer.specs.declared.tokens.TokenKind.TheVariants as kinds
use Rattle.net_parser.specs.declared.trees.BlockKind.{BlockKind}
use Rattle.net_parser.specs.declared.trees.BlockKind.TheVariants.{Node, Decision, Utility}
use Rattle.net_parser.specs.declared.reader.Stop.{Stop}
use Rattle.net_parser.specs.declared.reader.Stop.TheVariants.{Unexpected, Unsupported, TooDeep, NoMemory}
use Rattle.net_parser.specs.declared.parsing.ParseFault.{ParseFault}
use Rattle.net_parser.specs.declared.parsing.ParseFault.TheVariants as faults
use Rattle.net_parser.specs.declared.words.BlockWord.{BlockWord}
use Rattle.net_parser.specs.declared.words.BlockWord.TheVariants as words
use Rattle.net_parser.specs.Trees.{BlockTree}
use Rattle.net_parser.specs.Lexemes.{Lexeme}
use Rattle.net_parser.specs.Grammar.{Rule, Never, ◌▹◌, Mark, Word, Name, Given}

-- what may come next; attributes, values, given and names go up to the closing token
pub data Symbol : Type 0 where
  mark : TokenKind → Symbol
  name : Symbol
  node_word : Symbol
  attribute_name : Bool → Symbol
  attributes : Bool → Symbol
  value : ℕ → Symbol
  values : ℕ → Symbol
  given : Symbol
  names : Symbol

-- the kind of node block that a word begins
abbrev pub node_kind : List ℕ → Option BlockKind
node_kind word = if bytes_eq word (codes "node")
    then Some Node
    else (if bytes_eq word (codes "decision")
    then Some Decision
    else (if bytes_eq word (codes "utility") then Some Utility else None))

-- a word that begins a block which other tools read and this grammar lacks
abbrev pub is_foreign : List ℕ → Bool
is_foreign word = bytes_eq word (codes "continuous") || bytes_eq word (codes "function")
    || bytes_eq word (codes "class") || bytes_eq word (codes "instance")

-- a word that names no attribute of a potential
abbrev pub is_model_name : List ℕ → Bool
is_model_name word = bytes_eq word (codes "model_nodes") || bytes_eq word (codes "model_data")

-- what an attribute may be named
abbrev pub may_name : Bool → List ℕ → Bool
may_name potential word = is_name word && not (potential && is_model_name word)

-- the two kinds are one
abbrev pub same_kind : TokenKind → TokenKind → Bool
same_kind kinds.Word kinds.Word = true
same_kind kinds.Text kinds.Text = true
same_kind kinds.Number kinds.Number = true
same_kind kinds.BraceOpen kinds.BraceOpen = true
same_kind kinds.BraceClose kinds.BraceClose = true
same_kind kinds.ParenOpen kinds.ParenOpen = true
same_kind kinds.ParenClose kinds.ParenClose = true
same_kind kinds.Equals kinds.Equals = true
same_kind kinds.Semicolon kinds.Semicolon = true
same_kind kinds.Bar kinds.Bar = true
same_kind a b = false

-- behind `net`: its body
abbrev pub net_rest : List Symbol
net_rest = mark kinds.BraceOpen ∷ attributes false ∷ []

-- behind `node`, `decision` or `utility`: the name, and the body
abbrev pub node_rest : List Symbol
node_rest = name ∷ mark kinds.BraceOpen ∷ attributes false ∷ []

-- behind `potential`: its head in parentheses, and the body
abbrev pub potential_rest : List Symbol
potential_rest = mark kinds.ParenOpen ∷ name ∷ given ∷ mark kinds.BraceOpen ∷ attributes true ∷ []

-- what may come behind a block's first word, if it is one
abbrev pub block_word : Bool → List ℕ → Option (List Symbol)
block_word first word = if bytes_eq word (codes "net") && first then Some net_rest
    else (if bytes_eq word (codes "discrete") then Some (node_word ∷ node_rest)
    else (if is_some (node_kind word) then Some node_rest
    else (if bytes_eq word (codes "potential") then Some potential_rest else None)))

-- what may come behind a block's first token, if it may be one
abbrev pub block_token : Bool → TokenKind → List ℕ → Option (List Symbol)
block_token first kinds.Word bytes = block_word first bytes
block_token first kind bytes = None

-- what may come behind a token of that kind and with these bytes, in the place of the symbol, if it
-- may stand there
abbrev pub next : Symbol → TokenKind → List ℕ → Option (List Symbol)
next (mark kind) seen bytes = if same_kind kind seen then Some [] else None
next name kinds.Word bytes = if is_name bytes then Some [] else None
next node_word kinds.Word bytes = if is_some (node_kind bytes) then Some [] else None
next (attribute_name potential) kinds.Word bytes =
    if may_name potential bytes then Some [] else None
next (attributes potential) kinds.BraceClose bytes = Some []
next (attributes potential) kinds.Word bytes = if may_name potential bytes
    then Some (mark kinds.Equals ∷ value 32 ∷ mark kinds.Semicolon ∷ attributes potential ∷ [])
    else None
next (value depth) kinds.Word bytes = Some []
next (value depth) kinds.Text bytes = Some []
next (value depth) kinds.Number bytes = Some []
next (value depth) kinds.ParenOpen bytes =
    if nat_lt 0 depth then Some (values (depth - 1) ∷ []) else None
next (values depth) kinds.ParenClose bytes = Some []
next (values depth) kinds.Word bytes = Some (values depth ∷ [])
next (values depth) kinds.Text bytes = Some (values depth ∷ [])
next (values depth) kinds.Number bytes = Some (values depth ∷ [])
next (values depth) kinds.ParenOpen bytes =
    if nat_lt 0 depth then Some (values (depth - 1) ∷ values depth ∷ []) else None
next given kinds.ParenClose bytes = Some []
next given kinds.Bar bytes = Some (names ∷ [])
next names kinds.ParenClose bytes = Some []
next names kinds.Word bytes = if is_name bytes then Some (names ∷ []) else None
next symbol kind bytes = None

-- Where reading is: at the text's first token, or where these are still to come, and then blocks.
pub data Place : Type 0 where
  start : Place
  within : List Symbol → Place

-- what is still to come behind the token, if it may stand in the place
abbrev pub step : Place → Lexeme → Option (List Symbol)
step start l = block_token true l.token.kind l.bytes
step (within []) l = block_token false l.token.kind l.bytes
step (within (symbol ∷ after)) l =
    option_map (λ symbols. symbols ++ after) (next symbol l.token.kind l.bytes)

-- why a token may not begin a block
abbrev pub block_refusal : TokenKind → List ℕ → Stop
block_refusal kinds.Word bytes = if is_foreign bytes then Unsupported else Unexpected
block_refusal kind bytes = Unexpected

-- why a token of that kind and with these bytes may not stand in the place of the symbol
abbrev pub refusal_at : Symbol → TokenKind → List ℕ → Stop
refusal_at node_word kinds.Word bytes =
    if bytes_eq bytes (codes "function") then Unsupported else Unexpected
refusal_at (attribute_name true) kinds.Word bytes =
    if is_model_name bytes then Unsupported else Unexpected
refusal_at (attributes true) kinds.Word bytes =
    if is_model_name bytes then Unsupported else Unexpected
refusal_at (value depth) kinds.ParenOpen bytes = TooDeep
refusal_at (values depth) kinds.ParenOpen bytes = TooDeep
refusal_at symbol kind bytes = Unexpected

-- why the token may not stand in the place
abbrev pub refusal : Place → Lexeme → Stop
refusal start l = block_refusal l.token.kind l.bytes
refusal (within []) l = block_refusal l.token.kind l.bytes
refusal (within (symbol ∷ after)) l = refusal_at symbol l.token.kind l.bytes

-- what the text's end is in a place
abbrev pub stop_at_end : Place → Option (Stop × List Lexeme)
stop_at_end start = None
stop_at_end (within []) = None
stop_at_end (within (symbol ∷ after)) = Some (Unexpected, [])

-- the first token that may not stand where it does, with all behind it, and why
abbrev pub stop : Place → List Lexeme → Option (Stop × List Lexeme)
stop place [] = stop_at_end place
stop place (l ∷ ls) = option_map_or (λ symbols. stop (within symbols) ls) (step place l)
    (Some (refusal place l, l ∷ ls))

-- a stop that reading finds where the tokens are new
abbrev pub IsStop : Stop → Option (Stop × List Lexeme) → List Lexeme → Type 0
IsStop NoMemory found new = Unit {0}
IsStop why found new = found ≡ Some (why, new)

-- What is read stops where what follows it stops, or there.
abbrev pub IsReading : {A : Type 0} → Result A Stop → Option (Stop × List Lexeme)
    → (A → Option (Stop × List Lexeme)) → List Lexeme → Type 0
IsReading (Ok x) whole rest new = whole ≡ rest x
IsReading (Err why) whole rest new = IsStop why whole new

-- the next token, if there is one, is of that kind
abbrev pub is_next : TokenKind → List Lexeme → Bool
is_next kind [] = false
is_next kind (l ∷ ls) = same_kind kind l.token.kind

-- Reading of these symbols: what comes behind them is met behind what is read.
abbrev pub Follows : {A : Type 0} → List Symbol → Result A Stop → List Lexeme → List Lexeme → Type 0
Follows symbols result old new = (after : List Symbol) → IsReading result
    (stop (within (symbols ++ after)) old) (λ x. stop (within after) new) new

-- a word that begins a node block of that kind
abbrev pub NodeWord : BlockKind → Rule
NodeWord kind from to = (word : List ℕ) × (node_kind word ≡ Some kind) × Word word from to

-- the word that begins a block
abbrev pub IsFirstWord : Bool → BlockWord → List ℕ → Type 0
IsFirstWord first words.Net word = (word ≡ codes "net") × (first ≡ true)
IsFirstWord first words.Discrete word = word ≡ codes "discrete"
IsFirstWord first (words.Node kind) word = node_kind word ≡ Some kind
IsFirstWord first words.Potential word = word ≡ codes "potential"

-- a word that begins such a block
abbrev pub FirstWord : Bool → BlockWord → Rule
FirstWord first begins from to = (word : List ℕ) × IsFirstWord first begins word × Word word from to

-- what comes behind it
abbrev pub behind : BlockWord → List Symbol
behind words.Net = net_rest
behind words.Discrete = node_word ∷ node_rest
behind (words.Node kind) = node_rest
behind words.Potential = potential_rest

-- the place of a block's first word
abbrev pub block_place : Bool → Place
block_place true = start
block_place false = within []

-- Reading of a block, or of its front: what is still to come of the block is met behind what is
-- read.
abbrev pub FollowsInBlock : {A : Type 0} → Bool → (A → List Symbol) → Result A Stop → List Lexeme
    → List Lexeme → Type 0
FollowsInBlock first rest result old new =
    IsReading result (stop (block_place first) old) (λ x. stop (within (rest x)) new) new

-- a block's body is still to come
abbrev pub body_rest : Bool → List Symbol
body_rest potential = mark kinds.BraceOpen ∷ attributes potential ∷ []

-- what a head says is given, behind those before, and the mark that closes the head
abbrev pub AddsGiven : List Token → List Token → Rule
AddsGiven before all from to = (given : List Token) × (all ≡ before ++ given)
    × (Given given ▹ Mark kinds.ParenClose) from to

-- the name of a node's head, behind its first word
abbrev pub NodeNames : List Token → Rule
NodeNames [] = Never
NodeNames (title ∷ []) = Name title
NodeNames (title ∷ other ∷ others) = Never

-- the names of a potential's head, in their parentheses
abbrev pub PotentialNames : List Token → Rule
PotentialNames [] = Never
PotentialNames (title ∷ all) = Mark kinds.ParenOpen ▹ Name title ▹ Given all ▹ Mark kinds.ParenClose

-- where reading is behind these blocks
abbrev pub place_behind : List BlockTree → Place
place_behind [] = start
place_behind (block ∷ blocks) = within []

-- the fault of that kind at a place
abbrev pub fault_at : Stop → ℕ → ParseFault
fault_at Unexpected at = faults.Unexpected at
fault_at Unsupported at = faults.Unsupported at
fault_at TooDeep at = faults.TooDeep at
fault_at NoMemory at = faults.NoMemory
