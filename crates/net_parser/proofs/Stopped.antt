-- Where reading stops at the next token, and where it goes on.
use Rattle.std.proofs.Common.{◌≡◌, ◌≢◌, ◌-◌, ◌⊎◌, ℕ, Bool, true, false, not, ◌&&◌, List, [], ◌∷◌, ◌++◌, inl, inr, bytes_eq, refl, sym, ap, subst, ◌∙◌, nat_lt, length, arith}
use Rattle.std.specs.Prelude.{◌<◌, Some, None, codes, if◌then◌else◌}
use Rattle.std.specs.Option.{option_map, option_map_or}
use Rattle.std.proofs.lemmas.Bool.{false≢true, false_from_ne_true, lt-ltb}
use Rattle.net_lexer.specs.contracts.tokens.TokenKind.{the_type}
use Rattle.net_lexer.specs.declared.tokens.TokenKind.{TokenKind}
use Rattle.net_lexer.specs.declared.tokens.TokenKind.TheVariants as kinds
use Rattle.net_lexer.specs.Token.{is_name}
use Rattle.net_parser.proofs.Telling.{word_is, either, may_name-free, may_name-other}
use denote.Enum.Bare.{sameb}
use Rattle.net_parser.specs.declared.reader.Stop.{Stop}
use Rattle.net_parser.specs.declared.reader.Stop.TheVariants.{Unexpected, Unsupported, TooDeep}
use Rattle.net_parser.specs.Grammar.{Mark}
use Rattle.net_parser.specs.Lexemes.{Lexeme, is_leaf}
use Rattle.net_parser.specs.Reading.{Symbol, stop, within, block_place, block_token, block_refusal, next, refusal_at, name, node_word, attribute_name, value, values, is_model_name, may_name}

pub word_kind : (kind : TokenKind) → false ≡ not (sameb the_type kind kinds.Word) → kind ≡ kinds.Word
word_kind kinds.Word e = refl
word_kind kind e = cc

pub other_kind : (kind : TokenKind) → true ≡ not (sameb the_type kind kinds.Word) → kind ≢ kinds.Word
other_kind kind e is = false≢true (sym (e ∙ ap (λ k. not (sameb the_type k kinds.Word)) is))

pub same_word : (kind : TokenKind) → true ≡ sameb the_type kind kinds.Word → kind ≡ kinds.Word
same_word kind e = word_kind kind (ap not e)

pub other_word : (kind : TokenKind) → false ≡ sameb the_type kind kinds.Word → kind ≢ kinds.Word
other_word kind e = other_kind kind (ap not e)

-- no other token than a word begins a block
pub no_block : (first : Bool) (kind : TokenKind) (bytes : List ℕ) → kind ≢ kinds.Word → (block_token first kind bytes ≡ None) × (block_refusal kind bytes ≡ Unexpected)
no_block first kinds.Word bytes other = absurd (other refl)
no_block first kind bytes other = (refl, refl)

block_at : (first : Bool) (l : Lexeme) (rest : List Lexeme) → stop (block_place first) (l ∷ rest) ≡ option_map_or (λ symbols. stop (within symbols) rest) (block_token first l.token.kind l.bytes) (Some (block_refusal l.token.kind l.bytes, l ∷ rest))
block_at true l rest = refl
block_at false l rest = refl

pub stopped : (first : Bool) (l : Lexeme) (tokens rest : List Lexeme) (why : Stop) → tokens ≡ l ∷ rest → block_token first l.token.kind l.bytes ≡ None → block_refusal l.token.kind l.bytes ≡ why → stop (block_place first) tokens ≡ Some (why, tokens)
stopped first l tokens rest why is none told =
    subst (λ x. stop (block_place first) x ≡ Some (why, x)) (sym is)
    (block_at first l rest ∙ (λ i. option_map_or (λ symbols. stop (within symbols) rest) (none i) (Some (told i, l ∷ rest))))

pub went_on : (first : Bool) (l : Lexeme) (tokens rest : List Lexeme) (symbols : List Symbol) → tokens ≡ l ∷ rest → block_token first l.token.kind l.bytes ≡ Some symbols → stop (block_place first) tokens ≡ stop (within symbols) rest
went_on first l tokens rest symbols is some =
    ap (stop (block_place first)) is
    ∙ block_at first l rest
    ∙ ap (λ found. option_map_or (λ next. stop (within next) rest) found (Some (block_refusal l.token.kind l.bytes, l ∷ rest))) some

-- the same in the place of a symbol
pub ended_at : (symbol : Symbol) (after : List Symbol) (tokens : List Lexeme) → tokens ≡ [] → stop (within (symbol ∷ after)) tokens ≡ Some (Unexpected, tokens)
ended_at symbol after tokens is = subst (λ x. stop (within (symbol ∷ after)) x ≡ Some (Unexpected, x)) (sym is) refl

symbol_at : (symbol : Symbol) (after : List Symbol) (l : Lexeme) (rest : List Lexeme) → stop (within (symbol ∷ after)) (l ∷ rest) ≡ option_map_or (λ symbols. stop (within symbols) rest) (option_map (λ symbols. symbols ++ after) (next symbol l.token.kind l.bytes)) (Some (refusal_at symbol l.token.kind l.bytes, l ∷ rest))
symbol_at symbol after l rest = refl

pub stopped_at : (symbol : Symbol) (after : List Symbol) (l : Lexeme) (tokens rest : List Lexeme) (why : Stop) → tokens ≡ l ∷ rest → next symbol l.token.kind l.bytes ≡ None → refusal_at symbol l.token.kind l.bytes ≡ why → stop (within (symbol ∷ after)) tokens ≡ Some (why, tokens)
stopped_at symbol after l tokens rest why is none told =
    subst (λ x. stop (within (symbol ∷ after)) x ≡ Some (why, x)) (sym is)
    (symbol_at symbol after l rest ∙ (λ i. option_map_or (λ symbols. stop (within symbols) rest) (option_map (λ symbols. symbols ++ after) (none i)) (Some (told i, l ∷ rest))))

pub went_on_at : (symbol : Symbol) (after : List Symbol) (l : Lexeme) (tokens rest : List Lexeme) (symbols : List Symbol) → tokens ≡ l ∷ rest → next symbol l.token.kind l.bytes ≡ Some symbols → stop (within (symbol ∷ after)) tokens ≡ stop (within (symbols ++ after)) rest
went_on_at symbol after l tokens rest symbols is some =
    ap (stop (within (symbol ∷ after))) is
    ∙ symbol_at symbol after l rest
    ∙ ap (λ found. option_map_or (λ symbols. stop (within symbols) rest) (option_map (λ symbols. symbols ++ after) found) (Some (refusal_at symbol l.token.kind l.bytes, l ∷ rest))) some

-- a place that takes words refuses each other token for no reason of its own
pub no_name : (kind : TokenKind) (bytes : List ℕ) → kind ≢ kinds.Word → (next name kind bytes ≡ None) × (refusal_at name kind bytes ≡ Unexpected)
no_name kinds.Word bytes other = absurd (other refl)
no_name kind bytes other = (refl, refl)

pub no_node_word : (kind : TokenKind) (bytes : List ℕ) → kind ≢ kinds.Word → (next node_word kind bytes ≡ None) × (refusal_at node_word kind bytes ≡ Unexpected)
no_node_word kinds.Word bytes other = absurd (other refl)
no_node_word kind bytes other = (refl, refl)

pub no_attribute_name : (potential : Bool) (kind : TokenKind) (bytes : List ℕ) → kind ≢ kinds.Word → (next (attribute_name potential) kind bytes ≡ None) × (refusal_at (attribute_name potential) kind bytes ≡ Unexpected)
no_attribute_name potential kinds.Word bytes other = absurd (other refl)
no_attribute_name true kind bytes other = (refl, refl)
no_attribute_name false kind bytes other = (refl, refl)

and_false : (b : Bool) → (b && false) ≡ false
and_false true = refl
and_false false = refl

-- an attribute's name: no signed word, in a potential none of the model's, and each other word
pub signed_name : (potential : Bool) (bytes : List ℕ) → is_name bytes ≡ false → (next (attribute_name potential) kinds.Word bytes ≡ None) × (refusal_at (attribute_name potential) kinds.Word bytes ≡ Unexpected)
signed_name false bytes e = (ap (λ test. if (test && true) then Some [] else None) e, refl)
signed_name true bytes e = (
  ap (λ test. if (test && not (is_model_name bytes)) then Some [] else None) e,
  ap (λ test. if test then Unsupported else Unexpected) (false_from_ne_true _ (λ yes. elim (either (bytes_eq bytes (codes "model_nodes")) (bytes_eq bytes (codes "model_data")) yes) [
    | inl t ↦ false≢true (sym (subst (λ word. is_name word ≡ false) (word_is bytes (codes "model_nodes") t) e))
    | inr t ↦ false≢true (sym (subst (λ word. is_name word ≡ false) (word_is bytes (codes "model_data") t) e))
  ])),
)

pub model_name : (potential : Bool) (bytes : List ℕ) → potential ≡ true → is_model_name bytes ≡ true → (next (attribute_name potential) kinds.Word bytes ≡ None) × (refusal_at (attribute_name potential) kinds.Word bytes ≡ Unsupported)
model_name false bytes e model = absurd (false≢true e)
model_name true bytes e model = (
  ap (λ test. if (is_name bytes && not test) then Some [] else None) model ∙ ap (λ test. if test then Some [] else None) (and_false (is_name bytes)),
  ap (λ test. if test then Unsupported else Unexpected) model,
)

pub other_name : (potential : Bool) (bytes : List ℕ) → is_name bytes ≡ true → (potential ≡ true → is_model_name bytes ≡ false) → may_name potential bytes ≡ true
other_name false bytes e other = may_name-free bytes e
other_name true bytes e other = may_name-other bytes e (other refl)

-- the mark that ends what the symbol stands for
pub closes : (symbol : Symbol) (kind : TokenKind) → ((bytes : List ℕ) → next symbol kind bytes ≡ Some []) → (after : List Symbol) (a b : List Lexeme) → Mark kind a b → stop (within (symbol ∷ after)) a ≡ stop (within after) b
closes symbol kind ends after [] b h = absurd h
closes symbol kind ends after (l ∷ ls) b h =
    went_on_at symbol after l (l ∷ ls) ls [] refl (ap (λ seen. next symbol seen l.bytes) h.0 ∙ ends l.bytes) ∙ ap (stop (within after)) h.1

-- the parenthesis that opens a list, where one may be opened
pub list_opens : (depth : ℕ) (after : List Symbol) (l : Lexeme) (tokens rest further : List Lexeme) → tokens ≡ l ∷ rest → l.token.kind ≡ kinds.ParenOpen → 0 < depth → further ≡ rest → stop (within (value depth ∷ after)) tokens ≡ stop (within (values (depth - 1) ∷ after)) further
list_opens depth after l tokens rest further is kind room e =
    let some = ap (λ seen. next (value depth) seen l.bytes) kind ∙ ap (λ test. if test then Some (values (depth - 1) ∷ []) else None) (lt-ltb 0 depth room) in
    went_on_at (value depth) after l tokens rest (values (depth - 1) ∷ []) is some ∙ ap (stop (within (values (depth - 1) ∷ after))) (sym e)

-- no list may be opened
pub list_too_deep : (depth : ℕ) (after : List Symbol) (l : Lexeme) (tokens rest : List Lexeme) → tokens ≡ l ∷ rest → l.token.kind ≡ kinds.ParenOpen → depth ≡ 0 → stop (within (value depth ∷ after)) tokens ≡ Some (TooDeep, tokens)
list_too_deep depth after l tokens rest is kind full =
    let none = ap (λ seen. next (value depth) seen l.bytes) kind ∙ ap (λ n. if nat_lt 0 n then Some (values (n - 1) ∷ []) else None) full in
    stopped_at (value depth) after l tokens rest TooDeep is none (ap (λ seen. refusal_at (value depth) seen l.bytes) kind)

-- a string, a numeral or a word
pub leaf_kind : (kind : TokenKind) → (kind ≡ kinds.Text) ⊎ (kind ≡ kinds.Number) ⊎ (kind ≡ kinds.Word) → is_leaf kind ≡ true
leaf_kind kind (inl e) = rw e refl
leaf_kind kind (inr (inl e)) = rw e refl
leaf_kind kind (inr (inr e)) = rw e refl

leaf_next : (depth : ℕ) (kind : TokenKind) (bytes : List ℕ) → is_leaf kind ≡ true → next (value depth) kind bytes ≡ Some []
leaf_next depth kinds.Word bytes e = refl
leaf_next depth kinds.Text bytes e = refl
leaf_next depth kinds.Number bytes e = refl
leaf_next depth kind bytes e = cc

pub leaf_read : (depth : ℕ) (after : List Symbol) (l : Lexeme) (tokens rest further : List Lexeme) → tokens ≡ l ∷ rest → is_leaf l.token.kind ≡ true → further ≡ rest → stop (within (value depth ∷ after)) tokens ≡ stop (within after) further
leaf_read depth after l tokens rest further is leaf e =
    went_on_at (value depth) after l tokens rest [] is (leaf_next depth l.token.kind l.bytes leaf) ∙ ap (stop (within after)) (sym e)

pub mark_shorter : (kind : TokenKind) (a b : List Lexeme) → Mark kind a b → length b < length a
mark_shorter kind [] b h = absurd h
mark_shorter kind (l ∷ ls) b h = omega (arith, ap length h.1)
