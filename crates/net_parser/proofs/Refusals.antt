-- Why a token may not stand in a place, told by what may stand there.
use Rattle.std.proofs.Common.{◌≡◌, ℕ, Bool, true, false, ◌||◌, List, [], ◌∷◌, ◌++◌, ◌⊎◌, inl, inr, refl, sym, ap, ◌∙◌, subst, bytes_eq}
use Rattle.std.specs.Prelude.{codes, Option, Some, None, if◌then◌else◌}
use Rattle.std.specs.Option.{option_map}
use Rattle.std.proofs.lemmas.Bool.{false_from_ne_true}
use Rattle.net_lexer.specs.Token.{is_name}
use Rattle.net_lexer.specs.declared.tokens.TokenKind.{TokenKind}
use Rattle.net_lexer.specs.declared.tokens.TokenKind.TheVariants as kinds
use Rattle.net_parser.specs.declared.reader.Stop.TheVariants.{Unexpected, Unsupported, TooDeep, NoMemory}
use Rattle.net_parser.specs.Lexemes.{Lexeme, IsMark, IsWord, IsName, is_leaf}
use Rattle.net_parser.specs.Grammar.{IsModelName}
use Rattle.net_parser.specs.Faults.{IsForeignWord}
use Rattle.net_parser.specs.Reading.{Symbol, mark, name, node_word, attribute_name, attributes, value, values, given, names, next, is_foreign, is_model_name, may_name, Place, start, within, step, refusal, refusal_at, block_refusal}
use Rattle.net_parser.proofs.Telling.{word_is, either, is_model_name-true, is_model_name-is, may_name-other}
use Rattle.net_parser.proofs.Places.{Rest, symbol_some, lexeme}

-- something may come behind the token there
abbrev pub Stands : Place → Lexeme → Type 0
Stands place l = (symbols : List Symbol) × (step place l ≡ Some symbols)

pub record Foreign (place : Place) (l : Lexeme) : Type 0 where
  pub whole : Rest place []
  pub word : IsForeignWord l

pub record Function (place : Place) (l : Lexeme) : Type 0 where
  pub node : Lexeme
  pub is : IsWord (codes "node") node
  pub stands : Stands place node
  pub word : IsWord (codes "function") l

pub record Model (place : Place) (l : Lexeme) : Type 0 where
  pub others : (other : Lexeme) → IsName other → (IsModelName other → ⊥) → Stands place other
  pub word : IsModelName l

pub record Deep (place : Place) (l : Lexeme) : Type 0 where
  pub leaves : (leaf : Lexeme) → is_leaf leaf.token.kind ≡ true → Stands place leaf
  pub mark : IsMark kinds.ParenOpen l

when_true : (test : Bool) → (if test then Unsupported else Unexpected) ≡ Unsupported → test ≡ true
when_true true e = refl
when_true false e = cc

foreign_word : (l : Lexeme) → l.token.kind ≡ kinds.Word → is_foreign l.bytes ≡ true → IsForeignWord l
foreign_word l kind e = elim (either (bytes_eq l.bytes (codes "continuous") || bytes_eq l.bytes (codes "function") || bytes_eq l.bytes (codes "class")) (bytes_eq l.bytes (codes "instance")) e) [
  | inl t ↦ elim (either (bytes_eq l.bytes (codes "continuous") || bytes_eq l.bytes (codes "function")) (bytes_eq l.bytes (codes "class")) t) [
    | inl t ↦ elim (either (bytes_eq l.bytes (codes "continuous")) (bytes_eq l.bytes (codes "function")) t) [
      | inl t ↦ record { is = inl (record { kind = kind; bytes = word_is _ _ t }) }
      | inr t ↦ record { is = inr (inl (record { kind = kind; bytes = word_is _ _ t })) }
    ]
    | inr t ↦ record { is = inr (inr (inl (record { kind = kind; bytes = word_is _ _ t }))) }
  ]
  | inr t ↦ record { is = inr (inr (inr (record { kind = kind; bytes = word_is _ _ t }))) }
]

block_unsupported : (kind : TokenKind) (bytes : List ℕ) → block_refusal kind bytes ≡ Unsupported → (kind ≡ kinds.Word) × (is_foreign bytes ≡ true)
block_unsupported kinds.Word bytes e = (refl, when_true (is_foreign bytes) e)
block_unsupported kind bytes e = cc

others_stand : (potential : Bool) (l : Lexeme) → IsName l → (IsModelName l → ⊥) → may_name true l.bytes ≡ true
others_stand potential l is other = may_name-other l.bytes is.unsigned (false_from_ne_true _ (λ yes. other (is_model_name-true l is.kind yes)))

-- the kind of the tokens that the symbol's place refuses for a reason of their own
abbrev own_kind : Symbol → TokenKind
own_kind (value depth) = kinds.ParenOpen
own_kind (values depth) = kinds.ParenOpen
own_kind symbol = kinds.Word

own_reason : (symbol : Symbol) (kind : TokenKind) (bytes : List ℕ) → (refusal_at symbol kind bytes ≡ Unexpected) ⊎ (kind ≡ own_kind symbol)
own_reason node_word kinds.Word bytes = inr refl
own_reason (attribute_name true) kinds.Word bytes = inr refl
own_reason (attributes true) kinds.Word bytes = inr refl
own_reason (value depth) kinds.ParenOpen bytes = inr refl
own_reason (values depth) kinds.ParenOpen bytes = inr refl
own_reason symbol kind bytes = inl refl

-- an unsupported token
symbol_unsupported : (symbol : Symbol) (after : List Symbol) (l : Lexeme) → l.token.kind ≡ own_kind symbol → refusal_at symbol (own_kind symbol) l.bytes ≡ Unsupported → Function (within (symbol ∷ after)) l ⊎ Model (within (symbol ∷ after)) l
symbol_unsupported node_word after l is e = inl (record {
  node = lexeme kinds.Word (codes "node");
  is = record { kind = refl; bytes = refl };
  stands = (after, refl);
  word = record { kind = is; bytes = word_is _ _ (when_true _ e) };
})
symbol_unsupported (attribute_name true) after l is e = inr (record {
  others = λ other name free. (after, rw (name.kind, others_stand true other name free) refl);
  word = is_model_name-true l is (when_true _ e);
})
symbol_unsupported (attributes true) after l is e = inr (record {
  others = λ other name free. (mark kinds.Equals ∷ value 32 ∷ mark kinds.Semicolon ∷ attributes true ∷ after, rw (name.kind, others_stand true other name free) refl);
  word = is_model_name-true l is (when_true _ e);
})
symbol_unsupported symbol after l is e = cc

pub unsupported : (place : Place) (l : Lexeme) → refusal place l ≡ Unsupported → Foreign place l ⊎ Function place l ⊎ Model place l
unsupported start l e = let t = block_unsupported l.token.kind l.bytes e in inl (record { whole = ([], refl); word = foreign_word l t.0 t.1 })
unsupported (within []) l e = let t = block_unsupported l.token.kind l.bytes e in inl (record { whole = ([], refl); word = foreign_word l t.0 t.1 })
unsupported (within (symbol ∷ after)) l e = inr (elim (own_reason symbol l.token.kind l.bytes) [
  | inl other ↦ cc
  | inr own ↦ symbol_unsupported symbol after l own (subst (λ kind. refusal_at symbol kind l.bytes ≡ Unsupported) own e)
])

leaf_next : (depth : ℕ) (kind : TokenKind) (bytes : List ℕ) → is_leaf kind ≡ true → (next (value depth) kind bytes ≡ Some []) × (next (values depth) kind bytes ≡ Some (values depth ∷ []))
leaf_next depth kinds.Word bytes e = (refl, refl)
leaf_next depth kinds.Text bytes e = (refl, refl)
leaf_next depth kinds.Number bytes e = (refl, refl)
leaf_next depth kind bytes e = cc

shallow : (test : Bool) → (if test then Unsupported else Unexpected) ≡ TooDeep → ⊥
shallow true e = cc
shallow false e = cc

block_shallow : (kind : TokenKind) (bytes : List ℕ) → block_refusal kind bytes ≡ TooDeep → ⊥
block_shallow kinds.Word bytes e = shallow (is_foreign bytes) e
block_shallow kind bytes e = cc

symbol_deep : (symbol : Symbol) (after : List Symbol) (l : Lexeme) → l.token.kind ≡ own_kind symbol → refusal_at symbol (own_kind symbol) l.bytes ≡ TooDeep → Deep (within (symbol ∷ after)) l
symbol_deep (value depth) after l is e = record {
  leaves = λ leaf kind. (after, ap (option_map (λ symbols. symbols ++ after)) (leaf_next depth leaf.token.kind leaf.bytes kind).0);
  mark = is;
}
symbol_deep (values depth) after l is e = record {
  leaves = λ leaf kind. (values depth ∷ after, ap (option_map (λ symbols. symbols ++ after)) (leaf_next depth leaf.token.kind leaf.bytes kind).1);
  mark = is;
}
symbol_deep node_word after l is e = absurd (shallow _ e)
symbol_deep (attribute_name true) after l is e = absurd (shallow _ e)
symbol_deep (attributes true) after l is e = absurd (shallow _ e)
symbol_deep symbol after l is e = cc

-- a list too deep
pub deep : (place : Place) (l : Lexeme) → refusal place l ≡ TooDeep → Deep place l
deep start l e = absurd (block_shallow l.token.kind l.bytes e)
deep (within []) l e = absurd (block_shallow l.token.kind l.bytes e)
deep (within (symbol ∷ after)) l e = elim (own_reason symbol l.token.kind l.bytes) [
  | inl other ↦ cc
  | inr own ↦ symbol_deep symbol after l own (subst (λ kind. refusal_at symbol kind l.bytes ≡ TooDeep) own e)
]

known : (test : Bool) → (if test then Unsupported else Unexpected) ≡ NoMemory → ⊥
known true e = cc
known false e = cc

block_known : (kind : TokenKind) (bytes : List ℕ) → block_refusal kind bytes ≡ NoMemory → ⊥
block_known kinds.Word bytes e = known (is_foreign bytes) e
block_known kind bytes e = cc

symbol_known : (symbol : Symbol) (bytes : List ℕ) → refusal_at symbol (own_kind symbol) bytes ≡ NoMemory → ⊥
symbol_known node_word bytes e = known _ e
symbol_known (attribute_name true) bytes e = known _ e
symbol_known (attributes true) bytes e = known _ e
symbol_known symbol bytes e = cc

-- memory has no part in it
pub known_refusal : (place : Place) (l : Lexeme) → refusal place l ≡ NoMemory → ⊥
known_refusal start l e = block_known l.token.kind l.bytes e
known_refusal (within []) l e = block_known l.token.kind l.bytes e
known_refusal (within (symbol ∷ after)) l e = elim (own_reason symbol l.token.kind l.bytes) [
  | inl other ↦ cc
  | inr own ↦ symbol_known symbol l.bytes (subst (λ kind. refusal_at symbol kind l.bytes ≡ NoMemory) own e)
]

-- an unexpected token is none of these
block_word_refusal : (kind : TokenKind) (bytes word : List ℕ) → kind ≡ kinds.Word → bytes ≡ word → block_refusal kind bytes ≡ Unexpected → block_refusal kinds.Word word ≡ Unexpected
block_word_refusal kind bytes word is same e =
    subst (λ b. block_refusal kinds.Word b ≡ Unexpected) same (subst (λ k. block_refusal k bytes ≡ Unexpected) is e)

foreign_block : (l : Lexeme) → IsForeignWord l → block_refusal l.token.kind l.bytes ≡ Unexpected → ⊥
foreign_block l h e = elim h.is [
  | inl w ↦ (let f = block_word_refusal l.token.kind l.bytes (codes "continuous") w.kind w.bytes e in cc)
  | inr (inl w) ↦ (let f = block_word_refusal l.token.kind l.bytes (codes "function") w.kind w.bytes e in cc)
  | inr (inr (inl w)) ↦ (let f = block_word_refusal l.token.kind l.bytes (codes "class") w.kind w.bytes e in cc)
  | inr (inr (inr w)) ↦ (let f = block_word_refusal l.token.kind l.bytes (codes "instance") w.kind w.bytes e in cc)
]

pub not_foreign : (place : Place) (l : Lexeme) → refusal place l ≡ Unexpected → Foreign place l → ⊥
not_foreign start l e h = foreign_block l h.word e
not_foreign (within []) l e h = foreign_block l h.word e
not_foreign (within (symbol ∷ after)) l e h = symbol_some symbol h.whole.0 h.whole.1

-- what is still to come behind a word in the symbol's place, and then these, if it may stand there
abbrev onward : Symbol → List Symbol → List ℕ → Option (List Symbol)
onward symbol after word = option_map (λ symbols. symbols ++ after) (next symbol kinds.Word word)

word_step : (symbol : Symbol) (after : List Symbol) (l : Lexeme) (word : List ℕ) → l.token.kind ≡ kinds.Word → l.bytes ≡ word → step (within (symbol ∷ after)) l ≡ onward symbol after word
word_step symbol after l word kind same =
    ap (λ k. option_map (λ symbols. symbols ++ after) (next symbol k l.bytes)) kind ∙ ap (λ b. onward symbol after b) same

word_refusal : (symbol : Symbol) (l : Lexeme) (word : List ℕ) → l.token.kind ≡ kinds.Word → l.bytes ≡ word → refusal_at symbol l.token.kind l.bytes ≡ refusal_at symbol kinds.Word word
word_refusal symbol l word kind same =
    ap (λ k. refusal_at symbol k l.bytes) kind ∙ ap (λ b. refusal_at symbol kinds.Word b) same

-- a place that a name may take is none of a keyword alone
function_symbol : (symbol : Symbol) (after symbols : List Symbol) → onward symbol after (codes "node") ≡ Some symbols → onward symbol after (codes "function") ≡ None → refusal_at symbol kinds.Word (codes "function") ≡ Unexpected → ⊥
function_symbol node_word after symbols stands e u = cc
function_symbol (attribute_name false) after symbols stands e u = cc
function_symbol (attribute_name true) after symbols stands e u = cc
function_symbol (attributes false) after symbols stands e u = cc
function_symbol (attributes true) after symbols stands e u = cc
function_symbol symbol after symbols stands e u = cc

pub not_function : (place : Place) (l : Lexeme) → step place l ≡ None → refusal place l ≡ Unexpected → Function place l → ⊥
not_function start l e u h = let g = block_word_refusal l.token.kind l.bytes (codes "function") h.word.kind h.word.bytes u in cc
not_function (within []) l e u h = let g = block_word_refusal l.token.kind l.bytes (codes "function") h.word.kind h.word.bytes u in cc
not_function (within (symbol ∷ after)) l e u h =
    function_symbol symbol after h.stands.0
    (sym (word_step symbol after h.node (codes "node") h.is.kind h.is.bytes) ∙ h.stands.1)
    (sym (word_step symbol after l (codes "function") h.word.kind h.word.bytes) ∙ e)
    (sym (word_refusal symbol l (codes "function") h.word.kind h.word.bytes) ∙ u)

-- a name that no keyword is
plain : Lexeme
plain = lexeme kinds.Word (codes "a")

plain_name : IsName plain
unfolding plain
plain_name = record { kind = refl; unsigned = refl }

plain_free : IsModelName plain → ⊥
unfolding plain
plain_free h = let e = is_model_name-is plain h in cc

pub record Named (l : Lexeme) : Type 0 where
  pub kind : l.token.kind ≡ kinds.Word
  pub name : is_name l.bytes ≡ true
  pub model : is_model_name l.bytes ≡ true

model_named : (l : Lexeme) → IsModelName l → Named l
model_named l h = elim h.is [
  | inl w ↦ record { kind = w.kind; name = rw w.bytes refl; model = rw w.bytes refl }
  | inr w ↦ record { kind = w.kind; name = rw w.bytes refl; model = rw w.bytes refl }
]

model_symbol : (symbol : Symbol) (after symbols : List Symbol) (bytes : List ℕ) → is_name bytes ≡ true → is_model_name bytes ≡ true → onward symbol after (codes "a") ≡ Some symbols → onward symbol after bytes ≡ None → refusal_at symbol kinds.Word bytes ≡ Unexpected → ⊥
model_symbol name after symbols bytes named model stands e u = let g = rw named at e in cc
model_symbol (attribute_name false) after symbols bytes named model stands e u = let g = rw named at e in cc
model_symbol (attribute_name true) after symbols bytes named model stands e u = let g = rw model at u in cc
model_symbol (attributes false) after symbols bytes named model stands e u = let g = rw named at e in cc
model_symbol (attributes true) after symbols bytes named model stands e u = let g = rw model at u in cc
model_symbol names after symbols bytes named model stands e u = let g = rw named at e in cc
model_symbol symbol after symbols bytes named model stands e u = cc

pub not_model : (place : Place) (l : Lexeme) → step place l ≡ None → refusal place l ≡ Unexpected → Model place l → ⊥
unfolding plain
not_model start l e u h = let f = (h.others plain plain_name plain_free).1 in cc
not_model (within []) l e u h = let f = (h.others plain plain_name plain_free).1 in cc
not_model (within (symbol ∷ after)) l e u h =
    let named = model_named l h.word in
    let stands = h.others plain plain_name plain_free in
    model_symbol symbol after stands.0 l.bytes named.name named.model
    stands.1
    (sym (word_step symbol after l l.bytes named.kind refl) ∙ e)
    (sym (word_refusal symbol l l.bytes named.kind refl) ∙ u)

deep_symbol : (symbol : Symbol) (after : List Symbol) (l : Lexeme) → IsMark kinds.ParenOpen l → Stands (within (symbol ∷ after)) (lexeme kinds.Text []) → Stands (within (symbol ∷ after)) (lexeme kinds.Number []) → refusal_at symbol l.token.kind l.bytes ≡ Unexpected → ⊥
deep_symbol (mark kinds.Text) after l is text number u = let f = number.1 in cc
deep_symbol (mark kind) after l is text number u = let f = text.1 in cc
deep_symbol name after l is text number u = let f = text.1 in cc
deep_symbol node_word after l is text number u = let f = text.1 in cc
deep_symbol (attribute_name potential) after l is text number u = let f = text.1 in cc
deep_symbol (attributes potential) after l is text number u = let f = text.1 in cc
deep_symbol (value depth) after l is text number u = let g = rw is at u in cc
deep_symbol (values depth) after l is text number u = let g = rw is at u in cc
deep_symbol given after l is text number u = let f = text.1 in cc
deep_symbol names after l is text number u = let f = text.1 in cc

pub not_deep : (place : Place) (l : Lexeme) → refusal place l ≡ Unexpected → Deep place l → ⊥
not_deep start l u h = let f = (h.leaves (lexeme kinds.Text []) refl).1 in cc
not_deep (within []) l u h = let f = (h.leaves (lexeme kinds.Text []) refl).1 in cc
not_deep (within (symbol ∷ after)) l u h = deep_symbol symbol after l h.mark (h.leaves (lexeme kinds.Text []) refl) (h.leaves (lexeme kinds.Number []) refl) u
