-- One token further: what may come next is what the rules allow.
use Rattle.std.proofs.Common.{◌≡◌, ◌-◌, ℕ, Bool, true, false, List, [], ◌∷◌, inl, inr, refl, sym, subst, nat_lt}
use Rattle.std.specs.Prelude.{Option, Some, None, is_some, if◌then◌else◌}
use Rattle.std.proofs.lemmas.Bool.{ltb-true, lt-ltb, false_from_ne_true}
use Rattle.net_lexer.specs.Token.{is_name}
use Rattle.net_lexer.specs.declared.tokens.Token.{Token}
use Rattle.net_lexer.specs.declared.tokens.TokenKind.{TokenKind}
use Rattle.net_lexer.specs.declared.tokens.TokenKind.TheVariants as kinds
use Rattle.net_parser.specs.Trees.{ValueTree, ValueTrees, leaf, list, none, more, AttributeTree}
use Rattle.net_parser.specs.Lexemes.{Lexeme, is_leaf}
use Rattle.net_parser.specs.Grammar.{Rule, Empty, ◌▹◌, Each, Mark, Word, Name, Value, Values, AttributeName, Attribute, Given, IsModelName}
use Rattle.net_parser.specs.Reading.{Symbol, mark, name, node_word, attribute_name, attributes, value, values, given, names, next, node_kind, may_name, is_model_name, same_kind}
use Rattle.net_parser.proofs.Telling.{same_kind-refl, same_kind-true, is_model_name-true, is_model_name-is, may_name-true, may_name-free, may_name-other}

-- what may stand in the place of a symbol
abbrev pub Lang : Symbol → Rule
Lang (mark kind) = Mark kind
Lang name = λ from to. (t : Token) × Name t from to
Lang node_word = λ from to. (word : List ℕ) × (is_some (node_kind word) ≡ true) × Word word from to
Lang (attribute_name potential) = λ from to. (t : Token) × AttributeName potential t from to
Lang (attributes potential) = λ from to. (all : List AttributeTree) × (Each (Attribute potential) all ▹ Mark kinds.BraceClose) from to
Lang (value depth) = λ from to. (v : ValueTree) × Value depth v from to
Lang (values depth) = λ from to. (vs : ValueTrees) × (Values depth vs ▹ Mark kinds.ParenClose) from to
Lang given = λ from to. (all : List Token) × (Given all ▹ Mark kinds.ParenClose) from to
Lang names = λ from to. (all : List Token) × (Each Name all ▹ Mark kinds.ParenClose) from to

abbrev pub Langs : List Symbol → Rule
Langs [] = Empty
Langs (x ∷ []) = Lang x
Langs (x ∷ y ∷ symbols) = Lang x ▹ Langs (y ∷ symbols)

-- what may come behind the token, if it may stand there
abbrev pub Onward : Option (List Symbol) → Rule
Onward None from to = ⊥
Onward (Some symbols) from to = Langs symbols from to

when : (test : Bool) (symbols : List Symbol) (a b : List Lexeme) → Onward (if test then Some symbols else None) a b → (test ≡ true) × Langs symbols a b
when true symbols a b h = (refl, h)
when false symbols a b h = absurd h

pub named : (potential : Bool) (l : Lexeme) (a : List Lexeme) → l.token.kind ≡ kinds.Word → may_name potential l.bytes ≡ true → AttributeName potential l.token (l ∷ a) a
named false l a kind e = ((record { kind = kind; unsigned = (may_name-true false l.bytes e).0 }, refl), refl)
named true l a kind e =
    let t = may_name-true true l.bytes e in
    let other : IsModelName l → ⊥ = λ is. let yes = is_model_name-is l is in let no = t.1 refl in cc in
    ((record { kind = kind; unsigned = t.0 }, refl, other), refl)

leaf_at : (depth : ℕ) (kind : TokenKind) (l : Lexeme) (a b : List Lexeme) → l.token.kind ≡ kind → is_leaf kind ≡ true → a ≡ b → Value depth (leaf l.token) (l ∷ a) b
leaf_at depth kind l a b e is r = ((rw e is, refl), r)

list_at : (depth : ℕ) (l : Lexeme) (a b : List Lexeme) → l.token.kind ≡ kinds.ParenOpen → nat_lt 0 depth ≡ true → Lang (values (depth - 1)) a b → (vs : ValueTrees) × Value depth (list vs) (l ∷ a) b
list_at depth l a b e t h = (h.0, (ltb-true 0 depth t, (a, (e, refl), h.1)))

-- what may come next makes up what the symbol stands for
pub forth : (symbol : Symbol) (kind : TokenKind) (l : Lexeme) (a b : List Lexeme) → l.token.kind ≡ kind → Onward (next symbol kind l.bytes) a b → Lang symbol (l ∷ a) b
forth (mark kind) seen l a b e h = let t = when (same_kind kind seen) [] a b h in (rw (same_kind-true kind seen t.0) e, t.1)
forth name kinds.Word l a b e h = let t = when (is_name l.bytes) [] a b h in (l.token, ((record { kind = e; unsigned = t.0 }, refl), t.1))
forth node_word kinds.Word l a b e h = let t = when (is_some (node_kind l.bytes)) [] a b h in (l.bytes, t.0, (record { kind = e; bytes = refl }, t.1))
forth (attribute_name potential) kinds.Word l a b e h =
    let t = when (may_name potential l.bytes) [] a b h in
    (l.token, subst (λ c. AttributeName potential l.token (l ∷ a) c) t.1 (named potential l a e t.0))
forth (attributes potential) kinds.BraceClose l a b e h = ([], (l ∷ a, refl, (e, h)))
forth (attributes potential) kinds.Word l a b e h =
    let t = when (may_name potential l.bytes) _ a b h in
    let equals = t.1 in
    let v = equals.2 in
    let semicolon = v.2 in
    let others = semicolon.2 in
    let x : AttributeTree = record { name = l.token; value = v.1.0 } in
    (x ∷ others.0, (others.1.0, (semicolon.0, (a, named potential l a e t.0, (equals.0, equals.1, (v.0, v.1.1, semicolon.1))), others.1.1), others.1.2))
forth (value depth) kinds.Word l a b e h = (leaf l.token, leaf_at depth kinds.Word l a b e refl h)
forth (value depth) kinds.Text l a b e h = (leaf l.token, leaf_at depth kinds.Text l a b e refl h)
forth (value depth) kinds.Number l a b e h = (leaf l.token, leaf_at depth kinds.Number l a b e refl h)
forth (value depth) kinds.ParenOpen l a b e h =
    let t = when (nat_lt 0 depth) _ a b h in
    let v = list_at depth l a b e t.0 t.1 in
    (list v.0, v.1)
forth (values depth) kinds.ParenClose l a b e h = (none, (l ∷ a, refl, (e, h)))
forth (values depth) kinds.Word l a b e h = (more (leaf l.token) h.0, (h.1.0, (a, leaf_at depth kinds.Word l a a e refl refl, h.1.1), h.1.2))
forth (values depth) kinds.Text l a b e h = (more (leaf l.token) h.0, (h.1.0, (a, leaf_at depth kinds.Text l a a e refl refl, h.1.1), h.1.2))
forth (values depth) kinds.Number l a b e h = (more (leaf l.token) h.0, (h.1.0, (a, leaf_at depth kinds.Number l a a e refl refl, h.1.1), h.1.2))
forth (values depth) kinds.ParenOpen l a b e h =
    let t = when (nat_lt 0 depth) _ a b h in
    let v = list_at depth l a t.1.0 e t.0 t.1.1 in
    let others = t.1.2 in
    (more (list v.0) others.0, (others.1.0, (t.1.0, v.1, others.1.1), others.1.2))
forth given kinds.ParenClose l a b e h = ([], (l ∷ a, inl refl, (e, h)))
forth given kinds.Bar l a b e h = (h.0, (h.1.0, inr (a, (e, refl), h.1.1), h.1.2))
forth names kinds.ParenClose l a b e h = ([], (l ∷ a, refl, (e, h)))
forth names kinds.Word l a b e h =
    let t = when (is_name l.bytes) _ a b h in
    (l.token ∷ t.1.0, (t.1.1.0, (a, ((record { kind = e; unsigned = t.0 }, refl), refl), t.1.1.1), t.1.1.2))
forth symbol kind l a b e h = absurd h

-- what the symbol stands for begins with what may come next
named_back : (potential : Bool) (t : Token) (l : Lexeme) (a n : List Lexeme) → AttributeName potential t (l ∷ a) n → (l.token.kind ≡ kinds.Word) × (may_name potential l.bytes ≡ true) × (l.token ≡ t) × (a ≡ n)
named_back false t l a n h = (h.0.0.kind, may_name-free l.bytes h.0.0.unsigned, h.0.1, h.1)
named_back true t l a n h =
    let other : is_model_name l.bytes ≡ false = false_from_ne_true _ (λ yes. h.0.2 (is_model_name-true l h.0.0.kind yes)) in
    (h.0.0.kind, may_name-other l.bytes h.0.0.unsigned other, h.0.1, h.1)

-- a rule where it begins at equal tokens
pub begun : (P : Rule) {x y b : List Lexeme} → x ≡ y → P y b → P x b
begun P {x} {y} {b} e h = subst (λ ls. P ls b) (sym e) h

attributes_back : (potential : Bool) (l : Lexeme) (a b : List Lexeme) (all : List AttributeTree) → (Each (Attribute potential) all ▹ Mark kinds.BraceClose) (l ∷ a) b → Onward (next (attributes potential) l.token.kind l.bytes) a b
attributes_back potential l a b [] h =
    let close : Mark kinds.BraceClose (l ∷ a) b = begun (Mark kinds.BraceClose) h.1 h.2 in
    rw close.0 close.1
attributes_back potential l a b (x ∷ all) h =
    let attribute = h.1.1 in
    let begins = named_back potential x.name l a attribute.0 attribute.1 in
    let equals = attribute.2 in
    rw (begins.0, begins.1) (equals.0, begun (Mark kinds.Equals) begins.3 equals.1, (equals.2.0, (x.value, equals.2.1), (h.1.0, equals.2.2, (all, (h.0, h.1.2, h.2)))))

leaf_back : (depth : ℕ) (kind : TokenKind) (bytes : List ℕ) (a b : List Lexeme) → is_leaf kind ≡ true → a ≡ b → Onward (next (value depth) kind bytes) a b
leaf_back depth kinds.Word bytes a b e h = h
leaf_back depth kinds.Text bytes a b e h = h
leaf_back depth kinds.Number bytes a b e h = h
leaf_back depth kind bytes a b e h = cc

list_back : (depth : ℕ) (l : Lexeme) (a b : List Lexeme) (vs : ValueTrees) → Value depth (list vs) (l ∷ a) b → (l.token.kind ≡ kinds.ParenOpen) × (nat_lt 0 depth ≡ true) × Lang (values (depth - 1)) a b
list_back depth l a b vs h =
    let open_at = h.1.1 in
    (open_at.0, lt-ltb 0 depth h.0, (vs, (h.1.2.0, begun (Values (depth - 1) vs) open_at.1 h.1.2.1, h.1.2.2)))

value_back : (depth : ℕ) (l : Lexeme) (a b : List Lexeme) (v : ValueTree) → Value depth v (l ∷ a) b → Onward (next (value depth) l.token.kind l.bytes) a b
value_back depth l a b (leaf t) h = leaf_back depth l.token.kind l.bytes a b h.0.0 h.1
value_back depth l a b (list vs) h = let t = list_back depth l a b vs h in rw (t.0, t.1) t.2

leaf_first : (depth : ℕ) (kind : TokenKind) (bytes : List ℕ) (a b : List Lexeme) → is_leaf kind ≡ true → Lang (values depth) a b → Onward (next (values depth) kind bytes) a b
leaf_first depth kinds.Word bytes a b e h = h
leaf_first depth kinds.Text bytes a b e h = h
leaf_first depth kinds.Number bytes a b e h = h
leaf_first depth kind bytes a b e h = cc

values_back : (depth : ℕ) (l : Lexeme) (a b : List Lexeme) (vs : ValueTrees) → (Values depth vs ▹ Mark kinds.ParenClose) (l ∷ a) b → Onward (next (values depth) l.token.kind l.bytes) a b
values_back depth l a b none h =
    let close : Mark kinds.ParenClose (l ∷ a) b = begun (Mark kinds.ParenClose) h.1 h.2 in
    rw close.0 close.1
values_back depth l a b (more (leaf t) vs) h =
    let first = h.1.1 in
    leaf_first depth l.token.kind l.bytes a b first.0.0 (vs, (h.0, begun (Values depth vs) first.1 h.1.2, h.2))
values_back depth l a b (more (list inner) vs) h =
    let t = list_back depth l a h.1.0 inner h.1.1 in
    rw (t.0, t.1) (h.1.0, t.2, (vs, (h.0, h.1.2, h.2)))

given_back : (l : Lexeme) (a m b : List Lexeme) (all : List Token) → Given all (l ∷ a) m → Mark kinds.ParenClose m b → Onward (next given l.token.kind l.bytes) a b
given_back l a m b [] (inl e) h =
    let close : Mark kinds.ParenClose (l ∷ a) b = begun (Mark kinds.ParenClose) e h in
    rw close.0 close.1
given_back l a m b (t ∷ all) (inl e) h = absurd e
given_back l a m b all (inr g) h = rw g.1.0 (all, (m, begun (Each Name all) g.1.1 g.2, h))

names_back : (l : Lexeme) (a b : List Lexeme) (all : List Token) → (Each Name all ▹ Mark kinds.ParenClose) (l ∷ a) b → Onward (next names l.token.kind l.bytes) a b
names_back l a b [] h =
    let close : Mark kinds.ParenClose (l ∷ a) b = begun (Mark kinds.ParenClose) h.1 h.2 in
    rw close.0 close.1
names_back l a b (t ∷ all) h =
    let first = h.1.1 in
    rw (first.0.0.kind, first.0.0.unsigned) (all, (h.0, begun (Each Name all) first.1 h.1.2, h.2))

pub back : (symbol : Symbol) (l : Lexeme) (a b : List Lexeme) → Lang symbol (l ∷ a) b → Onward (next symbol l.token.kind l.bytes) a b
back (mark kind) l a b h = rw (h.0, same_kind-refl kind) h.1
back name l a b h = rw (h.1.0.0.kind, h.1.0.0.unsigned) h.1.1
back node_word l a b h = rw (h.2.0.kind, h.2.0.bytes, h.1) h.2.1
back (attribute_name potential) l a b h = let t = named_back potential h.0 l a b h.1 in rw (t.0, t.1) t.3
back (attributes potential) l a b h = attributes_back potential l a b h.0 h.1
back (value depth) l a b h = value_back depth l a b h.0 h.1
back (values depth) l a b h = values_back depth l a b h.0 h.1
back given l a b h = given_back l a h.1.0 b h.0 h.1.1 h.1.2
back names l a b h = names_back l a b h.0 h.1
