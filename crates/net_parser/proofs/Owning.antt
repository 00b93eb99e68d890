-- A tree of a text's tokens holds tokens of the text.
use Rattle.std.proofs.Common.{◌≡◌, ◌-◌, ℕ, Bool, true, false, List, [], ◌∷◌, ◌++◌, inl, inr, refl, subst, length, arith}
use Rattle.std.specs.Prelude.{All, codes}
use Rattle.std.specs.List.{AllByRecursion}
use Rattle.std.proofs.lemmas.List.Elements.{All-from_recursion, recursion_from_All}
use Rattle.net_lexer.specs.Token.{IsTokenOf}
use Rattle.net_lexer.specs.declared.tokens.Token.{Token}
use Rattle.net_lexer.specs.declared.tokens.TokenKind.TheVariants as kinds
use Rattle.net_parser.specs.declared.trees.BlockKind.{BlockKind}
use Rattle.net_parser.specs.declared.trees.BlockKind.TheVariants.{Net, Node, Decision, Utility, Potential}
use Rattle.net_parser.specs.Trees.{ValueTree, ValueTrees, leaf, list, none, more, AttributeTree, BlockTree}
use Rattle.net_parser.specs.Lexemes.{Lexeme, lexeme_of, lexemes, IsMark, IsWord, IsName, is_leaf}
use Rattle.net_parser.specs.Grammar.{Rule, One, Empty, Either, Each, Word, Name, Value, Values, AttributeName, Attribute, Body, NodeHead, Head, Block, Text, Spells, Given, is_potential}
use Rattle.net_parser.specs.Owned.{leaves, all_leaves, IsLeafOf, IsNameOf, IsAttributeOf, HasNames, IsBlockOf}

append_all : {A : Type 0} (P : A → Type 0) (xs ys : List A) → AllByRecursion P xs → AllByRecursion P ys → AllByRecursion P (xs ++ ys)
append_all P [] ys h k = k
append_all P (x ∷ xs) ys h k = (h.0, append_all P xs ys h.1 k)

module _ (text : List ℕ) where
  record IsOwn (l : Lexeme) : Type 0 where
    own : IsTokenOf text l.token
    is : l ≡ lexeme_of text l.token

  abbrev Own : List Lexeme → Type 0
  Own ls = AllByRecursion IsOwn ls

  own_lexemes : (tokens : List Token) → AllByRecursion (IsTokenOf text) tokens → Own (lexemes text tokens)
  own_lexemes [] h = tt
  own_lexemes (token ∷ tokens) h = (record { own = h.0; is = refl }, own_lexemes tokens h.1)

  one_own : (P : Lexeme → Type 0) (a b : List Lexeme) → One P a b → Own a → (l : Lexeme) × P l × IsOwn l × Own b
  one_own P [] b h own = absurd h
  one_own P (l ∷ ls) b h own = (l, h.0, own.0, subst Own h.1 own.1)

  behind : (P : Lexeme → Type 0) (a b : List Lexeme) → One P a b → Own a → Own b
  behind P a b h own = (one_own P a b h own).3

  named : (l : Lexeme) (t : Token) → IsName l → l.token ≡ t → IsOwn l → IsNameOf text t
  named l t name is own = subst (IsNameOf text) is (record { own = own.own; name = subst IsName own.is name })

  name_own : (t : Token) (a b : List Lexeme) → Name t a b → Own a → IsNameOf text t × Own b
  name_own t a b h own = let o = one_own _ a b h own in (named o.0 t o.1.0 o.1.1 o.2, o.3)

  attribute_name_own : (potential : Bool) (t : Token) (a b : List Lexeme) → AttributeName potential t a b → Own a → IsNameOf text t × Own b
  attribute_name_own false t a b h own = name_own t a b h own
  attribute_name_own true t a b h own = let o = one_own _ a b h own in (named o.0 t o.1.0 o.1.1 o.2, o.3)

  leaf_own : (l : Lexeme) (t : Token) → is_leaf l.token.kind ≡ true → l.token ≡ t → IsOwn l → IsLeafOf text t
  leaf_own l t kind is own = subst (IsLeafOf text) is (record { own = own.own; leaf = kind })

  mutual
    value_own : (depth : ℕ) (v : ValueTree) (a b : List Lexeme) → Value depth v a b → Own a → AllByRecursion (IsLeafOf text) (leaves v) × Own b
    value_own depth (leaf t) a b h own = let o = one_own _ a b h own in ((leaf_own o.0 t o.1.0 o.1.1 o.2, tt), o.3)
    value_own depth (list vs) a b h own =
        let inner = values_own (depth - 1) vs h.1.0 h.1.2.0 h.1.2.1 (behind (IsMark kinds.ParenOpen) a h.1.0 h.1.1 own) in
        (inner.0, behind (IsMark kinds.ParenClose) h.1.2.0 b h.1.2.2 inner.1)

    values_own : (depth : ℕ) (vs : ValueTrees) (a b : List Lexeme) → Values depth vs a b → Own a → AllByRecursion (IsLeafOf text) (all_leaves vs) × Own b
    values_own depth none a b h own = (tt, subst Own h own)
    values_own depth (more v vs) a b h own =
        let first = value_own depth v a h.0 h.1 own in
        let rest = values_own depth vs h.0 b h.2 first.1 in
        (append_all (IsLeafOf text) (leaves v) (all_leaves vs) first.0 rest.0, rest.1)

  attribute_own : (potential : Bool) (x : AttributeTree) (a b : List Lexeme) → Attribute potential x a b → Own a → IsAttributeOf text x × Own b
  attribute_own potential x a b h own =
      let name = attribute_name_own potential x.name a h.0 h.1 own in
      let equals = h.2 in
      let value = value_own 32 x.value equals.0 equals.2.0 equals.2.1 (behind (IsMark kinds.Equals) h.0 equals.0 equals.1 name.1) in
      (record { name = name.0; value = All-from_recursion (IsLeafOf text) (leaves x.value) value.0 }, behind (IsMark kinds.Semicolon) equals.2.0 b equals.2.2 value.1)

  each_own : {A : Type 0} (P : A → Rule) (Q : A → Type 0) → ((x : A) (a b : List Lexeme) → P x a b → Own a → Q x × Own b) → (xs : List A) (a b : List Lexeme) → Each P xs a b → Own a → AllByRecursion Q xs × Own b
  each_own P Q one [] a b h own = (tt, subst Own h own)
  each_own P Q one (x ∷ xs) a b h own =
      let first = one x a h.0 h.1 own in
      let rest = each_own P Q one xs h.0 b h.2 first.1 in
      ((first.0, rest.0), rest.1)

  body_own : (potential : Bool) (xs : List AttributeTree) (a b : List Lexeme) → Body potential xs a b → Own a → All (IsAttributeOf text) xs × Own b
  body_own potential xs a b h own =
      let inner = h.2 in
      let each = each_own (Attribute potential) (IsAttributeOf text) (attribute_own potential) xs h.0 inner.0 inner.1 (behind (IsMark kinds.BraceOpen) a h.0 h.1 own) in
      (All-from_recursion (IsAttributeOf text) xs each.0, behind (IsMark kinds.BraceClose) inner.0 b inner.2 each.1)

  given_own : (xs : List Token) (a b : List Lexeme) → Given xs a b → Own a → AllByRecursion (IsNameOf text) xs × Own b
  given_own [] a b (inl h) own = (tt, subst Own h own)
  given_own (x ∷ xs) a b (inl h) own = absurd h
  given_own xs a b (inr h) own = each_own Name (IsNameOf text) name_own xs h.0 b h.2 (behind (IsMark kinds.Bar) a h.0 h.1 own)

  node_own : (word : List ℕ) (t : Token) (a b : List Lexeme) → NodeHead word t a b → Own a → AllByRecursion (IsNameOf text) (t ∷ []) × Own b
  node_own word t a b h own =
      let name = name_own t h.2.0 b h.2.2 (behind (IsWord word) h.0 h.2.0 h.2.1 (optional h.1)) in
      ((name.0, tt), name.1)
    where
      optional : Either Empty (Word (codes "discrete")) a h.0 → Own h.0
      optional (inl e) = subst Own e own
      optional (inr d) = behind (IsWord (codes "discrete")) a h.0 d own

  abbrev Heads : BlockKind → List Token → List Lexeme → Type 0
  Heads kind xs b = HasNames kind (length xs) × AllByRecursion (IsNameOf text) xs × Own b

  head_own : (first : Bool) (kind : BlockKind) (xs : List Token) (a b : List Lexeme) → Head first kind xs a b → Own a → Heads kind xs b
  head_own first Node (t ∷ []) a b h own = let n = node_own (codes "node") t a b h own in (refl, n.0, n.1)
  head_own first Decision (t ∷ []) a b h own = let n = node_own (codes "decision") t a b h own in (refl, n.0, n.1)
  head_own first Utility (t ∷ []) a b h own = let n = node_own (codes "utility") t a b h own in (refl, n.0, n.1)
  head_own first Potential (t ∷ all) a b h own =
      let paren = h.2 in
      let title = paren.2 in
      let rest = title.2 in
      let name = name_own t paren.0 title.0 title.1 (behind (IsMark kinds.ParenOpen) h.0 paren.0 paren.1 (behind (IsWord (codes "potential")) a h.0 h.1 own)) in
      let others = given_own all title.0 rest.0 rest.1 name.1 in
      (omega arith, (name.0, others.0), behind (IsMark kinds.ParenClose) rest.0 b rest.2 others.1)
  head_own true Net [] a b h own = (refl, tt, behind (IsWord (codes "net")) a b h own)
  head_own first kind xs a b h own = absurd h

  block_own : (first : Bool) (x : BlockTree) (a b : List Lexeme) → Block first x a b → Own a → IsBlockOf text x × Own b
  block_own first x a b h own =
      let head = head_own first x.kind x.names a h.0 h.1 own in
      let body = body_own (is_potential x.kind) x.attributes h.0 b h.2 head.2 in
      (record { names = All-from_recursion (IsNameOf text) x.names head.1; count = head.0; attributes = body.0 }, body.1)

  text_own : (xs : List BlockTree) (a : List Lexeme) → Text xs a [] → Own a → AllByRecursion (IsBlockOf text) xs
  text_own [] a h own = tt
  text_own (x ∷ xs) a h own =
      let first = block_own true x a h.0 h.1 own in
      (first.0, (each_own (Block false) (IsBlockOf text) (block_own false) xs h.0 [] h.2 first.1).0)

  pub blocks_own : (tokens : List Token) (tree : List BlockTree) → All (IsTokenOf text) tokens → Spells tree (lexemes text tokens) → All (IsBlockOf text) tree
  blocks_own tokens tree all spells = All-from_recursion (IsBlockOf text) tree (text_own tree (lexemes text tokens) spells (own_lexemes tokens (recursion_from_All (IsTokenOf text) tokens all)))
