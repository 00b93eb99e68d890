-- Tokens spell one tree at most.
use Rattle.std.proofs.Common.{◌≡◌, ◌-◌, ℕ, Bool, true, false, List, [], ◌∷◌, ◌⊎◌, inl, inr, refl, sym, ap, subst, ◌∙◌}
use Rattle.std.specs.Prelude.{codes, Some, None}
use Rattle.std.proofs.lemmas.Option.{same_Some}
use Rattle.net_lexer.specs.declared.tokens.Token.{Token}
use Rattle.net_lexer.specs.declared.tokens.TokenKind.{TokenKind}
use Rattle.net_lexer.specs.declared.tokens.TokenKind.TheVariants as kinds
use Rattle.net_parser.specs.declared.trees.BlockKind.{BlockKind}
use Rattle.net_parser.specs.declared.trees.BlockKind.TheVariants.{Net, Node, Decision, Utility, Potential}
use Rattle.net_parser.specs.Trees.{ValueTree, ValueTrees, leaf, list, none, more, AttributeTree, BlockTree}
use Rattle.net_parser.specs.Lexemes.{Lexeme, IsMark, IsWord, is_leaf}
use Rattle.net_parser.specs.Grammar.{Rule, One, Empty, Either, Each, Mark, Word, Name, Value, Values, AttributeName, Attribute, Body, NodeHead, PotentialHead, Head, Block, Given, is_potential}
use Rattle.net_parser.specs.Laws.{OneTree}
use Rattle.net_parser.specs.Reading.{node_kind}
use Rattle.net_parser.proofs.Moves.{begun}

one_once : (P Q : Lexeme → Type 0) (a b c : List Lexeme) → One P a b → One Q a c → (l : Lexeme) × P l × Q l × (b ≡ c)
one_once P Q [] b c h k = absurd h
one_once P Q (l ∷ ls) b c h k = (l, h.0, k.0, sym h.1 ∙ k.1)

mark_once : (kind : TokenKind) (a b c : List Lexeme) → Mark kind a b → Mark kind a c → b ≡ c
mark_once kind a b c h k = (one_once (IsMark kind) (IsMark kind) a b c h k).3

marks_apart : (kind other : TokenKind) (a b c : List Lexeme) → (kind ≡ other → ⊥) → Mark kind a b → Mark other a c → ⊥
marks_apart kind other a b c apart h k = let o = one_once (IsMark kind) (IsMark other) a b c h k in apart (sym o.1 ∙ o.2)

word_once : (word : List ℕ) (a b c : List Lexeme) → Word word a b → Word word a c → b ≡ c
word_once word a b c h k = (one_once (IsWord word) (IsWord word) a b c h k).3

words_apart : (word other : List ℕ) (a b c : List Lexeme) → (word ≡ other → ⊥) → Word word a b → Word other a c → ⊥
words_apart word other a b c apart h k = let o = one_once (IsWord word) (IsWord other) a b c h k in apart (sym o.1.bytes ∙ o.2.bytes)

name_once : (t u : Token) (a b c : List Lexeme) → Name t a b → Name u a c → (t ≡ u) × (b ≡ c)
name_once t u a b c h k = let o = one_once _ _ a b c h k in (sym o.1.1 ∙ o.2.1, o.3)

attribute_name_once : (potential : Bool) (t u : Token) (a b c : List Lexeme) → AttributeName potential t a b → AttributeName potential u a c → (t ≡ u) × (b ≡ c)
attribute_name_once false t u a b c h k = name_once t u a b c h k
attribute_name_once true t u a b c h k = let o = one_once _ _ a b c h k in (sym o.1.1 ∙ o.2.1, o.3)

name_apart : (kind : TokenKind) (t : Token) (a b c : List Lexeme) → (kind ≡ kinds.Word → ⊥) → Name t a b → Mark kind a c → ⊥
name_apart kind t a b c apart h k = let o = one_once _ (IsMark kind) a b c h k in apart (sym o.2 ∙ o.1.0.kind)

leaf_list : (kind : TokenKind) → kind ≡ kinds.ParenOpen → is_leaf kind ≡ true → ⊥
leaf_list kind e is = let f = rw e at is in cc

leaf_close : (kind : TokenKind) → kind ≡ kinds.ParenClose → is_leaf kind ≡ true → ⊥
leaf_close kind e is = let f = rw e at is in cc

-- a value doesn't begin with a closing parenthesis
value_close : (depth : ℕ) (v : ValueTree) (a b c : List Lexeme) → Value depth v a b → Mark kinds.ParenClose a c → ⊥
value_close depth (leaf t) a b c h k = let o = one_once _ (IsMark kinds.ParenClose) a b c h k in leaf_close o.0.token.kind o.2 o.1.0
value_close depth (list vs) a b c h k = marks_apart kinds.ParenOpen kinds.ParenClose a h.1.0 c (λ e. cc) h.1.1 k

mutual
  value_once : (depth : ℕ) (v w : ValueTree) (a b c : List Lexeme) → Value depth v a b → Value depth w a c → (v ≡ w) × (b ≡ c)
  value_once depth (leaf t) (leaf u) a b c h k = let o = one_once _ _ a b c h k in (ap leaf (sym o.1.1 ∙ o.2.1), o.3)
  value_once depth (leaf t) (list ws) a b c h k = let o = one_once _ (IsMark kinds.ParenOpen) a b k.1.0 h k.1.1 in absurd (leaf_list o.0.token.kind o.2 o.1.0)
  value_once depth (list vs) (leaf u) a b c h k = let o = one_once (IsMark kinds.ParenOpen) _ a h.1.0 c h.1.1 k in absurd (leaf_list o.0.token.kind o.1 o.2.0)
  value_once depth (list vs) (list ws) a b c h k =
      let m = mark_once kinds.ParenOpen a h.1.0 k.1.0 h.1.1 k.1.1 in
      let r = values_once (depth - 1) vs ws k.1.0 h.1.2.0 b k.1.2.0 c (begun (Values (depth - 1) vs) (sym m) h.1.2.1) h.1.2.2 k.1.2.1 k.1.2.2 in
      (ap list r.0, r.1)

  values_once : (depth : ℕ) (vs ws : ValueTrees) (a b d c e : List Lexeme) → Values depth vs a b → Mark kinds.ParenClose b d → Values depth ws a c → Mark kinds.ParenClose c e → (vs ≡ ws) × (d ≡ e)
  values_once depth none none a b d c e h k u v = (refl, mark_once kinds.ParenClose a d e (begun (Mark kinds.ParenClose) h k) (begun (Mark kinds.ParenClose) u v))
  values_once depth none (more w ws) a b d c e h k u v = absurd (value_close depth w a u.0 d u.1 (begun (Mark kinds.ParenClose) h k))
  values_once depth (more v' vs) none a b d c e h k u v = absurd (value_close depth v' a h.0 e h.1 (begun (Mark kinds.ParenClose) u v))
  values_once depth (more v' vs) (more w ws) a b d c e h k u v =
      let first = value_once depth v' w a h.0 u.0 h.1 u.1 in
      let r = values_once depth vs ws u.0 b d c e (begun (Values depth vs) (sym first.1) h.2) k u.2 v in
      (rw (first.0, r.0) refl, r.1)

same_attribute : (x y : AttributeTree) → x.name ≡ y.name → x.value ≡ y.value → x ≡ y
same_attribute x y e f =
    let make : Token → ValueTree → AttributeTree = λ n v. record { name = n; value = v } in
    ap (λ n. make n x.value) e ∙ ap (make y.name) f

same_block : (x y : BlockTree) → x.kind ≡ y.kind → x.names ≡ y.names → x.attributes ≡ y.attributes → x ≡ y
same_block x y e f g =
    let make : BlockKind → List Token → List AttributeTree → BlockTree = λ k n a. record { kind = k; names = n; attributes = a } in
    ap (λ k. make k x.names x.attributes) e ∙ ap (λ n. make y.kind n x.attributes) f ∙ ap (make y.kind y.names) g

attribute_once : (potential : Bool) (x y : AttributeTree) (a b c : List Lexeme) → Attribute potential x a b → Attribute potential y a c → (x ≡ y) × (b ≡ c)
attribute_once potential x y a b c h k =
    let name = attribute_name_once potential x.name y.name a h.0 k.0 h.1 k.1 in
    let equals = mark_once kinds.Equals h.0 h.2.0 k.2.0 h.2.1 (begun (Mark kinds.Equals) name.1 k.2.1) in
    let hv = h.2.2 in
    let kv = k.2.2 in
    let value = value_once 32 x.value y.value h.2.0 hv.0 kv.0 hv.1 (begun (Value 32 y.value) equals kv.1) in
    let semicolon = mark_once kinds.Semicolon hv.0 b c hv.2 (begun (Mark kinds.Semicolon) value.1 kv.2) in
    (same_attribute x y name.0 value.0, semicolon)

attribute_close : (potential : Bool) (x : AttributeTree) (a b c : List Lexeme) → Attribute potential x a b → Mark kinds.BraceClose a c → ⊥
attribute_close false x a b c h k = name_apart kinds.BraceClose x.name a h.0 c (λ e. cc) h.1 k
attribute_close true x a b c h k = let o = one_once _ (IsMark kinds.BraceClose) a h.0 c h.1 k in let e = o.1.0.kind in let f = o.2 in cc

-- Each in turn, up to what none of them begins with.
module _ {A : Type 0} (P : A → Rule) (Close : Rule) (once : (x y : A) (a b c : List Lexeme) → P x a b → P y a c → (x ≡ y) × (b ≡ c)) (apart : (x : A) (a b c : List Lexeme) → P x a b → Close a c → ⊥) (close_once : (a b c : List Lexeme) → Close a b → Close a c → b ≡ c) where
  each_once : (xs ys : List A) (a b d c e : List Lexeme) → Each P xs a b → Close b d → Each P ys a c → Close c e → (xs ≡ ys) × (d ≡ e)
  each_once [] [] a b d c e h k u v = (refl, close_once a d e (begun Close h k) (begun Close u v))
  each_once [] (y ∷ ys) a b d c e h k u v = absurd (apart y a u.0 d u.1 (begun Close h k))
  each_once (x ∷ xs) [] a b d c e h k u v = absurd (apart x a h.0 e h.1 (begun Close u v))
  each_once (x ∷ xs) (y ∷ ys) a b d c e h k u v =
      let first = once x y a h.0 u.0 h.1 u.1 in
      let rest = each_once xs ys u.0 b d c e (begun (Each P xs) (sym first.1) h.2) k u.2 v in
      (rw (first.0, rest.0) refl, rest.1)

body_once : (potential : Bool) (xs ys : List AttributeTree) (a b c : List Lexeme) → Body potential xs a b → Body potential ys a c → (xs ≡ ys) × (b ≡ c)
body_once potential xs ys a b c h k =
    let open_at = mark_once kinds.BraceOpen a h.0 k.0 h.1 k.1 in
    each_once (Attribute potential) (Mark kinds.BraceClose) (attribute_once potential) (attribute_close potential) (mark_once kinds.BraceClose) xs ys k.0 h.2.0 b k.2.0 c (begun (Each (Attribute potential) xs) (sym open_at) h.2.1) h.2.2 k.2.1 k.2.2

names_once : (xs ys : List Token) (a b d c e : List Lexeme) → Each Name xs a b → Mark kinds.ParenClose b d → Each Name ys a c → Mark kinds.ParenClose c e → (xs ≡ ys) × (d ≡ e)
names_once = each_once Name (Mark kinds.ParenClose) name_once (λ t a b c h k. name_apart kinds.ParenClose t a b c (λ e. cc) h k) (mark_once kinds.ParenClose)

given_once : (xs ys : List Token) (a b d c e : List Lexeme) → Given xs a b → Mark kinds.ParenClose b d → Given ys a c → Mark kinds.ParenClose c e → (xs ≡ ys) × (d ≡ e)
given_once [] [] a b d c e (inl h) k (inl u) v = (refl, mark_once kinds.ParenClose a d e (begun (Mark kinds.ParenClose) h k) (begun (Mark kinds.ParenClose) u v))
given_once (x ∷ xs) ys a b d c e (inl h) k u v = absurd h
given_once xs (y ∷ ys) a b d c e h k (inl u) v = absurd u
given_once [] ys a b d c e (inl h) k (inr u) v = absurd (marks_apart kinds.ParenClose kinds.Bar a d u.0 (λ e. cc) (begun (Mark kinds.ParenClose) h k) u.1)
given_once xs [] a b d c e (inr h) k (inl u) v = absurd (marks_apart kinds.ParenClose kinds.Bar a e h.0 (λ e. cc) (begun (Mark kinds.ParenClose) u v) h.1)
given_once xs ys a b d c e (inr h) k (inr u) v =
    let bar = mark_once kinds.Bar a h.0 u.0 h.1 u.1 in
    names_once xs ys u.0 b d c e (begun (Each Name xs) (sym bar) h.2) k u.2 v

-- the three forms of a head
pub record NodeForm (kind : BlockKind) (xs : List Token) (a b : List Lexeme) : Type 0 where
  pub word : List ℕ
  pub title : Token
  pub is : node_kind word ≡ Some kind
  pub names : xs ≡ title ∷ []
  pub head : NodeHead word title a b

pub record PotentialForm (kind : BlockKind) (xs : List Token) (a b : List Lexeme) : Type 0 where
  pub title : Token
  pub given : List Token
  pub is : kind ≡ Potential
  pub names : xs ≡ title ∷ given
  pub head : PotentialHead title given a b

pub record NetForm (kind : BlockKind) (xs : List Token) (a b : List Lexeme) : Type 0 where
  pub is : kind ≡ Net
  pub names : xs ≡ []
  pub head : Word (codes "net") a b

abbrev Form : BlockKind → List Token → List Lexeme → List Lexeme → Type 0
Form kind xs a b = NodeForm kind xs a b ⊎ PotentialForm kind xs a b ⊎ NetForm kind xs a b

form : (first : Bool) (kind : BlockKind) (xs : List Token) (a b : List Lexeme) → Head first kind xs a b → Form kind xs a b
form first Node (t ∷ []) a b h = inl (record { word = codes "node"; title = t; is = refl; names = refl; head = h })
form first Decision (t ∷ []) a b h = inl (record { word = codes "decision"; title = t; is = refl; names = refl; head = h })
form first Utility (t ∷ []) a b h = inl (record { word = codes "utility"; title = t; is = refl; names = refl; head = h })
form first Potential (t ∷ all) a b h = inr (inl (record { title = t; given = all; is = refl; names = refl; head = h }))
form true Net [] a b h = inr (inr (record { is = refl; names = refl; head = h }))
form first kind xs a b h = absurd h

-- discrete, potential and net begin no node block
no_node : (word other : List ℕ) (kind : BlockKind) → node_kind word ≡ Some kind → node_kind other ≡ None → word ≡ other → ⊥
no_node word other kind is other_is e = let f = rw e at is in cc

-- the words of two node heads at the same tokens
optional_once : (word other : List ℕ) (kind like : BlockKind) (a m n b c : List Lexeme) → node_kind word ≡ Some kind → node_kind other ≡ Some like → Either Empty (Word (codes "discrete")) a m → Word word m b → Either Empty (Word (codes "discrete")) a n → Word other n c → (word ≡ other) × (b ≡ c)
optional_once word other kind like a m n b c is es (inl h) x (inl k) y =
    let o = one_once (IsWord word) (IsWord other) a b c (begun (Word word) h x) (begun (Word other) k y) in
    (sym o.1.bytes ∙ o.2.bytes, o.3)
optional_once word other kind like a m n b c is es (inl h) x (inr k) y = absurd (words_apart word (codes "discrete") a b n (no_node word _ kind is refl) (begun (Word word) h x) k)
optional_once word other kind like a m n b c is es (inr h) x (inl k) y = absurd (words_apart other (codes "discrete") a c m (no_node other _ like es refl) (begun (Word other) k y) h)
optional_once word other kind like a m n b c is es (inr h) x (inr k) y =
    let e = word_once (codes "discrete") a m n h k in
    let o = one_once (IsWord word) (IsWord other) n b c (begun (Word word) (sym e) x) y in
    (sym o.1.bytes ∙ o.2.bytes, o.3)

-- a node head begins with discrete or its word
node_apart : (word other : List ℕ) (kind : BlockKind) (title : Token) (a b c : List Lexeme) → node_kind word ≡ Some kind → node_kind other ≡ None → (codes "discrete" ≡ other → ⊥) → NodeHead word title a b → Word other a c → ⊥
node_apart word other kind title a b c is other_is apart h k = begins h.1 h.2.1 where
  begins : Either Empty (Word (codes "discrete")) a h.0 → Word word h.0 h.2.0 → ⊥
  begins (inl e) w = words_apart word other a h.2.0 c (no_node word other kind is other_is) (begun (Word word) e w) k
  begins (inr d) w = words_apart (codes "discrete") other a h.0 c apart d k

abbrev Same : BlockKind → BlockKind → List Token → List Token → List Lexeme → List Lexeme → Type 0
Same kind like xs ys b c = (kind ≡ like) × (xs ≡ ys) × (b ≡ c)

forms_once : (kind like : BlockKind) (xs ys : List Token) (a b c : List Lexeme) → Form kind xs a b → Form like ys a c → Same kind like xs ys b c
forms_once kind like xs ys a b c (inl h) (inl k) =
    let words = optional_once h.word k.word kind like a h.head.0 k.head.0 h.head.2.0 k.head.2.0 h.is k.is h.head.1 h.head.2.1 k.head.1 k.head.2.1 in
    let title = name_once h.title k.title h.head.2.0 b c h.head.2.2 (begun (Name k.title) words.1 k.head.2.2) in
    (same_Some kind like (sym h.is ∙ ap node_kind words.0 ∙ k.is), h.names ∙ ap (λ t. t ∷ []) title.0 ∙ sym k.names, title.1)
forms_once kind like xs ys a b c (inr (inl h)) (inr (inl k)) =
    let hp = h.head.2 in
    let kp = k.head.2 in
    let word = word_once (codes "potential") a h.head.0 k.head.0 h.head.1 k.head.1 in
    let paren = mark_once kinds.ParenOpen h.head.0 hp.0 kp.0 hp.1 (begun (Mark kinds.ParenOpen) word kp.1) in
    let title = name_once h.title k.title hp.0 hp.2.0 kp.2.0 hp.2.1 (begun (Name k.title) paren kp.2.1) in
    let rest = given_once h.given k.given hp.2.0 hp.2.2.0 b kp.2.2.0 c hp.2.2.1 hp.2.2.2 (begun (Given k.given) title.1 kp.2.2.1) kp.2.2.2 in
    (h.is ∙ sym k.is, h.names ∙ ap (λ t. t ∷ h.given) title.0 ∙ ap (λ g. k.title ∷ g) rest.0 ∙ sym k.names, rest.1)
forms_once kind like xs ys a b c (inr (inr h)) (inr (inr k)) = (h.is ∙ sym k.is, h.names ∙ sym k.names, word_once (codes "net") a b c h.head k.head)
forms_once kind like xs ys a b c (inl h) (inr (inl k)) = absurd (node_apart h.word (codes "potential") kind h.title a b k.head.0 h.is refl (λ e. cc) h.head k.head.1)
forms_once kind like xs ys a b c (inl h) (inr (inr k)) = absurd (node_apart h.word (codes "net") kind h.title a b c h.is refl (λ e. cc) h.head k.head)
forms_once kind like xs ys a b c (inr (inl h)) (inl k) = absurd (node_apart k.word (codes "potential") like k.title a c h.head.0 k.is refl (λ e. cc) k.head h.head.1)
forms_once kind like xs ys a b c (inr (inr h)) (inl k) = absurd (node_apart k.word (codes "net") like k.title a c b k.is refl (λ e. cc) k.head h.head)
forms_once kind like xs ys a b c (inr (inl h)) (inr (inr k)) = absurd (words_apart (codes "potential") (codes "net") a h.head.0 c (λ e. cc) h.head.1 k.head)
forms_once kind like xs ys a b c (inr (inr h)) (inr (inl k)) = absurd (words_apart (codes "net") (codes "potential") a b k.head.0 (λ e. cc) h.head k.head.1)

block_once : (first : Bool) (x y : BlockTree) (a b c : List Lexeme) → Block first x a b → Block first y a c → (x ≡ y) × (b ≡ c)
block_once first x y a b c h k =
    let head = forms_once x.kind y.kind x.names y.names a h.0 k.0 (form first x.kind x.names a h.0 h.1) (form first y.kind y.names a k.0 k.1) in
    let moved : Body (is_potential x.kind) y.attributes h.0 c = begun (Body (is_potential x.kind) y.attributes) head.2 (subst (λ p. Body (is_potential p) y.attributes k.0 c) (sym head.0) k.2) in
    let body = body_once (is_potential x.kind) x.attributes y.attributes h.0 b c h.2 moved in
    (same_block x y head.0 head.1 body.0, body.1)

-- no token is left
abbrev End : Rule
End a b = (a ≡ []) × (b ≡ [])

block_some : (first : Bool) (x : BlockTree) (a b c : List Lexeme) → Block first x a b → End a c → ⊥
block_some first x a b c h k = begins (form first x.kind x.names a h.0 h.1) where
  empty : (P : Lexeme → Type 0) (d : List Lexeme) → One P a d → ⊥
  empty P d at = subst (λ ls. One P ls d) k.0 at

  node_begins : (word : List ℕ) (m d : List Lexeme) → Either Empty (Word (codes "discrete")) a m → Word word m d → ⊥
  node_begins word m d (inl e) w = empty (IsWord word) d (begun (Word word) e w)
  node_begins word m d (inr e) w = empty (IsWord (codes "discrete")) m e

  begins : Form x.kind x.names a h.0 → ⊥
  begins (inl f) = node_begins f.word f.head.0 f.head.2.0 f.head.1 f.head.2.1
  begins (inr (inl f)) = empty (IsWord (codes "potential")) f.head.0 f.head.1
  begins (inr (inr f)) = empty (IsWord (codes "net")) h.0 f.head

end_once : (a b c : List Lexeme) → End a b → End a c → b ≡ c
end_once a b c h k = h.1 ∙ sym k.1

blocks_once : (xs ys : List BlockTree) (a : List Lexeme) → Each (Block false) xs a [] → Each (Block false) ys a [] → xs ≡ ys
blocks_once xs ys a h k = (each_once (Block false) End (block_once false) (block_some false) end_once xs ys a [] [] [] [] h (refl, refl) k (refl, refl)).0

pub one_tree : OneTree
one_tree tokens [] [] h k = refl
one_tree tokens [] (y ∷ ys) h k = absurd (block_some true y tokens k.0 [] k.1 (h, refl))
one_tree tokens (x ∷ xs) [] h k = absurd (block_some true x tokens h.0 [] h.1 (k, refl))
one_tree tokens (x ∷ xs) (y ∷ ys) h k =
    let first = block_once true x y tokens h.0 k.0 h.1 k.1 in
    let rest = blocks_once xs ys h.0 h.2 (begun (Each (Block false) ys) first.1 k.2) in
    rw (first.0, rest) refl
