-- Heads of blocks: what their first words and their names spell.
use Rattle.std.proofs.Common.{◌≡◌, ℕ, Bool, true, false, List, [], ◌∷◌, ◌++◌, ◌∙◌, sym, ap, subst, refl, bytes_eq}
use Rattle.std.specs.Prelude.{codes, Option, Some, None, Result, Ok, Err, IfOk, if◌then◌else◌}
use Rattle.std.proofs.lemmas.Option.{same_Some}
use Rattle.net_lexer.specs.declared.tokens.Token.{Token}
use Rattle.net_lexer.specs.declared.tokens.TokenKind.TheVariants.{ParenOpen, ParenClose}
use Rattle.net_parser.specs.declared.reader.Stop.{Stop}
use Rattle.net_parser.specs.declared.trees.BlockKind.{BlockKind}
use Rattle.net_parser.specs.declared.trees.BlockKind.TheVariants.{Node, Decision, Utility, Potential}
use Rattle.net_parser.specs.Lexemes.{Lexeme}
use Rattle.net_parser.specs.Grammar.{◌▹◌, Empty, Either, Given, Mark, Name, Word, NodeHead, Head, is_potential}
use Rattle.net_parser.specs.Reading.{IsReading, NodeNames, PotentialNames, body_rest, node_kind, stop, within}
use Rattle.net_parser.proofs.Telling.{word_is}

-- a word that begins the heads of a kind of node
record Begins (word : List ℕ) (kind : BlockKind) : Type 0 where
  pub head : (first : Bool) (title : Token) (a b : List Lexeme) → NodeHead word title a b → Head first kind (title ∷ []) a b
  pub plain : is_potential kind ≡ false

begins : (word : List ℕ) (kind : BlockKind) → node_kind word ≡ Some kind → Begins word kind
begins word kind is = by_word (bytes_eq word (codes "node")) (bytes_eq word (codes "decision")) (bytes_eq word (codes "utility")) refl refl refl is where
  by_word : (n d u : Bool) → bytes_eq word (codes "node") ≡ n → bytes_eq word (codes "decision") ≡ d → bytes_eq word (codes "utility") ≡ u → (if n then Some Node else (if d then Some Decision else (if u then Some Utility else None))) ≡ Some kind → Begins word kind
  by_word true d u n_is d_is u_is e = subst (Begins word) (same_Some Node kind e) (record { head = λ first title a b h. subst (λ w. NodeHead w title a b) (word_is _ _ n_is) h; plain = refl })
  by_word false true u n_is d_is u_is e = subst (Begins word) (same_Some Decision kind e) (record { head = λ first title a b h. subst (λ w. NodeHead w title a b) (word_is _ _ d_is) h; plain = refl })
  by_word false false true n_is d_is u_is e = subst (Begins word) (same_Some Utility kind e) (record { head = λ first title a b h. subst (λ w. NodeHead w title a b) (word_is _ _ u_is) h; plain = refl })
  by_word false false false n_is d_is u_is e = cc

-- it begins no potential
pub node_plain : (word : List ℕ) (kind : BlockKind) → node_kind word ≡ Some kind → is_potential kind ≡ false
node_plain word kind is = (begins word kind is).plain

-- such a word, perhaps behind discrete, and a name are a head
pub node_head : (first : Bool) (kind read : BlockKind) (names : List Token) (word : List ℕ) (a m b c : List Lexeme) → node_kind word ≡ Some kind → Either Empty (Word (codes "discrete")) a m → Word word m b → (read ≡ kind) × NodeNames names b c → Head first read names a c
node_head first kind read [] word a m b c is discrete at n = absurd n.1
node_head first kind read (title ∷ []) word a m b c is discrete at n =
    subst (λ k. Head first k (title ∷ []) a c) (sym n.0) ((begins word kind is).head first title a c (m, discrete, (b, at, n.1)))
node_head first kind read (title ∷ other ∷ others) word a m b c is discrete at n = absurd n.1

-- and so are potential and its names
pub potential_head : (first : Bool) (read : BlockKind) (names : List Token) (a b c : List Lexeme) → Word (codes "potential") a b → (read ≡ Potential) × PotentialNames names b c → Head first read names a c
potential_head first read [] a b c at n = absurd n.1
potential_head first read (title ∷ given) a b c at n =
    subst (λ k. Head first k (title ∷ given) a c) (sym n.0) (b, at, n.1)

-- a name and those given, as they are collected
pub potential_names : (names before given : List Token) (title : Token) (a b m c : List Lexeme) → before ≡ title ∷ [] → names ≡ before ++ given → Mark ParenOpen a b → Name title b m → (Given given ▹ Mark ParenClose) m c → PotentialNames names a c
potential_names names before given title a b m c first all opens named rest =
    subst (λ ts. PotentialNames ts a c) (sym (all ∙ ap (λ ts. ts ++ given) first)) (b, opens, (m, named, rest))

-- behind a head of that kind its body is still to come
pub to_body : {N : Type 0} (r : Result (BlockKind × N) Stop) (kind : BlockKind) (potential : Bool) (P : BlockKind × N → Type 0) (whole : Option (Stop × List Lexeme)) (new : List Lexeme) → is_potential kind ≡ potential → ((head : BlockKind × N) → P head → head.0 ≡ kind) → IfOk r P → IsReading r whole (λ head. stop (within (body_rest potential)) new) new → IsReading r whole (λ head. stop (within (body_rest (is_potential head.0))) new) new
to_body (Ok head) kind potential P whole new is same rule reads = rw (same head rule, is) reads
to_body (Err why) kind potential P whole new is same rule reads = reads
