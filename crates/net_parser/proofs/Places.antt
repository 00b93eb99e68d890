-- From place to place: reading finds a stop exactly where no tree is.
use Rattle.std.proofs.Common.{◌≡◌, ℕ, Bool, true, false, ◌&&◌, List, [], ◌∷◌, ◌++◌, ◌⊎◌, inl, inr, refl, sym, ap, subst, bytes_eq}
use Rattle.std.specs.Prelude.{codes, Option, Some, None, is_some, if◌then◌else◌}
use Rattle.std.specs.Option.{option_map, option_map_or}
use Rattle.std.proofs.lemmas.Bool.{and_parts}
use Rattle.std.proofs.lemmas.Option.{same_Some}
use Rattle.net_lexer.specs.declared.tokens.Token.{Token}
use Rattle.net_lexer.specs.declared.tokens.TokenKind.{TokenKind}
use Rattle.net_lexer.specs.declared.tokens.TokenKind.TheVariants as kinds
use Rattle.net_parser.specs.declared.trees.BlockKind.{BlockKind}
use Rattle.net_parser.specs.declared.trees.BlockKind.TheVariants.{Net, Node, Decision, Utility, Potential}
use Rattle.net_parser.specs.declared.reader.Stop.{Stop}
use Rattle.net_parser.specs.declared.reader.Stop.TheVariants.{Unexpected}
use Rattle.net_parser.specs.Trees.{ValueTree, ValueTrees, leaf, list, none, more, AttributeTree, BlockTree}
use Rattle.net_parser.specs.Lexemes.{Lexeme, IsWord}
use Rattle.net_parser.specs.Grammar.{Empty, ◌▹◌, Either, Each, Mark, Word, Name, Value, Values, Attribute, NodeHead, Head, Block, Text, Given, is_potential}
use Rattle.net_parser.specs.Faults.{IsSentence}
use Rattle.net_parser.specs.Reading.{Symbol, mark, name, node_word, attribute_name, attributes, value, values, given, names, next, node_kind, net_rest, node_rest, potential_rest, block_word, block_token, Place, start, within, step, stop, stop_at_end, refusal}
use Rattle.net_parser.proofs.Telling.{word_is}
use Rattle.net_parser.proofs.Moves.{Lang, Langs, Onward, forth, back, begun}

-- what may stand where these are still to come, and then blocks
abbrev pub Tail : List Symbol → List Lexeme → Type 0
Tail [] ls = (blocks : List BlockTree) × Each (Block false) blocks ls []
Tail (symbol ∷ after) ls = (between : List Lexeme) × Lang symbol ls between × Tail after between

abbrev pub Rest : Place → List Lexeme → Type 0
Rest start ls = IsSentence ls
Rest (within symbols) ls = Tail symbols ls

abbrev pub Goes : Option (List Symbol) → List Lexeme → Type 0
Goes None ls = ⊥
Goes (Some symbols) ls = Tail symbols ls

tail-append : (symbols after : List Symbol) (ls between : List Lexeme) → Langs symbols ls between → Tail after between → Tail (symbols ++ after) ls
tail-append [] after ls between h rest = subst (λ m. Tail after m) (sym h) rest
tail-append (x ∷ []) after ls between h rest = (between, h, rest)
tail-append (x ∷ y ∷ symbols) after ls between h rest = (h.0, h.1, tail-append (y ∷ symbols) after h.0 between h.2 rest)

tail-split : (symbols after : List Symbol) (ls : List Lexeme) → Tail (symbols ++ after) ls → (between : List Lexeme) × Langs symbols ls between × Tail after between
tail-split [] after ls h = (ls, refl, h)
tail-split (x ∷ []) after ls h = h
tail-split (x ∷ y ∷ symbols) after ls h = let t = tail-split (y ∷ symbols) after h.0 h.2 in (t.0, (h.0, h.1, t.1), t.2)

onward-goes : (found : Option (List Symbol)) (after : List Symbol) (ls between : List Lexeme) → Onward found ls between → Tail after between → Goes (option_map (λ symbols. symbols ++ after) found) ls
onward-goes None after ls between h rest = absurd h
onward-goes (Some symbols) after ls between h rest = tail-append symbols after ls between h rest

goes-onward : (found : Option (List Symbol)) (after : List Symbol) (ls : List Lexeme) → Goes (option_map (λ symbols. symbols ++ after) found) ls → (between : List Lexeme) × Onward found ls between × Tail after between
goes-onward None after ls h = absurd h
goes-onward (Some symbols) after ls h = tail-split symbols after ls h

-- a block, and then others
abbrev Blocks : Bool → List Lexeme → Type 0
Blocks first ls = (block : BlockTree) × (blocks : List BlockTree) × (between : List Lexeme) × Block first block ls between × Each (Block false) blocks between []

chosen : (test : Bool) (symbols : List Symbol) (other : Option (List Symbol)) (ls : List Lexeme) → Goes (if test then Some symbols else other) ls → (test ≡ true) × Tail symbols ls ⊎ Goes other ls
chosen true symbols other ls h = inl (refl, h)
chosen false symbols other ls h = inr h

-- a head and a body, and the blocks behind them
block_of : (first : Bool) (kind : BlockKind) (titles : List Token) (ls between : List Lexeme) → Head first kind titles ls between → Tail (mark kinds.BraceOpen ∷ attributes (is_potential kind) ∷ []) between → Blocks first ls
block_of first kind titles ls between head h =
    let open_at = h.1 in
    let inner = h.2 in
    let block : BlockTree = record { kind = kind; names = titles; attributes = inner.1.0 } in
    (block, inner.2.0, inner.0, (between, head, (h.0, open_at, inner.1.1)), inner.2.1)

some_of : (a b c : Bool) → is_some (if a then Some Node else (if b then Some Decision else (if c then Some Utility else None))) ≡ true → (a ≡ true) ⊎ (b ≡ true) ⊎ (c ≡ true)
some_of true b c e = inl refl
some_of false true c e = inr (inl refl)
some_of false false true e = inr (inr refl)
some_of false false false e = cc

-- a word that begins a node block, and a name
node_forth : (first : Bool) (word : List ℕ) (t : Token) (ls between : List Lexeme) → is_some (node_kind word) ≡ true → NodeHead word t ls between → Tail (mark kinds.BraceOpen ∷ attributes false ∷ []) between → Blocks first ls
node_forth first word t ls between some head rest = elim (some_of (bytes_eq word (codes "node")) (bytes_eq word (codes "decision")) (bytes_eq word (codes "utility")) some) [
  | inl e ↦ block_of first Node (t ∷ []) ls between (rw (word_is word _ e) at head) rest
  | inr (inl e) ↦ block_of first Decision (t ∷ []) ls between (rw (word_is word _ e) at head) rest
  | inr (inr e) ↦ block_of first Utility (t ∷ []) ls between (rw (word_is word _ e) at head) rest
]

net_forth : (first : Bool) (l : Lexeme) (ls : List Lexeme) → IsWord (codes "net") l → first ≡ true → Tail net_rest ls → Blocks first (l ∷ ls)
net_forth true l ls word e rest = block_of true Net [] (l ∷ ls) ls (word, refl) rest
net_forth false l ls word e rest = cc

potential_forth : (first : Bool) (l : Lexeme) (ls : List Lexeme) → IsWord (codes "potential") l → Tail potential_rest ls → Blocks first (l ∷ ls)
potential_forth first l ls word h =
    let title = h.2 in
    let all = title.2 in
    block_of first Potential (title.1.0 ∷ all.1.0) (l ∷ ls) all.0 (ls, (word, refl), (h.0, h.1, (title.0, title.1.1, all.1.1))) all.2

block_forth : (first : Bool) (l : Lexeme) (ls : List Lexeme) → l.token.kind ≡ kinds.Word → Goes (block_word first l.bytes) ls → Blocks first (l ∷ ls)
block_forth first l ls e h =
    let word : (w : List ℕ) → bytes_eq l.bytes w ≡ true → IsWord w l = λ w t. record { kind = e; bytes = word_is l.bytes w t } in
    elim (chosen (bytes_eq l.bytes (codes "net") && first) _ _ ls h) [
      | inl t ↦ let both = and_parts (bytes_eq l.bytes (codes "net")) first t.0 in net_forth first l ls (word _ both.0) both.1 t.1
      | inr h1 ↦ elim (chosen (bytes_eq l.bytes (codes "discrete")) _ _ ls h1) [
        | inl t ↦
            let node = t.1.1 in
            let title = t.1.2 in
            node_forth first node.0 title.1.0 (l ∷ ls) title.0 node.1 (ls, inr (word _ t.0, refl), (t.1.0, node.2, title.1.1)) title.2
        | inr h2 ↦ elim (chosen (is_some (node_kind l.bytes)) _ _ ls h2) [
          | inl t ↦ node_forth first l.bytes t.1.1.0 (l ∷ ls) t.1.0 t.0 (l ∷ ls, inl refl, (ls, (record { kind = e; bytes = refl }, refl), t.1.1.1)) t.1.2
          | inr h3 ↦ elim (chosen (bytes_eq l.bytes (codes "potential")) _ _ ls h3) [
            | inl t ↦ potential_forth first l ls (word _ t.0) t.1
            | inr h4 ↦ absurd h4
          ]
        ]
      ]
    ]

token_forth : (first : Bool) (kind : TokenKind) (l : Lexeme) (ls : List Lexeme) → l.token.kind ≡ kind → Goes (block_token first kind l.bytes) ls → Blocks first (l ∷ ls)
token_forth first kinds.Word l ls e h = block_forth first l ls e h
token_forth first kind l ls e h = absurd h

tail_begun : (symbols : List Symbol) {x y : List Lexeme} → x ≡ y → Tail symbols y → Tail symbols x
tail_begun symbols {x} {y} e h = subst (λ ls. Tail symbols ls) (sym e) h

node_back : (first : Bool) (word : List ℕ) (t : Token) (l : Lexeme) (ls m1 m2 between : List Lexeme) → block_word first word ≡ Some node_rest → is_some (node_kind word) ≡ true → Either Empty (Word (codes "discrete")) (l ∷ ls) m1 → Word word m1 m2 → Name t m2 between → Tail (mark kinds.BraceOpen ∷ attributes false ∷ []) between → Goes (block_token first l.token.kind l.bytes) ls
node_back first word t l ls m1 m2 between e some (inl begins) at title rest =
    let is : Word word (l ∷ ls) m2 = begun (Word word) begins at in
    rw (is.0.kind, is.0.bytes, e) (between, (t, begun (Name t) is.1 title), rest)
node_back first word t l ls m1 m2 between e some (inr is) at title rest =
    rw (is.0.kind, is.0.bytes) (m2, (word, some, begun (Word word) is.1 at), (between, (t, title), rest))

block_back : (first : Bool) (kind : BlockKind) (titles : List Token) (l : Lexeme) (ls between : List Lexeme) → Head first kind titles (l ∷ ls) between → Tail (mark kinds.BraceOpen ∷ attributes (is_potential kind) ∷ []) between → Goes (block_token first l.token.kind l.bytes) ls
block_back first Node (t ∷ []) l ls between h rest = node_back first (codes "node") t l ls h.0 h.2.0 between refl refl h.1 h.2.1 h.2.2 rest
block_back first Decision (t ∷ []) l ls between h rest = node_back first (codes "decision") t l ls h.0 h.2.0 between refl refl h.1 h.2.1 h.2.2 rest
block_back first Utility (t ∷ []) l ls between h rest = node_back first (codes "utility") t l ls h.0 h.2.0 between refl refl h.1 h.2.1 h.2.2 rest
block_back first Potential (t ∷ all) l ls between h rest =
    let title = h.2.2 in
    rw (h.1.0.kind, h.1.0.bytes) (h.2.0, begun (Mark kinds.ParenOpen) h.1.1 h.2.1, (title.0, (t, title.1), (between, (all, title.2), rest)))
block_back true Net [] l ls between h rest = rw (h.0.kind, h.0.bytes) (tail_begun net_rest h.1 rest)
block_back first kind titles l ls between h rest = absurd h

blocks_back : (first : Bool) (block : BlockTree) (blocks : List BlockTree) (l : Lexeme) (ls between : List Lexeme) → Block first block (l ∷ ls) between → Each (Block false) blocks between [] → Goes (block_token first l.token.kind l.bytes) ls
blocks_back first block blocks l ls between h rest =
    let body = h.2 in
    block_back first block.kind block.names l ls h.0 h.1 (body.0, body.1, (between, (block.attributes, body.2), (blocks, rest)))

-- one token further
pub place_forth : (place : Place) (l : Lexeme) (ls : List Lexeme) → Goes (step place l) ls → Rest place (l ∷ ls)
place_forth start l ls h = let b = token_forth true l.token.kind l ls refl h in (b.0 ∷ b.1, (b.2, b.3, b.4))
place_forth (within []) l ls h = let b = token_forth false l.token.kind l ls refl h in (b.0 ∷ b.1, (b.2, b.3, b.4))
place_forth (within (symbol ∷ after)) l ls h =
    let t = goes-onward (next symbol l.token.kind l.bytes) after ls h in
    (t.0, forth symbol l.token.kind l ls t.0 refl t.1, t.2)

some_blocks : (first : Bool) (l : Lexeme) (ls : List Lexeme) (blocks : List BlockTree) → Text blocks (l ∷ ls) [] → Goes (step start l) ls
some_blocks first l ls [] h = cc
some_blocks first l ls (block ∷ blocks) h = blocks_back true block blocks l ls h.0 h.1 h.2

more_blocks : (l : Lexeme) (ls : List Lexeme) (blocks : List BlockTree) → Each (Block false) blocks (l ∷ ls) [] → Goes (step (within []) l) ls
more_blocks l ls [] h = cc
more_blocks l ls (block ∷ blocks) h = blocks_back false block blocks l ls h.0 h.1 h.2

pub place_back : (place : Place) (l : Lexeme) (ls : List Lexeme) → Rest place (l ∷ ls) → Goes (step place l) ls
place_back start l ls h = some_blocks true l ls h.0 h.1
place_back (within []) l ls h = more_blocks l ls h.0 h.1
place_back (within (symbol ∷ after)) l ls h = onward-goes (next symbol l.token.kind l.bytes) after ls h.0 (back symbol l ls h.0 h.1) h.2

-- no symbol stands for nothing
attributes_some : (potential : Bool) (all : List AttributeTree) (b : List Lexeme) → (Each (Attribute potential) all ▹ Mark kinds.BraceClose) [] b → ⊥
attributes_some potential [] b h = begun (Mark kinds.BraceClose) h.1 h.2
attributes_some false (x ∷ all) b h = h.1.1.1
attributes_some true (x ∷ all) b h = h.1.1.1

values_some : (depth : ℕ) (vs : ValueTrees) (b : List Lexeme) → (Values depth vs ▹ Mark kinds.ParenClose) [] b → ⊥
values_some depth none b h = begun (Mark kinds.ParenClose) h.1 h.2
values_some depth (more (leaf t) vs) b h = h.1.1
values_some depth (more (list inner) vs) b h = h.1.1.1.1

value_some : (depth : ℕ) (v : ValueTree) (b : List Lexeme) → Value depth v [] b → ⊥
value_some depth (leaf t) b h = h
value_some depth (list vs) b h = h.1.1

given_some : (all : List Token) (m b : List Lexeme) → Given all [] m → Mark kinds.ParenClose m b → ⊥
given_some [] m b (inl e) h = begun (Mark kinds.ParenClose) e h
given_some (t ∷ all) m b (inl e) h = e
given_some all m b (inr g) h = g.1

names_some : (all : List Token) (b : List Lexeme) → (Each Name all ▹ Mark kinds.ParenClose) [] b → ⊥
names_some [] b h = begun (Mark kinds.ParenClose) h.1 h.2
names_some (t ∷ all) b h = h.1.1

pub symbol_some : (symbol : Symbol) (b : List Lexeme) → Lang symbol [] b → ⊥
symbol_some (mark kind) b h = h
symbol_some name b h = h.1
symbol_some node_word b h = h.2
symbol_some (attribute_name false) b h = h.1
symbol_some (attribute_name true) b h = h.1
symbol_some (attributes potential) b h = attributes_some potential h.0 b h.1
symbol_some (value depth) b h = value_some depth h.0 b h.1
symbol_some (values depth) b h = values_some depth h.0 b h.1
symbol_some given b h = given_some h.0 h.1.0 b h.1.1 h.1.2
symbol_some names b h = names_some h.0 b h.1

turned : (found : Option (List Symbol)) (ls : List Lexeme) (other : Stop × List Lexeme) → ((symbols : List Symbol) → stop (within symbols) ls ≡ None → Tail symbols ls) → option_map_or (λ symbols. stop (within symbols) ls) found (Some other) ≡ None → Goes found ls
turned None ls other rest e = cc
turned (Some symbols) ls other rest e = rest symbols e

-- where nothing stops, a tree is
pub rest_from_none : (ls : List Lexeme) (place : Place) → stop place ls ≡ None → Rest place ls
rest_from_none [] start e = ([], refl)
rest_from_none [] (within []) e = ([], refl)
rest_from_none [] (within (symbol ∷ after)) e = cc
rest_from_none (l ∷ ls) place e = place_forth place l ls (turned (step place l) ls _ (λ symbols. rest_from_none ls (within symbols)) e)

-- the tokens lead from one place to another
abbrev pub Leads : Place → List Lexeme → Place → Type 0
Leads place [] last = place ≡ last
Leads place (l ∷ ls) last = (symbols : List Symbol) × (step place l ≡ Some symbols) × Leads (within symbols) ls last

abbrev pub EndsAt : Place → Stop → List Lexeme → Type 0
EndsAt place why [] = stop_at_end place ≡ Some (why, [])
EndsAt place why (l ∷ after) = (step place l ≡ None) × (refusal place l ≡ why)

-- where reading stops, and behind which tokens
pub record Found (place : Place) (ls : List Lexeme) (why : Stop) (rest : List Lexeme) : Type 0 where
  pub before : List Lexeme
  pub last : Place
  pub all : ls ≡ before ++ rest
  pub leads : Leads place before last
  pub ends : EndsAt last why rest

here : (place : Place) (ls : List Lexeme) (why other : Stop) (rest : List Lexeme) → ◌≡◌ {A = Option (Stop × List Lexeme)} (Some (why, ls)) (Some (other, rest)) → EndsAt place why ls → Found place ls other rest
here place ls why other rest e ends =
    let p : ◌≡◌ {A = Stop × List Lexeme} (why, ls) (other, rest) = same_Some _ _ e in
    record {
      before = [];
      last = place;
      all = ap (λ (x : Stop × List Lexeme). x.1) p;
      leads = refl;
      ends = subst (λ (x : Stop × List Lexeme). EndsAt place x.0 x.1) p ends;
    }

further : (found : Option (List Symbol)) (place : Place) (l : Lexeme) (ls : List Lexeme) (why : Stop) (rest : List Lexeme) → step place l ≡ found → ((symbols : List Symbol) → stop (within symbols) ls ≡ Some (why, rest) → Found (within symbols) ls why rest) → option_map_or (λ symbols. stop (within symbols) ls) found (Some (refusal place l, l ∷ ls)) ≡ Some (why, rest) → Found place (l ∷ ls) why rest
further None place l ls why rest is next_stop e = here place (l ∷ ls) (refusal place l) why rest e (is, refl)
further (Some symbols) place l ls why rest is next_stop e =
    let f = next_stop symbols e in
    record { before = l ∷ f.before; last = f.last; all = ap (λ xs. l ∷ xs) f.all; leads = (symbols, is, f.leads); ends = f.ends }

pub found : (ls : List Lexeme) (place : Place) (why : Stop) (rest : List Lexeme) → stop place ls ≡ Some (why, rest) → Found place ls why rest
found [] start why rest e = cc
found [] (within []) why rest e = cc
found [] (within (symbol ∷ after)) why rest e = here (within (symbol ∷ after)) [] Unexpected why rest e refl
found (l ∷ ls) place why rest e = further (step place l) place l ls why rest refl (λ symbols. found ls (within symbols) why rest) e

pub leads_forth : (before : List Lexeme) (place last : Place) (ls : List Lexeme) → Leads place before last → Rest last ls → Rest place (before ++ ls)
leads_forth [] place last ls h rest = subst (λ q. Rest q ls) (sym h) rest
leads_forth (l ∷ before) place last ls h rest = place_forth place l (before ++ ls) (rw h.1 (leads_forth before (within h.0) last ls h.2 rest))

pub leads_back : (before : List Lexeme) (place last : Place) (ls : List Lexeme) → Leads place before last → Rest place (before ++ ls) → Rest last ls
leads_back [] place last ls h rest = subst (λ q. Rest q ls) h rest
leads_back (l ∷ before) place last ls h rest =
    let goes : Tail h.0 (before ++ ls) = subst (λ found. Goes found (before ++ ls)) h.1 (place_back place l (before ++ ls) rest) in
    leads_back before (within h.0) last ls h.2 goes

-- tokens that end what is still to come
abbrev pub lexeme : TokenKind → List ℕ → Lexeme
lexeme kind bytes = record { token = record { kind = kind; start = 0; end = 0 }; bytes = bytes }

closed : (symbol : Symbol) (a : List Lexeme) → (l : Lexeme) × Lang symbol (l ∷ a) a
closed (mark kind) a = (lexeme kind [], (refl, refl))
closed name a = (lexeme kinds.Word (codes "a"), forth name kinds.Word _ a a refl refl)
closed node_word a = (lexeme kinds.Word (codes "node"), forth node_word kinds.Word _ a a refl refl)
closed (attribute_name false) a = (lexeme kinds.Word (codes "a"), forth (attribute_name false) kinds.Word _ a a refl refl)
closed (attribute_name true) a = (lexeme kinds.Word (codes "a"), forth (attribute_name true) kinds.Word _ a a refl refl)
closed (attributes potential) a = (lexeme kinds.BraceClose [], forth (attributes potential) kinds.BraceClose _ a a refl refl)
closed (value depth) a = (lexeme kinds.Number [], forth (value depth) kinds.Number _ a a refl refl)
closed (values depth) a = (lexeme kinds.ParenClose [], forth (values depth) kinds.ParenClose _ a a refl refl)
closed given a = (lexeme kinds.ParenClose [], forth given kinds.ParenClose _ a a refl refl)
closed names a = (lexeme kinds.ParenClose [], forth names kinds.ParenClose _ a a refl refl)

pub finish : (symbols : List Symbol) → (ls : List Lexeme) × Tail symbols ls
finish [] = ([], ([], refl))
finish (symbol ∷ after) =
    let rest = finish after in
    let l = closed symbol rest.0 in
    (l.0 ∷ rest.0, (rest.0, l.1, rest.1))

pub finish_place : (place : Place) → (ls : List Lexeme) × Rest place ls
finish_place start = ([], ([], refl))
finish_place (within symbols) = finish symbols

-- a token may stand in a place where something may come behind it
pub may_stand : (place : Place) (l : Lexeme) (symbols : List Symbol) → step place l ≡ Some symbols → (ls : List Lexeme) × Rest place (l ∷ ls)
may_stand place l symbols e = let rest = finish symbols in (rest.0, place_forth place l rest.0 (rw e rest.1))

some_goes : (found : Option (List Symbol)) (ls : List Lexeme) → Goes found ls → (symbols : List Symbol) × (found ≡ Some symbols)
some_goes None ls h = absurd h
some_goes (Some symbols) ls h = (symbols, refl)

pub stands : (place : Place) (l : Lexeme) (ls : List Lexeme) → Rest place (l ∷ ls) → (symbols : List Symbol) × (step place l ≡ Some symbols)
stands place l ls h = some_goes (step place l) ls (place_back place l ls h)
