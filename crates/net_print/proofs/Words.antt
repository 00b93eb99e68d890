-- The tokens of a printed text, written one after the other.
use Rattle.std.proofs.Common.{◌≡◌, ◌∙◌, ℕ, ◌<◌, true, false, List, [], ◌∷◌, ◌++◌, length, map, get_or, All, decimal, codes, ℤ, refl, sym, ap, subst, arith, append_assoc}
use Rattle.std.specs.List.{flat_map, list_all}
use Rattle.std.proofs.lemmas.Bool.{or_parts, or_left}
use Rattle.std.proofs.lemmas.List.Elements.{All-head, All-tail}
use Rattle.std.proofs.lemmas.List.Folds.{flat_map-map}
use Rattle.maid_model.specs.declared.diagrams.Kind.{Kind}
use Rattle.maid_model.specs.declared.diagrams.Kind.TheVariants.{Chance, Decision, Utility}
use Rattle.maid_model.specs.Names.{NamesView, name_of, labels_of}
use Rattle.maid_model.specs.Nodes.{node_at, rows_of}
use Rattle.maid_model.specs.Reports.{quoted}
use Rattle.maid_model.specs.Views.{NodeView, DiagramView}
use Rattle.net_lexer.specs.Bytes.{is_run_byte, is_word_byte, is_white, is_one_of}
use Rattle.net_lexer.specs.Numerals.{is_numeral}
use Rattle.net_lexer.specs.Pieces.{goes_on_with, begins}
use Rattle.net_lexer.specs.Token.{is_token, is_name, is_signed}
use Rattle.net_lexer.specs.declared.pieces.PieceKind.TheVariants as pieces
use Rattle.net_lexer.specs.declared.tokens.TokenKind.{TokenKind}
use Rattle.net_lexer.specs.declared.tokens.TokenKind.TheVariants.{Word, Text, Number, BraceOpen, BraceClose, ParenOpen, ParenClose, Equals, Semicolon, Bar}
use Rattle.net_build.specs.Plain.{reduced_rows}
use Rattle.net_print.specs.Printed.{parted, kind_word, states_text, agent_text, owners_text, owner_names, attributes_text, node_line, head_text, table_text, potential_line, value_text}
use Rattle.net_print.proofs.Forms.{quoted_string}
use Rattle.net_print.proofs.Written.{Written, text_onto, Fits, Stands, text_onto-append, stands-append}

-- these tokens write that text, whatever is behind it
pub record Writes (ws : List Written) (text : List ℕ) : Type 0 where
  pub onto : (rest : List ℕ) → text_onto ws rest ≡ text ++ rest
  pub stands : (rest : List ℕ) → Stands ws rest

pub writes-append : (xs ys : List Written) (s t : List ℕ) → Writes xs s → Writes ys t → Writes (xs ++ ys) (s ++ t)
writes-append xs ys s t x y = record {
  onto = λ rest. text_onto-append xs ys rest ∙ x.onto (text_onto ys rest) ∙ ap (λ more. s ++ more) (y.onto rest) ∙ sym (append_assoc s t rest);
  stands = λ rest. stands-append xs ys rest (x.stands (text_onto ys rest)) (y.stands rest);
}

pub writes-all : (words : ℕ → List Written) (text : ℕ → List ℕ) (vs : List ℕ) → All (λ v. Writes (words v) (text v)) vs → Writes (flat_map words vs) (flat_map text vs)
writes-all words text [] all = record { onto = λ rest. refl; stands = λ rest. tt }
writes-all words text (v ∷ vs) all = writes-append (words v) (flat_map words vs) (text v) (flat_map text vs) (All-head (λ u. Writes (words u) (text u)) v vs all) (writes-all words text vs (All-tail (λ u. Writes (words u) (text u)) v vs all))

pub writes-same : (ws : List Written) (s t : List ℕ) → Writes ws s → s ≡ t → Writes ws t
writes-same ws s t is e = subst (λ text. Writes ws text) e is

abbrev pub written : List ℕ → TokenKind → List ℕ → List ℕ → Written
written before kind bytes after = record { before = before; kind = kind; bytes = bytes; after = after }

-- one space
abbrev pub space : List ℕ
space = 32 ∷ []

-- tokens parted by one space
abbrev pub items : {A : Type 0} → TokenKind → (A → List ℕ) → List A → List Written
items kind text [] = []
items kind text (x ∷ xs) = written [] kind (text x) [] ∷ map (λ y. written space kind (text y) []) xs

-- a token of its kind, which ends where no byte of a run follows
pub record IsItem (kind : TokenKind) (bytes : List ℕ) : Type 0 where
  pub form : is_token kind bytes ≡ true
  pub some : 0 < length bytes
  pub stops : (after : List ℕ) → begins is_run_byte after ≡ false → begins (goes_on_with (pieces.Token kind) bytes) after ≡ false

later_onto : {A : Type 0} (kind : TokenKind) (text : A → List ℕ) (xs : List A) (rest : List ℕ) → text_onto (map (λ y. written space kind (text y) []) xs) rest ≡ flat_map (λ y. 32 ∷ text y) xs ++ rest
later_onto kind text [] rest = refl
later_onto kind text (x ∷ xs) rest = ap (λ more. 32 ∷ (text x ++ more)) (later_onto kind text xs rest) ∙ ap (λ more. 32 ∷ more) (sym (append_assoc (text x) (flat_map (λ y. 32 ∷ text y) xs) rest))

pub items_onto : {A : Type 0} (kind : TokenKind) (text : A → List ℕ) (xs : List A) (rest : List ℕ) → text_onto (items kind text xs) rest ≡ parted text xs ++ rest
items_onto kind text [] rest = refl
items_onto kind text (x ∷ xs) rest = ap (λ more. text x ++ more) (later_onto kind text xs rest) ∙ sym (append_assoc (text x) (flat_map (λ y. 32 ∷ text y) xs) rest)

later_begin : {A : Type 0} (kind : TokenKind) (text : A → List ℕ) (xs : List A) (rest : List ℕ) → begins is_run_byte rest ≡ false → begins is_run_byte (text_onto (map (λ y. written space kind (text y) []) xs) rest) ≡ false
later_begin kind text [] rest stops = stops
later_begin kind text (x ∷ xs) rest stops = refl

later_stand : {A : Type 0} (kind : TokenKind) (text : A → List ℕ) (xs : List A) (rest : List ℕ) → All (λ x. IsItem kind (text x)) xs → begins is_run_byte rest ≡ false → Stands (map (λ y. written space kind (text y) []) xs) rest
later_stand kind text [] rest all stops = tt
later_stand kind text (x ∷ xs) rest all stops =
    let is = All-head (λ y. IsItem kind (text y)) x xs all in (
      record { form = is.form; some = is.some; before = refl; after = refl; stops = is.stops _ (later_begin kind text xs rest stops) },
      later_stand kind text xs rest (All-tail (λ y. IsItem kind (text y)) x xs all) stops,
    )

pub items_stand : {A : Type 0} (kind : TokenKind) (text : A → List ℕ) (xs : List A) (rest : List ℕ) → All (λ x. IsItem kind (text x)) xs → begins is_run_byte rest ≡ false → Stands (items kind text xs) rest
items_stand kind text [] rest all stops = tt
items_stand kind text (x ∷ xs) rest all stops =
    let is = All-head (λ y. IsItem kind (text y)) x xs all in (
      record { form = is.form; some = is.some; before = refl; after = refl; stops = is.stops _ (later_begin kind text xs rest stops) },
      later_stand kind text xs rest (All-tail (λ y. IsItem kind (text y)) x xs all) stops,
    )

never : (xs : List ℕ) → begins (λ b. false) xs ≡ false
never [] = refl
never (x ∷ xs) = refl

name_some : (name : List ℕ) → is_name name ≡ true → 0 < length name
name_some [] e = cc
name_some (b ∷ name) e = omega arith

no_word_byte : (xs : List ℕ) → begins is_run_byte xs ≡ false → begins is_word_byte xs ≡ false
no_word_byte [] e = refl
no_word_byte (x ∷ xs) e = (or_parts (is_word_byte x) (is_one_of (codes "+-.") x) e).0

pub name_item : (name : List ℕ) → is_name name ≡ true → IsItem Word name
name_item name e = record {
  form = or_left (is_name name) (is_signed name) e;
  some = name_some name e;
  stops = λ after stops. rw e (no_word_byte after stops);
}

pub number_item : (bytes : List ℕ) → is_numeral bytes ≡ true → 0 < length bytes → IsItem Number bytes
number_item bytes e some = record { form = e; some = some; stops = λ after stops. stops }

pub label_item : (label : List ℕ) → IsItem Text (quoted label)
label_item label = record { form = quoted_string label; some = omega arith; stops = λ after stops. never after }

-- a token behind which one space or the end of the line stands
pub item_fits : (kind : TokenKind) (bytes : List ℕ) (b : ℕ) (rest : List ℕ) → IsItem kind bytes → is_run_byte b ≡ false → list_all is_white (b ∷ []) ≡ true → Fits (written [] kind bytes (b ∷ [])) rest
item_fits kind bytes b rest is stops white = record { form = is.form; some = is.some; before = refl; after = white; stops = is.stops (b ∷ rest) stops }

abbrev pub equals : Written
equals = written [] Equals (codes "=") space

abbrev pub paren_open : Written
paren_open = written [] ParenOpen (codes "(") []

abbrev pub paren_close : List ℕ → Written
paren_close after = written [] ParenClose (codes ")") after

abbrev pub semicolon : Written
semicolon = written [] Semicolon (codes ";") space

abbrev pub brace_open : Written
brace_open = written [] BraceOpen (codes "{") space

-- the end of a line
abbrev pub brace_close : Written
brace_close = written [] BraceClose (codes "}") (10 ∷ [])

abbrev pub bar : Written
bar = written [] Bar (codes "|") space

equals_fits : (rest : List ℕ) → Fits equals rest
equals_fits rest = record { form = refl; some = omega arith; before = refl; after = refl; stops = refl }

paren_open_fits : (rest : List ℕ) → Fits paren_open rest
paren_open_fits rest = record { form = refl; some = omega arith; before = refl; after = refl; stops = never rest }

paren_close_fits : (after rest : List ℕ) → list_all is_white after ≡ true → Fits (paren_close after) rest
paren_close_fits after rest white = record { form = refl; some = omega arith; before = refl; after = white; stops = never (after ++ rest) }

semicolon_fits : (rest : List ℕ) → Fits semicolon rest
semicolon_fits rest = record { form = refl; some = omega arith; before = refl; after = refl; stops = refl }

brace_open_fits : (rest : List ℕ) → Fits brace_open rest
brace_open_fits rest = record { form = refl; some = omega arith; before = refl; after = refl; stops = refl }

brace_close_fits : (rest : List ℕ) → Fits brace_close rest
brace_close_fits rest = record { form = refl; some = omega arith; before = refl; after = refl; stops = refl }

bar_fits : (rest : List ℕ) → Fits bar rest
bar_fits rest = record { form = refl; some = omega arith; before = refl; after = refl; stops = refl }

-- WORD = ( ITEMS ) ;
abbrev pub list_words : {A : Type 0} → List ℕ → TokenKind → (A → List ℕ) → List A → List Written
list_words name kind text xs = written [] Word name space ∷ equals ∷ paren_open ∷ (items kind text xs ++ paren_close [] ∷ semicolon ∷ [])

pub list_writes : {A : Type 0} (name : List ℕ) (kind : TokenKind) (text : A → List ℕ) (xs : List A) → is_name name ≡ true → All (λ x. IsItem kind (text x)) xs → Writes (list_words name kind text xs) ((name ++ codes " = (") ++ parted text xs ++ codes "); ")
list_writes name kind text xs is all = record {
  onto = λ rest. ap (λ more. name ++ (32 ∷ 61 ∷ 32 ∷ 40 ∷ more)) (text_onto-append (items kind text xs) (paren_close [] ∷ semicolon ∷ []) rest ∙ items_onto kind text xs (41 ∷ 59 ∷ 32 ∷ rest)) ∙ sym (simp append_assoc);
  stands = λ rest. (
    item_fits Word name 32 _ (name_item name is) refl refl,
    (
      equals_fits _,
      (
        paren_open_fits _,
        stands-append (items kind text xs) (paren_close [] ∷ semicolon ∷ []) rest (items_stand kind text xs (41 ∷ 59 ∷ 32 ∷ rest) all refl) (paren_close_fits [] _ refl, (semicolon_fits _, tt)),
      ),
    ),
  );
}

-- agent = AGENT ;
abbrev pub agent_words : List ℕ → List Written
agent_words agent = written [] Word (codes "agent") space ∷ equals ∷ written [] Text (quoted agent) [] ∷ semicolon ∷ []

pub agent_writes : (agent : List ℕ) → Writes (agent_words agent) (agent_text agent)
agent_writes agent = record {
  onto = λ rest. sym (simp append_assoc);
  stands = λ rest. (
    item_fits Word (codes "agent") 32 _ (name_item (codes "agent") refl) refl refl,
    (
      equals_fits _,
      (
        record { form = (label_item agent).form; some = (label_item agent).some; before = refl; after = refl; stops = never (59 ∷ 32 ∷ rest) },
        (semicolon_fits rest, tt),
      ),
    ),
  );
}

-- what tells the owners
abbrev pub owner_words : List (List ℕ) → List Written
owner_words [] = list_words (codes "agents") Text quoted []
owner_words (agent ∷ []) = agent_words agent
owner_words (agent ∷ other ∷ more) = list_words (codes "agents") Text quoted (agent ∷ other ∷ more)

owners_write : (owners : List (List ℕ)) → Writes (owner_words owners) (owners_text owners)
owners_write [] = list_writes (codes "agents") Text quoted [] refl (λ k d l. absurd (omega arith))
owners_write (agent ∷ []) = agent_writes agent
owners_write (agent ∷ other ∷ more) = list_writes (codes "agents") Text quoted (agent ∷ other ∷ more) refl (λ k d l. label_item (get_or (agent ∷ other ∷ more) k d))

abbrev pub attribute_words : Kind → List (List ℕ) → List (List ℕ) → List Written
attribute_words Chance labels owners = list_words (codes "states") Text quoted labels
attribute_words Decision labels owners = list_words (codes "states") Text quoted labels ++ owner_words owners
attribute_words Utility labels owners = owner_words owners

states_write : (labels : List (List ℕ)) → Writes (list_words (codes "states") Text quoted labels) (states_text labels)
states_write labels = list_writes (codes "states") Text quoted labels refl (λ k d l. label_item (get_or labels k d))

pub attributes_write : (kind : Kind) (labels owners : List (List ℕ)) → Writes (attribute_words kind labels owners) (attributes_text kind labels owners)
attributes_write Chance labels owners = states_write labels
attributes_write Decision labels owners = writes-append (list_words (codes "states") Text quoted labels) (owner_words owners) (states_text labels) (owners_text owners) (states_write labels) (owners_write owners)
attributes_write Utility labels owners = owners_write owners

-- WORD NAME {
abbrev pub open_words : List ℕ → List ℕ → List Written
open_words word name = written [] Word word space ∷ written [] Word name space ∷ brace_open ∷ []

open_writes : (word name : List ℕ) → is_name word ≡ true → is_name name ≡ true → Writes (open_words word name) ((word ++ 32 ∷ name) ++ codes " { ")
open_writes word name is_word is = record {
  onto = λ rest. sym (simp append_assoc);
  stands = λ rest. (item_fits Word word 32 _ (name_item word is_word) refl refl, (item_fits Word name 32 _ (name_item name is) refl refl, (brace_open_fits rest, tt)));
}

close_writes : Writes (brace_close ∷ []) (codes "}" ++ 10 ∷ [])
close_writes = record { onto = λ rest. refl; stands = λ rest. (brace_close_fits rest, tt) }

pub kind_named : (kind : Kind) → is_name (kind_word kind) ≡ true
kind_named Chance = refl
kind_named Decision = refl
kind_named Utility = refl

in_line : (head attributes : List ℕ) → (head ++ codes " { ") ++ (attributes ++ (codes "}" ++ 10 ∷ [])) ≡ (head ++ ((codes " { " ++ attributes) ++ codes "}")) ++ 10 ∷ []
in_line head attributes = simp append_assoc

-- a node's block
abbrev pub node_words : List NodeView → NamesView → ℕ → List Written
node_words nodes names v = open_words (kind_word (node_at nodes v).kind) (name_of names v) ++ (attribute_words (node_at nodes v).kind (labels_of names v) (owner_names nodes names v) ++ brace_close ∷ [])

pub node_writes : (nodes : List NodeView) (names : NamesView) (v : ℕ) → is_name (name_of names v) ≡ true → Writes (node_words nodes names v) (node_line nodes names v)
node_writes nodes names v named =
    let kind = (node_at nodes v).kind in
    let name = name_of names v in
    let owners = owner_names nodes names v in
    let words = attribute_words kind (labels_of names v) owners in
    let text = attributes_text kind (labels_of names v) owners in
    let opened = (kind_word kind ++ 32 ∷ name) ++ codes " { " in
    let closed = codes "}" ++ 10 ∷ [] in
    writes-same (node_words nodes names v) (opened ++ (text ++ closed)) (node_line nodes names v)
    (writes-append (open_words (kind_word kind) name) (words ++ brace_close ∷ []) opened (text ++ closed) (open_writes (kind_word kind) name (kind_named kind) named)
    (writes-append words (brace_close ∷ []) text closed (attributes_write kind (labels_of names v) owners) close_writes))
    (in_line (kind_word kind ++ 32 ∷ name) text)

-- a potential's head
abbrev pub head_words : NamesView → ℕ → List ℕ → List Written
head_words names v [] = written [] Word (codes "potential") space ∷ paren_open ∷ written [] Word (name_of names v) [] ∷ paren_close space ∷ []
head_words names v (u ∷ us) = written [] Word (codes "potential") space ∷ paren_open ∷ written [] Word (name_of names v) space ∷ bar ∷ (items Word (name_of names) (u ∷ us) ++ paren_close space ∷ [])

potential_fits : (rest : List ℕ) → Fits (written [] Word (codes "potential") space) rest
potential_fits rest = item_fits Word (codes "potential") 32 rest (name_item (codes "potential") refl) refl refl

head_writes : (names : NamesView) (v : ℕ) (parents : List ℕ) → is_name (name_of names v) ≡ true → All (λ u. is_name (name_of names u) ≡ true) parents → Writes (head_words names v parents) (head_text names v parents ++ space)
head_writes names v [] named all = record {
  onto = λ rest. sym (simp append_assoc);
  stands = λ rest. (
    potential_fits _,
    (
      paren_open_fits _,
      (
        record { form = (name_item (name_of names v) named).form; some = (name_item (name_of names v) named).some; before = refl; after = refl; stops = (name_item (name_of names v) named).stops (41 ∷ 32 ∷ rest) refl },
        (paren_close_fits space rest refl, tt),
      ),
    ),
  );
}
head_writes names v (u ∷ us) named all = record {
  onto = λ rest.
      let parted_by_one : text_onto (head_words names v (u ∷ us)) rest ≡ ((codes "potential (" ++ name_of names v ++ (codes " | " ++ parted (name_of names) (u ∷ us)) ++ codes ")") ++ space) ++ rest =
      ap (λ more. codes "potential (" ++ (name_of names v ++ (32 ∷ 124 ∷ 32 ∷ more))) (text_onto-append (items Word (name_of names) (u ∷ us)) (paren_close space ∷ []) rest ∙ items_onto Word (name_of names) (u ∷ us) (41 ∷ 32 ∷ rest)) ∙ sym (simp append_assoc) in
      parted_by_one ∙ ap (λ later. ((codes "potential (" ++ name_of names v ++ (codes " | " ++ (name_of names u ++ later)) ++ codes ")") ++ space) ++ rest) (sym (flat_map-map (λ piece. 32 ∷ piece) (name_of names) us));
  stands = λ rest. (
    potential_fits _,
    (
      paren_open_fits _,
      (
        item_fits Word (name_of names v) 32 _ (name_item (name_of names v) named) refl refl,
        (
          bar_fits _,
          stands-append (items Word (name_of names) (u ∷ us)) (paren_close space ∷ []) rest
              (items_stand Word (name_of names) (u ∷ us) (41 ∷ 32 ∷ rest) (λ k d l. name_item (name_of names (get_or (u ∷ us) k d)) (all k d l)) refl)
              (paren_close_fits space rest refl, tt),
        ),
      ),
    ),
  );
}

-- the numbers that a table prints are numerals
abbrev pub HasNumerals : Kind → ℕ → ℕ → ℕ → List ℤ → Type 0
HasNumerals Chance decimals states rows cells = All (λ x. is_numeral (decimal x) ≡ true) (reduced_rows states rows cells)
HasNumerals Decision decimals states rows cells = Unit {0}
HasNumerals Utility decimals states rows cells = All (λ x. is_numeral (value_text decimals x) ≡ true) cells

numeral_some : (bytes : List ℕ) → is_numeral bytes ≡ true → 0 < length bytes
numeral_some [] e = cc
numeral_some (b ∷ bytes) e = omega arith

abbrev pub table_words : Kind → ℕ → ℕ → ℕ → List ℤ → List Written
table_words Chance decimals states rows cells = list_words (codes "data") Number decimal (reduced_rows states rows cells)
table_words Decision decimals states rows cells = []
table_words Utility decimals states rows cells = list_words (codes "data") Number (value_text decimals) cells

table_writes : (kind : Kind) (decimals states rows : ℕ) (cells : List ℤ) → HasNumerals kind decimals states rows cells → Writes (table_words kind decimals states rows cells) (table_text kind decimals states rows cells)
table_writes Chance decimals states rows cells all = list_writes (codes "data") Number decimal (reduced_rows states rows cells) refl (λ k d l. number_item _ (all k d l) (numeral_some _ (all k d l)))
table_writes Decision decimals states rows cells all = record { onto = λ rest. refl; stands = λ rest. tt }
table_writes Utility decimals states rows cells all = list_writes (codes "data") Number (value_text decimals) cells refl (λ k d l. number_item _ (all k d l) (numeral_some _ (all k d l)))

in_potential : (head table : List ℕ) → (head ++ space) ++ (codes "{ " ++ (table ++ (codes "}" ++ 10 ∷ []))) ≡ (head ++ ((codes " { " ++ table) ++ codes "}")) ++ 10 ∷ []
in_potential head table = simp append_assoc

-- a node's potential
abbrev pub potential_words : DiagramView → NamesView → ℕ → List Written
potential_words d names v = let node = node_at d.nodes v in head_words names v node.parents ++ (brace_open ∷ (table_words node.kind d.decimals node.states (rows_of d.nodes v) node.cells ++ brace_close ∷ []))

pub potential_writes : (d : DiagramView) (names : NamesView) (v : ℕ) → is_name (name_of names v) ≡ true → All (λ u. is_name (name_of names u) ≡ true) (node_at d.nodes v).parents → HasNumerals (node_at d.nodes v).kind d.decimals (node_at d.nodes v).states (rows_of d.nodes v) (node_at d.nodes v).cells → Writes (potential_words d names v) (potential_line d names v)
potential_writes d names v named parents numerals =
    let node = node_at d.nodes v in
    let head = head_text names v node.parents in
    let words = table_words node.kind d.decimals node.states (rows_of d.nodes v) node.cells in
    let text = table_text node.kind d.decimals node.states (rows_of d.nodes v) node.cells in
    let closed = codes "}" ++ 10 ∷ [] in
    let opening : Writes (brace_open ∷ []) (codes "{ ") = record { onto = λ rest. refl; stands = λ rest. (brace_open_fits rest, tt) } in
    writes-same (potential_words d names v) ((head ++ space) ++ (codes "{ " ++ (text ++ closed))) (potential_line d names v)
    (writes-append (head_words names v node.parents) (brace_open ∷ (words ++ brace_close ∷ [])) (head ++ space) (codes "{ " ++ (text ++ closed)) (head_writes names v node.parents named parents)
    (writes-append (brace_open ∷ []) (words ++ brace_close ∷ []) (codes "{ ") (text ++ closed) opening
    (writes-append words (brace_close ∷ []) text closed (table_writes node.kind d.decimals node.states (rows_of d.nodes v) node.cells numerals) close_writes)))
    (in_potential head text)
