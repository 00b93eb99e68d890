-- The leaves of tokens that spell values, and where they are leaves alone.
use Rattle.std.proofs.Common.{◌≡◌, Bool, true, false, not, ◌&&◌, List, [], ◌∷◌, ◌++◌, map, filter, cond, inr, refl, sym, ap, ◌∙◌, append-nil, append_assoc}
use Rattle.std.specs.List.{list_all}
use Rattle.std.proofs.lemmas.Bool.{and_parts, false≢true}
use Rattle.net_lexer.specs.declared.tokens.Token.{Token}
use Rattle.net_lexer.specs.declared.tokens.TokenKind.{TokenKind}
use Rattle.net_lexer.specs.declared.tokens.TokenKind.TheVariants as kinds
use Rattle.net_parser.specs.Lexemes.{is_parenthesis}
use Rattle.net_parser.specs.Marks.{TreeMark, Waiting, push, read, wrapped}
use Rattle.net_parser.specs.Owned.{all_leaves}
use Rattle.net_parser.specs.Trees.{ValueTree, ValueTrees, leaf, list, none, more}
use Rattle.net_parser.specs.Views.{closed, mark_of, marks_of, trees_of, values_of}

-- the token is no parenthesis
abbrev pub is_item : Token → Bool
is_item t = not (is_parenthesis t.kind)

-- the leaves of all values, also of those that follow each list that closes later
abbrev later_leaves : List ValueTrees → List Token
later_leaves [] = []
later_leaves (next ∷ later) = all_leaves next ++ later_leaves later

closed_leaves : (now : ValueTrees) (later : List ValueTrees) → all_leaves (closed now later) ≡ all_leaves now ++ later_leaves later
closed_leaves now [] = sym (append-nil (all_leaves now))
closed_leaves now (next ∷ later) = closed_leaves (more (list now) next) later ∙ append_assoc (all_leaves now) (all_leaves next) (later_leaves later)

wrapped_leaves : (now : ValueTrees) (later : List ValueTrees) → all_leaves (wrapped now later).0 ++ later_leaves (wrapped now later).1 ≡ all_leaves now ++ later_leaves later
wrapped_leaves now [] = append-nil (all_leaves now ++ [])
wrapped_leaves now (next ∷ rest) = append_assoc (all_leaves now) (all_leaves next) (later_leaves rest)

abbrev read_leaves : List TreeMark → List Token
read_leaves marks = all_leaves (read marks).0 ++ later_leaves (read marks).1

item_mark : (kind : TokenKind) (t : Token) → not (is_parenthesis kind) ≡ true → mark_of kind t ≡ inr t
item_mark kinds.ParenOpen t e = absurd (false≢true e)
item_mark kinds.ParenClose t e = absurd (false≢true e)
item_mark kind t e = refl

item_first : (t : Token) (ts : List Token) → is_item t ≡ true → read_leaves (marks_of ts) ≡ filter is_item ts → read_leaves (marks_of (t ∷ ts)) ≡ filter is_item (t ∷ ts)
item_first t ts item rest =
    ap (λ m. read_leaves (m ∷ marks_of ts)) (item_mark t.kind t item)
    ∙ ap (λ us. t ∷ us) rest
    ∙ ap (λ b. cond b (t ∷ filter is_item ts) (filter is_item ts)) (sym item)

one_leaf : (kind : TokenKind) (t : Token) (ts : List Token) → t.kind ≡ kind → read_leaves (marks_of ts) ≡ filter is_item ts → read_leaves (marks_of (t ∷ ts)) ≡ filter is_item (t ∷ ts)
one_leaf kinds.ParenOpen t ts e rest = rw e (wrapped_leaves (read (marks_of ts)).0 (read (marks_of ts)).1 ∙ rest)
one_leaf kinds.ParenClose t ts e rest = rw e rest
one_leaf kind t ts e rest = item_first t ts (ap (λ k. not (is_parenthesis k)) e) rest

leaves_read : (ts : List Token) → read_leaves (marks_of ts) ≡ filter is_item ts
leaves_read [] = refl
leaves_read (t ∷ ts) = one_leaf t.kind t ts refl (leaves_read ts)

-- the leaves of a list are its tokens but for the parentheses
pub leaves_of_values : (ts : List Token) → all_leaves (values_of ts) ≡ filter is_item ts
leaves_of_values ts = closed_leaves (read (marks_of ts)).0 (read (marks_of ts)).1 ∙ leaves_read ts

-- no list stands among the values
abbrev are_flat : ValueTrees → Bool
are_flat none = true
are_flat (more (leaf t) values) = are_flat values
are_flat (more (list inner) values) = false

flat_trees : (ts : List Token) → are_flat (trees_of (map leaf ts)) ≡ true
flat_trees [] = refl
flat_trees (t ∷ ts) = flat_trees ts

flat_read : (ts : List Token) → list_all is_item ts ≡ true → read (marks_of ts) ≡ (trees_of (map leaf ts), [])
flat_read [] all = refl
flat_read (t ∷ ts) all =
    let parts = and_parts (is_item t) _ all in
    ap (λ m. read (m ∷ marks_of ts)) (item_mark t.kind t parts.0) ∙ ap (push (leaf t)) (flat_read ts parts.1)

-- leaves alone spell themselves
pub flat_values : (ts : List Token) → list_all is_item ts ≡ true → values_of ts ≡ trees_of (map leaf ts)
flat_values ts all = ap (λ (w : Waiting). closed w.0 w.1) (flat_read ts all)

closed_list : (inner values : ValueTrees) (later : List ValueTrees) → are_flat (closed (more (list inner) values) later) ≡ false
closed_list inner values [] = refl
closed_list inner values (next ∷ later) = closed_list (more (list inner) values) next later

closed_one : (now next : ValueTrees) (later : List ValueTrees) → are_flat (closed now (next ∷ later)) ≡ false
closed_one now next later = closed_list now next later

wrapped_list : (now : ValueTrees) (later : List ValueTrees) → are_flat (closed (wrapped now later).0 (wrapped now later).1) ≡ false
wrapped_list now [] = refl
wrapped_list now (next ∷ rest) = closed_list now next rest

pushed_leaf : (t : Token) (now : ValueTrees) (later : List ValueTrees) → are_flat (closed now later) ≡ false → are_flat (closed (more (leaf t) now) later) ≡ false
pushed_leaf t now [] e = e
pushed_leaf t now (next ∷ later) e = closed_list (more (leaf t) now) next later

list_later : (t : Token) (ts : List Token) → is_item t ≡ true → (list_all is_item ts ≡ false → are_flat (values_of ts) ≡ false) → list_all is_item (t ∷ ts) ≡ false → are_flat (values_of (t ∷ ts)) ≡ false
list_later t ts item rest some =
    ap (λ m. are_flat (closed (read (m ∷ marks_of ts)).0 (read (m ∷ marks_of ts)).1)) (item_mark t.kind t item)
    ∙ pushed_leaf t (read (marks_of ts)).0 (read (marks_of ts)).1 (rest (ap (λ b. b && list_all is_item ts) (sym item) ∙ some))

one_list : (kind : TokenKind) (t : Token) (ts : List Token) → t.kind ≡ kind → (list_all is_item ts ≡ false → are_flat (values_of ts) ≡ false) → list_all is_item (t ∷ ts) ≡ false → are_flat (values_of (t ∷ ts)) ≡ false
one_list kinds.ParenOpen t ts e rest some = rw e (wrapped_list (read (marks_of ts)).0 (read (marks_of ts)).1)
one_list kinds.ParenClose t ts e rest some = rw e (closed_list none (read (marks_of ts)).0 (read (marks_of ts)).1)
one_list kind t ts e rest some = list_later t ts (ap (λ k. not (is_parenthesis k)) e) rest some

nested_read : (ts : List Token) → list_all is_item ts ≡ false → are_flat (values_of ts) ≡ false
nested_read [] some = absurd (false≢true (sym some))
nested_read (t ∷ ts) some = one_list t.kind t ts refl (nested_read ts) some

abbrev inner_values : ValueTree → ValueTrees
inner_values (leaf t) = none
inner_values (list values) = values

-- where a list stands among them, they are no leaves alone
pub nested_values : (ts us : List Token) → list_all is_item ts ≡ false → list (values_of ts) ≡ list (trees_of (map leaf us)) → ⊥
nested_values ts us some e =
    false≢true (sym (nested_read ts some) ∙ ap (λ v. are_flat (inner_values v)) e ∙ flat_trees us)

-- a leaf is no list
pub leaf_not_list : (t : Token) (values : ValueTrees) → leaf t ≡ list values → ⊥
leaf_not_list t values e = cc
