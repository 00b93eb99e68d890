-- Strings among values, and their leaves.
use Rattle.std.proofs.Common.{◌≡◌, ℕ, ◌+◌, ◌<◌, ◌≤◌, Bool, true, false, ◌&&◌, List, [], ◌∷◌, ◌++◌, length, get_or, take, map, All, Result, Ok, Err, inl, inr, nat_le, refl, ap, sym, ◌∙◌, arith}
use Rattle.std.specs.List.{list_all}
use Rattle.std.proofs.lemmas.Bool.{false≢true, false_from_ne_true}
use Rattle.std.proofs.lemmas.Bool.Decides.{nat_tests}
use Rattle.std.specs.Global.{Vec}
use Rattle.net_build.specs.Blocks.{is_string, is_text, are_strings, is_string_list, no_token, title_at}
use Rattle.std.proofs.lemmas.List.{map-append, get_or_default, length-append}
use Rattle.std.proofs.lemmas.List.Elements.{All-nil, All-cons, All-append}
use Rattle.net_build.specs.declared.faults.BuildFault.{BuildFault}
use Rattle.net_build.specs.declared.faults.BuildFault.TheVariants.{Fault, NoMemory}
use Rattle.net_build.specs.declared.faults.BuildKind.TheVariants as kinds
use Rattle.net_build.specs.declared.faults.Limit.TheVariants as limits
use Rattle.maid_model.specs.Names.{list_of}
use Rattle.first_fault.specs.Passes.{each}
use Rattle.first_fault.specs.Answers.{IsFaultOrNoMemory, Passes}
use Rattle.net_build.specs.Passes.{build_fault}
use Rattle.net_build.specs.Stages.{are_text_tokens}
use Rattle.net_build.specs.Table.{label_row, label_rows, states_rows}
use Rattle.net_build.proofs.AttributeLemmas.{and_left, and_right}
use Rattle.net_build.proofs.LinkLemmas.{map_more}
use Rattle.net_lexer.specs.Token.{text_value}
use Rattle.net_lexer.specs.declared.tokens.Token.{Token}
use Rattle.net_lexer.specs.declared.tokens.TokenKind.{TokenKind}
use Rattle.net_lexer.specs.declared.tokens.TokenKind.TheVariants as tokens
use Rattle.net_parser.specs.Owned.{leaves, all_leaves}
use Rattle.net_parser.specs.Trees.{ValueTree, ValueTrees, leaf, list, none, more, AttributeTree, BlockTree}
use Rattle.net_parser.specs.Views.{trees_of, IsFlatList, HasNoFlatList}

-- strings in a list of leaves alone
texts_are_all : (ts : List Token) → are_strings (trees_of (map leaf ts)) ≡ list_all (λ t. is_text t.kind) ts
texts_are_all [] = refl
texts_are_all (t ∷ ts) = ap (λ b. is_text t.kind && b) (texts_are_all ts)

text_list_is : (ts : List Token) → is_string_list (list (trees_of (map leaf ts))) ≡ are_text_tokens ts
text_list_is [] = refl
text_list_is (t ∷ ts) = ap (λ b. is_text t.kind && b) (texts_are_all ts)

all_flat : (ts : List Token) → all_leaves (trees_of (map leaf ts)) ≡ ts
all_flat [] = refl
all_flat (t ∷ ts) = ap (λ us. t ∷ us) (all_flat ts)

-- the leaves of a list of leaves alone
pub flat_leaves : (value : ValueTree) (ts : List Token) → IsFlatList value ts → ts ≡ leaves value
flat_leaves value ts is = sym (ap leaves is ∙ all_flat ts)

-- they are strings where the list is one of strings
pub flat_strings : (value : ValueTree) (ts : List Token) → IsFlatList value ts → is_string_list value ≡ are_text_tokens ts
flat_strings value ts is = ap is_string_list is ∙ text_list_is ts

strings_flat : (vs : ValueTrees) → are_strings vs ≡ true → (ts : List Token) × (vs ≡ trees_of (map leaf ts))
strings_flat none e = ([], refl)
strings_flat (more (leaf t) vs) e =
    let rest = strings_flat vs (and_right (is_text t.kind) (are_strings vs) e) in
    (t ∷ rest.0, ap (more (leaf t)) rest.1)
strings_flat (more (list inner) vs) e = absurd (false≢true e)

list_flat : (value : ValueTree) → is_string_list value ≡ true → (ts : List Token) × IsFlatList value ts
list_flat (leaf t) e = absurd (false≢true e)
list_flat (list none) e = absurd (false≢true e)
list_flat (list (more v vs)) e = let flat = strings_flat (more v vs) e in (flat.0, ap list flat.1)

-- a list of strings has no list inside
pub no_strings : (value : ValueTree) → HasNoFlatList value → false ≡ is_string_list value
no_strings value nested = sym (false_from_ne_true (is_string_list value) (λ e. let flat = list_flat value e in nested flat.0 flat.1))

abbrev IsText : Token → Type 0
IsText t = t.kind ≡ tokens.Text

text_kind : (kind : TokenKind) → is_text kind ≡ true → kind ≡ tokens.Text
text_kind tokens.Text e = refl
text_kind kind e = cc

string_text : (tree : ValueTree) → is_string tree ≡ true → All IsText (leaves tree)
string_text (leaf t) e = All-cons IsText t [] (text_kind t.kind e) (All-nil IsText)
string_text (list vs) e = absurd (false≢true e)

strings_text : (vs : ValueTrees) → are_strings vs ≡ true → All IsText (all_leaves vs)
strings_text none e = All-nil IsText
strings_text (more v vs) e = All-append IsText (leaves v) (all_leaves vs) (string_text v (and_left (is_string v) (are_strings vs) e)) (strings_text vs (and_right (is_string v) (are_strings vs) e))

-- the leaves of a list of strings are strings
pub all_texts : (tree : ValueTree) → is_string_list tree ≡ true → All IsText (leaves tree)
all_texts (leaf t) e = absurd (false≢true e)
all_texts (list none) e = absurd (false≢true e)
all_texts (list (more v vs)) e = strings_text (more v vs) e

-- one more label
pub labels_step : (text : List ℕ) (strings : List Token) (labels longer : List (Vec ℕ)) (i : ℕ) (label : Vec ℕ) → i < length strings → list_of labels ≡ map (text_value text) (take i strings) → label.items ≡ text_value text (get_or strings i no_token) → longer ≡ labels ++ label ∷ [] → list_of longer ≡ map (text_value text) (take (i + 1) strings)
labels_step text strings labels longer i label h so this is =
    map_more (text_value text) strings (list_of labels) (list_of longer) i (get_or strings i no_token) label.items h (get_or_default strings i no_token (get_or strings i no_token) h) this so
    (ap list_of is ∙ map-append (λ (l : Vec ℕ). l.items) labels (label ∷ []))

-- a test behind one that passes
pub short_and : (n : ℕ) (b r : Bool) → n ≤ 255 → r ≡ b → r ≡ (nat_le n 255 && b)
short_and n b r h e = grind (arith, nat_tests)

-- a string has one leaf
pub one_leaf : (tree : ValueTree) → is_string tree ≡ true → length (leaves tree) ≡ 1
one_leaf (leaf t) e = refl
one_leaf (list vs) e = absurd (false≢true e)

-- a test that doesn't fail
pub not_false : (b : Bool) → (b ≡ false → ⊥) → b ≡ true
not_false true h = refl
not_false false h = absurd (h refl)

-- a list of strings has a leaf
pub some_leaf : (tree : ValueTree) → is_string_list tree ≡ true → 0 < length (leaves tree)
some_leaf (leaf t) e = absurd (false≢true e)
some_leaf (list none) e = absurd (false≢true e)
some_leaf (list (more v vs)) e =
    let first = one_leaf v (and_left (is_string v) (are_strings vs) e) in
    let sum = length-append (leaves v) (all_leaves vs) in omega arith

-- the value of `states` is no list of strings
pub bad_states : (text : List ℕ) (states : AttributeTree) (fault : BuildFault) → is_string_list states.value ≡ false → fault ≡ Fault states.name.start kinds.BadStates → IsFaultOrNoMemory build_fault (label_rows text states) fault
unfolding label_rows
bad_states text states fault bad what = rw what (inl (bad, refl))

-- or one of too many
pub many_states : (text : List ℕ) (states : AttributeTree) (fault : BuildFault) (count : ℕ) → is_string_list states.value ≡ true → count ≡ length (leaves states.value) → 256 < count → fault ≡ Fault states.name.start (kinds.LimitPassed limits.States count) → IsFaultOrNoMemory build_fault (label_rows text states) fault
unfolding label_rows
many_states text states fault count good counted many what = rw (what, counted) (inr (λ bad. false≢true (sym bad ∙ good), inl (rw counted at many, refl)))

-- or of few, so that its labels decide
pub few_states : {A : Type 0} (text : List ℕ) (states : AttributeTree) (result : Result A BuildFault) → is_string_list states.value ≡ true → length (leaves states.value) ≤ 256 → Passes build_fault (each (label_row text) (leaves states.value)) result → Passes build_fault (label_rows text states) result
unfolding label_rows
few_states text states (Ok x) good few rows = (λ bad. false≢true (sym bad ∙ good), (λ many. omega arith, rows))
few_states text states (Err NoMemory) good few rows = tt
few_states text states (Err (Fault at kind)) good few rows = inr (λ bad. false≢true (sym bad ∙ good), inr (λ many. omega arith, rows))

-- a block without `states`
pub no_states : (text : List ℕ) (block : BlockTree) (states : List AttributeTree) (fault : BuildFault) → states ≡ [] → fault ≡ Fault (title_at block) kinds.MissingStates → IsFaultOrNoMemory build_fault (states_rows text block states) fault
unfolding states_rows
no_states text block states fault absent what = rw (what, absent) (tt, refl)

-- a block with `states`
pub some_states : {A : Type 0} (text : List ℕ) (block : BlockTree) (states : List AttributeTree) (first : AttributeTree) (rest : List AttributeTree) (result : Result A BuildFault) → states ≡ first ∷ rest → Passes build_fault (label_rows text first) result → Passes build_fault (states_rows text block states) result
unfolding states_rows
some_states text block states first rest result some rows = rw some rows
