-- A value's tree as a list: its leaves, and where each list opens and closes.
use Rattle.std.proofs.Common.{◌≡◌, List, [], ◌∷◌, true, false, inl, inr, refl, ap}
use Rattle.std.specs.Coded.{Coded, code_by, coded_list, coded⊎, coded×, coded_bool}
use Rattle.net_lexer.specs.declared.tokens.Token.{Token}
use Rattle.net_lexer.specs.contracts.tokens.Token as token
use Rattle.net_parser.specs.declared.trees.BlockKind.{BlockKind}
use Rattle.net_parser.specs.contracts.trees.BlockKind as kind
use Rattle.net_parser.specs.Marks.{TreeMark, push, read}
use Rattle.net_parser.specs.Trees.{BlockTree, AttributeTree, ValueTree, ValueTrees, leaf, list, none, more}

-- the marks of a value, or of values, before those that follow
abbrev mutual
  marks : ValueTree → List TreeMark → List TreeMark
  marks (leaf t) after = inr t ∷ after
  marks (list values) after = inl true ∷ all_marks values (inl false ∷ after)

  all_marks : ValueTrees → List TreeMark → List TreeMark
  all_marks none after = after
  all_marks (more value values) after = marks value (all_marks values after)

-- the one values and then the others
abbrev append : ValueTrees → ValueTrees → ValueTrees
append none others = others
append (more value values) others = more value (append values others)

append_none : (values : ValueTrees) → append values none ≡ values
append_none none = refl
append_none (more value values) = ap (more value) (append_none values)

mutual
  read-marks : (value : ValueTree) (after : List TreeMark) → read (marks value after) ≡ push value (read after)
  read-marks (leaf t) after = refl
  read-marks (list values) after = rw (read-all_marks values (inl false ∷ after), append_none values) refl

  read-all_marks : (values : ValueTrees) (after : List TreeMark)
      → read (all_marks values after) ≡ (append values (read after).0, (read after).1)
  read-all_marks none after = refl
  read-all_marks (more value values) after = rw (read-marks value (all_marks values after), read-all_marks values after) refl

-- the first value, or an empty list where there is none
abbrev first : ValueTrees → ValueTree
first none = list none
first (more value values) = value

pub back : (value : ValueTree) → first (read (marks value [])).0 ≡ value
back value = rw (read-marks value []) refl

-- a value's tree as the list of its marks, from which it is read back
abbrev pub value_code : Coded ValueTree
value_code = code_by (List TreeMark) (coded_list (coded⊎ coded_bool token.the_row.coded))
    (λ v. marks v []) (λ ms. first (read ms).0) back

-- an attribute as its name and its value
abbrev pub attribute_code : Coded AttributeTree
attribute_code = code_by (Token × ValueTree) (coded× token.the_row.coded value_code)
    (λ a. (a.name, a.value)) (λ p. record { name = p.0; value = p.1 }) (λ _. refl)

-- a block as its kind, its names and its attributes
abbrev pub block_code : Coded BlockTree
block_code = code_by (BlockKind × (List Token × List AttributeTree))
    (coded× kind.the_row.coded (coded× (coded_list token.the_row.coded)
    (coded_list attribute_code))) (λ b. (b.kind, (b.names, b.attributes)))
    (λ p. record { kind = p.0; names = p.1.0; attributes = p.1.1 }) (λ _. refl)
