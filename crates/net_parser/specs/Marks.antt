-- Values as a row of marks: their leaves, and where each list opens and closes.
use Rattle.std.specs.Prelude.{◌⊎◌, Bool, true, false, List, [], ◌∷◌}
use Rattle.std.proofs.Common.{inl, inr}
use Rattle.net_lexer.specs.declared.tokens.Token.{Token}
use Rattle.net_parser.specs.Trees.{ValueTree, ValueTrees, leaf, list, none, more}

-- a leaf's token, or where a list opens (true) or closes (false)
abbrev pub TreeMark : Type 0
TreeMark = Bool ⊎ Token

-- the values in front, and those behind each list that closes later
abbrev pub Waiting : Type 0
Waiting = ValueTrees × List ValueTrees

-- the value stands before the values in front
abbrev pub push : ValueTree → Waiting → Waiting
push value w = (more value w.0, w.1)

-- the values in front become one list before those that follow it, which are none where it isn't
-- closed
abbrev pub wrapped : ValueTrees → List ValueTrees → Waiting
wrapped now [] = (more (list now) none, [])
wrapped now (next ∷ rest) = (more (list now) next, rest)

-- the values that marks stand for, and those behind each list that they only close
abbrev pub read : List TreeMark → Waiting
read [] = (none, [])
read (inr t ∷ after) = push (leaf t) (read after)
read (inl false ∷ after) = (none, (read after).0 ∷ (read after).1)
read (inl true ∷ after) = wrapped (read after).0 (read after).1
