use Rattle.std.proofs.Common.{◌≡◌, drop, filter}
use Rattle.net_build.specs.Blocks.{names_owners, word_of}
use Rattle.net_build.proofs.owner_names.first_telling.Given as goal

-- none of the attributes before tells the owners
abbrev pub invariant-loop-attribute : goal.invariant-loop-attribute
invariant-loop-attribute l = filter (λ a. names_owners l.kind (word_of l.text a)) (drop l.attribute-index l.attributes) ≡ filter (λ a. names_owners l.kind (word_of l.text a)) l.attributes
