use Rattle.std.proofs.Common.{◌≡◌, drop}
use Rattle.net_build.specs.Blocks.{named}
use Rattle.net_build.proofs.attributes.first_named.Given as goal

-- none of the attributes before has the name
abbrev pub invariant-loop-attribute : goal.invariant-loop-attribute
invariant-loop-attribute l = named l.text l.word (drop l.attribute-index l.attributes) ≡ named l.text l.word l.attributes
