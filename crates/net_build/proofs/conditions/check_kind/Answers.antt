-- The kind at the node is its head's.
use Rattle.std.proofs.Common.{◌∙◌, refl}
use Rattle.std.proofs.lemmas.List.{get_or-map}
use Rattle.maid_model.specs.declared.diagrams.Kind.TheVariants.{Chance}
use Rattle.net_build.specs.declared.nodes.Head.{Head}
use Rattle.net_build.proofs.conditions.check_kind.Goals as goal

pub returns-in-Utility : goal.returns-in-Utility
returns-in-Utility c = rw c.at.ensures (get_or-map (λ (h : Head). h.kind) c.args.heads.now c.args.node record { at = 0; kind = Chance; owner = 0; states = 0 } Chance c.requires ∙ c.in-Utility.is, refl)
