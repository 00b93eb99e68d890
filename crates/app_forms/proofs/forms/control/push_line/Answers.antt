use Rattle.std.proofs.Common.{◌<◌, length}
use Rattle.std.proofs.lemmas.List.Elements.{All-tail}
use Rattle.app_forms.specs.Found.{cycle_told}
use Rattle.app_forms.proofs.forms.control.push_line.Goals as goal

-- the nodes of a cycle have names
pub push_found-requires : goal.push_found-requires
push_found-requires c =
    let told = c.args.line.now in
    All-tail (λ v. v < length c.args.names.now.nodes) told.node (cycle_told told.found) c.requires
