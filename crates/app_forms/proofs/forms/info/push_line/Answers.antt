use Rattle.std.proofs.Common.{ℕ, ◌<◌, length, ◌∷◌}
use Rattle.std.proofs.lemmas.List.Elements.{All-head, All-tail}
use Rattle.app_forms.specs.Found.{cycle_told}
use Rattle.app_forms.proofs.forms.info.push_line.Goals as goal

-- the decision has a name
pub name-requires-2 : goal.name-requires-2
name-requires-2 c =
    let known : ℕ → Type 0 = λ v. v < length c.args.names.now.nodes in
    let told = c.args.line.now in
    All-head known told.to (cycle_told told.found) (All-tail known told.from (told.to ∷ cycle_told told.found) c.requires)

-- and so have those of a cycle
pub push_found-requires : goal.push_found-requires
push_found-requires c =
    let known : ℕ → Type 0 = λ v. v < length c.args.names.now.nodes in
    let told = c.args.line.now in
    All-tail known told.to (cycle_told told.found) (All-tail known told.from (told.to ∷ cycle_told told.found) c.requires)
