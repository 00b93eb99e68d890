use Rattle.std.proofs.Common.{◌≡◌, ◌∙◌, ◌+◌, ◌-◌, ◌≤◌, take, drop, length, sym, ap, arith}
use Rattle.std.proofs.lemmas.List.{length-take-le}
use Rattle.factor_core.specs.Slots.{part}
use Rattle.factor_core.proofs.Standing.{part_of_first}
use Rattle.factor_core.proofs.workspaces.Workspace.strip.Goals as goal

pub returns : goal.returns
returns g c =
    let s = c.args.strip.now in
    let items = c.self.inside.cells.items in
    let used = c.self.inside.used in
    let is : take used items ≡ c.args.self.now.cells = ap (λ v. v.cells) c.self.view_is in
    let long : length (take used items) ≡ used = length-take-le used items (omega (arith, c.self.invariant.0, c.deref.ensures.len, ap length c.deref.ensures.value)) in
    let within : s.start + s.len ≤ used = omega (arith, c.requires, ap length is, long) in
    let few : (s.start + s.len) - s.start ≡ s.len = omega arith in
    ap (λ k. take k (drop s.start c.deref.result.now)) few
    ∙ ap (λ cs. part cs s.start s.len) c.deref.ensures.value
    ∙ sym (part_of_first items used s.start s.len within)
    ∙ ap (λ cs. part cs s.start s.len) is
