use Rattle.std.proofs.Common.{◌⊎◌, ◌↔◌, ℕ, Contains, subst, arith}
use Rattle.node_sets.specs.Sets.{IsIn}
use Rattle.weight_scale.proofs.ScopeMembers.{decisions_ancestors}
use Rattle.weight_scale.proofs.scopes.scope_of_goals.Goals as goal

pub insert_all-requires : goal.insert_all-requires
insert_all-requires c v m = let l = c.parents-parents.ensures.known v m in let n = c.parents-parents.ensures.diagram.limits.nodes in omega arith

pub insert-requires : goal.insert-requires
insert-requires c = let l = c.requires.decision.within in let n = c.parents-parents.ensures.diagram.limits.nodes in omega arith

pub returns : goal.returns
returns c =
    let ends = c.insert_all.new.self in
    let goals = c.args.goals in
    let all = subst (λ list. (u : ℕ) → IsIn ends u ↔ (IsIn goals u ⊎ Contains list u)) c.parents-parents.ensures.parents c.insert_all.ensures.all in
    decisions_ancestors c.args.diagram.now.nodes c.parents-parents.ensures.diagram.graph c.args.decision c.requires.decision goals c.requires.goals ends c.ancestors-scope.result c.insert.new.self all c.ancestors-scope.ensures c.insert.ensures.all
