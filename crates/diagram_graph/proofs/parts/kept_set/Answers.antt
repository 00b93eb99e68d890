use Rattle.std.proofs.Common.{ℕ, inl, inr, arith}
use Rattle.std.specs.Prelude.{Contains}
use Rattle.node_sets.specs.Sets.{IsIn}
use Rattle.diagram_graph.proofs.parts.kept_set.Goals as goal

pub insert_all-requires : goal.insert_all-requires
insert_all-requires c v m = let l = c.requires v m in let k = c.count-count.ensures.diagram.limits.nodes in omega arith

pub returns : goal.returns
returns c v =
    let law = (c.parts_are_diagrams.ensures.ancestors c.args.diagram.now.nodes c.args.of.now c.count-count.ensures.diagram.graph c.requires).1 v in
    let found = c.ancestors.ensures v in
    let listed : (u : ℕ) → IsIn c.insert_all.new.self u → Contains c.args.of.now u = λ u m. elim ((c.insert_all.ensures.all u).0 m) as (λ _. Contains c.args.of.now u) [
      | inl e ↦ absurd (c.empty-set.ensures u e)
      | inr k ↦ k
    ] in (
      (λ m. let r = found.0 m in law.1 (r.0, listed r.0 r.1, r.2)),
      (λ k. let r = law.0 k in found.1 (r.0, (c.insert_all.ensures.all r.0).1 (inr r.1), r.2)),
    )
