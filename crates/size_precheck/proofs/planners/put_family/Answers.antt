use Rattle.std.proofs.Common.{◌≢◌, ◌∙◌, inl, inr, arith}
use Rattle.maid_model.specs.declared.diagrams.Kind.TheVariants.{Utility}
use Rattle.maid_model.specs.Nodes.{node_at}
use Rattle.size_precheck.proofs.Joining.{family_put, family_within}
use Rattle.size_precheck.proofs.planners.put_family.Goals as goal

pub put_table-requires : goal.put_table-requires
put_table-requires c = record {
  tag = let a = c.kind.ensures.diagram.limits.nodes in let b = c.requires.within in let e = c.requires.tag in omega arith;
  within = λ y m. let a = family_within c.args.diagram.now.nodes c.args.v y c.kind.ensures.diagram.graph c.requires.within ((c.requires.scope y).0 m) in let b = c.requires.len in omega arith;
}

pub returns-in-Chance : goal.returns-in-Chance
returns-in-Chance c =
    let plain : (node_at c.args.diagram.now.nodes c.args.v).kind ≢ Utility = λ e.
    let same = c.kind.ensures.kind ∙ e in
    elim c.in-Chance.is as (λ _. ⊥) [ inl a ↦ absurd (cc) | inr b ↦ absurd (cc) ] in
    record {
      len = c.put_table.ensures.len;
      joined = family_put c.args.diagram.now.nodes c.args.v c.args.table.now c.empty-none.result c.args.joints.now c.put_table.new.joints plain c.empty-none.ensures c.requires.tag c.requires.scope c.put_table.ensures.put c.put_table.ensures.same;
    }
