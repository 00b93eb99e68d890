use Rattle.std.proofs.Common.{ℕ, ◌<◌, ◌↔◌, List, length, inl, inr, subst, sym, arith}
use Rattle.std.specs.Prelude.{Contains}
use Rattle.node_sets.specs.Sets.{IsIn}
use Rattle.maid_model.specs.Graph.{Arc}
use Rattle.maid_model.specs.Relevance.{IsInFamily}
use Rattle.bayes_ball.proofs.FromGoals.{goal_free}
use Rattle.bayes_ball.proofs.goals.family_of.Goals as goal

pub returns : goal.returns
returns c =
    let nodes = c.args.diagram.now.nodes in
    let same = c.parents-parents.ensures.parents in
    let family : (x : ℕ) → IsIn c.insert_all.new.self x ↔ IsInFamily (Arc nodes) c.args.decision x = λ x.
    let all = c.insert_all.ensures.all x in (
      (λ m. elim (all.0 m) as (λ _. IsInFamily (Arc nodes) c.args.decision x) [
        | inl o ↦ inl ((c.of-family.ensures x).0 o)
        | inr p ↦ inr (subst (λ (xs : List ℕ). Contains xs x) same p)
      ]),
      elim [ inl e ↦ all.1 (inl ((c.of-family.ensures x).1 e)) | inr p ↦ all.1 (inr (subst (λ (xs : List ℕ). Contains xs x) (sym same) p)) ],
    ) in
    let graph = c.parents-parents.ensures.diagram.graph in
    record {
      family = family;
      known = λ x m. elim ((family x).0 m) as (λ _. x < length nodes) [
        | inl e ↦ subst (λ y. y < length nodes) (sym e) c.requires.within
        | inr p ↦ graph.parents_known x c.args.decision p
      ];
      no_goal = λ x g m. goal_free nodes c.args.decision x graph c.requires g ((family x).0 m);
    }

pub insert_all-requires : goal.insert_all-requires
insert_all-requires c v there = let l = c.parents-parents.ensures.known v there in let m = c.parents-parents.ensures.diagram.limits.nodes in omega arith
