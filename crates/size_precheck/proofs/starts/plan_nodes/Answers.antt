use Rattle.std.proofs.Common.{◌<◌, ℕ, length, inl, inr, arith}
use Rattle.node_sets.specs.Sets.{IsIn}
use Rattle.size_precheck.proofs.Above.{leads_by}
use Rattle.size_precheck.proofs.Starting.{ends_with, ends_without, kept_known}
use Rattle.size_precheck.proofs.starts.plan_nodes.Goals as goal

pub set_of-ends-requires : goal.set_of-ends-requires
set_of-ends-requires c v m = let a = kept_known c.args.diagram.now.nodes _ c.requires.plan v m in let b = c.requires.diagram.limits.nodes in omega arith

pub insert-requires : goal.insert-requires
insert-requires c = let a = c.requires.known c.in-Some.u c.in-Some.is in let b = c.requires.diagram.limits.nodes in omega arith

pub nodes_above_all-nodes-requires : goal.nodes_above_all-nodes-requires
nodes_above_all-nodes-requires c t m = elim ((c.insert.ensures.all t).0 m) as (λ _. t < length c.args.families.now) [
  | inl k ↦ let a = kept_known c.args.diagram.now.nodes _ c.requires.plan t ((c.set_of-ends.ensures t).0 k) in let b = c.requires.all in omega arith
  | inr e ↦ let a = c.requires.known c.in-Some.u c.in-Some.is in let b = c.requires.all in omega arith
]

pub nodes_above_all-requires : goal.nodes_above_all-requires
nodes_above_all-requires c t m = let a = kept_known c.args.diagram.now.nodes _ c.requires.plan t ((c.set_of-ends.ensures t).0 m) in let b = c.requires.all in omega arith

pub remove-requires : goal.remove-requires
remove-requires c = let a = c.requires.known c.in-Some.u c.in-Some.is in let b = c.requires.diagram.limits.nodes in omega arith

pub returns-in-Some : goal.returns-in-Some
returns-in-Some c v =
    let within : (t : ℕ) → IsIn c.insert.new.self t → t < length c.args.families.now =
    λ t m. elim ((c.insert.ensures.all t).0 m) as (λ _. t < length c.args.families.now) [
      | inl k ↦ let a = kept_known c.args.diagram.now.nodes _ c.requires.plan t ((c.set_of-ends.ensures t).0 k) in let b = c.requires.all in omega arith
      | inr e ↦ let a = c.requires.known c.in-Some.u c.in-Some.is in let b = c.requires.all in omega arith
    ] in
    ends_with c.args.diagram.now.nodes c.args.keep.now c.args.utility c.requires.diagram.graph c.requires.plan c.plan_scopes.ensures.nodes c.in-Some.u c.in-Some.is
    _ _ _ _ c.set_of-ends.ensures c.insert.ensures.all (leads_by c.args.diagram.now.nodes c.args.families.now _ _ within c.requires.above c.nodes_above_all-nodes.ensures) c.remove.ensures v

pub returns-in-None : goal.returns-in-None
returns-in-None c v =
    let within : (t : ℕ) → IsIn c.set_of-ends.result t → t < length c.args.families.now =
    λ t m. let a = kept_known c.args.diagram.now.nodes _ c.requires.plan t ((c.set_of-ends.ensures t).0 m) in let b = c.requires.all in omega arith in
    ends_without c.args.diagram.now.nodes c.args.keep.now c.args.utility c.requires.diagram.graph c.requires.plan c.plan_scopes.ensures.nodes c.in-None.is
    _ _ c.set_of-ends.ensures (leads_by c.args.diagram.now.nodes c.args.families.now _ _ within c.requires.above c.nodes_above_all.ensures) v
