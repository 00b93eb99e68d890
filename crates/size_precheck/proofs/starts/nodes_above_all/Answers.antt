use Rattle.std.proofs.Common.{◌≡◌, ℕ, get_or, subst, sym, arith}
use Rattle.std.proofs.lemmas.List.{get_or_default}
use Rattle.node_sets.specs.Sets.{IsIn}
use Rattle.size_precheck.specs.declared.planners.Family.{Family}
use Rattle.size_precheck.specs.Families.{family_at}
use Rattle.size_precheck.proofs.Walking.{gathered_all, gathered_more}
use Rattle.size_precheck.proofs.starts.nodes_above_all.Goals as goal

pub ends-init : goal.ends-init
ends-init c = record {
  within = omega arith;
  leads = λ u. ((λ m. absurd (c.empty-nodes.ensures u m)), (λ h. absurd (omega (arith, h.1))));
}

pub bounds-families-to : goal.bounds-families-to
bounds-families-to c = c.requires c.in-Some.to c.in-Some.ensures.inside

pub overflow_add-from : goal.overflow_add-from
overflow_add-from c = let l = c.in-Some.ensures.small in omega (arith, l)

pub ends-smaller : goal.ends-smaller
ends-smaller c = let l = c.in-Some.ensures.small in let n = c.in-Some.ensures.not_before in omega (arith, l, n)

pub ends-preserved : goal.ends-preserved
ends-preserved c =
    let families = c.args.families.now in
    let to : ℕ = c.in-Some.to in
    let same : get_or families to _ ≡ family_at families to = get_or_default families to _ _ (c.requires to c.in-Some.ensures.inside) in
    record {
      within = let l = c.in-Some.ensures.small in omega (arith, l);
      leads = gathered_more c.args.ends.now (λ t u. IsIn (family_at families t).above u) c.ends.from c.ends.nodes c.ends.invariant.leads to _ c.union-nodes.result c.in-Some.ensures
          (λ u. (subst (λ (f : Family). IsIn f.above u) same, subst (λ (f : Family). IsIn f.above u) (sym same))) c.union-nodes.ensures;
    }

pub returns : goal.returns
returns c = gathered_all c.args.ends.now (λ t u. IsIn (family_at c.args.families.now t).above u) c.ends.from c.ends.nodes c.ends.invariant.leads c.in_default.ensures
