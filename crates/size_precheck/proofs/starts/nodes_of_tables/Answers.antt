use Rattle.std.proofs.Common.{◌≡◌, ℕ, get_or, subst, sym, arith}
use Rattle.std.proofs.lemmas.List.{get_or_default}
use Rattle.node_sets.specs.Sets.{IsIn}
use Rattle.size_precheck.specs.declared.planners.Family.{Family}
use Rattle.size_precheck.specs.Families.{family_at}
use Rattle.size_precheck.proofs.Walking.{gathered_all, gathered_more}
use Rattle.size_precheck.proofs.starts.nodes_of_tables.Goals as goal

pub tables-init : goal.tables-init
tables-init c = record {
  within = omega arith;
  inside = λ u. ((λ m. absurd (c.empty-nodes.ensures u m)), (λ h. absurd (omega (arith, h.1))));
}

pub bounds-families-t : goal.bounds-families-t
bounds-families-t c = c.requires c.in-Some.t c.in-Some.ensures.inside

pub overflow_add-from : goal.overflow_add-from
overflow_add-from c = let l = c.in-Some.ensures.small in omega (arith, l)

pub tables-smaller : goal.tables-smaller
tables-smaller c = let l = c.in-Some.ensures.small in let n = c.in-Some.ensures.not_before in omega (arith, l, n)

pub tables-preserved : goal.tables-preserved
tables-preserved c =
    let families = c.args.families.now in
    let t : ℕ = c.in-Some.t in
    let same : get_or families t _ ≡ family_at families t = get_or_default families t _ _ (c.requires t c.in-Some.ensures.inside) in
    record {
      within = let l = c.in-Some.ensures.small in omega (arith, l);
      inside = gathered_more c.args.tables.now (λ t u. IsIn (family_at families t).table.scope u) c.tables.from c.tables.nodes c.tables.invariant.inside t _ c.union-nodes.result c.in-Some.ensures
          (λ u. (subst (λ (f : Family). IsIn f.table.scope u) same, subst (λ (f : Family). IsIn f.table.scope u) (sym same))) c.union-nodes.ensures;
    }

pub returns : goal.returns
returns c = gathered_all c.args.tables.now (λ t u. IsIn (family_at c.args.families.now t).table.scope u) c.tables.from c.tables.nodes c.tables.invariant.inside c.in_default.ensures
