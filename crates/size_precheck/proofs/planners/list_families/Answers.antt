use Rattle.std.proofs.Common.{◌∙◌, ◌+◌, List, length, subst, sym, ap}
use Rattle.std.proofs.lemmas.List.{length_push}
use Rattle.size_precheck.specs.declared.planners.Family.{Family}
use Rattle.size_precheck.specs.Families.{AreFamilies}
use Rattle.size_precheck.proofs.Above.{families_push}
use Rattle.size_precheck.proofs.planners.list_families.Goals as goal

pub loop-v-preserved : goal.loop-v-preserved
loop-v-preserved c =
    let inv = c.loop-v.invariant in
    record {
      len = ap length c.in_ok-push.ensures.items ∙ length_push c.loop-v.families.items c.family_of.result ∙ ap (λ n. n + 1) inv.len;
      families = subst (λ (xs : List Family). AreFamilies c.args.diagram.now.nodes c.args.states.now xs) (sym c.in_ok-push.ensures.items)
          (families_push c.args.diagram.now.nodes c.args.states.now c.loop-v.families.items c.loop-v.v c.family_of.result inv.len c.family_of.ensures inv.families);
    }
