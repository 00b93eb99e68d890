use Rattle.std.proofs.Common.{◌∙◌, ◌⊎◌, ℕ, ◌<◌, List, length, ap, sym, subst, inl, inr, arith}
use Rattle.std.proofs.lemmas.Bool.{cases_eq}
use Rattle.std.proofs.lemmas.List.{length-set}
use Rattle.node_sets.specs.Sets.{IsIn}
use Rattle.node_sets.specs.declared.sets.NodeSet.{NodeSet}
use Rattle.size_precheck.specs.Above.{IsAbove, set_at}
use Rattle.size_precheck.proofs.Above.{above_put, above_by_search}
use Rattle.size_precheck.proofs.nodes_above.search_rest.Goals.{then-not-holds, else-not-holds}
use Rattle.size_precheck.proofs.nodes_above.search_rest.Goals as goal

pub loop-v-preserved : goal.loop-v-preserved
loop-v-preserved c =
    let nodes = c.args.diagram.now.nodes in
    let v : ℕ = c.loop-v.v in
    let before : List NodeSet = c.loop-v.above in
    let inv = c.loop-v.invariant in
    let within : v < length before = subst (λ n. v < n) (sym inv.all) (subst (λ n. v < n) (sym c.requires.all) (subst (λ n. v < n) c.count-v-end.ensures.count c.loop-v-test.true)) in
    elim c.if-not-holds.branch [
      | then-not-holds w ↦ record {
        all = ap (λ (xs : List NodeSet). length xs) w.above-is ∙ length-set before v w.ancestors.result ∙ inv.all;
        found = λ x h. subst (λ (xs : List NodeSet). IsAbove nodes x (set_at xs x)) (sym w.above-is)
            (above_put nodes before v w.ancestors.result within (above_by_search nodes v w.of.result w.ancestors.result w.of.ensures w.ancestors.ensures) x
            (λ other. inv.found x (elim h as (λ _. (x < v) ⊎ IsIn c.args.known.now x) [ inl l ↦ inl (omega arith) | inr k ↦ inr k ])));
      }
      | else-not-holds w ↦ record {
        all = ap (λ (xs : List NodeSet). length xs) w.above-is ∙ inv.all;
        found = λ x h. subst (λ (xs : List NodeSet). IsAbove nodes x (set_at xs x)) (sym w.above-is)
            (inv.found x (elim h as (λ _. (x < v) ⊎ IsIn c.args.known.now x) [
              | inl l ↦ elim (cases_eq x v) as (λ _. (x < v) ⊎ IsIn c.args.known.now x) [ inl e ↦ inr (subst (IsIn c.args.known.now) (sym e) (sym c.holds.ensures ∙ w.if-not-holds.false)) | inr n ↦ inl (omega arith) ]
              | inr k ↦ inr k
            ]));
      }
    ]
