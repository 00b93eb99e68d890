use Rattle.std.proofs.Common.{◌≡◌, ◌∙◌, ◌↔◌, ◌⊎◌, ℕ, List, Some, inl, inr, sym, ap, subst, Contains}
use Rattle.node_sets.specs.declared.sets.NodeSet.{NodeSet}
use Rattle.node_sets.specs.Sets.{IsIn}
use Rattle.eliminate.proofs.firsts.ruled_nodes.Goals as goal

-- what two lists added to an empty set
members : (keep steps kept ordered : List ℕ) (none one two : NodeSet) → kept ≡ keep → ordered ≡ steps → ((x : ℕ) → IsIn none x → ⊥)
    → ((x : ℕ) → IsIn one x ↔ (IsIn none x ⊎ Contains kept x)) → ((x : ℕ) → IsIn two x ↔ (IsIn one x ⊎ Contains ordered x)) → (v : ℕ) → IsIn two v ↔ (Contains keep v ⊎ Contains steps v)
members keep steps kept ordered none one two e f empty first second v = ((λ t. last ((second v).0 t)), back)
  where
    here : Contains kept v → Contains keep v
    here m = subst (λ l. Contains l v) e m

    first_one : IsIn none v ⊎ Contains kept v → Contains keep v ⊎ Contains steps v
    first_one (inl t) = absurd (empty v t)
    first_one (inr m) = inl (here m)

    last : IsIn one v ⊎ Contains ordered v → Contains keep v ⊎ Contains steps v
    last (inl t) = first_one ((first v).0 t)
    last (inr m) = inr (subst (λ l. Contains l v) f m)

    back : Contains keep v ⊎ Contains steps v → IsIn two v
    back (inl m) = (second v).1 (inl ((first v).1 (inr (subst (λ l. Contains l v) (sym e) m))))
    back (inr m) = (second v).1 (inr (subst (λ l. Contains l v) (sym f) m))

same_some : (d v : ℕ) → Some d ≡ Some v → v ≡ d
same_some d v e = cc

pub insert_all-requires : goal.insert_all-requires
insert_all-requires c v m = c.requires.keep v (subst (λ l. Contains l v) c.keep.ensures m)

pub insert_all-requires-2 : goal.insert_all-requires-2
insert_all-requires-2 c v m = c.requires.steps v (subst (λ l. Contains l v) c.steps.ensures m)

pub remove-requires : goal.remove-requires
remove-requires c = c.requires.without c.in-Some.d (sym c.without.ensures ∙ c.in-Some.is)

pub returns-in-Some : goal.returns-in-Some
returns-in-Some c v =
    let without : c.args.plan.now.plan.without ≡ Some c.in-Some.d = sym c.without.ensures ∙ c.in-Some.is in
    let are = members c.args.plan.now.plan.keep c.args.plan.now.steps c.keep.result.now c.steps.result.now c.empty-ruled.result c.insert_all.new.self c.insert_all-2.new.self c.keep.ensures c.steps.ensures c.empty-ruled.ensures c.insert_all.ensures.all c.insert_all-2.ensures.all v in
    let removed = c.remove.ensures v in (
      (λ t. let kept = removed.0 t in (are.0 kept.0, λ e. kept.1 (same_some c.in-Some.d v (sym without ∙ e)))),
      (λ h. removed.1 (are.1 h.0, λ e. h.1 (without ∙ ap Some (sym e)))),
    )

pub returns-in_default : goal.returns-in_default
returns-in_default c v =
    let are = members c.args.plan.now.plan.keep c.args.plan.now.steps c.keep.result.now c.steps.result.now c.empty-ruled.result c.insert_all.new.self c.insert_all-2.new.self c.keep.ensures c.steps.ensures c.empty-ruled.ensures c.insert_all.ensures.all c.insert_all-2.ensures.all v in
    ((λ t. (are.0 t, λ e. c.in_default.not-Some v (c.without.ensures ∙ e))), (λ h. are.1 h.0))
