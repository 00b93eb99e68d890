-- What a step of the simulation makes is what a step makes of the live scopes.
use Rattle.std.proofs.Common.{◌≡◌, ◌∙◌, ◌⊎◌, ◌↔◌, ℕ, ◌*◌, ◌<◌, true, false, List, length, refl, sym, ap, subst, inl, inr}
use Rattle.finite_sums.proofs.Counts.{true_or_false}
use Rattle.maid_model.specs.Views.{NodeView}
use Rattle.node_sets.specs.Sets.{holds, IsIn}
use Rattle.node_sets.specs.declared.sets.NodeSet.{NodeSet}
use Rattle.size_precheck.specs.declared.joints.Counted.{Counted}
use Rattle.size_precheck.specs.declared.joints.Joint.{Joint}
use Rattle.size_precheck.specs.declared.joints.Known.{Known}
use Rattle.size_precheck.specs.declared.joints.Table.{Table}
use Rattle.maid_model.specs.Bounds.{stopped}
use Rattle.size_precheck.specs.Counts.{counted_cells}
use Rattle.size_precheck.specs.Greedy.{holding, joined_set}
use Rattle.size_precheck.specs.Joints.{counted_in, joint_in, member_count, counted_over, AreStateCounts, IsCounted, IsCountedIn, IsPut, SomeOf, Tells, Stands, IsGreedyStep, tests_of}
use Rattle.size_precheck.proofs.Live.{after_step, step_put, step_same, step_live}
use Rattle.size_precheck.proofs.Scoped.{tables_counted, holding_counted, set_told, made_told, step_scopes, cells_counted}

-- a put is one where the same nodes leave
put_alike : (table : Table) (Gone Out Left : ℕ → Type 0) (before after : Joint) → ((u : ℕ) → Out u ↔ Left u) → IsPut table Gone Out before after → IsPut table Gone Left before after
put_alike table Gone Out Left before after alike put = record {
  set = λ u. ((λ m. let h = (put.set u).0 m in (h.0, λ l. h.1 ((alike u).1 l))), (λ h. (put.set u).1 (h.0, λ o. h.1 ((alike u).0 o))));
  tables = put.tables;
}

module _ (nodes : List NodeView) (states : List ℕ) (waiting : NodeSet) (v : ℕ) (live : List Table)
    (known known' : Known) (held : Counted) (scope at out : NodeSet) where
  abbrev Before : ℕ → Type 0
  Before y = IsIn waiting y ⊎ (y ≡ v)

  abbrev made : Table
  made = record { tag = v; scope = scope }

  -- what the calls of a step tell
  pub record Calls : Type 0 where
    pub small : v < 256
    pub apart : IsIn waiting v → ⊥
    pub held_is : held ≡ counted_in known v
    pub scope_is : (x : ℕ) → IsIn scope x ↔ (IsIn held.joint.set x × (x ≡ v → ⊥))
    pub at_is : (x : ℕ) → IsIn at x ↔ (IsIn scope x × IsIn waiting x)
    pub out_is : (x : ℕ) → IsIn out x ↔ (x ≡ v)
    pub put : (y : ℕ) → IsIn at y → IsPut made (IsIn held.joint.tables) (IsIn out) (joint_in known y) (joint_in known' y)
    pub counted : (y : ℕ) → IsIn at y → IsCountedIn states known y → IsCountedIn states known' y
    pub same : (y : ℕ) → IsIn waiting y → (IsIn at y → ⊥) → counted_in known' y ≡ counted_in known y

  pub step_right : (k work cells : ℕ) → AreStateCounts nodes states → Calls → Stands states Before live known
      → k ≡ member_count held.joint.tables → work ≡ stopped (held.cells * k) → cells ≡ counted_over states (holds scope)
      → IsGreedyStep nodes states (IsIn waiting) v live known' (record { cells = cells; work = work; tables = k })
  step_right k work cells are calls stands k_is work_is cells_is = record {
    after = after_step live made v scope_told;
    stands = record {
      live = step_live live made v scope_told Before (IsIn waiting) (inr refl) calls.small refl (λ x m. (inl m, other x m)) stands.live;
      tells = λ y m. elim (true_or_false (holds at y)) as (λ _. Tells (after_step live made v scope_told) y (joint_in known' y)) [
        | inl e ↦ step_put live made v scope_told y (other y m) held.joint.tables (joint_in known y) (joint_in known' y) stands.live.differ told.tables ((calls.at_is y).0 e).0
            (put_alike made (IsIn held.joint.tables) (IsIn out) (λ u. u ≡ v) (joint_in known y) (joint_in known' y) calls.out_is (calls.put y e)) (stands.tells y (inl m))
        | inr e ↦ subst (λ (h : Counted). Tells (after_step live made v scope_told) y h.joint) (sym (calls.same y m (lacks y e)))
            (step_same live made v scope_told y (other y m) (joint_in known y) (λ s. lacks y e ((calls.at_is y).1 (s, m))) (stands.tells y (inl m)))
      ];
      counted = λ y m. elim (true_or_false (holds at y)) as (λ _. IsCountedIn states known' y) [
        | inl e ↦ calls.counted y e (stands.counted y (inl m))
        | inr e ↦ subst (λ (h : Counted). IsCounted states h.joint h.cells) (sym (calls.same y m (lacks y e))) (stands.counted y (inl m))
      ];
    };
    scopes = step_scopes live v made (made_told live v scope scope_told);
    cells = cells_is ∙ cells_counted nodes states scope _ are (made_told live v scope scope_told);
    work = work_is ∙ ap (λ n. stopped (n * k)) v_counted ∙ ap (λ n. stopped (counted_cells nodes (joined_set v (tests_of live)) * n)) k_right;
    joined = k_right;
  }
    where
      told : Tells live v held.joint
      told = subst (λ (h : Counted). Tells live v h.joint) (sym calls.held_is) (stands.tells v (inr refl))

      scope_told : (u : ℕ) → IsIn scope u ↔ (SomeOf (λ t. IsIn t.scope v × IsIn t.scope u) live × (u ≡ v → ⊥))
      scope_told u = (
        (λ m. let h = (calls.scope_is u).0 m in ((told.set u).0 h.0, h.1)),
        (λ h. (calls.scope_is u).1 ((told.set u).1 h.0, h.1)),
      )

      other : (y : ℕ) → IsIn waiting y → y ≡ v → ⊥
      other y m e = calls.apart (subst (IsIn waiting) e m)

      lacks : (y : ℕ) → holds at y ≡ false → IsIn at y → ⊥
      lacks y e m = let f : true ≡ false = sym m ∙ e in absurd (cc)

      k_right : k ≡ length (holding v (tests_of live))
      k_right = k_is ∙ tables_counted Before live v held.joint.tables stands.live told.tables ∙ sym (holding_counted live v)

      v_counted : held.cells ≡ counted_cells nodes (joined_set v (tests_of live))
      v_counted = subst (λ (h : Counted). IsCounted states h.joint h.cells) (sym calls.held_is) (stands.counted v (inr refl)) ∙ cells_counted nodes states held.joint.set _ are (set_told live v held.joint told)
