-- The sums of plans at a state of x as conditional expected utilities, and whether the state is
-- possible.
use Rattle.std.proofs.Common.{◌≡◌, ◌≢◌, ◌∙◌, ℕ, ◌+◌, ◌*◌, ◌^◌, ◌<◌, List, [], ◌∷◌, ◌++◌, Contains, None, length, get_or, sym, ap, subst, arith, ℤ, pos, ◌*ℤ◌, nat_abs, ◌↔◌, zero-mul, length-append}
use Rattle.std.proofs.lemmas.Int.{ints}
use Rattle.std.proofs.lemmas.List.{get_or_append_left}
use Rattle.std.proofs.lemmas.List.Elements.{All-push}
use Rattle.std.proofs.Math.Decide.{ℕ_discrete}
use Rattle.std.proofs.Math.Nat.{mul-pos, mul_assoc}
use Rattle.std.proofs.Math.Seq.{get_or-append_seam}
use Rattle.finite_sums.specs.Sums.{World, InRange, with_state}
use Rattle.finite_sums.proofs.Ints.{products}
use Rattle.finite_sums.proofs.Sums.{with_same, with_in}
use Rattle.maid_model.specs.declared.answers.Ratio.{Ratio}
use Rattle.maid_model.specs.declared.diagrams.Kind.TheVariants.{Utility}
use Rattle.maid_model.specs.Answers.{IsFraction, IsReduced}
use Rattle.maid_model.specs.Diagrams.{IsDiagram}
use Rattle.maid_model.specs.Nodes.{node_at, states_of}
use Rattle.maid_model.specs.Profiles.{IsProfile, uniform_profile}
use Rattle.maid_model.specs.Tables.{weight_total}
use Rattle.maid_model.specs.Views.{DiagramView, RuleView}
use Rattle.maid_model.proofs.Setting.{HasTables}
use Rattle.maid_model.proofs.Uniform.{uniform_is_profile}
use Rattle.maid_model.proofs.Weighing.{product_positive}
use Rattle.maid_laws.proofs.Fractions.{fraction_like}
use Rattle.maid_laws.proofs.Tied.{tables_of}
use Rattle.node_sets.specs.declared.sets.NodeSet.{NodeSet}
use Rattle.node_sets.specs.Sets.{IsIn}
use Rattle.part_laws.specs.ScopeLaws.{HasUnitRules}
use Rattle.plan_sums.specs.Laws.{missing_total}
use Rattle.plan_sums.specs.Plans.{lacking_nodes}
use Rattle.reach_laws.specs.Evidence.{UtilityByUtility, gain_given, mass_given}
use Rattle.weight_scale.specs.Given.{scope_given}
use Rattle.evidence.specs.Bounds.{KeepsBoundsGiven}
use Rattle.evidence.specs.Conditional.{HasGainsGiven, IsExpectedGiven, IsImpossible}
use Rattle.evidence.specs.Sizes.{plan_given}
use Rattle.evidence.specs.Stakes.{HasWorthsAt, IsMass, IsMassAt, IsGivenStake, chances_lacking, scope_gain_given, scope_mass_given}
use Rattle.evidence.proofs.PlanCells.{agent_within}
use Rattle.evidence.proofs.Within.{alone_inside, gain_whole, lacking_positive, left, mass_whole, mass_within, worth_within}
use Rattle.evidence.proofs.Summed as summed

-- ---- one agent after another
-- one more agent
pub gains_push : (d : DiagramView) (p : List RuleView) (x state n : ℕ) (gains : List Ratio) (r : Ratio) → HasGainsGiven d p x state n gains → IsExpectedGiven d.nodes (10 ^ d.decimals) p n x state r → HasGainsGiven d p x state (n + 1) (gains ++ r ∷ [])
gains_push d p x state n gains r g is = record {
  count = length-append gains (r ∷ []) ∙ ap (λ k. k + 1) g.count;
  each = λ agent e h. go agent e h (ℕ_discrete agent n);
  reduced = All-push IsReduced gains r g.reduced is.reduced;
}
  where
    smaller : (a : ℕ) → a < n + 1 → (a ≡ n → ⊥) → a < n
    smaller a h m = omega arith

    go : (agent : ℕ) (e : Ratio) → agent < n + 1 → Dec (agent ≡ n) → IsExpectedGiven d.nodes (10 ^ d.decimals) p agent x state (get_or (gains ++ r ∷ []) agent e)
    go agent e h (yes k) = subst (λ a. IsExpectedGiven d.nodes (10 ^ d.decimals) p a x state (get_or (gains ++ r ∷ []) a e)) (sym k) (subst (IsExpectedGiven d.nodes (10 ^ d.decimals) p n x state) (sym last) is)
      where
        last : get_or (gains ++ r ∷ []) n e ≡ r
        last = subst (λ i. get_or (gains ++ r ∷ []) i e ≡ r) g.count (get_or-append_seam gains r [] e)
    go agent e h (no m) =
        let inside : agent < length gains = subst (λ k. agent < k) (sym g.count) (smaller agent h m) in
        subst (IsExpectedGiven d.nodes (10 ^ d.decimals) p agent x state) (sym (get_or_append_left gains (r ∷ []) e agent inside)) (g.each agent e (smaller agent h m))

module _ (d : DiagramView) (x state : ℕ) (is : IsDiagram d) (within : x < length d.nodes) (at : state < states_of d.nodes x) where
  -- a world with the state at x
  abbrev world : World
  world = with_state (λ v. 0) x state

  world_in : InRange (states_of d.nodes) world
  world_in = with_in (states_of d.nodes) (λ v. 0) x state (record { state = is.graph.has_state }) at

  world_at : world x ≡ state
  world_at = with_same (λ v. 0) x state

  -- ---- whether the state is possible
  module _ (mass : ℕ) (sums : IsMass d.nodes x state mass) where
    -- the totals that the plan lacks
    abbrev missing : List RuleView → ℕ
    missing p = missing_total d.nodes p (plan_given x None)

    -- times these the mass is the weight of the worlds with the state
    weight_under : (p : List RuleView) → HasTables d.nodes p → mass_given d.nodes p x state ≡ pos (mass * missing p)
    weight_under p t =
        ap (mass_given d.nodes p x) (sym world_at)
        ∙ sym (summed.mass_is d.nodes p is.graph t x within world world_in)
        ∙ ap (λ m. pos (m * missing p)) (sym (sums p world world_in world_at))

    -- so it is nought where they weigh nought under all rules
    pub impossible_is : mass ≡ 0 → IsImpossible d.nodes x state
    impossible_is e = record { each = λ p profile. weight_under p (tables_of d.nodes p is.graph is.tables profile) ∙ ap (λ m. pos (m * missing p)) e ∙ ap pos (zero-mul (missing p)) }

    -- and only there: under uniform rules they weigh something otherwise
    pub possible_is : 0 < mass → IsImpossible d.nodes x state → ⊥
    possible_is some never = clash (mass * missing p) (mul-pos some (product_positive (weight_total d.nodes p) (lacking_nodes d.nodes (plan_given x None)) t.positive)) (sym (weight_under p t) ∙ never.each p profile)
      where
        p : List RuleView
        p = uniform_profile d.nodes

        profile : IsProfile d.nodes p
        profile = uniform_is_profile d.nodes is.graph

        t : HasTables d.nodes p
        t = tables_of d.nodes p is.graph is.tables profile

        clash : (n : ℕ) → 0 < n → pos n ≡ pos 0 → ⊥
        clash n h e = omega (arith, ints, h, e)

  -- ---- what pure rules are worth
  module _ (p : List RuleView) (profile : IsProfile d.nodes p) (unit : HasUnitRules d.nodes p) (mass : ℕ) (sums : IsMassAt d.nodes p x state mass) where
    -- the totals left out of an agent's scope
    abbrev out : ℕ → ℕ
    out agent = left d.nodes x agent is.graph within p is.tables profile unit

    weight_is : (agent : ℕ) → mass_given d.nodes p x state ≡ pos (out agent * scope_mass_given d.nodes x agent mass)
    weight_is agent = mass_whole d.nodes x agent is.graph within p is.tables profile unit state mass world world_in world_at sums

    lacking_some : (agent : ℕ) → 0 < chances_lacking d.nodes x agent None
    lacking_some agent = lacking_positive d.nodes x agent is.graph within None (alone_inside d.nodes x agent is.graph within) is.tables

    module _ (worths : List ℤ) (has : HasWorthsAt d.nodes p x state worths) where
      -- ---- an agent's stake
      pub stake : (node_at d.nodes x).kind ≢ Utility → KeepsBoundsGiven d x → 0 < mass → (agent : ℕ) → agent < d.agents → (scope : NodeSet) → ((v : ℕ) → IsIn scope v ↔ Contains (scope_given d.nodes x agent) v)
          → IsGivenStake d x agent mass worths scope
      stake plain keeps some agent l scope scoped = record {
        is_diagram = is;
        within = within;
        plain = plain;
        count = has.count;
        bound = keeps.each agent (agent_within d agent l);
        is_scope = scoped;
        positive = some;
        mass_fits = mass_within d.nodes x agent is.graph within p is.tables profile unit state mass world world_in world_at sums;
        worth_fits = worth_within d.nodes x agent is.graph within p is.tables profile unit state worths world world_in world_at has;
      }

      -- the scope's fraction is the whole's
      pub expected_is : UtilityByUtility → 0 < mass → (agent : ℕ) (r : Ratio) → IsFraction r (scope_gain_given d.nodes x agent worths) (scope_mass_given d.nodes x agent mass * 10 ^ d.decimals) → 0 < 10 ^ d.decimals
          → IsExpectedGiven d.nodes (10 ^ d.decimals) p agent x state r
      expected_is law some agent r fraction scale =
          fraction_like r (scope_gain_given d.nodes x agent worths) (gain_given d.nodes p agent x state) (scope_mass_given d.nodes x agent mass * 10 ^ d.decimals) (nat_abs (mass_given d.nodes p x state) * 10 ^ d.decimals)
          (mul-pos (mul-pos some (lacking_some agent)) scale) fraction
          (ap (λ z. scope_gain_given d.nodes x agent worths *ℤ pos (nat_abs z * 10 ^ d.decimals)) (weight_is agent)
          ∙ regroup (scope_gain_given d.nodes x agent worths) (out agent) (scope_mass_given d.nodes x agent mass) (10 ^ d.decimals)
          ∙ ap (λ z. z *ℤ pos (scope_mass_given d.nodes x agent mass * 10 ^ d.decimals)) (sym (gain_whole d.nodes x agent is.graph within p is.tables profile unit state worths world world_in world_at has law)))
        where
          regroup : (g : ℤ) (l m s : ℕ) → g *ℤ pos (l * m * s) ≡ (pos l *ℤ g) *ℤ pos (m * s)
          regroup g l m s = ap (λ n. g *ℤ pos n) (mul_assoc l m s) ∙ apart g l (m * s)
            where
              apart : (g : ℤ) (l n : ℕ) → g *ℤ pos (l * n) ≡ (pos l *ℤ g) *ℤ pos n
              apart g l n = simp products
