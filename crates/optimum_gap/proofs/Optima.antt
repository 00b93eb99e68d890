-- Optima as fractions of what counts in the agent's scope: so two optima have a common denominator
-- where the one scope covers the other.
use Rattle.std.proofs.Common.{◌≡◌, ◌∙◌, ℕ, ◌*◌, ◌/◌, ◌<◌, ◌≤◌, ◌^◌, max, sym, ap, subst, arith, ℤ, pos, ◌*ℤ◌, nat_abs, le_trans, inl, inr}
use Rattle.std.proofs.lemmas.Int.{unsigned_abs-mul}
use Rattle.std.proofs.Math.Nat.{div-mul_cancel, mul-le-mul_left, mul-le-mul_right, mul-pos, pos_of_dvd_of_pos}
use Rattle.std.specs.Int.{◌∣◌}
use Rattle.std.specs.declared.alloc.AllocError.{AllocError}
use Rattle.std.specs.Prelude.{Result, Ok, Err, IfOk}
use Rattle.first_fault.specs.Outcomes.{◌▸▸◌, gives}
use Rattle.first_fault.specs.Passes.{Pass}
use Rattle.arc_laws.proofs.Alone.{answer_optimum_law, one_agent_law}
use Rattle.diagram_graph.specs.Edited.{with_nodes}
use Rattle.finite_sums.proofs.Ints.{products}
use Rattle.maid_laws.proofs.AnswerLaws.{answers_fit}
use Rattle.maid_laws.proofs.Fractions.{fraction_like}
use Rattle.maid_laws.proofs.Optima.{exists_law, one_law}
use Rattle.maid_model.specs.declared.answers.Ratio.{Ratio}
use Rattle.maid_model.specs.Answers.{IsFraction}
use Rattle.maid_model.specs.Diagrams.{IsDiagram, greatest_number}
use Rattle.maid_model.specs.Edits.{one_agent}
use Rattle.maid_model.specs.Gains.{gain_of, mass}
use Rattle.maid_model.specs.Graph.{IsGraph}
use Rattle.maid_model.specs.Scopes.{KeepsScopedBounds, greatest_of, rules_in_scope_for, scope_bound_for, scope_for, scope_part_for, scope_product_for, utilities_for}
use Rattle.maid_model.specs.Tables.{HasChanceTables}
use Rattle.maid_model.specs.Values.{IsOptimum}
use Rattle.maid_model.specs.Views.{DiagramView}
use Rattle.part_laws.proofs.PartChoices.{worths_law}
use Rattle.part_laws.proofs.ScopeBounds.{agents_law}
use Rattle.part_laws.proofs.ScopeLaws.{agents_scopes_law}
use Rattle.scope_sums.proofs.Agents.{agents_mass_law}
use Rattle.scope_sums.proofs.Shares.{scale_some}
use Rattle.optimum_gap.specs.Baselines.{CoversScope, HaveNearScopes, IsBaseline}
use Rattle.optimum_gap.specs.declared.found.Found.{Found}
use Rattle.optimum_gap.specs.Found.{Reason, TellsReason, found_of, refused_by}
use Rattle.optimum_gap.specs.Fractions.{ShareDenominator}
use Rattle.optimum_gap.specs.Laws.{AnswersAreBaselines}
use Rattle.optimum_gap.proofs.Counting.{bound_covered, covers, product_some}
use Rattle.optimum_gap.proofs.Edits.{alone_counts}

-- the fraction over the product of the agent's scope and the scale, with a numerator within the
-- scope's bound
pub record IsOverScope (d : DiagramView) (agent : ℕ) (r : Ratio) : Type 0 where
  pub num : ℤ
  pub is : IsFraction r num (scope_product_for d.nodes agent * 10 ^ d.decimals)
  pub small : nat_abs num ≤ scope_bound_for d agent

-- a pure profile reaches the optimum, and its gain in the part of the scope is the numerator
pub optimum_over : (d : DiagramView) (agent : ℕ) (r : Ratio) → IsGraph d.nodes → HasChanceTables d.nodes → IsOptimum d.nodes d.decimals agent r → IsOverScope d agent r
optimum_over d agent r g c o =
    let best = exists_law d.nodes d.decimals agent g c o.alone in
    let scope = agents_scopes_law d.nodes agent g in
    let same : r ≡ best.0 = one_law d.nodes d.decimals agent r best.0 g c o best.1 in
    record {
      num = gain_of (scope_part_for d.nodes agent) (rules_in_scope_for d.nodes best.1.best agent) agent;
      is = subst (λ m. IsFraction r (gain_of (scope_part_for d.nodes agent) (rules_in_scope_for d.nodes best.1.best agent) agent) (m * 10 ^ d.decimals)) (agents_mass_law d.nodes best.1.best agent g c best.2.profile best.2.total)
          (subst (λ w. IsFraction w (gain_of (scope_part_for d.nodes agent) (rules_in_scope_for d.nodes best.1.best agent) agent) (mass (scope_part_for d.nodes agent) (rules_in_scope_for d.nodes best.1.best agent) * 10 ^ d.decimals)) (sym same)
          ((worths_law d.nodes best.1.best (scope_for d.nodes agent) agent (10 ^ d.decimals) best.0 g c best.2.profile scope.0 scope.1).0 best.1.worth));
      small = (agents_law d best.1.best agent g c best.2.profile best.2.total).gain;
    }

-- a numerator over a multiple of the denominator stays within the wider bound
widened : (s : Ratio) (n : ℤ) (few many scale low high most : ℕ) → 0 < many → 0 < scale → few ∣ many → low ≤ high → many * max scale high ≤ most → IsFraction s n (few * scale) → nat_abs n ≤ few * max scale low
    → (y : ℤ) × IsFraction s y (many * scale) × (nat_abs y ≤ most)
widened s n few many scale low high most some scaled d l b f small =
    (n *ℤ pos (many / few), fraction_like s n (n *ℤ pos (many / few)) (few * scale) (many * scale) (mul-pos (pos_of_dvd_of_pos d some) scaled) f across, within)
  where
    group : (a t u v : ℤ) → a *ℤ ((t *ℤ u) *ℤ v) ≡ (a *ℤ t) *ℤ (u *ℤ v)
    group a t u v = simp products

    across : n *ℤ pos (many * scale) ≡ (n *ℤ pos (many / few)) *ℤ pos (few * scale)
    across = ap (λ z. n *ℤ pos (z * scale)) (sym (div-mul_cancel few d)) ∙ group n (pos (many / few)) (pos few) (pos scale)

    grows : max scale low ≤ max scale high
    grows = omega arith

    bounded : (a t p m k q : ℕ) → a ≤ p * m → t * p ≡ q → m ≤ k → a * t ≤ q * k
    bounded a t p m k q h e g = omega (arith, mul-le-mul_right t h, ap (λ z. z * m) e, mul-le-mul_left q g)

    within : nat_abs (n *ℤ pos (many / few)) ≤ most
    within = omega (arith, b, unsigned_abs-mul n (pos (many / few)), bounded (nat_abs n) (many / few) few (max scale low) (max scale high) many small (div-mul_cancel few d) grows)

-- the wider scope's product and the scale are a common denominator
pub share_law : (wide narrow : DiagramView) (agent : ℕ) (r s : Ratio) → IsGraph wide.nodes → HasChanceTables wide.nodes → IsGraph narrow.nodes → HasChanceTables narrow.nodes
    → CoversScope wide narrow agent → scope_bound_for wide agent ≤ greatest_number → IsOptimum wide.nodes wide.decimals agent r → IsOptimum narrow.nodes narrow.decimals agent s
    → ShareDenominator r s
share_law wide narrow agent r s g c h t cover bound o p =
    let some = product_some wide agent c in
    let x = optimum_over wide agent r g c o in
    let y = optimum_over narrow agent s h t p in
    let z = widened s y.num (scope_product_for narrow.nodes agent) (scope_product_for wide.nodes agent) (10 ^ wide.decimals) (greatest_of narrow.nodes (utilities_for narrow.nodes agent)) (greatest_of wide.nodes (utilities_for wide.nodes agent)) greatest_number
    some (scale_some wide.decimals) cover.product cover.utilities bound
    (subst (λ k. IsFraction s y.num (scope_product_for narrow.nodes agent * 10 ^ k)) cover.decimals y.is)
    (subst (λ k. nat_abs y.num ≤ scope_product_for narrow.nodes agent * max (10 ^ k) (greatest_of narrow.nodes (utilities_for narrow.nodes agent))) cover.decimals y.small) in
    record {
      den = scope_product_for wide.nodes agent * 10 ^ wide.decimals;
      some = mul-pos some (scale_some wide.decimals);
      few = le_trans (scale_fits (scope_product_for wide.nodes agent) (10 ^ wide.decimals) (greatest_of wide.nodes (utilities_for wide.nodes agent))) bound;
      first = record { num = x.num; is = x.is; small = le_trans x.small bound };
      second = record { num = z.0; is = z.1; small = z.2 };
    }
  where
    scale_fits : (a b m : ℕ) → a * b ≤ a * max b m
    scale_fits a b m = let l : b ≤ max b m = omega arith in mul-le-mul_left a l

pub shared_back : (r s : Ratio) → ShareDenominator r s → ShareDenominator s r
shared_back r s h = record { den = h.den; some = h.some; few = h.few; first = h.second; second = h.first }

-- the answer's gain is the optimum, and the scope of the agent is no greater where only it decides
pub baseline_law : AnswersAreBaselines
baseline_law d solved agent r is a k l =
    let fits = answers_fit d solved is.graph is.tables a.fits in
    let kept = one_agent_law d.nodes agent solved.answers is.graph is.tables fits in
    record {
      within = l;
      is_optimum = answer_optimum_law d solved agent r is.graph is.tables a l;
      bound = le_trans (bound_covered d (with_nodes d (one_agent d.nodes agent solved.answers)) agent is.tables (covers d (with_nodes d (one_agent d.nodes agent solved.answers)) agent is.graph kept.0 (alone_counts d solved agent is.graph is.tables a))) (k.agents agent l);
    }

-- so have the optimum before and that after an edit
pub near_law : (d e : DiagramView) (agent : ℕ) (before after : Ratio) → IsDiagram d → IsDiagram e → IsBaseline d agent before → HaveNearScopes d e agent → agent < e.agents → KeepsScopedBounds e → IsOptimum e.nodes e.decimals agent after
    → ShareDenominator after before
near_law d e agent before after g h base (inl cover) l k o = shared_back before after (share_law d e agent before after g.graph g.tables h.graph h.tables cover base.bound base.is_optimum o)
near_law d e agent before after g h base (inr cover) l k o = share_law e d agent after before h.graph h.tables g.graph g.tables cover (k.agents agent l) o base.is_optimum

-- what is refused for a reason is found to be so
pub told : (P : Pass Reason) (Q : Ratio → Type 0) (r : Result Found AllocError) → IfOk r (TellsReason P) → IfOk r (λ f. (P ▸▸ gives Q) (found_of f))
told P Q (Ok f) h = go (found_of f) h
  where
    go : (x : Result Ratio Reason) → refused_by P x → (P ▸▸ gives Q) x
    go (Ok r) k = absurd k
    go (Err reason) k = inl k
told P Q (Err e) h = tt
