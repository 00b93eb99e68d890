-- An arc into a decision is removed: rules without it can be lifted, and where it is not requisite
-- a best pure rule needs it not.
use Rattle.std.proofs.Common.{◌≡◌, ◌≢◌, ◌⊎◌, ◌∙◌, ℕ, zero, suc, ◌+◌, ◌*◌, ◌<◌, cond, not, eqb, filter, List, map, slice_index, slice_index_or, refl, sym, ap, subst, inl, inr, ℤ, pos, negsuc, ◌*ℤ◌, ◌≤ℤ◌, ◌<ℤ◌, arith}
use Rattle.std.proofs.lemmas.Int.{ints}
use Rattle.std.proofs.Math.Decide.{ℕ_discrete, dec_lt}
use Rattle.std.specs.List.{range_with_len}
use Rattle.maid_model.specs.Edits.{without_arc}
use Rattle.maid_model.specs.Gains.{gain_at, mass_at}
use Rattle.maid_model.specs.Graph.{IsGraph}
use Rattle.maid_model.specs.Nodes.{IsDecision, states_of, parents_of, rows_of, rows_under, decisions_of, is_decision, owns, agent_of}
use Rattle.maid_model.specs.Profiles.{IsProfile, IsRule}
use Rattle.maid_model.specs.Relevance.{IsRequisite}
use Rattle.maid_model.specs.Subgames.{OwnsAll}
use Rattle.finite_sums.specs.Sums.{World, InRange, with_state, sum_below}
use Rattle.maid_model.specs.Tables.{HasChanceTables, IsTable, row_of, row_from, weights_of, rule_total}
use Rattle.maid_model.specs.Trimming.{IsTrimmed, Done, Removed}
use Rattle.maid_model.specs.Views.{NodeView, RuleView}
use Rattle.finite_sums.proofs.Lists.{among_filter}
use Rattle.maid_model.proofs.Setting.{HasTables}
use Rattle.finite_sums.proofs.Sums.{sum_below_cong, with_same, with_other, with_in, with_again}
use Rattle.maid_model.proofs.Tables.{row_of-below}
use Rattle.maid_model.proofs.Weighing.{pos_at}
use Rattle.arc_laws.specs.Arcs.{CanGet, KeptWithoutArc, LessWithoutArc, AsMuchWithoutArc, SameWithoutArc, SameWhenTrimmed}
use Rattle.maid_laws.specs.Optimum.{IsAsGood}
use Rattle.maid_laws.proofs.Basis.{among_filter_in}
use Rattle.maid_laws.proofs.Best.{cross_le}
use Rattle.maid_laws.proofs.Booleans.{eqb_no}
use Rattle.maid_laws.proofs.Choices.{greatest, weights_by, weights_by-at, weights_by-table, put_at, put_here, put_else, put_profile}
use Rattle.maid_laws.proofs.Collapse.{Apart, rows_agree, agree_rows}
use Rattle.arc_laws.proofs.LostArc.{Loses, loses, world_with, world_with-in, world_with-row, kind_same, states_at, rows_at, rows_else, row_at, range_there, graph_kept, tables_kept, decision_there, decision_back, owns_there, Lifts, gain_lifted, mass_lifted}
use Rattle.maid_laws.proofs.Members.{apart_of, parent_of, arc_of, among_index}
use Rattle.maid_laws.proofs.Notions.{IsParent}
use Rattle.maid_laws.proofs.PureReplies.{as_good_then, pure_weights, pure_table, put_pure, pure_profile, pure_as_good}
use Rattle.maid_laws.proofs.Rearranged.{apart_filter}
use Rattle.maid_laws.proofs.RowLaws.{no_gain_like, mass_at_least}
use Rattle.arc_laws.proofs.SameOptimum.{good_equal, can_get, can_get_then, not_above, same_optimum}
use Rattle.maid_laws.proofs.Tied.{tables_of}
use Rattle.arc_laws.proofs.Unneeded.{unneeded_rows}

module _ (nodes others : List NodeView) (x d : ℕ) (l : Loses nodes others x d) (g : IsGraph nodes) (c : HasChanceTables nodes) (k : IsDecision nodes d) where
  -- the other parents of d
  abbrev less : List ℕ
  less = filter (λ u. not (eqb u x)) (parents_of nodes d)

  pub apart_all : Apart (parents_of nodes d)
  apart_all = apart_of (parents_of nodes d) (g.parents_differ d)

  pub apart_less : Apart (filter (λ u. not (eqb u x)) (parents_of nodes d))
  apart_less = apart_filter (λ u. not (eqb u x)) (parents_of nodes d) apart_all

  -- a world of a row of d
  abbrev world_of_row : ℕ → World
  world_of_row r = world_with (states_of nodes) g.has_state (parents_of nodes d) apart_all r (dec_lt r (rows_of nodes d))

  world_of_row-in : (r : ℕ) → InRange (states_of nodes) (world_of_row r)
  world_of_row-in r = world_with-in (states_of nodes) g.has_state (parents_of nodes d) apart_all r (dec_lt r (rows_of nodes d))

  world_of_row-is : (r : ℕ) → r < rows_of nodes d → row_of nodes d (world_of_row r) ≡ r
  world_of_row-is r m = world_with-row (states_of nodes) g.has_state (parents_of nodes d) apart_all r (dec_lt r (rows_of nodes d)) m

  -- the row that is left of it
  abbrev row_less : ℕ → ℕ
  row_less r = row_from (states_of nodes) (world_of_row r) 0 less

  -- in every world of the row
  row_less-is : (w : World) → InRange (states_of nodes) w → row_less (row_of nodes d w) ≡ row_from (states_of nodes) w 0 less
  row_less-is w i =
      let e = world_of_row-is (row_of nodes d w) (row_of-below nodes d w i) in
      agree_rows (states_of nodes) (world_of_row (row_of nodes d w)) w less 0
      (λ u m. (rows_agree (states_of nodes) (world_of_row (row_of nodes d w)) w (world_of_row-in (row_of nodes d w)) i (parents_of nodes d) 0 0 e).1 u (among_filter (λ u. not (eqb u x)) u (parents_of nodes d) m).0)

  -- it is one of d's rows there
  row_from-less : (w : World) → InRange (states_of nodes) w → row_from (states_of nodes) w 0 less < rows_of others d
  row_from-less w i = subst (λ n. n < rows_of others d) (row_at nodes others x d l w) (row_of-below others d w (range_there nodes others x d l w i))

  -- the same decisions
  decisions_same : decisions_of others ≡ decisions_of nodes
  decisions_same = λ i. filter (λ v. is_decision (kind_same nodes others x d l v i)) (range_with_len 0 (l.len i))

  -- rules of other decisions are rules in both
  rule_back : (v : ℕ) (r : RuleView) → r.decision ≡ v → v ≢ d → IsRule others r → IsRule nodes r
  rule_back v r e n h = record {
    positive = h.positive;
    table = subst (λ a. IsTable (map pos r.weights) a (states_of nodes r.decision) r.total) (rows_else nodes others x d l r.decision (λ f. n (sym e ∙ f)))
        (subst (λ a. IsTable (map pos r.weights) (rows_of others r.decision) a r.total) (states_at nodes others x d l r.decision) h.table);
  }

  rule_there : (v : ℕ) (r : RuleView) → r.decision ≡ v → v ≢ d → IsRule nodes r → IsRule others r
  rule_there v r e n h = record {
    positive = h.positive;
    table = subst (λ a. IsTable (map pos r.weights) a (states_of others r.decision) r.total) (sym (rows_else nodes others x d l r.decision (λ f. n (sym e ∙ f))))
        (subst (λ a. IsTable (map pos r.weights) (rows_of nodes r.decision) a r.total) (sym (states_at nodes others x d l r.decision)) h.table);
  }

  -- ---- a rule is lifted
  module _ (q : List RuleView) (hq : IsProfile others q) where
    abbrev lifted : List ℕ
    lifted = weights_by (rows_of nodes d) (states_of nodes d) (λ r s. slice_index (weights_of q d) (row_less r * states_of nodes d + s))

    -- d looks at its other parents alone
    abbrev lift : List RuleView
    lift = put_at nodes d (rule_total q d) lifted q

    decisions_q : map (λ (r : RuleView). r.decision) q ≡ decisions_of nodes
    decisions_q = hq.decisions ∙ decisions_same

    lifted_sums : (r : ℕ) → r < rows_of nodes d → sum_below (states_of nodes d) (λ s. pos (slice_index (weights_of q d) (row_less r * states_of nodes d + s))) ≡ pos (rule_total q d)
    lifted_sums r m =
        sum_below_cong (states_of nodes d) (λ s. pos (slice_index (weights_of q d) (row_less r * states_of nodes d + s))) (λ s. slice_index_or (map pos (weights_of q d)) (row_less r * states_of nodes d + s) (pos 0)) (λ s n. sym (pos_at (weights_of q d) (row_less r * states_of nodes d + s)))
        ∙ (λ i. sum_below (sym (states_at nodes others x d l d) i) (λ s. slice_index_or (map pos (weights_of q d)) (row_less r * sym (states_at nodes others x d l d) i + s) (pos 0)))
        ∙ (hq.rule d (decision_there nodes others x d l d k)).table.row (row_less r) (row_from-less (world_of_row r) (world_of_row-in r))

    pub lift_profile : IsProfile nodes lift
    lift_profile =
        put_profile nodes d (rule_total q d) lifted q decisions_q (hq.rule d (decision_there nodes others x d l d k)).positive
        (weights_by-table (rows_of nodes d) (states_of nodes d) (rule_total q d) (λ r s. slice_index (weights_of q d) (row_less r * states_of nodes d + s)) lifted_sums)
        (λ v kv n. rule_back v (record { decision = v; total = rule_total q v; weights = weights_of q v }) refl n (hq.rule v (decision_there nodes others x d l v kv)))

    lift_lifts : Lifts nodes others x d l k lift q
    lift_lifts = record {
      weights = λ v n. (put_else nodes d (rule_total q d) lifted q decisions_q v n).0;
      total = λ v. total v (ℕ_discrete v d);
      rule = λ w i.
          ap (λ ws. slice_index ws (row_of nodes d w * states_of nodes d + w d)) (put_here nodes d (rule_total q d) lifted q decisions_q k).0
          ∙ weights_by-at (rows_of nodes d) (states_of nodes d) (λ r s. slice_index (weights_of q d) (row_less r * states_of nodes d + s)) (row_of nodes d w) (w d) (row_of-below nodes d w i) (i.state d)
          ∙ ap (λ r. slice_index (weights_of q d) (r * states_of nodes d + w d)) (row_less-is w i);
    }
      where
        total : (v : ℕ) → Dec (v ≡ d) → rule_total lift v ≡ rule_total q v
        total v (yes e) = ap (rule_total lift) e ∙ (put_here nodes d (rule_total q d) lifted q decisions_q k).1 ∙ ap (rule_total q) (sym e)
        total v (no n) = (put_else nodes d (rule_total q d) lifted q decisions_q v n).1

    pub lift_good : (agent : ℕ) → IsAsGood others q nodes lift agent
    lift_good agent = good_equal others nodes q lift agent (gain_lifted nodes others x d l k g.has_state lift q lift_lifts agent) (mass_lifted nodes others x d l k g.has_state lift q lift_lifts)

  -- what can be got without the arc can be got with it
  pub lifts : (agent : ℕ) → CanGet others nodes agent
  lifts agent q hq = (lift q hq, lift_profile q hq, lift_good q hq agent)

  -- ---- the arc is not requisite
  module _ (a : IsParent nodes x d) (unneeded : IsRequisite nodes d x → ⊥) (p : List RuleView) (hp : IsProfile nodes p) where
    tp : HasTables nodes p
    tp = tables_of nodes p g c hp

    -- a world of a row without the arc
    abbrev back : ℕ → World
    back r = world_with (states_of nodes) g.has_state less apart_less r (dec_lt r (rows_under (states_of nodes) less))

    back_in : (r : ℕ) → InRange (states_of nodes) (back r)
    back_in r = world_with-in (states_of nodes) g.has_state less apart_less r (dec_lt r (rows_under (states_of nodes) less))

    -- x in the state in which the row has the greatest mass
    abbrev widest : (r : ℕ) → (y : ℕ) × (y < states_of nodes x) × ((z : ℕ) → z < states_of nodes x → mass_at nodes p d (row_of nodes d (with_state (back r) x z)) ≤ℤ mass_at nodes p d (row_of nodes d (with_state (back r) x y)))
    widest r = greatest (states_of nodes x) (λ y. mass_at nodes p d (row_of nodes d (with_state (back r) x y))) (g.has_state x)

    abbrev wide_row : ℕ → ℕ
    wide_row r = row_of nodes d (with_state (back r) x (widest r).0)

    -- the state of d that gains most there
    abbrev richest : (r : ℕ) → (y : ℕ) × (y < states_of nodes d) × ((z : ℕ) → z < states_of nodes d → gain_at nodes p d z (wide_row r) ≤ℤ gain_at nodes p d y (wide_row r))
    richest r = greatest (states_of nodes d) (λ s. gain_at nodes p d s (wide_row r)) (g.has_state d)

    abbrev choice : ℕ → ℕ
    choice r = (richest r).0

    -- a row is that of the world of what is left of it, with some state at x
    row_again : (r : ℕ) → r < rows_of nodes d → row_of nodes d (with_state (back (row_less r)) x (world_of_row r x)) ≡ r
    row_again r m =
        agree_rows (states_of nodes) (with_state (back (row_less r)) x (world_of_row r x)) (world_of_row r) (parents_of nodes d) 0 (λ u n. at u n (ℕ_discrete u x))
        ∙ world_of_row-is r m
      where
        less_same : row_from (states_of nodes) (back (row_less r)) 0 less ≡ row_from (states_of nodes) (world_of_row r) 0 less
        less_same = world_with-row (states_of nodes) g.has_state less apart_less (row_less r) (dec_lt (row_less r) (rows_under (states_of nodes) less))
            (subst (λ n. row_less r < n) (rows_at nodes others x d l) (row_from-less (world_of_row r) (world_of_row-in r)))

        at : (u : ℕ) → IsParent nodes u d → Dec (u ≡ x) → with_state (back (row_less r)) x (world_of_row r x) u ≡ world_of_row r u
        at u n (yes e) = ap (with_state (back (row_less r)) x (world_of_row r x)) e ∙ with_same (back (row_less r)) x (world_of_row r x) ∙ ap (world_of_row r) (sym e)
        at u n (no m) =
            with_other (back (row_less r)) x (world_of_row r x) u m
            ∙ (rows_agree (states_of nodes) (back (row_less r)) (world_of_row r) (back_in (row_less r)) (world_of_row-in r) less 0 0 less_same).1 u
            (among_filter_in (λ u. not (eqb u x)) u (parents_of nodes d) n (ap not (eqb_no u x m)))

    -- so the state that gains most in the one row gains most in the other
    best : (r s : ℕ) → r < rows_of nodes d → s < states_of nodes d → gain_at nodes p d s r ≤ℤ gain_at nodes p d (choice (row_less r)) r
    best r s m n = go (dec_lt 1 (states_of nodes d))
      where
        refl_le : (y z : ℤ) → y ≡ z → y ≤ℤ z
        refl_le y z e = omega (arith, ints)

        only : (a b c : ℕ) → a < c → b < c → ¬ (1 < c) → a ≡ b
        only a b c i j n = omega arith

        -- the mass of the row is not above the greatest one
        mass_le : mass_at nodes p d r ≤ℤ mass_at nodes p d (wide_row (row_less r))
        mass_le = subst (λ z. mass_at nodes p d z ≤ℤ mass_at nodes p d (wide_row (row_less r))) (row_again r m) ((widest (row_less r)).2 (world_of_row r x) ((world_of_row-in r).state x))

        proportion : 1 < states_of nodes d → (z : ℕ) → gain_at nodes p d z r *ℤ mass_at nodes p d (wide_row (row_less r)) ≡ gain_at nodes p d z (wide_row (row_less r)) *ℤ mass_at nodes p d r
        proportion live z =
            let e : row_of nodes d (with_state (with_state (back (row_less r)) x (widest (row_less r)).0) x (world_of_row r x)) ≡ r = ap (row_of nodes d) (with_again (back (row_less r)) x (widest (row_less r)).0 (world_of_row r x)) ∙ row_again r m in
            let h = unneeded_rows nodes p d x z (world_of_row r x) (with_state (back (row_less r)) x (widest (row_less r)).0) g tp k (record { within = k.within; states = inr live }) a unneeded
            (with_in (states_of nodes) (back (row_less r)) x (widest (row_less r)).0 (back_in (row_less r)) (widest (row_less r)).1) ((world_of_row-in r).state x) in
            (λ i. gain_at nodes p d z (sym e i) *ℤ mass_at nodes p d (wide_row (row_less r))) ∙ sym h ∙ (λ i. gain_at nodes p d z (wide_row (row_less r)) *ℤ mass_at nodes p d (e i))

        sign : (y : ℤ) → pos 0 ≤ℤ y → (y ≡ pos 0) ⊎ (pos 0 <ℤ y)
        sign (pos zero) h = inl refl
        sign (pos (suc n)) h = inr (omega (arith, ints))
        sign (negsuc n) h = absurd (omega (arith, ints))

        none : (y z : ℤ) → pos 0 ≤ℤ y → y ≤ℤ z → z ≡ pos 0 → y ≡ pos 0
        none y z h i e = omega (arith, ints)

        at_mass : 1 < states_of nodes d → (mass_at nodes p d (wide_row (row_less r)) ≡ pos 0) ⊎ (pos 0 <ℤ mass_at nodes p d (wide_row (row_less r))) → gain_at nodes p d s r ≤ℤ gain_at nodes p d (choice (row_less r)) r
        at_mass live (inl e) =
            let z : mass_at nodes p d r ≡ pos 0 = none (mass_at nodes p d r) (mass_at nodes p d (wide_row (row_less r))) (mass_at_least nodes p d r g tp k.within) mass_le e in
            refl_le (gain_at nodes p d s r) (gain_at nodes p d (choice (row_less r)) r)
            (no_gain_like nodes p p d s r g tp tp k.within (λ v n w i e. e) z ∙ sym (no_gain_like nodes p p d (choice (row_less r)) r g tp tp k.within (λ v n w i e. e) z))
        at_mass live (inr h) =
            cross_le (gain_at nodes p d s r) (gain_at nodes p d (choice (row_less r)) r) (gain_at nodes p d s (wide_row (row_less r))) (gain_at nodes p d (choice (row_less r)) (wide_row (row_less r)))
            (mass_at nodes p d (wide_row (row_less r))) (mass_at nodes p d r) (proportion live s) (proportion live (choice (row_less r))) ((richest (row_less r)).2 s n) (mass_at_least nodes p d r g tp k.within) h

        go : Dec (1 < states_of nodes d) → gain_at nodes p d s r ≤ℤ gain_at nodes p d (choice (row_less r)) r
        go (no i) = refl_le (gain_at nodes p d s r) (gain_at nodes p d (choice (row_less r)) r) (ap (λ y. gain_at nodes p d y r) (only s (choice (row_less r)) (states_of nodes d) n (richest (row_less r)).1 i))
        go (yes live) = at_mass live (sign (mass_at nodes p d (wide_row (row_less r))) (mass_at_least nodes p d (wide_row (row_less r)) g tp k.within))

    -- the pure rule of these choices, with the arc and without
    abbrev high : List RuleView
    high = put_pure nodes d (λ r. choice (row_less r)) p

    abbrev short : List RuleView
    short = put_at others d 1 (pure_weights others d choice) p

    decisions_p : map (λ (r : RuleView). r.decision) p ≡ decisions_of others
    decisions_p = hp.decisions ∙ sym decisions_same

    high_profile : IsProfile nodes high
    high_profile = pure_profile nodes g p hp tp d k (λ r. choice (row_less r)) (λ r m. (richest (row_less r)).1)

    short_profile : IsProfile others short
    short_profile =
        put_profile others d 1 (pure_weights others d choice) p decisions_p (omega arith) (pure_table others d choice (λ r m. subst (λ n. choice r < n) (sym (states_at nodes others x d l d)) (richest r).1))
        (λ v kv n. rule_there v (record { decision = v; total = rule_total p v; weights = weights_of p v }) refl n (hp.rule v (decision_back nodes others x d l v kv)))

    short_lifts : Lifts nodes others x d l k high short
    short_lifts = record {
      weights = λ v n. (put_else nodes d 1 (pure_weights nodes d (λ r. choice (row_less r))) p hp.decisions v n).0 ∙ sym (put_else others d 1 (pure_weights others d choice) p decisions_p v n).0;
      total = λ v. total v (ℕ_discrete v d);
      rule = λ w i. at_high w i ∙ ap (λ r. cond (eqb (w d) (choice r)) 1 0) (row_less-is w i) ∙ sym (at_short w i);
    }
      where
        kd : IsDecision others d
        kd = decision_there nodes others x d l d k

        total : (v : ℕ) → Dec (v ≡ d) → rule_total high v ≡ rule_total short v
        total v (yes e) = ap (rule_total high) e ∙ (put_here nodes d 1 (pure_weights nodes d (λ r. choice (row_less r))) p hp.decisions k).1 ∙ sym (ap (rule_total short) e ∙ (put_here others d 1 (pure_weights others d choice) p decisions_p kd).1)
        total v (no n) = (put_else nodes d 1 (pure_weights nodes d (λ r. choice (row_less r))) p hp.decisions v n).1 ∙ sym (put_else others d 1 (pure_weights others d choice) p decisions_p v n).1

        at_high : (w : World) → InRange (states_of nodes) w → slice_index (weights_of high d) (row_of nodes d w * states_of nodes d + w d) ≡ cond (eqb (w d) (choice (row_less (row_of nodes d w)))) 1 0
        at_high w i =
            ap (λ ws. slice_index ws (row_of nodes d w * states_of nodes d + w d)) (put_here nodes d 1 (pure_weights nodes d (λ r. choice (row_less r))) p hp.decisions k).0
            ∙ weights_by-at (rows_of nodes d) (states_of nodes d) (λ r s. cond (eqb s (choice (row_less r))) 1 0) (row_of nodes d w) (w d) (row_of-below nodes d w i) (i.state d)

        at_short : (w : World) → InRange (states_of nodes) w → slice_index (weights_of short d) (row_from (states_of nodes) w 0 less * states_of nodes d + w d) ≡ cond (eqb (w d) (choice (row_from (states_of nodes) w 0 less))) 1 0
        at_short w i =
            (λ j. slice_index ((put_here others d 1 (pure_weights others d choice) p decisions_p kd).0 j) (row_from (states_of nodes) w 0 less * sym (states_at nodes others x d l d) j + w d))
            ∙ weights_by-at (rows_of others d) (states_of others d) (λ r s. cond (eqb s (choice r)) 1 0) (row_from (states_of nodes) w 0 less) (w d) (row_from-less w i) (subst (λ n. w d < n) (sym (states_at nodes others x d l d)) (i.state d))

    pub shorten : (q : List RuleView) × IsProfile others q × IsAsGood nodes p others q (agent_of nodes d)
    shorten = (
      short,
      short_profile,
      as_good_then nodes nodes others p high short (agent_of nodes d) tp (tables_of nodes high g c high_profile) (tables_of others short (graph_kept nodes others x d l g) (tables_kept nodes others x d l k c) short_profile)
          (pure_as_good nodes g p hp tp d k (λ r. choice (row_less r)) (λ r m. (richest (row_less r)).1) (tables_of nodes high g c high_profile) best)
          (good_equal nodes others high short (agent_of nodes d) (sym (gain_lifted nodes others x d l k g.has_state high short short_lifts (agent_of nodes d))) (sym (mass_lifted nodes others x d l k g.has_state high short short_lifts))),
    )

-- ---- for every diagram
pub kept_law : KeptWithoutArc
kept_law nodes x d g c k =
    let l = loses nodes x d k.within in
    (graph_kept nodes (without_arc nodes x d) x d l g, tables_kept nodes (without_arc nodes x d) x d l k c)

pub less_law : LessWithoutArc
less_law nodes x d agent g c k =
    let l = loses nodes x d k.within in
    let h = kept_law nodes x d g c k in
    let a = lifts nodes (without_arc nodes x d) x d l g c k agent in
    (a, not_above (without_arc nodes x d) nodes agent h.0 h.1 g c a)

pub as_much_law : AsMuchWithoutArc
as_much_law nodes x d g c k a unneeded p hp = shorten nodes (without_arc nodes x d) x d (loses nodes x d k.within) g c k (parent_of nodes x d a) unneeded p hp

-- where one agent owns all decisions, both ways
pub as_much_alone : (nodes : List NodeView) (x d agent : ℕ) → IsGraph nodes → HasChanceTables nodes → OwnsAll nodes agent → IsDecision nodes d → IsParent nodes x d → (IsRequisite nodes d x → ⊥) → CanGet nodes (without_arc nodes x d) agent
as_much_alone nodes x d agent g c owns k a unneeded = subst (CanGet nodes (without_arc nodes x d)) (owns d k) (as_much_law nodes x d g c k (arc_of nodes x d a) unneeded)

pub same_law : SameWithoutArc
same_law nodes x d agent g c owns k a unneeded =
    let h = kept_law nodes x d g c k in
    same_optimum nodes (without_arc nodes x d) agent g c h.0 h.1 (as_much_alone nodes x d agent g c owns k (parent_of nodes x d a) unneeded) (less_law nodes x d agent g c k).0 owns
    (owns_there nodes (without_arc nodes x d) x d (loses nodes x d k.within) agent owns)

-- by induction over the removals
pub trimmed_both : {nodes trimmed : List NodeView} {removed : List (ℕ × ℕ)} (agent : ℕ) → IsGraph nodes → HasChanceTables nodes → OwnsAll nodes agent → IsTrimmed nodes removed trimmed
    → IsGraph trimmed × HasChanceTables trimmed × OwnsAll trimmed agent × CanGet nodes trimmed agent × CanGet trimmed nodes agent
trimmed_both {nodes} agent g c owns (Done h) = (g, c, owns, can_get nodes agent, can_get nodes agent)
trimmed_both {nodes} {trimmed} agent g c owns (Removed {x = x} {d = d} f t) =
    let k = f.decision in
    let a : IsParent nodes x d = subst (λ y. IsParent nodes y d) f.there (among_index (parents_of nodes d) f.place f.within) in
    let h = kept_law nodes x d g c k in
    let owns_less = owns_there nodes (without_arc nodes x d) x d (loses nodes x d k.within) agent owns in
    let r = trimmed_both agent h.0 h.1 owns_less t in (
      r.0,
      r.1,
      r.2,
      can_get_then nodes (without_arc nodes x d) trimmed agent g c h.0 h.1 r.0 r.1 (as_much_alone nodes x d agent g c owns k a f.not_requisite) r.3,
      can_get_then trimmed (without_arc nodes x d) nodes agent r.0 r.1 h.0 h.1 g c r.4 (less_law nodes x d agent g c k).0,
    )

pub trimmed_law : SameWhenTrimmed
trimmed_law nodes trimmed removed agent g c owns t =
    let r = trimmed_both agent g c owns t in
    (r.0, r.1, r.2, r.3, r.4, same_optimum nodes trimmed agent g c r.0 r.1 r.3 r.4 owns r.2)
