-- What is answered by a copy: the bases and the rows by computation, and what a wrong entry would
-- ask for.
use Rattle.std.proofs.Common.{◌≡◌, ℕ, zero, suc, ◌*◌, ◌<◌, List, [], ◌∷◌, take, slice_index, slice_index_or, refl, sym, ap, subst, inl, inr, arith, pos, ◌*ℤ◌, ◌≤ℤ◌, ◌<ℤ◌, nat_abs, Option, Some, None, IfSome, Contains}
use Rattle.std.proofs.lemmas.Int.{ints}
use Rattle.std.proofs.lemmas.List.Elements.{All-cons}
use Rattle.maid_model.specs.declared.answers.Ratio.{Ratio}
use Rattle.maid_model.specs.declared.answers.Row.{Row}
use Rattle.maid_model.specs.Laws.{TestsProfiles}
use Rattle.maid_model.specs.Views.{RuleView, SolvedView}
use Rattle.maid_model.specs.Nodes.{IsDecision}
use Rattle.maid_model.specs.Tables.{weights_of}
use Rattle.maid_model.specs.Gains.{gain_at, mass_at, gain_of, mass}
use Rattle.maid_model.specs.Relevance.{ReliesOn}
use Rattle.maid_model.specs.Placing.{IsRelianceOrder, CanPlace, IsLeast}
use Rattle.maid_model.specs.Profiles.{SameRule, uniform_profile}
use Rattle.maid_model.specs.Answers.{IsAnswer, IsAnswerAt, IsAnswerRow, IsBase, IsReduced, IsFraction, IsGains, HasWorth, FitsDiagram, FitsAnswer, pure_profile, rows_at, no_row}
use Rattle.maid_model.specs.Accepted.{IsAccepted, IsAcceptedAt, IsAcceptedRow, IsReliedFirst}
use Rattle.maid_examples.specs.Samples.{rule, whole, reached, never}
use Rattle.maid_examples.specs.CopyAnswered.{trace, trace_diagram, report, answer, other_where_never, marked_where_reached, worth_where_never, worth_off, lesser_state, HasReliance, HasAnswer, HasAccepted}
use Rattle.maid_examples.proofs.Members.{Among, among_of}
use Rattle.maid_examples.proofs.Fractions.{reduced_1, worth_or, itself, none}
use Rattle.maid_examples.proofs.ByCopy.{leads, follows, one_of}

-- ---- rows by computation
abbrev uniform : List RuleView
uniform = uniform_profile trace

-- against a leader that takes the first state
abbrev led : List RuleView
led = rule 0 1 (1 ∷ 0 ∷ []) ∷ rule 2 2 (1 ∷ 1 ∷ 1 ∷ 1 ∷ []) ∷ []

lead_row : IsAnswerRow trace 0 uniform 0 0 (reached 0 1)
lead_row = record {
  best = λ p. record { within = omega arith; greatest = greatest; first = λ s l. absurd (omega arith) };
  worth = λ p. (whole (pos 1), refl, record { reduced = reduced_1; same = refl });
  never = λ e. let f : pos 2 ≡ pos 0 = e in absurd (omega (arith, ints));
}
  where
    greatest : (s : ℕ) → s < 2 → gain_at trace uniform 0 s 0 ≤ℤ pos 2
    greatest zero l = itself (pos 2)
    greatest (suc zero) l = omega (arith, ints)
    greatest (suc (suc s)) l = absurd (omega arith)

seen_row : IsAnswerRow trace 0 led 2 0 (reached 0 1)
seen_row = record {
  best = λ p. record { within = omega arith; greatest = greatest; first = λ s l. absurd (omega arith) };
  worth = λ p. (whole (pos 1), refl, record { reduced = reduced_1; same = refl });
  never = λ e. let f : pos 1 ≡ pos 0 = e in absurd (omega (arith, ints));
}
  where
    greatest : (s : ℕ) → s < 2 → gain_at trace led 2 s 0 ≤ℤ pos 1
    greatest zero l = itself (pos 1)
    greatest (suc zero) l = omega (arith, ints)
    greatest (suc (suc s)) l = absurd (omega arith)

no_mass : pos 0 <ℤ pos 0 → ⊥
no_mass p = omega (arith, ints)

never_row : IsAnswerRow trace 0 led 2 1 (never 0)
never_row = record { best = λ p. absurd (no_mass p); worth = λ p. absurd (no_mass p); never = λ e. (refl, refl) }

-- an answered row is accepted, and where there is no mass so is each that is marked
accepted_row : (base : List RuleView) (d row : ℕ) (r : Row) → IsAnswerRow trace 0 base d row r → IsAcceptedRow trace 0 base d row r
accepted_row base d row r a = record { best = λ p. (a.best p).greatest; worth = a.worth; never = λ e. (a.never e).1 }

never_accepted : (choice : ℕ) → IsAcceptedRow trace 0 led 2 1 (never choice)
never_accepted choice = record { best = λ p. absurd (no_mass p); worth = λ p. absurd (no_mass p); never = λ e. refl }

-- ---- reports with any state where the row is never reached
abbrev solved : ℕ → SolvedView
solved choice = report (reached 0 1 ∷ []) (reached 0 1 ∷ never choice ∷ []) (pos 1) (pos 1)

abbrev plan : ℕ → List RuleView
plan choice = pure_profile trace (solved choice).answers

fits : (choice : ℕ) → choice < 2 → FitsDiagram trace_diagram (solved choice)
fits choice l = record {
  follow = refl;
  answers = All-cons (FitsAnswer trace) (record { decision = 0; rows = reached 0 1 ∷ [] }) (record { decision = 2; rows = reached 0 1 ∷ never choice ∷ [] } ∷ []) lead
      (All-cons (FitsAnswer trace) (record { decision = 2; rows = reached 0 1 ∷ never choice ∷ [] }) [] follow (none (FitsAnswer trace)));
  all = λ v k. elim (one_of v k) [ inl e ↦ subst (Contains (0 ∷ 2 ∷ [])) (sym e) (0, omega arith, refl) | inr e ↦ subst (Contains (0 ∷ 2 ∷ [])) (sym e) (1, omega arith, refl) ];
  once = ((λ c. apart (among_of (2 ∷ []) 0 c)), ((λ c. among_of [] 2 c), tt));
  gains = refl;
  reduced = All-cons IsReduced (whole (pos 1)) (whole (pos 1) ∷ []) reduced_1 (All-cons IsReduced (whole (pos 1)) [] reduced_1 (none IsReduced));
}
  where
    apart : Among 0 (2 ∷ []) → ⊥
    apart (inl e) = omega arith
    apart (inr m) = m

    lead : FitsAnswer trace (record { decision = 0; rows = reached 0 1 ∷ [] })
    lead = record {
      decision = leads;
      rows = refl;
      choices = All-cons (λ r. r.choice < 2) (reached 0 1) [] (omega arith) (none (λ r. r.choice < 2));
      worths = All-cons (λ r. IfSome r.worth IsReduced) (reached 0 1) [] reduced_1 (none (λ r. IfSome r.worth IsReduced));
    }

    follow : FitsAnswer trace (record { decision = 2; rows = reached 0 1 ∷ never choice ∷ [] })
    follow = record {
      decision = follows;
      rows = refl;
      choices = All-cons (λ r. r.choice < 2) (reached 0 1) (never choice ∷ []) (omega arith) (All-cons (λ r. r.choice < 2) (never choice) [] l (none (λ r. r.choice < 2)));
      worths = All-cons (λ r. IfSome r.worth IsReduced) (reached 0 1) (never choice ∷ []) reduced_1 (All-cons (λ r. IfSome r.worth IsReduced) (never choice) [] tt (none (λ r. IfSome r.worth IsReduced)));
    }

module _ (relies : HasReliance) (profiles : TestsProfiles) where
  -- ---- bases
  on_none : (e : ℕ) → ReliesOn trace 0 e → ⊥
  on_none e r = elim (one_of e r.on_decision) [ inl x ↦ r.apart (sym x) | inr x ↦ relies.not_on_follower (subst (λ e. ReliesOn trace 0 e) x r) ]

  on_leader_alone : (e : ℕ) → ReliesOn trace 2 e → e ≡ 0
  on_leader_alone e r = elim (one_of e r.on_decision) [ inl x ↦ x | inr x ↦ absurd (r.apart (sym x)) ]

  lead_base : (s : List RuleView) → IsBase trace s 0 uniform
  lead_base s = record { profile = profiles trace uniform refl refl; relied = λ e r. absurd (on_none e r); others = λ e k n. record { weights = refl; total = refl } }

  follow_base : (choice : ℕ) → IsBase trace (plan choice) 2 led
  follow_base choice = record {
    profile = profiles trace led refl refl;
    relied = λ e r. subst (λ e. SameRule led (plan choice) e) (sym (on_leader_alone e r)) (record { weights = refl; total = refl });
    others = λ e k n. elim (one_of e k) [
      | inl x ↦ absurd (n (subst (λ e. ReliesOn trace 2 e) (sym x) relies.on_leader))
      | inr x ↦ subst (λ e. SameRule led uniform e) (sym x) (record { weights = refl; total = refl })
    ];
  }

  -- ---- the order: the leader can be placed first, and the follower not before it
  order : IsRelianceOrder trace (0 ∷ 2 ∷ [])
  order = record { placing = placing; complete = (fits 0 (omega arith)).all }
    where
      at_first : Contains {X = ℕ} (0 ∷ []) 2 → ⊥
      at_first c = let m = among_of (0 ∷ []) 2 c in elim m [ inl e ↦ (let f : ◌≡◌ {A = ℕ} 2 0 = e in omega arith) | inr n ↦ n ]

      before : (w : ℕ) → w < 2 → CanPlace (IsDecision trace) (ReliesOn trace) (0 ∷ []) w → ⊥
      before zero l c = c.0.1 (0, omega arith, refl)
      before (suc zero) l c = let k = c.0.0.kind in cc
      before (suc (suc w)) l c = omega arith

      placing : (k : ℕ) → k < 2 → IsLeast (CanPlace (IsDecision trace) (ReliesOn trace) (take k (0 ∷ 2 ∷ []))) (slice_index (0 ∷ 2 ∷ []) k)
      placing zero l = (((leads, λ c. among_of [] 0 c), λ e r. absurd (on_none e r)), λ w m c. omega arith)
      placing (suc zero) l = (((follows, at_first), λ e r. subst (Contains (0 ∷ [])) (sym (on_leader_alone e r)) (0, omega arith, refl)), before)
      placing (suc (suc k)) l = absurd (omega arith)

  relied_first : IsReliedFirst trace (0 ∷ 2 ∷ [])
  relied_first zero e l r = absurd (on_none e r)
  relied_first (suc zero) e l r = subst (Contains (0 ∷ [])) (sym (on_leader_alone e r)) (0, omega arith, refl)
  relied_first (suc (suc i)) e l r = absurd (omega arith)

  -- ---- what is accepted, and the answer
  accepts : (choice : ℕ) → choice < 2 → IsGains trace_diagram (plan choice) (whole (pos 1) ∷ whole (pos 1) ∷ []) → IsAccepted trace_diagram (solved choice)
  accepts choice l g = record { fits = fits choice l; order = relied_first; rows = rows; gains = g }
    where
      lead : IsAcceptedAt trace 0 (plan choice) 0 (reached 0 1 ∷ [])
      lead = record { base = uniform; is_base = lead_base (plan choice); each = each }
        where
          each : (row : ℕ) → row < 1 → IsAcceptedRow trace 0 uniform 0 row (slice_index_or (reached 0 1 ∷ []) row no_row)
          each zero l = accepted_row uniform 0 0 (reached 0 1) lead_row
          each (suc row) l = absurd (omega arith)

      follow : IsAcceptedAt trace 0 (plan choice) 2 (reached 0 1 ∷ never choice ∷ [])
      follow = record { base = led; is_base = follow_base choice; each = each }
        where
          each : (row : ℕ) → row < 2 → IsAcceptedRow trace 0 led 2 row (slice_index_or (reached 0 1 ∷ never choice ∷ []) row no_row)
          each zero l = accepted_row led 2 0 (reached 0 1) seen_row
          each (suc zero) l = never_accepted choice
          each (suc (suc row)) l = absurd (omega arith)

      rows : (v : ℕ) → IsDecision trace v → IsAcceptedAt trace 0 (plan choice) v (rows_at (solved choice).answers v)
      rows v k = elim (one_of v k) [
        | inl x ↦ subst (λ v. IsAcceptedAt trace 0 (plan choice) v (rows_at (solved choice).answers v)) (sym x) lead
        | inr x ↦ subst (λ v. IsAcceptedAt trace 0 (plan choice) v (rows_at (solved choice).answers v)) (sym x) follow
      ]

  gains : (choice : ℕ) → choice < 2 → IsGains trace_diagram (plan choice) (whole (pos 1) ∷ whole (pos 1) ∷ [])
  gains zero l = record { each = each }
    where
      each : (agent : ℕ) (r : Ratio) → agent < 2 → IsFraction (slice_index_or (whole (pos 1) ∷ whole (pos 1) ∷ []) agent r) (gain_of trace (plan 0) agent) (mass trace (plan 0) * 1)
      each zero r l = record { reduced = reduced_1; same = refl }
      each (suc zero) r l = record { reduced = reduced_1; same = refl }
      each (suc (suc agent)) r l = absurd (omega arith)
  gains (suc zero) l = record { each = each }
    where
      each : (agent : ℕ) (r : Ratio) → agent < 2 → IsFraction (slice_index_or (whole (pos 1) ∷ whole (pos 1) ∷ []) agent r) (gain_of trace (plan 1) agent) (mass trace (plan 1) * 1)
      each zero r l = record { reduced = reduced_1; same = refl }
      each (suc zero) r l = record { reduced = reduced_1; same = refl }
      each (suc (suc agent)) r l = absurd (omega arith)
  gains (suc (suc choice)) l = absurd (omega arith)

  answered : IsAnswer trace_diagram answer
  answered = record { fits = fits 0 (omega arith); order = order; answers = answers; gains = gains 0 (omega arith) }
    where
      lead : IsAnswerAt trace 0 (plan 0) 0 (reached 0 1 ∷ [])
      lead = record { base = uniform; is_base = lead_base (plan 0); each = each }
        where
          each : (row : ℕ) → row < 1 → IsAnswerRow trace 0 uniform 0 row (slice_index_or (reached 0 1 ∷ []) row no_row)
          each zero l = lead_row
          each (suc row) l = absurd (omega arith)

      follow : IsAnswerAt trace 0 (plan 0) 2 (reached 0 1 ∷ never 0 ∷ [])
      follow = record { base = led; is_base = follow_base 0; each = each }
        where
          each : (row : ℕ) → row < 2 → IsAnswerRow trace 0 led 2 row (slice_index_or (reached 0 1 ∷ never 0 ∷ []) row no_row)
          each zero l = seen_row
          each (suc zero) l = never_row
          each (suc (suc row)) l = absurd (omega arith)

      answers : (v : ℕ) → IsDecision trace v → IsAnswerAt trace 0 (plan 0) v (rows_at (solved 0).answers v)
      answers v k = elim (one_of v k) [
        | inl x ↦ subst (λ v. IsAnswerAt trace 0 (plan 0) v (rows_at (solved 0).answers v)) (sym x) lead
        | inr x ↦ subst (λ v. IsAnswerAt trace 0 (plan 0) v (rows_at (solved 0).answers v)) (sym x) follow
      ]

  -- ---- wrong entries: against any base, since only the other's weights are looked at
  module _ (base : List RuleView) where
    -- the leader's base has the follower's uniform rule
    module _ (same : SameRule base uniform 2) where
      leads_with_mass : pos 0 <ℤ mass_at trace base 0 0
      leads_with_mass = subst (λ ws. pos 0 <ℤ mass_at trace (rule 2 4 ws ∷ []) 0 0) (sym same.weights) (omega (arith, ints))

      not_worth_2 : HasWorth trace 0 base 0 0 (reached 0 2) → ⊥
      not_worth_2 h =
          let e : h.0.num *ℤ pos 2 ≡ pos 2 *ℤ pos h.0.den = subst (λ ws. h.0.num *ℤ pos (nat_abs (mass_at trace (rule 2 4 ws ∷ []) 0 0) * 1) ≡ gain_at trace (rule 2 4 ws ∷ []) 0 0 0 *ℤ pos h.0.den) same.weights h.2.same in
          let f : pos 2 *ℤ pos 2 ≡ pos 2 *ℤ pos 1 = subst (λ w. w.num *ℤ pos 2 ≡ pos 2 *ℤ pos w.den) (sym (ap (worth_or h.0) h.1)) e in
          omega (arith, ints)

      second_is_less : gain_at trace base 0 0 0 ≤ℤ gain_at trace base 0 1 0 → ⊥
      second_is_less h = let f : pos 2 ≤ℤ pos 0 = subst (λ ws. gain_at trace (rule 2 4 ws ∷ []) 0 0 0 ≤ℤ gain_at trace (rule 2 4 ws ∷ []) 0 1 0) same.weights h in omega (arith, ints)

    -- the follower's base has the leader take the first state
    module _ (same : weights_of base 0 ≡ 1 ∷ 0 ∷ []) where
      seen_with_mass : pos 0 <ℤ mass_at trace base 2 0
      seen_with_mass = subst (λ ws. pos 0 <ℤ mass_at trace (rule 0 1 ws ∷ []) 2 0) (sym same) (omega (arith, ints))

      unseen_without : mass_at trace base 2 1 ≡ pos 0
      unseen_without = ap (λ ws. mass_at trace (rule 0 1 ws ∷ []) 2 1) same

  not_none : {X : Type 0} (x : X) → ◌≡◌ {A = Option X} None (Some x) → ⊥
  not_none x e = cc

  not_other : IsAnswer trace_diagram other_where_never → ⊥
  not_other a =
      let at = a.answers 2 follows in
      let e : ◌≡◌ {A = ℕ} 1 0 = ((at.each 1 (omega arith)).never (unseen_without at.base (at.is_base.relied 0 relies.on_leader).weights)).0 in
      omega arith

  answer_unmarked : IsAnswer trace_diagram marked_where_reached → ⊥
  answer_unmarked a =
      let at = a.answers 2 follows in
      let h = (at.each 0 (omega arith)).worth (seen_with_mass at.base (at.is_base.relied 0 relies.on_leader).weights) in
      not_none h.0 h.1

  accepted_unmarked : IsAccepted trace_diagram marked_where_reached → ⊥
  accepted_unmarked a =
      let at = a.rows 2 follows in
      let h = (at.each 0 (omega arith)).worth (seen_with_mass at.base (at.is_base.relied 0 relies.on_leader).weights) in
      not_none h.0 h.1

  answer_marked : IsAnswer trace_diagram worth_where_never → ⊥
  answer_marked a =
      let at = a.answers 2 follows in
      not_none (whole (pos 0)) (sym ((at.each 1 (omega arith)).never (unseen_without at.base (at.is_base.relied 0 relies.on_leader).weights)).1)

  accepted_marked : IsAccepted trace_diagram worth_where_never → ⊥
  accepted_marked a =
      let at = a.rows 2 follows in
      not_none (whole (pos 0)) (sym ((at.each 1 (omega arith)).never (unseen_without at.base (at.is_base.relied 0 relies.on_leader).weights)))

  answer_worth : IsAnswer trace_diagram worth_off → ⊥
  answer_worth a =
      let at = a.answers 0 leads in
      let same = at.is_base.others 2 follows relies.not_on_follower in
      not_worth_2 at.base same ((at.each 0 (omega arith)).worth (leads_with_mass at.base same))

  accepted_worth : IsAccepted trace_diagram worth_off → ⊥
  accepted_worth a =
      let at = a.rows 0 leads in
      let same = at.is_base.others 2 follows relies.not_on_follower in
      not_worth_2 at.base same ((at.each 0 (omega arith)).worth (leads_with_mass at.base same))

  answer_best : IsAnswer trace_diagram lesser_state → ⊥
  answer_best a =
      let at = a.answers 0 leads in
      let same = at.is_base.others 2 follows relies.not_on_follower in
      second_is_less at.base same (((at.each 0 (omega arith)).best (leads_with_mass at.base same)).greatest 0 (omega arith))

  accepted_best : IsAccepted trace_diagram lesser_state → ⊥
  accepted_best a =
      let at = a.rows 0 leads in
      let same = at.is_base.others 2 follows relies.not_on_follower in
      second_is_less at.base same ((at.each 0 (omega arith)).best (leads_with_mass at.base same) 0 (omega arith))

  -- the follower gets 1
  not_gain_2 : IsGains trace_diagram (plan 0) (whole (pos 1) ∷ whole (pos 2) ∷ []) → ⊥
  not_gain_2 g = let e : pos 2 *ℤ pos 1 ≡ pos 1 *ℤ pos 1 = (g.each 1 (whole (pos 0)) (omega arith)).same in omega (arith, ints)

  pub has_answer : HasAnswer
  has_answer = record {
    answered = answered;
    not_other = not_other;
    not_marked = answer_unmarked;
    not_unmarked = answer_marked;
    not_worth = answer_worth;
    not_lesser = answer_best;
    not_gain = λ a. not_gain_2 a.gains;
  }

  pub has_accepted : HasAccepted
  has_accepted = record {
    answered = accepts 0 (omega arith) (gains 0 (omega arith));
    other = accepts 1 (omega arith) (gains 1 (omega arith));
    not_marked = accepted_unmarked;
    not_unmarked = accepted_marked;
    not_worth = accepted_worth;
    not_lesser = accepted_best;
    not_gain = λ a. not_gain_2 a.gains;
  }
