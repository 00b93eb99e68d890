-- The trip is solved: its rows by computation, and by laws what follows of its answer.
use Rattle.std.proofs.Common.{◌≡◌, ◌∙◌, ℕ, zero, suc, ◌*◌, ◌<◌, List, [], ◌∷◌, take, slice_index, slice_index_or, refl, sym, subst, arith, rules, pos, negsuc, ◌≤ℤ◌, ◌<ℤ◌, IfSome, Contains}
use Rattle.std.proofs.lemmas.Int.{ints}
use Rattle.std.proofs.lemmas.List.Elements.{All-cons}
use Rattle.maid_model.specs.declared.answers.Ratio.{Ratio}
use Rattle.maid_model.specs.Laws.{TestsProfiles}
use Rattle.maid_model.specs.Views.{RuleView}
use Rattle.maid_model.specs.Diagrams.{IsDiagram}
use Rattle.maid_model.specs.Nodes.{IsDecision}
use Rattle.maid_model.specs.Gains.{gain_at, gain_of, mass}
use Rattle.maid_model.specs.Relevance.{ReliesOn}
use Rattle.maid_model.specs.Placing.{IsRelianceOrder, CanPlace, IsLeast}
use Rattle.maid_model.specs.Profiles.{IsProfile, uniform_profile}
use Rattle.maid_model.specs.Subgames.{IsSubgamePerfect, IsOptimal, OwnsAll, IsListing, IsSubgameStart}
use Rattle.maid_model.specs.Answers.{IsAnswer, IsAnswerAt, IsAnswerRow, IsBase, IsReduced, IsFraction, FitsDiagram, FitsAnswer, rows_at, no_row}
use Rattle.maid_laws.specs.Answers.{AnswersAreBest, AnswersAreSubgamePerfect, AnswersAreOptimal, GainsAreOptima}
use Rattle.maid_laws.specs.Exchange.{IsBestInBases}
use Rattle.maid_examples.specs.Samples.{whole, reached}
use Rattle.maid_examples.specs.Trip.{trip, trip_diagram, plan, stay, answer, IsTripSolved}
use Rattle.maid_examples.proofs.Members.{among_of}
use Rattle.maid_examples.proofs.Fractions.{reduced_5, reduced_7, reduced_13_2, itself, none}

outing : IsDecision trip 1
outing = record { within = omega arith; kind = refl }

only : (v : ℕ) → IsDecision trip v → v ≡ 1
only zero k = let e = k.kind in absurd (cc)
only (suc zero) k = refl
only (suc (suc zero)) k = let e = k.kind in absurd (cc)
only (suc (suc (suc v))) k = let e = k.kind in absurd (cc)

on_none : (d e : ℕ) → ReliesOn trip d e → ⊥
on_none d e r = r.apart (only d r.from_decision ∙ sym (only e r.on_decision))

-- ---- rows by computation
abbrev uniform : List RuleView
uniform = uniform_profile trip

rain : IsAnswerRow trip 0 uniform 1 0 (reached 0 5)
rain = record {
  best = λ p. record { within = omega arith; greatest = greatest; first = λ s l. absurd (omega arith) };
  worth = λ p. (whole (pos 5), refl, record { reduced = reduced_5; same = refl });
  never = λ e. let f : pos 1 ≡ pos 0 = e in absurd (omega (arith, ints));
}
  where
    greatest : (s : ℕ) → s < 2 → gain_at trip uniform 1 s 0 ≤ℤ pos 5
    greatest zero l = itself (pos 5)
    greatest (suc zero) l = omega (arith, ints)
    greatest (suc (suc s)) l = absurd (omega arith)

sun : IsAnswerRow trip 0 uniform 1 1 (reached 1 7)
sun = record {
  best = λ p. record { within = omega arith; greatest = greatest; first = first };
  worth = λ p. (whole (pos 7), refl, record { reduced = reduced_7; same = refl });
  never = λ e. let f : pos 3 ≡ pos 0 = e in absurd (omega (arith, ints));
}
  where
    greatest : (s : ℕ) → s < 2 → gain_at trip uniform 1 s 1 ≤ℤ pos 21
    greatest zero l = omega (arith, ints)
    greatest (suc zero) l = itself (pos 21)
    greatest (suc (suc s)) l = absurd (omega arith)

    first : (s : ℕ) → s < 1 → gain_at trip uniform 1 s 1 <ℤ pos 21
    first zero l = omega (arith, ints)
    first (suc s) l = absurd (omega arith)

-- ---- the answer
fits : FitsDiagram trip_diagram answer
fits = record {
  follow = refl;
  answers = All-cons (FitsAnswer trip) (record { decision = 1; rows = reached 0 5 ∷ reached 1 7 ∷ [] }) [] rows (none (FitsAnswer trip));
  all = λ v k. subst (Contains (1 ∷ [])) (sym (only v k)) (0, omega arith, refl);
  once = ((λ c. among_of [] 1 c), tt);
  gains = refl;
  reduced = All-cons IsReduced (record { num = pos 13; den = 2 }) [] reduced_13_2 (none IsReduced);
}
  where
    rows : FitsAnswer trip (record { decision = 1; rows = reached 0 5 ∷ reached 1 7 ∷ [] })
    rows = record {
      decision = outing;
      rows = refl;
      choices = All-cons (λ r. r.choice < 2) (reached 0 5) (reached 1 7 ∷ []) (omega arith) (All-cons (λ r. r.choice < 2) (reached 1 7) [] (omega arith) (none (λ r. r.choice < 2)));
      worths = All-cons (λ r. IfSome r.worth IsReduced) (reached 0 5) (reached 1 7 ∷ []) reduced_5 (All-cons (λ r. IfSome r.worth IsReduced) (reached 1 7) [] reduced_7 (none (λ r. IfSome r.worth IsReduced)));
    }

order : IsRelianceOrder trip (1 ∷ [])
order = record { placing = placing; complete = fits.all }
  where
    placing : (k : ℕ) → k < 1 → IsLeast (CanPlace (IsDecision trip) (ReliesOn trip) (take k (1 ∷ []))) (slice_index (1 ∷ []) k)
    placing zero l = (((outing, λ c. among_of [] 1 c), λ e r. absurd (on_none 1 e r)), λ w m c. let e : w ≡ 1 = only w c.0.0 in omega arith)
    placing (suc k) l = absurd (omega arith)

answered : IsProfile trip uniform → IsAnswer trip_diagram answer
answered is = record { fits = fits; order = order; answers = answers; gains = record { each = each } }
  where
    rows : (row : ℕ) → row < 2 → IsAnswerRow trip 0 uniform 1 row (slice_index_or (reached 0 5 ∷ reached 1 7 ∷ []) row no_row)
    rows zero l = rain
    rows (suc zero) l = sun
    rows (suc (suc row)) l = absurd (omega arith)

    base : IsBase trip plan 1 uniform
    base = record { profile = is; relied = λ e r. absurd (on_none 1 e r); others = λ e k n. record { weights = refl; total = refl } }

    answers : (v : ℕ) → IsDecision trip v → IsAnswerAt trip 0 plan v (rows_at answer.answers v)
    answers v k = subst (λ v. IsAnswerAt trip 0 plan v (rows_at answer.answers v)) (sym (only v k)) (record { base = uniform; is_base = base; each = rows })

    each : (agent : ℕ) (r : Ratio) → agent < 1 → IsFraction (slice_index_or answer.gains agent r) (gain_of trip plan agent) (mass trip plan * 1)
    each zero r l = record { reduced = reduced_13_2; same = refl }
    each (suc agent) r l = absurd (omega arith)

-- ---- to stay is worth 2 of 4, and the plan 26 of 4
alone : OwnsAll trip 0
alone zero k = let e = k.kind in absurd (cc)
alone (suc zero) k = refl
alone (suc (suc zero)) k = let e = k.kind in absurd (cc)
alone (suc (suc (suc v))) k = let e = k.kind in absurd (cc)

-- in the sun the base has mass 3, and to go gains more: no base's rules are looked at, as there is
-- one decision
stay_not_best : IsBestInBases trip stay → ⊥
stay_not_best b =
    let at = b.best 1 outing in
    let f : pos 21 ≤ℤ negsuc 2 = at.best 0 1 1 (omega arith) (omega arith) refl (omega (arith, ints)) (omega arith) in
    omega (arith, ints)

listing : IsListing trip (0 ∷ 1 ∷ [])
listing = search rules

start : IsSubgameStart trip (0 ∷ 1 ∷ []) []
start = search rules

module _ (profiles : TestsProfiles) where
  is_plan : IsProfile trip plan
  is_plan = profiles trip plan refl refl

  stay_not_perfect : IsSubgamePerfect trip stay → ⊥
  stay_not_perfect p =
      let f : pos 104 ≤ℤ pos 8 = p.from_each_start (0 ∷ 1 ∷ []) [] listing start 0 plan is_plan (λ v k n. absurd (n (alone v k))) in
      omega (arith, ints)

  stay_not_optimal : IsOptimal trip stay 0 → ⊥
  stay_not_optimal o = let f : pos 104 ≤ℤ pos 8 = o.greatest plan is_plan in omega (arith, ints)

  pub solved : IsDiagram trip_diagram → AnswersAreBest → AnswersAreSubgamePerfect → AnswersAreOptimal → GainsAreOptima → IsTripSolved
  solved d best perfect optimal optima =
      let a = answered (profiles trip uniform refl refl) in
      let o = optima trip_diagram answer d.graph d.tables a 0 (whole (pos 0)) (omega arith) alone in
      record {
        answered = a;
        optimum = o;
        best = best trip_diagram answer d.graph d.tables a;
        perfect = perfect trip_diagram answer d.graph d.tables a;
        optimal = optimal trip_diagram answer 0 d.graph d.tables a alone;
        stay_not_best = stay_not_best;
        stay_not_perfect = stay_not_perfect;
        stay_not_optimal = stay_not_optimal;
      }
