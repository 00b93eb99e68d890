-- One agent between two states: answers, accepted reports and optima by computation, since no rule
-- of another decision is looked at.
use Rattle.std.proofs.Common.{◌≡◌, ◌∙◌, ℕ, zero, suc, ◌*◌, ◌<◌, List, [], ◌∷◌, take, slice_index, slice_index_or, refl, sym, ap, subst, arith, ℤ, pos, ◌*ℤ◌, ◌≤ℤ◌, ◌<ℤ◌, Option, Some, None, IfSome, Contains}
use Rattle.std.proofs.lemmas.List.Elements.{All-cons}
use Rattle.std.proofs.lemmas.Int.{ints}
use Rattle.maid_model.specs.declared.answers.Ratio.{Ratio}
use Rattle.maid_model.specs.declared.answers.Row.{Row}
use Rattle.maid_model.specs.Views.{NodeView, RuleView, DiagramView}
use Rattle.maid_model.specs.Nodes.{IsDecision}
use Rattle.maid_model.specs.Relevance.{ReliesOn}
use Rattle.maid_model.specs.Placing.{IsRelianceOrder, CanPlace}
use Rattle.maid_model.specs.Gains.{gain_at, gain_of, mass}
use Rattle.maid_model.specs.Profiles.{IsProfile, uniform_profile}
use Rattle.maid_model.specs.Answers.{IsAnswer, IsAnswerAt, IsAnswerRow, IsBase, IsReduced, IsFraction, IsGains, FitsDiagram, FitsAnswer, pure_profile, rows_at, no_row}
use Rattle.maid_model.specs.Accepted.{IsAccepted, IsAcceptedAt, IsAcceptedRow, IsReliedFirst}
use Rattle.maid_examples.specs.Samples.{whole, reached, never}
use Rattle.maid_examples.specs.Tie.{between, tie, uneven, tie_diagram, uneven_diagram, report, HasTie}
use Rattle.maid_examples.proofs.Members.{among_of}
use Rattle.maid_examples.proofs.Fractions.{reduced_5, worth_or, itself, none}

module _ (a b : ℤ) where
  abbrev nodes : List NodeView
  nodes = between a b

  only : (v : ℕ) → IsDecision nodes v → v ≡ 0
  only zero k = refl
  only (suc zero) k = let e = k.kind in absurd (cc)
  only (suc (suc v)) k = let e = k.kind in absurd (cc)

  there : IsDecision nodes 0
  there = record { within = omega arith; kind = refl }

  none_relied : (d e : ℕ) → ReliesOn nodes d e → ⊥
  none_relied d e r = r.apart (only d r.from_decision ∙ sym (only e r.on_decision))

  pub order : IsRelianceOrder nodes (0 ∷ [])
  order = record { placing = placing; complete = λ v k. subst (Contains (0 ∷ [])) (sym (only v k)) (0, omega arith, refl) }
    where
      placing : (k : ℕ) → k < 1 → CanPlace (IsDecision nodes) (ReliesOn nodes) (take k (0 ∷ [])) (slice_index (0 ∷ []) k) × ((w : ℕ) → w < slice_index (0 ∷ []) k → CanPlace (IsDecision nodes) (ReliesOn nodes) (take k (0 ∷ [])) w → ⊥)
      placing zero l = (((there, λ c. among_of [] 0 c), λ e r. absurd (none_relied 0 e r)), λ w m c. omega arith)
      placing (suc k) l = absurd (omega arith)

  relied_first : IsReliedFirst nodes (0 ∷ [])
  relied_first i e l r = absurd (none_relied (slice_index (0 ∷ []) i) e r)

  abbrev diagram : DiagramView
  diagram = record { nodes = nodes; agents = 1; decimals = 0 }

  fits : (choice worth : ℕ) (gain : ℤ) → choice < 2 → IsReduced (whole (pos worth)) → IsReduced (whole gain) → FitsDiagram diagram (report (reached choice worth) gain)
  fits choice worth gain l rw rg = record {
    follow = refl;
    answers = All-cons (FitsAnswer nodes) (record { decision = 0; rows = reached choice worth ∷ [] }) [] row (none (FitsAnswer nodes));
    all = λ v k. subst (Contains (0 ∷ [])) (sym (only v k)) (0, omega arith, refl);
    once = ((λ c. among_of [] 0 c), tt);
    gains = refl;
    reduced = All-cons IsReduced (whole gain) [] rg (none IsReduced);
  }
    where
      row : FitsAnswer nodes (record { decision = 0; rows = reached choice worth ∷ [] })
      row = record {
        decision = there;
        rows = refl;
        choices = All-cons (λ r. r.choice < 2) (reached choice worth) [] l (none (λ r. r.choice < 2));
        worths = All-cons (λ r. IfSome r.worth IsReduced) (reached choice worth) [] rw (none (λ r. IfSome r.worth IsReduced));
      }

  module _ (uniform : IsProfile nodes (uniform_profile nodes)) where
    base : (s : List RuleView) → IsBase nodes s 0 (uniform_profile nodes)
    base s = record { profile = uniform; relied = λ e r. absurd (none_relied 0 e r); others = λ e k n. record { weights = refl; total = refl } }

    gains : (row : Row) (gain : ℤ) → IsFraction (whole gain) (gain_of nodes (pure_profile nodes (report row gain).answers) 0) (mass nodes (pure_profile nodes (report row gain).answers) * 1) → IsGains diagram (pure_profile nodes (report row gain).answers) (whole gain ∷ [])
    gains row gain f = record { each = each }
      where
        each : (agent : ℕ) (r : Ratio) → agent < 1 → IsFraction (slice_index_or (whole gain ∷ []) agent r) (gain_of nodes (pure_profile nodes (report row gain).answers) agent) (mass nodes (pure_profile nodes (report row gain).answers) * 1)
        each zero r l = f
        each (suc agent) r l = absurd (omega arith)

    pub is_accepted : (choice worth : ℕ) (gain : ℤ) → FitsDiagram diagram (report (reached choice worth) gain) → IsAcceptedRow nodes 0 (uniform_profile nodes) 0 0 (reached choice worth)
        → IsFraction (whole gain) (gain_of nodes (pure_profile nodes (report (reached choice worth) gain).answers) 0) (mass nodes (pure_profile nodes (report (reached choice worth) gain).answers) * 1)
        → IsAccepted diagram (report (reached choice worth) gain)
    is_accepted choice worth gain f row g = record { fits = f; order = relied_first; rows = rows; gains = gains (reached choice worth) gain g }
      where
        each : (row : ℕ) → row < 1 → IsAcceptedRow nodes 0 (uniform_profile nodes) 0 row (slice_index_or (reached choice worth ∷ []) row no_row)
        each zero l = row
        each (suc row) l = absurd (omega arith)

        rows : (v : ℕ) → IsDecision nodes v → IsAcceptedAt nodes 0 (pure_profile nodes (report (reached choice worth) gain).answers) v (rows_at (report (reached choice worth) gain).answers v)
        rows v k = subst (λ x. IsAcceptedAt nodes 0 (pure_profile nodes (report (reached choice worth) gain).answers) x (rows_at (report (reached choice worth) gain).answers x)) (sym (only v k)) (record { base = uniform_profile nodes; is_base = base (pure_profile nodes (report (reached choice worth) gain).answers); each = each })

    pub is_answer : (choice worth : ℕ) (gain : ℤ) → FitsDiagram diagram (report (reached choice worth) gain) → IsAnswerRow nodes 0 (uniform_profile nodes) 0 0 (reached choice worth)
        → IsFraction (whole gain) (gain_of nodes (pure_profile nodes (report (reached choice worth) gain).answers) 0) (mass nodes (pure_profile nodes (report (reached choice worth) gain).answers) * 1)
        → IsAnswer diagram (report (reached choice worth) gain)
    is_answer choice worth gain f row g = record { fits = f; order = order; answers = answers; gains = gains (reached choice worth) gain g }
      where
        each : (row : ℕ) → row < 1 → IsAnswerRow nodes 0 (uniform_profile nodes) 0 row (slice_index_or (reached choice worth ∷ []) row no_row)
        each zero l = row
        each (suc row) l = absurd (omega arith)

        answers : (v : ℕ) → IsDecision nodes v → IsAnswerAt nodes 0 (pure_profile nodes (report (reached choice worth) gain).answers) v (rows_at (report (reached choice worth) gain).answers v)
        answers v k = subst (λ x. IsAnswerAt nodes 0 (pure_profile nodes (report (reached choice worth) gain).answers) x (rows_at (report (reached choice worth) gain).answers x)) (sym (only v k)) (record { base = uniform_profile nodes; is_base = base (pure_profile nodes (report (reached choice worth) gain).answers); each = each })

-- ---- rows by computation
first_of_tie : IsAnswerRow tie 0 (uniform_profile tie) 0 0 (reached 0 5)
first_of_tie = record {
  best = λ p. record { within = omega arith; greatest = greatest; first = λ s l. absurd (omega arith) };
  worth = λ p. (whole (pos 5), refl, record { reduced = reduced_5; same = refl });
  never = λ e. let f : pos 1 ≡ pos 0 = e in absurd (omega (arith, ints));
}
  where
    greatest : (s : ℕ) → s < 2 → gain_at tie (uniform_profile tie) 0 s 0 ≤ℤ pos 5
    greatest zero l = itself (pos 5)
    greatest (suc zero) l = itself (pos 5)
    greatest (suc (suc s)) l = absurd (omega arith)

second_of_tie : IsAcceptedRow tie 0 (uniform_profile tie) 0 0 (reached 1 5)
second_of_tie = record {
  best = λ p. greatest;
  worth = λ p. (whole (pos 5), refl, record { reduced = reduced_5; same = refl });
  never = λ e. let f : pos 1 ≡ pos 0 = e in absurd (omega (arith, ints));
}
  where
    greatest : (s : ℕ) → s < 2 → gain_at tie (uniform_profile tie) 0 s 0 ≤ℤ pos 5
    greatest zero l = itself (pos 5)
    greatest (suc zero) l = itself (pos 5)
    greatest (suc (suc s)) l = absurd (omega arith)

first_is_accepted : IsAcceptedRow tie 0 (uniform_profile tie) 0 0 (reached 0 5)
first_is_accepted = record { best = λ p. (first_of_tie.best p).greatest; worth = first_of_tie.worth; never = λ e. (first_of_tie.never e).1 }

first_of_two : IsAnswerRow uneven 0 (uniform_profile uneven) 0 0 (reached 0 5)
first_of_two = record {
  best = λ p. record { within = omega arith; greatest = greatest; first = λ s l. absurd (omega arith) };
  worth = λ p. (whole (pos 5), refl, record { reduced = reduced_5; same = refl });
  never = λ e. let f : pos 1 ≡ pos 0 = e in absurd (omega (arith, ints));
}
  where
    greatest : (s : ℕ) → s < 2 → gain_at uneven (uniform_profile uneven) 0 s 0 ≤ℤ pos 5
    greatest zero l = itself (pos 5)
    greatest (suc zero) l = omega (arith, ints)
    greatest (suc (suc s)) l = absurd (omega arith)

five : IsFraction (whole (pos 5)) (pos 5) 1
five = record { reduced = reduced_5; same = refl }

positive : pos 0 <ℤ pos 1
positive = omega (arith, ints)

-- ---- what the rows of others ask for
second_is_none : IsAnswer tie_diagram (report (reached 1 5) (pos 5)) → ⊥
second_is_none a =
    let at = a.answers 0 (there (pos 5) (pos 5)) in
    let f : pos 5 <ℤ pos 5 = ((at.each 0 (omega arith)).best positive).first 0 (omega arith) in
    omega (arith, ints)

not_of_another_worth : IsAccepted tie_diagram (report (reached 1 4) (pos 5)) → ⊥
not_of_another_worth a =
    let at = a.rows 0 (there (pos 5) (pos 5)) in
    let h = (at.each 0 (omega arith)).worth positive in
    let f : pos 4 *ℤ pos 1 ≡ pos 5 *ℤ pos 1 = subst (λ w. w.num *ℤ pos 1 ≡ pos 5 *ℤ pos w.den) (sym (ap (worth_or h.0) h.1)) h.2.same in
    omega (arith, ints)

not_of_another_gain : IsAccepted tie_diagram (report (reached 1 5) (pos 4)) → ⊥
not_of_another_gain a = let f : pos 4 *ℤ pos 1 ≡ pos 5 *ℤ pos 1 = (a.gains.each 0 (whole (pos 0)) (omega arith)).same in omega (arith, ints)

not_marked : IsAccepted tie_diagram (report (never 0) (pos 5)) → ⊥
not_marked a =
    let at = a.rows 0 (there (pos 5) (pos 5)) in
    let h = (at.each 0 (omega arith)).worth positive in
    let f : ◌≡◌ {A = Option Ratio} None (Some h.0) = h.1 in
    cc

pub not_accepted : IsAccepted uneven_diagram (report (reached 1 3) (pos 3)) → ⊥
not_accepted a =
    let at = a.rows 0 (there (pos 5) (pos 3)) in
    let f : pos 5 ≤ℤ pos 3 = (at.each 0 (omega arith)).best positive 0 (omega arith) in
    omega (arith, ints)

pub has_tie : IsProfile tie (uniform_profile tie) → HasTie
has_tie uniform = record {
  answer = is_answer (pos 5) (pos 5) uniform 0 5 (pos 5) (fits (pos 5) (pos 5) 0 5 (pos 5) (omega arith) reduced_5 reduced_5) first_of_tie five;
  second_is_none = second_is_none;
  accepted = is_accepted (pos 5) (pos 5) uniform 0 5 (pos 5) (fits (pos 5) (pos 5) 0 5 (pos 5) (omega arith) reduced_5 reduced_5) first_is_accepted five;
  second_is_accepted = is_accepted (pos 5) (pos 5) uniform 1 5 (pos 5) (fits (pos 5) (pos 5) 1 5 (pos 5) (omega arith) reduced_5 reduced_5) second_of_tie five;
  not_of_another_worth = not_of_another_worth;
  not_of_another_gain = not_of_another_gain;
  not_marked = not_marked;
}

pub first_answers : IsProfile uneven (uniform_profile uneven) → IsAnswer uneven_diagram (report (reached 0 5) (pos 5))
first_answers uniform = is_answer (pos 5) (pos 3) uniform 0 5 (pos 5) (fits (pos 5) (pos 3) 0 5 (pos 5) (omega arith) reduced_5 reduced_5) first_of_two five
