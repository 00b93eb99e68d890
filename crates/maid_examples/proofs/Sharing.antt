-- The shared result: whose it is, who relies on whom, and the answer, whose rows come by
-- computation.
use Rattle.std.proofs.Common.{◌≡◌, ◌⊎◌, ℕ, zero, suc, ◌*◌, ◌<◌, List, [], ◌∷◌, take, slice_index, slice_index_or, refl, sym, subst, inl, inr, arith, ℤ, pos, ◌*ℤ◌, ◌≤ℤ◌, ◌<ℤ◌, IfSome, Contains}
use Rattle.std.proofs.lemmas.Int.{ints}
use Rattle.std.proofs.lemmas.List.Elements.{All-cons}
use Rattle.maid_model.specs.declared.answers.Ratio.{Ratio}
use Rattle.maid_model.specs.declared.answers.Row.{Row}
use Rattle.maid_model.specs.Laws.{TestsDiagrams, TestsProfiles}
use Rattle.maid_model.specs.Views.{RuleView}
use Rattle.maid_model.specs.Nodes.{IsDecision}
use Rattle.maid_model.specs.Graph.{Here, IsGraph, Along}
use Rattle.maid_model.specs.Diagrams.{IsDiagram}
use Rattle.maid_model.specs.Gains.{gain_at, mass_at, gain_of, mass}
use Rattle.maid_model.specs.Relevance.{ReliesOn}
use Rattle.maid_model.specs.Placing.{IsRelianceOrder, CanPlace, IsLeast}
use Rattle.maid_model.specs.Profiles.{SameRule, uniform_profile}
use Rattle.maid_model.specs.Subgames.{IsSubgamePerfect}
use Rattle.maid_model.specs.Answers.{IsAnswer, IsAnswerAt, IsAnswerRow, IsBase, IsFraction, IsReduced, FitsDiagram, FitsAnswer, rows_at, no_row}
use Rattle.finite_sums.proofs.Members.{one_member}
use Rattle.maid_examples.specs.Samples.{leader, rule, whole, reached}
use Rattle.maid_examples.specs.Team.{result, wish, with_result, both_decide, team, team_diagram, plan, answer, report, followers_result, IsSoundSample, AreNone, IsShared, HasReliance, HasAnswer}
use Rattle.maid_examples.proofs.Members.{Among, among_of}
use Rattle.maid_examples.proofs.Fractions.{reduced_3, reduced_4, itself, none}
use Rattle.maid_examples.proofs.Reliance.{decision, seen_on_follower, seen_not_on_leader}

-- ---- whose the utilities are
pub none_of_these : AreNone
none_of_these = record { named_twice = twice; unknown_owner = unknown; shared_decision = decided }
  where
    twice : IsDiagram (with_result leader (result 0 (0 ∷ []))) → ⊥
    twice d = (d.owners.differ 2).0 (0, omega arith, refl)

    unknown : IsDiagram (with_result leader (result 0 (2 ∷ []))) → ⊥
    unknown d = let l : 2 < 2 = d.owners.agent 2 2 (omega arith) (λ e. cc) (1, omega arith, refl) in omega arith

    decided : IsDiagram (with_result both_decide (result 0 (1 ∷ []))) → ⊥
    decided d = let e : ◌≡◌ {A = List ℕ} (1 ∷ []) [] = d.owners.one 0 (λ e. cc) in cc

pub shared : IsShared
shared = record {
  of_leader = record { within = omega arith; kind = inr refl; owner = (0, omega arith, refl) };
  of_follower = record { within = omega arith; kind = inr refl; owner = (1, omega arith, refl) };
  of_no_other = λ o. other (among_of (0 ∷ 1 ∷ []) 2 o.owner);
  goal_of_leader = record { within = omega arith; kind = refl; owner = (0, omega arith, refl); below = (2, (0, omega arith, refl), Here) };
  goal_of_follower = record { within = omega arith; kind = refl; owner = (1, omega arith, refl); below = (2, (1, omega arith, refl), Here) };
  wish_of_follower = record { within = omega arith; kind = refl; owner = (0, omega arith, refl); below = (3, (0, omega arith, refl), Here) };
  wish_below_leader = (1, (0, omega arith, refl), Along (0, omega arith, refl) Here);
  wish_not_of_leader = λ g. let o : ◌≡◌ {A = ℕ} 0 1 = one_member 0 1 [] refl g.owner in omega arith;
}
  where
    other : Among 2 (0 ∷ 1 ∷ []) → ⊥
    other (inl e) = omega arith
    other (inr (inl e)) = omega arith
    other (inr (inr m)) = m

-- ---- who relies on whom
leads : IsDecision team 0
leads = decision team 0 (omega arith) refl

follows : IsDecision team 1
follows = decision team 1 (omega arith) refl

one_of : (v : ℕ) → IsDecision team v → (v ≡ 0) ⊎ (v ≡ 1)
one_of zero k = inl refl
one_of (suc zero) k = inr refl
one_of (suc (suc zero)) k = let e = k.kind in absurd (cc)
one_of (suc (suc (suc zero))) k = let e = k.kind in absurd (cc)
one_of (suc (suc (suc (suc v)))) k = let e = k.kind in absurd (cc)

pub reliance : IsGraph team → HasReliance
reliance graph = record {
  on_follower = seen_on_follower (result 0 (1 ∷ [])) wish graph refl (0, omega arith, refl) (1, omega arith, refl);
  not_on_leader = seen_not_on_leader (result 0 (1 ∷ [])) wish graph;
}

-- ---- rows by computation
abbrev uniform : List RuleView
uniform = uniform_profile team

-- against a follower that takes what it sees
abbrev followed : List RuleView
followed = rule 0 2 (1 ∷ 1 ∷ []) ∷ rule 1 1 (1 ∷ 0 ∷ 0 ∷ 1 ∷ []) ∷ []

lead_row : IsAnswerRow team 0 followed 0 0 (reached 0 3)
lead_row = record {
  best = λ p. record { within = omega arith; greatest = greatest; first = λ s l. absurd (omega arith) };
  worth = λ p. (whole (pos 3), refl, record { reduced = reduced_3; same = refl });
  never = λ e. let f : pos 1 ≡ pos 0 = e in absurd (omega (arith, ints));
}
  where
    greatest : (s : ℕ) → s < 2 → gain_at team followed 0 s 0 ≤ℤ pos 3
    greatest zero l = itself (pos 3)
    greatest (suc zero) l = omega (arith, ints)
    greatest (suc (suc s)) l = absurd (omega arith)

first_row : IsAnswerRow team 0 uniform 1 0 (reached 0 3)
first_row = record {
  best = λ p. record { within = omega arith; greatest = greatest; first = λ s l. absurd (omega arith) };
  worth = λ p. (whole (pos 3), refl, record { reduced = reduced_3; same = refl });
  never = λ e. let f : pos 1 ≡ pos 0 = e in absurd (omega (arith, ints));
}
  where
    greatest : (s : ℕ) → s < 2 → gain_at team uniform 1 s 0 ≤ℤ pos 3
    greatest zero l = itself (pos 3)
    greatest (suc zero) l = omega (arith, ints)
    greatest (suc (suc s)) l = absurd (omega arith)

second_row : IsAnswerRow team 0 uniform 1 1 (reached 1 4)
second_row = record {
  best = λ p. record { within = omega arith; greatest = greatest; first = first };
  worth = λ p. (whole (pos 4), refl, record { reduced = reduced_4; same = refl });
  never = λ e. let f : pos 1 ≡ pos 0 = e in absurd (omega (arith, ints));
}
  where
    greatest : (s : ℕ) → s < 2 → gain_at team uniform 1 s 1 ≤ℤ pos 4
    greatest zero l = omega (arith, ints)
    greatest (suc zero) l = itself (pos 4)
    greatest (suc (suc s)) l = absurd (omega arith)

    first : (s : ℕ) → s < 1 → gain_at team uniform 1 s 1 <ℤ pos 4
    first zero l = omega (arith, ints)
    first (suc s) l = absurd (omega arith)

-- ---- the answer
fits : FitsDiagram team_diagram answer
fits = record {
  follow = refl;
  answers = All-cons (FitsAnswer team) (record { decision = 1; rows = reached 0 3 ∷ reached 1 4 ∷ [] }) (record { decision = 0; rows = reached 0 3 ∷ [] } ∷ []) follow
      (All-cons (FitsAnswer team) (record { decision = 0; rows = reached 0 3 ∷ [] }) [] lead (none (FitsAnswer team)));
  all = λ v k. elim (one_of v k) [ inl e ↦ subst (Contains (1 ∷ 0 ∷ [])) (sym e) (1, omega arith, refl) | inr e ↦ subst (Contains (1 ∷ 0 ∷ [])) (sym e) (0, omega arith, refl) ];
  once = ((λ c. apart (among_of (0 ∷ []) 1 c)), ((λ c. among_of [] 0 c), tt));
  gains = refl;
  reduced = All-cons IsReduced (whole (pos 3)) (whole (pos 3) ∷ []) reduced_3 (All-cons IsReduced (whole (pos 3)) [] reduced_3 (none IsReduced));
}
  where
    apart : Among 1 (0 ∷ []) → ⊥
    apart (inl e) = omega arith
    apart (inr m) = m

    lead : FitsAnswer team (record { decision = 0; rows = reached 0 3 ∷ [] })
    lead = record {
      decision = leads;
      rows = refl;
      choices = All-cons (λ r. r.choice < 2) (reached 0 3) [] (omega arith) (none (λ r. r.choice < 2));
      worths = All-cons (λ r. IfSome r.worth IsReduced) (reached 0 3) [] reduced_3 (none (λ r. IfSome r.worth IsReduced));
    }

    follow : FitsAnswer team (record { decision = 1; rows = reached 0 3 ∷ reached 1 4 ∷ [] })
    follow = record {
      decision = follows;
      rows = refl;
      choices = All-cons (λ r. r.choice < 2) (reached 0 3) (reached 1 4 ∷ []) (omega arith) (All-cons (λ r. r.choice < 2) (reached 1 4) [] (omega arith) (none (λ r. r.choice < 2)));
      worths = All-cons (λ r. IfSome r.worth IsReduced) (reached 0 3) (reached 1 4 ∷ []) reduced_3 (All-cons (λ r. IfSome r.worth IsReduced) (reached 1 4) [] reduced_4 (none (λ r. IfSome r.worth IsReduced)));
    }

module _ (relies : HasReliance) (profiles : TestsProfiles) where
  on_none : (e : ℕ) → ReliesOn team 1 e → ⊥
  on_none e r = elim (one_of e r.on_decision) [ inl x ↦ relies.not_on_leader (subst (ReliesOn team 1) x r) | inr x ↦ r.apart (sym x) ]

  on_follower_alone : (e : ℕ) → ReliesOn team 0 e → e ≡ 1
  on_follower_alone e r = elim (one_of e r.on_decision) [ inl x ↦ absurd (r.apart (sym x)) | inr x ↦ x ]

  follow_base : IsBase team plan 1 uniform
  follow_base = record { profile = profiles team uniform refl refl; relied = λ e r. absurd (on_none e r); others = λ e k n. record { weights = refl; total = refl } }

  lead_base : IsBase team plan 0 followed
  lead_base = record {
    profile = profiles team followed refl refl;
    relied = λ e r. subst (SameRule followed plan) (sym (on_follower_alone e r)) (record { weights = refl; total = refl });
    others = λ e k n. elim (one_of e k) [
      | inl x ↦ subst (SameRule followed uniform) (sym x) (record { weights = refl; total = refl })
      | inr x ↦ absurd (n (subst (ReliesOn team 0) (sym x) relies.on_follower))
    ];
  }

  -- the follower can be placed first, and the leader not before it
  order : IsRelianceOrder team (1 ∷ 0 ∷ [])
  order = record { placing = placing; complete = fits.all }
    where
      at_first : Contains {X = ℕ} (1 ∷ []) 0 → ⊥
      at_first c = elim (among_of (1 ∷ []) 0 c) [ inl e ↦ (let f : ◌≡◌ {A = ℕ} 0 1 = e in omega arith) | inr n ↦ n ]

      before : (w : ℕ) → w < 1 → CanPlace (IsDecision team) (ReliesOn team) [] w → ⊥
      before zero l c = among_of [] 1 (c.1 1 relies.on_follower)
      before (suc w) l c = omega arith

      placing : (k : ℕ) → k < 2 → IsLeast (CanPlace (IsDecision team) (ReliesOn team) (take k (1 ∷ 0 ∷ []))) (slice_index (1 ∷ 0 ∷ []) k)
      placing zero l = (((follows, λ c. among_of [] 1 c), λ e r. absurd (on_none e r)), before)
      placing (suc zero) l = (((leads, at_first), λ e r. subst (Contains (1 ∷ [])) (sym (on_follower_alone e r)) (0, omega arith, refl)), λ w m c. omega arith)
      placing (suc (suc k)) l = absurd (omega arith)

  answered : IsAnswer team_diagram answer
  answered = record { fits = fits; order = order; answers = answers; gains = record { each = each } }
    where
      lead : (row : ℕ) → row < 1 → IsAnswerRow team 0 followed 0 row (slice_index_or (reached 0 3 ∷ []) row no_row)
      lead zero l = lead_row
      lead (suc row) l = absurd (omega arith)

      follow : (row : ℕ) → row < 2 → IsAnswerRow team 0 uniform 1 row (slice_index_or (reached 0 3 ∷ reached 1 4 ∷ []) row no_row)
      follow zero l = first_row
      follow (suc zero) l = second_row
      follow (suc (suc row)) l = absurd (omega arith)

      answers : (v : ℕ) → IsDecision team v → IsAnswerAt team 0 plan v (rows_at answer.answers v)
      answers v k = elim (one_of v k) [
        | inl x ↦ subst (λ v. IsAnswerAt team 0 plan v (rows_at answer.answers v)) (sym x) (record { base = followed; is_base = lead_base; each = lead })
        | inr x ↦ subst (λ v. IsAnswerAt team 0 plan v (rows_at answer.answers v)) (sym x) (record { base = uniform; is_base = follow_base; each = follow })
      ]

      each : (agent : ℕ) (r : Ratio) → agent < 2 → IsFraction (slice_index_or (whole (pos 3) ∷ whole (pos 3) ∷ []) agent r) (gain_of team plan agent) (mass team plan * 1)
      each zero r l = record { reduced = reduced_3; same = refl }
      each (suc zero) r l = record { reduced = reduced_3; same = refl }
      each (suc (suc agent)) r l = absurd (omega arith)

  -- ---- other shares: in sight of the first state the follower's base gains 3 and 2
  not_second : (second : Row) (lead : Row) (first follower : ℤ) → IsAnswer team_diagram (report (reached 1 2 ∷ second ∷ []) lead first follower) → ⊥
  not_second second lead first follower a =
      let at = a.answers 1 follows in
      let same = at.is_base.others 0 leads relies.not_on_leader in
      let massive : pos 0 <ℤ mass_at team at.base 1 0 = subst (λ ws. pos 0 <ℤ mass_at team (rule 0 2 ws ∷ []) 1 0) (sym same.weights) (omega (arith, ints)) in
      let h = ((at.each 0 (omega arith)).best massive).greatest 0 (omega arith) in
      let f : pos 3 ≤ℤ pos 2 = subst (λ ws. gain_at team (rule 0 2 ws ∷ []) 1 0 0 ≤ℤ gain_at team (rule 0 2 ws ∷ []) 1 1 0) same.weights h in
      omega (arith, ints)

  -- the leader gets 3
  not_nothing : IsAnswer team_diagram followers_result → ⊥
  not_nothing a = let e : pos 0 *ℤ pos 1 ≡ pos 3 *ℤ pos 1 = (a.gains.each 0 (whole (pos 0)) (omega arith)).same in omega (arith, ints)

  pub has_answer : (IsAnswer team_diagram answer → IsSubgamePerfect team plan) → HasAnswer
  has_answer perfect = record {
    answered = answered;
    perfect = perfect answered;
    not_leaders = not_second (reached 1 2) (reached 1 2) (pos 2) (pos 2);
    not_followers = not_nothing;
    not_halved = not_second (reached 1 3) (reached 1 1) (pos 1) (pos 3);
  }

pub sound : TestsDiagrams → TestsProfiles → IsSoundSample
sound diagrams profiles = record { diagram = diagrams team_diagram refl; of_uniform = profiles team uniform refl refl; of_plan = profiles team plan refl refl }
