-- The answer in sight: nobody relies on anybody, so each base is uniform, and the rows come by
-- computation.
use Rattle.std.proofs.Common.{◌≡◌, ◌⊎◌, ◌∙◌, ◌↔◌, ℕ, zero, suc, ◌*◌, ◌<◌, List, [], ◌∷◌, take, slice_index, slice_index_or, refl, sym, subst, subst₂, inl, inr, arith, pos, ◌≤ℤ◌, ◌<ℤ◌, Option, Some, None, IfSome, Contains}
use Rattle.std.proofs.lemmas.Int.{ints}
use Rattle.std.proofs.lemmas.List.Elements.{All-cons}
use Rattle.maid_model.specs.declared.diagrams.Kind.TheVariants.{Decision, Utility}
use Rattle.maid_model.specs.declared.answers.Ratio.{Ratio}
use Rattle.maid_model.specs.Laws.{TestsDiagrams, TestsProfiles}
use Rattle.maid_model.specs.Views.{RuleView, SolvedView}
use Rattle.maid_model.specs.Nodes.{IsDecision}
use Rattle.maid_model.specs.Graph.{Arc, IsGraph}
use Rattle.maid_model.specs.Gains.{gain_at, mass_at, gain_of, mass}
use Rattle.maid_model.specs.Relevance.{IsLive, IsInFamily, IsGoal, ReliesOn}
use Rattle.maid_model.specs.Walks.{WithArc, WithNode, IsJoined, IsCollider}
use Rattle.maid_model.specs.Placing.{IsRelianceOrder, CanPlace, IsLeast}
use Rattle.maid_model.specs.Profiles.{uniform_profile}
use Rattle.maid_model.specs.Answers.{IsAnswer, IsAnswerAt, IsAnswerRow, IsBase, IsReduced, IsFraction, FitsDiagram, FitsAnswer, pure_profile, rows_at, no_row}
use Rattle.maid_model.specs.Accepted.{IsAccepted}
use Rattle.maid_laws.specs.Answers.{AnswersAreAccepted}
use Rattle.maid_examples.specs.Samples.{rule, whole, reached, never}
use Rattle.maid_examples.specs.SightAnswered.{trail, trail_diagram, report, HasNoReliance, HasAnswer}
use Rattle.maid_examples.proofs.Members.{Among, among_of}
use Rattle.maid_examples.proofs.Fractions.{reduced_1, itself, none}
use Rattle.maid_examples.proofs.Reliance.{decision}
use Rattle.maid_examples.proofs.Turning.{end_of_walk}
use Rattle.finite_sums.proofs.Members.{one_member}

leads : IsDecision trail 0
leads = decision trail 0 (omega arith) refl

follows : IsDecision trail 1
follows = decision trail 1 (omega arith) refl

one_of : (v : ℕ) → IsDecision trail v → (v ≡ 0) ⊎ (v ≡ 1)
one_of zero k = inl refl
one_of (suc zero) k = inr refl
one_of (suc (suc zero)) k = let e = k.kind in absurd (cc)
one_of (suc (suc (suc zero))) k = let e = k.kind in absurd (cc)
one_of (suc (suc (suc (suc v)))) k = let e = k.kind in absurd (cc)

-- ---- the leader: from a new parent of the follower walks lead to it and to its pay alone
data Step : ℕ → ℕ → Type 0 where
  There : Step 4 1
  Aside : Step 1 3

abbrev NewArc : ℕ → ℕ → Type 0
NewArc = WithArc (Arc trail) 4 1

from_new : IsGraph trail → (z : ℕ) → IsJoined NewArc 4 z → Step 4 z
from_new graph z j = subst (λ x. Step 4 x) (sym (follower z j)) There
  where
    follower : (z : ℕ) → IsJoined NewArc 4 z → z ≡ 1
    follower z (inl (inl a)) = let l : 4 < 4 = graph.parents_known 4 z a in absurd (omega arith)
    follower z (inl (inr h)) = h.1
    follower z (inr (inl a)) = absurd (among_of [] z a)
    follower z (inr (inr h)) = let e : ◌≡◌ {A = ℕ} 4 1 = h.1 in absurd (omega arith)

not_given : (v : ℕ) → IsInFamily (Arc trail) 0 (suc v) → ⊥
not_given v (inl e) = omega arith
not_given v (inr a) = among_of [] (suc v) a

below_follower : (z : ℕ) → Arc trail 1 z → Step 1 z
below_follower zero a = absurd (among_of [] 1 a)
below_follower (suc zero) a = absurd (other (among_of (0 ∷ []) 1 a))
  where
    other : Among 1 (0 ∷ []) → ⊥
    other (inl e) = omega arith
    other (inr m) = m
below_follower (suc (suc zero)) a = absurd (other (among_of (0 ∷ []) 1 a))
  where
    other : Among 1 (0 ∷ []) → ⊥
    other (inl e) = omega arith
    other (inr m) = m
below_follower (suc (suc (suc zero))) a = Aside
below_follower (suc (suc (suc (suc v)))) a = absurd (among_of [] 1 a)

closed : IsGraph trail → (x y z : ℕ) → Step x y → IsJoined NewArc y z → WithNode (IsLive trail) 4 z → IsCollider NewArc x y z ↔ IsInFamily (Arc trail) 0 y → Step y z
closed graph x y z There j l m = onwards z j m.0
  where
    onwards : (z : ℕ) → IsJoined NewArc 1 z → (IsCollider NewArc 4 1 z → IsInFamily (Arc trail) 0 1) → Step 1 z
    onwards z (inl (inl a)) f = below_follower z a
    onwards z (inl (inr h)) f = let e : ◌≡◌ {A = ℕ} 1 4 = h.0 in absurd (omega arith)
    onwards z (inr a) f = absurd (not_given 0 (f (inr (refl, refl), a)))
closed graph x y z Aside j l m = absurd (stops z j m.0)
  where
    stops : (z : ℕ) → IsJoined NewArc 3 z → (IsCollider NewArc 1 3 z → IsInFamily (Arc trail) 0 3) → ⊥
    stops z (inl (inl a)) f = graph.no_utility_parent 3 z a refl
    stops z (inl (inr h)) f = let e : ◌≡◌ {A = ℕ} 3 4 = h.0 in omega arith
    stops z (inr a) f = not_given 2 (f (inl (1, omega arith, refl), a))

no_goal : (goal u : ℕ) → Step u goal → IsGoal trail 0 goal → ⊥
no_goal goal u There g = let k : Decision ≡ Utility = g.kind in cc
no_goal goal u Aside g = let o : ◌≡◌ {A = ℕ} 0 1 = one_member 0 1 [] refl g.owner in omega arith

not_on_follower : IsGraph trail → ReliesOn trail 0 1 → ⊥
not_on_follower graph r = elim (end_of_walk NewArc (WithNode (IsLive trail) 4) (IsInFamily (Arc trail) 0) Step (closed graph) 4 r.goal (λ y j l. from_new graph y j) r.walk) [
  | inl e ↦ (let l : r.goal < 4 = r.is_goal.within in omega arith)
  | inr t ↦ no_goal r.goal t.0 t.1 r.is_goal
]

-- ---- the follower: a walk from a new parent of the leader, which is given, turns back there
data Turn : ℕ → ℕ → Type 0 where
  ToLeader : Turn 4 0
  FromLeader : Turn 0 4

abbrev LeaderArc : ℕ → ℕ → Type 0
LeaderArc = WithArc (Arc trail) 4 0

to_leader : IsGraph trail → (z : ℕ) → IsJoined LeaderArc 4 z → Turn 4 z
to_leader graph z j = subst (λ x. Turn 4 x) (sym (leader z j)) ToLeader
  where
    leader : (z : ℕ) → IsJoined LeaderArc 4 z → z ≡ 0
    leader z (inl (inl a)) = let l : 4 < 4 = graph.parents_known 4 z a in absurd (omega arith)
    leader z (inl (inr h)) = h.1
    leader z (inr (inl a)) = absurd (among_of [] z a)
    leader z (inr (inr h)) = let e : ◌≡◌ {A = ℕ} 4 0 = h.1 in absurd (omega arith)

turns : IsGraph trail → (x y z : ℕ) → Turn x y → IsJoined LeaderArc y z → WithNode (IsLive trail) 4 z → IsCollider LeaderArc x y z ↔ IsInFamily (Arc trail) 1 y → Turn y z
turns graph x y z ToLeader j l m = parent z (m.1 (inr (0, omega arith, refl))).1
  where
    parent : (z : ℕ) → LeaderArc z 0 → Turn 0 z
    parent z (inl a) = absurd (among_of [] z a)
    parent z (inr h) = subst (λ x. Turn 0 x) (sym h.0) FromLeader
turns graph x y z FromLeader j l m = to_leader graph z j

no_turn : (goal u : ℕ) → Turn u goal → IsGoal trail 1 goal → ⊥
no_turn goal u ToLeader g = let k : Decision ≡ Utility = g.kind in cc
no_turn goal u FromLeader g = let l : 4 < 4 = g.within in omega arith

not_on_leader : IsGraph trail → ReliesOn trail 1 0 → ⊥
not_on_leader graph r = elim (end_of_walk LeaderArc (WithNode (IsLive trail) 4) (IsInFamily (Arc trail) 1) Turn (turns graph) 4 r.goal (λ y j l. to_leader graph y j) r.walk) [
  | inl e ↦ (let l : r.goal < 4 = r.is_goal.within in omega arith)
  | inr t ↦ no_turn r.goal t.0 t.1 r.is_goal
]

pub no_reliance : TestsDiagrams → HasNoReliance
no_reliance diagrams = let d = diagrams trail_diagram refl in record { diagram = d; not_on_follower = not_on_follower d.graph; not_on_leader = not_on_leader d.graph }

-- ---- rows by computation, against uniform rules
abbrev uniform : List RuleView
uniform = uniform_profile trail

lead_row : IsAnswerRow trail 0 uniform 0 0 (reached 0 1)
lead_row = record {
  best = λ p. record { within = omega arith; greatest = greatest; first = λ s l. absurd (omega arith) };
  worth = λ p. (whole (pos 1), refl, record { reduced = reduced_1; same = refl });
  never = λ e. let f : pos 2 ≡ pos 0 = e in absurd (omega (arith, ints));
}
  where
    greatest : (s : ℕ) → s < 2 → gain_at trail uniform 0 s 0 ≤ℤ pos 2
    greatest zero l = itself (pos 2)
    greatest (suc zero) l = omega (arith, ints)
    greatest (suc (suc s)) l = absurd (omega arith)

first_row : IsAnswerRow trail 0 uniform 1 0 (reached 0 1)
first_row = record {
  best = λ p. record { within = omega arith; greatest = greatest; first = λ s l. absurd (omega arith) };
  worth = λ p. (whole (pos 1), refl, record { reduced = reduced_1; same = refl });
  never = λ e. let f : pos 1 ≡ pos 0 = e in absurd (omega (arith, ints));
}
  where
    greatest : (s : ℕ) → s < 2 → gain_at trail uniform 1 s 0 ≤ℤ pos 1
    greatest zero l = itself (pos 1)
    greatest (suc zero) l = omega (arith, ints)
    greatest (suc (suc s)) l = absurd (omega arith)

second_row : IsAnswerRow trail 0 uniform 1 1 (reached 1 1)
second_row = record {
  best = λ p. record { within = omega arith; greatest = greatest; first = first };
  worth = λ p. (whole (pos 1), refl, record { reduced = reduced_1; same = refl });
  never = λ e. let f : pos 1 ≡ pos 0 = e in absurd (omega (arith, ints));
}
  where
    greatest : (s : ℕ) → s < 2 → gain_at trail uniform 1 s 1 ≤ℤ pos 1
    greatest zero l = omega (arith, ints)
    greatest (suc zero) l = itself (pos 1)
    greatest (suc (suc s)) l = absurd (omega arith)

    first : (s : ℕ) → s < 1 → gain_at trail uniform 1 s 1 <ℤ pos 1
    first zero l = omega (arith, ints)
    first (suc s) l = absurd (omega arith)

-- ---- the answer
abbrev solved : SolvedView
solved = report (reached 0 1 ∷ reached 1 1 ∷ [])

abbrev plan : List RuleView
plan = pure_profile trail solved.answers

fits : FitsDiagram trail_diagram solved
fits = record {
  follow = refl;
  answers = All-cons (FitsAnswer trail) (record { decision = 0; rows = reached 0 1 ∷ [] }) (record { decision = 1; rows = reached 0 1 ∷ reached 1 1 ∷ [] } ∷ []) lead
      (All-cons (FitsAnswer trail) (record { decision = 1; rows = reached 0 1 ∷ reached 1 1 ∷ [] }) [] follow (none (FitsAnswer trail)));
  all = λ v k. elim (one_of v k) [ inl e ↦ subst (Contains (0 ∷ 1 ∷ [])) (sym e) (0, omega arith, refl) | inr e ↦ subst (Contains (0 ∷ 1 ∷ [])) (sym e) (1, omega arith, refl) ];
  once = ((λ c. apart (among_of (1 ∷ []) 0 c)), ((λ c. among_of [] 1 c), tt));
  gains = refl;
  reduced = All-cons IsReduced (whole (pos 1)) (whole (pos 1) ∷ []) reduced_1 (All-cons IsReduced (whole (pos 1)) [] reduced_1 (none IsReduced));
}
  where
    apart : Among 0 (1 ∷ []) → ⊥
    apart (inl e) = omega arith
    apart (inr m) = m

    lead : FitsAnswer trail (record { decision = 0; rows = reached 0 1 ∷ [] })
    lead = record {
      decision = leads;
      rows = refl;
      choices = All-cons (λ r. r.choice < 2) (reached 0 1) [] (omega arith) (none (λ r. r.choice < 2));
      worths = All-cons (λ r. IfSome r.worth IsReduced) (reached 0 1) [] reduced_1 (none (λ r. IfSome r.worth IsReduced));
    }

    follow : FitsAnswer trail (record { decision = 1; rows = reached 0 1 ∷ reached 1 1 ∷ [] })
    follow = record {
      decision = follows;
      rows = refl;
      choices = All-cons (λ r. r.choice < 2) (reached 0 1) (reached 1 1 ∷ []) (omega arith) (All-cons (λ r. r.choice < 2) (reached 1 1) [] (omega arith) (none (λ r. r.choice < 2)));
      worths = All-cons (λ r. IfSome r.worth IsReduced) (reached 0 1) (reached 1 1 ∷ []) reduced_1 (All-cons (λ r. IfSome r.worth IsReduced) (reached 1 1) [] reduced_1 (none (λ r. IfSome r.worth IsReduced)));
    }

module _ (relies : HasNoReliance) (profiles : TestsProfiles) where
  on_none : (d e : ℕ) → ReliesOn trail d e → ⊥
  on_none d e r = elim (one_of d r.from_decision) [
    | inl x ↦ elim (one_of e r.on_decision) [ inl y ↦ r.apart (x ∙ sym y) | inr y ↦ relies.not_on_follower (subst₂ (λ d e. ReliesOn trail d e) x y r) ]
    | inr x ↦ elim (one_of e r.on_decision) [ inl y ↦ relies.not_on_leader (subst₂ (λ d e. ReliesOn trail d e) x y r) | inr y ↦ r.apart (x ∙ sym y) ]
  ]

  base : (d : ℕ) → IsBase trail plan d uniform
  base d = record { profile = profiles trail uniform refl refl; relied = λ e r. absurd (on_none d e r); others = λ e k n. record { weights = refl; total = refl } }

  order : IsRelianceOrder trail (0 ∷ 1 ∷ [])
  order = record { placing = placing; complete = fits.all }
    where
      at_first : Contains {X = ℕ} (0 ∷ []) 1 → ⊥
      at_first c = elim (among_of (0 ∷ []) 1 c) [ inl e ↦ (let f : ◌≡◌ {A = ℕ} 1 0 = e in omega arith) | inr n ↦ n ]

      before : (w : ℕ) → w < 1 → CanPlace (IsDecision trail) (ReliesOn trail) (0 ∷ []) w → ⊥
      before zero l c = c.0.1 (0, omega arith, refl)
      before (suc w) l c = omega arith

      placing : (k : ℕ) → k < 2 → IsLeast (CanPlace (IsDecision trail) (ReliesOn trail) (take k (0 ∷ 1 ∷ []))) (slice_index (0 ∷ 1 ∷ []) k)
      placing zero l = (((leads, λ c. among_of [] 0 c), λ e r. absurd (on_none 0 e r)), λ w m c. omega arith)
      placing (suc zero) l = (((follows, at_first), λ e r. absurd (on_none 1 e r)), before)
      placing (suc (suc k)) l = absurd (omega arith)

  answered : IsAnswer trail_diagram solved
  answered = record { fits = fits; order = order; answers = answers; gains = record { each = each } }
    where
      lead : (row : ℕ) → row < 1 → IsAnswerRow trail 0 uniform 0 row (slice_index_or (reached 0 1 ∷ []) row no_row)
      lead zero l = lead_row
      lead (suc row) l = absurd (omega arith)

      follow : (row : ℕ) → row < 2 → IsAnswerRow trail 0 uniform 1 row (slice_index_or (reached 0 1 ∷ reached 1 1 ∷ []) row no_row)
      follow zero l = first_row
      follow (suc zero) l = second_row
      follow (suc (suc row)) l = absurd (omega arith)

      answers : (v : ℕ) → IsDecision trail v → IsAnswerAt trail 0 plan v (rows_at solved.answers v)
      answers v k = elim (one_of v k) [
        | inl x ↦ subst (λ v. IsAnswerAt trail 0 plan v (rows_at solved.answers v)) (sym x) (record { base = uniform; is_base = base 0; each = lead })
        | inr x ↦ subst (λ v. IsAnswerAt trail 0 plan v (rows_at solved.answers v)) (sym x) (record { base = uniform; is_base = base 1; each = follow })
      ]

      each : (agent : ℕ) (r : Ratio) → agent < 2 → IsFraction (slice_index_or (whole (pos 1) ∷ whole (pos 1) ∷ []) agent r) (gain_of trail plan agent) (mass trail plan * 1)
      each zero r l = record { reduced = reduced_1; same = refl }
      each (suc zero) r l = record { reduced = reduced_1; same = refl }
      each (suc (suc agent)) r l = absurd (omega arith)

  -- ---- a mark at the second row: the leader's uniform rule gives it mass
  mark_not_accepted : IsAccepted trail_diagram (report (reached 0 1 ∷ never 0 ∷ [])) → ⊥
  mark_not_accepted a =
      let at = a.rows 1 follows in
      let same = at.is_base.others 0 leads relies.not_on_leader in
      let massive : pos 0 <ℤ mass_at trail at.base 1 1 = subst (λ ws. pos 0 <ℤ mass_at trail (rule 0 2 ws ∷ []) 1 1) (sym same.weights) (omega (arith, ints)) in
      let h = (at.each 1 (omega arith)).worth massive in
      let f : ◌≡◌ {A = Option Ratio} None (Some h.0) = h.1 in
      cc

  pub has_answer : AnswersAreAccepted → HasAnswer
  has_answer accepted = record {
    answered = answered;
    not_marked = λ a. mark_not_accepted (accepted trail_diagram (report (reached 0 1 ∷ never 0 ∷ [])) a);
    accepted = accepted trail_diagram solved answered;
    mark_not_accepted = mark_not_accepted;
  }
