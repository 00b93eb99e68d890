-- One agent between 5 and 3: what every profile is worth, by its two weights.
use Rattle.std.proofs.Common.{◌≡◌, ◌≢◌, ◌∙◌, ℕ, zero, suc, ◌<◌, ◌≤◌, List, [], ◌∷◌, map, length, refl, sym, subst, subst₂, arith, rules, pos, ◌+ℤ◌, ◌*ℤ◌, ◌≤ℤ◌}
use Rattle.std.proofs.lemmas.Int.{ints}
use Rattle.maid_model.specs.declared.diagrams.Kind.TheVariants.{Utility}
use Rattle.maid_model.specs.Laws.{TestsDiagrams, TestsProfiles}
use Rattle.maid_model.specs.Views.{RuleView}
use Rattle.maid_model.specs.Nodes.{IsDecision, node_at}
use Rattle.maid_model.specs.Tables.{IsTable, weights_of, rule_total}
use Rattle.maid_model.specs.Profiles.{IsProfile, uniform_profile}
use Rattle.maid_model.specs.Gains.{gain_of, mass}
use Rattle.maid_model.specs.Subgames.{IsListing, IsSubgameStart, IsSubgamePerfect, IsNoBetter, IsNoBetterFrom, IsOptimal, DiffersOnlyFor, OwnsAll, gain_from, mass_from}
use Rattle.maid_examples.specs.Samples.{rule}
use Rattle.maid_examples.specs.Tie.{uneven, tie_diagram, uneven_diagram, taking, AreSound, HasBest}
use Rattle.maid_examples.proofs.Members.{among_of}
use Rattle.maid_examples.proofs.Fractions.{itself}
use Rattle.maid_examples.proofs.TwoStates.{first_answers, not_accepted}

there : IsDecision uneven 0
there = record { within = omega arith; kind = refl }

-- no weights give more than 5 a unit
no_more : (ws : List ℕ) (total : ℕ) → IsTable (map pos ws) 1 2 total → (gain_of uneven (rule 0 total ws ∷ []) 0 *ℤ pos 1) ≤ℤ (pos 5 *ℤ pos (mass uneven (rule 0 total ws ∷ [])))
no_more [] total t = let e : ◌≡◌ {A = ℕ} 0 2 = t.len in absurd (omega arith)
no_more (a ∷ []) total t = let e : ◌≡◌ {A = ℕ} 1 2 = t.len in absurd (omega arith)
no_more (a ∷ b ∷ []) total t = let e : (pos 0 +ℤ pos a) +ℤ pos b ≡ pos total = t.row 0 (omega arith) in omega (arith, ints)
no_more (a ∷ b ∷ c ∷ ws) total t = let e : suc (suc (suc (length (map pos ws)))) ≡ 2 = t.len in absurd (omega arith)

-- only the weights and the total at the decision are looked at
no_better : (t : List RuleView) → IsProfile uneven t → IsNoBetter uneven 0 (taking 1 0) t
no_better t is = no_more (weights_of t 0) (rule_total t 0) (is.rule 0 there).table

alone : OwnsAll uneven 0
alone zero k = refl
alone (suc zero) k = let e = k.kind in absurd (cc)
alone (suc (suc v)) k = let e = k.kind in absurd (cc)

-- ---- a list of all chance nodes and decisions has the decision alone
only : (v : ℕ) → v < 2 → (node_at uneven v).kind ≢ Utility → v ≡ 0
only zero l n = refl
only (suc zero) l n = absurd (n refl)
only (suc (suc v)) l n = absurd (omega arith)

listed : (order : List ℕ) → IsListing uneven order → order ≡ 0 ∷ []
listed [] o = absurd (among_of [] 0 (o.all 0 (omega arith) (λ e. cc)))
listed (x ∷ []) o = let m = o.within x (0, omega arith, refl) in let e : x ≡ 0 = only x m.0 m.1 in (λ i. e i ∷ [])
listed (x ∷ y ∷ vs) o =
    let m = o.within x (0, omega arith, refl) in
    let n = o.within y (1, omega arith, refl) in
    absurd (o.once.0 (0, omega arith, only y n.0 n.1 ∙ sym (only x m.0 m.1)))

-- another agent has no rule to change, and past the choice no rule is looked at
from_start : (start : List ℕ) → IsSubgameStart uneven (0 ∷ []) start → (agent : ℕ) (t : List RuleView) → IsProfile uneven t → DiffersOnlyFor uneven agent (taking 1 0) t → IsNoBetterFrom uneven (0 ∷ []) start agent (taking 1 0) t
from_start [] s zero t is differs = no_better t is
from_start [] s (suc agent) t is differs =
    let same = differs 0 there (λ e. let f : ◌≡◌ {A = ℕ} 0 (suc agent) = e in omega arith) in
    subst₂ (λ ws total. (gain_from uneven (0 ∷ []) [] (rule 0 total ws ∷ []) (suc agent) *ℤ pos 1) ≤ℤ (gain_from uneven (0 ∷ []) [] (taking 1 0) (suc agent) *ℤ pos (mass_from uneven (0 ∷ []) [] (rule 0 total ws ∷ []))))
    (sym same.weights) (sym same.total) (itself (gain_from uneven (0 ∷ []) [] (taking 1 0) (suc agent) *ℤ pos 1))
from_start (x ∷ []) s agent t is differs = itself (gain_from uneven (0 ∷ []) (x ∷ []) (taking 1 0) agent *ℤ pos 1)
from_start (x ∷ y ∷ start) s agent t is differs = let l : suc (suc (length start)) ≤ 1 = s.history.within in absurd (omega arith)

module _ (profiles : TestsProfiles) where
  first : IsProfile uneven (taking 1 0)
  first = profiles uneven (taking 1 0) refl refl

  second : IsProfile uneven (taking 0 1)
  second = profiles uneven (taking 0 1) refl refl

  optimal : IsOptimal uneven (taking 1 0) 0
  optimal = record { profile = first; greatest = no_better }

  not_optimal : IsOptimal uneven (taking 0 1) 0 → ⊥
  not_optimal o = let f : pos 5 ≤ℤ pos 3 = o.greatest (taking 1 0) first in omega (arith, ints)

  perfect : IsSubgamePerfect uneven (taking 1 0)
  perfect = record { profile = first; from_each_start = each }
    where
      each : (order start : List ℕ) → IsListing uneven order → IsSubgameStart uneven order start → (agent : ℕ) (t : List RuleView) → IsProfile uneven t → DiffersOnlyFor uneven agent (taking 1 0) t → IsNoBetterFrom uneven order start agent (taking 1 0) t
      each order start o s agent t is differs =
          subst (λ vs. IsNoBetterFrom uneven vs start agent (taking 1 0) t) (sym (listed order o))
          (from_start start (subst (λ vs. IsSubgameStart uneven vs start) (listed order o) s) agent t is differs)

  listing : IsListing uneven (0 ∷ [])
  listing = search rules

  whole_tree : IsSubgameStart uneven (0 ∷ []) []
  whole_tree = search rules

  not_perfect : IsSubgamePerfect uneven (taking 0 1) → ⊥
  not_perfect p =
      let f : pos 5 ≤ℤ pos 3 = p.from_each_start (0 ∷ []) [] listing whole_tree 0 (taking 1 0) first (λ v k n. absurd (n (alone v k))) in
      omega (arith, ints)

  pub has_best : HasBest
  has_best = record {
    answer = first_answers (profiles uneven (uniform_profile uneven) refl refl);
    not_accepted = not_accepted;
    first = refl;
    second = refl;
    optimal = optimal;
    not_optimal = not_optimal;
    perfect = perfect;
    not_perfect = not_perfect;
  }

  pub sound : TestsDiagrams → AreSound
  sound diagrams = record { same = diagrams tie_diagram refl; other = diagrams uneven_diagram refl; alone = alone; first = first; second = second }
