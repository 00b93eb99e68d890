-- The threat that holds at the start and isn't subgame-perfect: what other profiles are worth, by
-- their weights.
use Rattle.std.proofs.Common.{◌≡◌, ℕ, zero, suc, ◌<◌, List, [], ◌∷◌, map, length, refl, sym, subst, subst₂, arith, rules, ℤ, pos, ◌+ℤ◌, ◌*ℤ◌, ◌≤ℤ◌, ◌<ℤ◌}
use Rattle.std.proofs.lemmas.Int.{ints}
use Rattle.maid_model.specs.Laws.{TestsDiagrams, TestsProfiles}
use Rattle.maid_model.specs.declared.diagrams.Kind.TheVariants.{Decision}
use Rattle.maid_model.specs.Views.{RuleView}
use Rattle.maid_model.specs.Nodes.{IsDecision, node_at}
use Rattle.maid_model.specs.Tables.{IsTable, weights_of, rule_total}
use Rattle.maid_model.specs.Profiles.{IsProfile}
use Rattle.maid_model.specs.Gains.{gain_of, mass, gain_at, mass_at}
use Rattle.maid_model.specs.Subgames.{IsListing, IsSubgameStart, IsSubgamePerfect, IsNoBetter, DiffersOnlyFor}
use Rattle.maid_model.specs.Graph.{IsGraph}
use Rattle.maid_model.specs.Relevance.{ReliesOn}
use Rattle.maid_laws.specs.Exchange.{IsBestInBases}
use Rattle.maid_examples.proofs.Reliance.{seen_not_on_leader}
use Rattle.maid_examples.specs.Samples.{rule}
use Rattle.maid_examples.specs.EmptyThreat.{moves, moves_diagram, threat, called, IsSoundSample, HoldsAtFirst, FailsAfterLeft, IsNotBest}

-- ---- what a subgame from left on says
listing : IsListing moves (0 ∷ 1 ∷ [])
listing = search rules

start : IsSubgameStart moves (0 ∷ 1 ∷ []) (0 ∷ [])
start = search rules

same_leader : DiffersOnlyFor moves 1 threat called
same_leader zero k n = record { weights = refl; total = refl }
same_leader (suc zero) k n = absurd (n refl)
same_leader (suc (suc zero)) k n = let e = k.kind in absurd (cc)
same_leader (suc (suc (suc zero))) k n = let e = k.kind in absurd (cc)
same_leader (suc (suc (suc (suc v)))) k n = let e = k.kind in absurd (cc)

not_perfect : IsProfile moves called → IsSubgamePerfect moves threat → ⊥
not_perfect is s = let h : pos 1 ≤ℤ pos 0 = s.from_each_start (0 ∷ 1 ∷ []) (0 ∷ []) listing start 1 called is same_leader in omega (arith, ints)

pub fails : IsProfile moves called → FailsAfterLeft
fails is = record { listing = listing; start = start; threatened = refl; matched = refl; same_leader = same_leader; not_perfect = not_perfect is }

-- ---- what other profiles are worth at the start
abbrev with : List ℕ → ℕ → List ℕ → ℕ → List RuleView
with leads lead_total follows follow_total = rule 0 lead_total leads ∷ rule 1 follow_total follows ∷ []

-- the leader alone moves otherwise: to the left it gets nothing
leader_stays : (ws : List ℕ) (total : ℕ) → IsTable (map pos ws) 1 2 total → (gain_of moves (with ws total (0 ∷ 1 ∷ 0 ∷ 1 ∷ []) 1) 0 *ℤ pos 1) ≤ℤ (pos 1 *ℤ pos (mass moves (with ws total (0 ∷ 1 ∷ 0 ∷ 1 ∷ []) 1)))
leader_stays [] total t = let e : ◌≡◌ {A = ℕ} 0 2 = t.len in absurd (omega arith)
leader_stays (a ∷ []) total t = let e : ◌≡◌ {A = ℕ} 1 2 = t.len in absurd (omega arith)
leader_stays (a ∷ b ∷ []) total t = let e : (pos 0 +ℤ pos a) +ℤ pos b ≡ pos total = t.row 0 (omega arith) in omega (arith, ints)
leader_stays (a ∷ b ∷ c ∷ ws) total t = let e : suc (suc (suc (length (map pos ws)))) ≡ 2 = t.len in absurd (omega arith)

-- the follower alone moves otherwise: to the right in a part of the cases
follower_stays : (ws : List ℕ) (total : ℕ) → IsTable (map pos ws) 2 2 total → (gain_of moves (with (0 ∷ 1 ∷ []) 1 ws total) 1 *ℤ pos 1) ≤ℤ (pos 1 *ℤ pos (mass moves (with (0 ∷ 1 ∷ []) 1 ws total)))
follower_stays [] total t = let e : ◌≡◌ {A = ℕ} 0 4 = t.len in absurd (omega arith)
follower_stays (a ∷ []) total t = let e : ◌≡◌ {A = ℕ} 1 4 = t.len in absurd (omega arith)
follower_stays (a ∷ b ∷ []) total t = let e : ◌≡◌ {A = ℕ} 2 4 = t.len in absurd (omega arith)
follower_stays (a ∷ b ∷ c ∷ []) total t = let e : ◌≡◌ {A = ℕ} 3 4 = t.len in absurd (omega arith)
follower_stays (a ∷ b ∷ c ∷ d ∷ []) total t = let e : (pos 0 +ℤ pos c) +ℤ pos d ≡ pos total = t.row 1 (omega arith) in omega (arith, ints)
follower_stays (a ∷ b ∷ c ∷ d ∷ f ∷ ws) total t = let e : suc (suc (suc (suc (suc (length (map pos ws)))))) ≡ 4 = t.len in absurd (omega arith)

decides : (v : ℕ) → v < 4 → (node_at moves v).kind ≡ Decision → IsDecision moves v
decides v l k = record { within = l; kind = k }

itself : (x : ℤ) → x ≤ℤ x
itself x = omega (arith, ints)

-- only the weights and totals at the two decisions are looked at
no_gain : (agent : ℕ) (t : List RuleView) → IsProfile moves t → DiffersOnlyFor moves agent threat t → IsNoBetter moves agent threat t
no_gain zero t is differs =
    let same = differs 1 (decides 1 (omega arith) refl) (λ e. let f : ◌≡◌ {A = ℕ} 1 0 = e in omega arith) in
    subst₂ (λ ws total. (gain_of moves (with (weights_of t 0) (rule_total t 0) ws total) 0 *ℤ pos 1) ≤ℤ (pos 1 *ℤ pos (mass moves (with (weights_of t 0) (rule_total t 0) ws total))))
    (sym same.weights) (sym same.total) (leader_stays (weights_of t 0) (rule_total t 0) (is.rule 0 (decides 0 (omega arith) refl)).table)
no_gain (suc zero) t is differs =
    let same = differs 0 (decides 0 (omega arith) refl) (λ e. let f : ◌≡◌ {A = ℕ} 0 1 = e in omega arith) in
    subst₂ (λ ws total. (gain_of moves (with ws total (weights_of t 1) (rule_total t 1)) 1 *ℤ pos 1) ≤ℤ (pos 1 *ℤ pos (mass moves (with ws total (weights_of t 1) (rule_total t 1)))))
    (sym same.weights) (sym same.total) (follower_stays (weights_of t 1) (rule_total t 1) (is.rule 1 (decides 1 (omega arith) refl)).table)
no_gain (suc (suc agent)) t is differs =
    let one = differs 0 (decides 0 (omega arith) refl) (λ e. let f : ◌≡◌ {A = ℕ} 0 (suc (suc agent)) = e in omega arith) in
    let other = differs 1 (decides 1 (omega arith) refl) (λ e. let f : ◌≡◌ {A = ℕ} 1 (suc (suc agent)) = e in omega arith) in
    subst₂ (λ ws total. (gain_of moves (with ws total (weights_of t 1) (rule_total t 1)) (suc (suc agent)) *ℤ pos 1) ≤ℤ (gain_of moves threat (suc (suc agent)) *ℤ pos (mass moves (with ws total (weights_of t 1) (rule_total t 1)))))
    (sym one.weights) (sym one.total)
    (subst₂ (λ ws total. (gain_of moves (with (0 ∷ 1 ∷ []) 1 ws total) (suc (suc agent)) *ℤ pos 1) ≤ℤ (gain_of moves threat (suc (suc agent)) *ℤ pos (mass moves (with (0 ∷ 1 ∷ []) 1 ws total))))
    (sym other.weights) (sym other.total) (itself (gain_of moves threat (suc (suc agent)) *ℤ pos 1)))

pub holds : HoldsAtFirst
holds = record { leader = refl; follower = refl; no_gain = no_gain }

module _ (diagrams : TestsDiagrams) (profiles : TestsProfiles) where
  pub sound : IsSoundSample
  sound = record { diagram = diagrams moves_diagram refl; of_threat = profiles moves threat refl refl; of_called = profiles moves called refl refl }

-- ---- against the follower's base
not_on_leader : IsGraph moves → ReliesOn moves 1 0 → ⊥
not_on_leader graph = seen_not_on_leader (node_at moves 2) (node_at moves 3) graph

not_best : IsGraph moves → IsBestInBases moves threat → ⊥
not_best graph b =
    let at = b.best 1 (decides 1 (omega arith) refl) in
    let same = at.is_base.others 0 (decides 0 (omega arith) refl) (not_on_leader graph) in
    let massive : pos 0 <ℤ mass_at moves at.base 1 0 = subst (λ ws. pos 0 <ℤ mass_at moves (rule 0 2 ws ∷ []) 1 0) (sym same.weights) (omega (arith, ints)) in
    let f : gain_at moves at.base 1 0 0 ≤ℤ gain_at moves at.base 1 1 0 = at.best 1 0 0 (omega arith) (omega arith) refl massive (omega arith) in
    let g : pos 1 ≤ℤ pos 0 = subst (λ ws. gain_at moves (rule 0 2 ws ∷ []) 1 0 0 ≤ℤ gain_at moves (rule 0 2 ws ∷ []) 1 1 0) same.weights f in
    omega (arith, ints)

pub is_not_best : IsGraph moves → IsNotBest
is_not_best graph = record { not_on_leader = not_on_leader graph; left = record { of_first = refl; of_second = refl; of_row = refl }; not_best = not_best graph }
