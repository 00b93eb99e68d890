-- What a guess is worth by what it is told: the gain is linear in the weights of the guess's rows.
use Rattle.std.proofs.Common.{◌≡◌, ℕ, zero, suc, ◌+◌, ◌*◌, ◌<◌, List, [], ◌∷◌, map, slice_index, slice_index_or, refl, inl, inr, arith, pos, ◌+ℤ◌, ◌*ℤ◌, ◌≤ℤ◌}
use Rattle.std.proofs.lemmas.Int.{ints}
use Rattle.maid_model.specs.Laws.{TestsProfiles}
use Rattle.maid_model.specs.Views.{NodeView, RuleView}
use Rattle.maid_model.specs.Diagrams.{IsDiagram}
use Rattle.maid_model.specs.Nodes.{IsDecision}
use Rattle.maid_model.specs.Graph.{IsGraph}
use Rattle.maid_model.specs.Tables.{IsTable, weights_of, rule_total}
use Rattle.maid_model.specs.Gains.{gain_of, mass}
use Rattle.maid_model.specs.Subgames.{OwnsAll}
use Rattle.maid_model.specs.Values.{IsOptimum, IsDifference, IsValueOfSeen, IsValueOfUnseen}
use Rattle.arc_laws.specs.Worths.{OneDifference}
use Rattle.maid_examples.specs.Samples.{rule, whole}
use Rattle.maid_examples.specs.TwoCoins.{guessing, told, untold, half, HasCoinValues}
use Rattle.maid_examples.proofs.Members.{Among, among_of}
use Rattle.maid_examples.proofs.Fractions.{reduced_0, reduced_1, reduced_1_2}

-- a cell of a rule, as a number of either kind
cell : (ws : List ℕ) (i : ℕ) → slice_index_or (map pos ws) i (pos 0) ≡ pos (slice_index ws i)
cell [] i = refl
cell (w ∷ ws) zero = refl
cell (w ∷ ws) (suc i) = cell ws i

-- a row's two weights
pub row : (ws : List ℕ) (rows total r : ℕ) → IsTable (map pos ws) rows 2 total → r < rows → slice_index ws (r * 2 + 0) + slice_index ws (r * 2 + 1) ≡ total
row ws rows total r t l =
    let e : (pos 0 +ℤ slice_index_or (map pos ws) (r * 2 + 0) (pos 0)) +ℤ slice_index_or (map pos ws) (r * 2 + 1) (pos 0) ≡ pos total = t.row r l in
    let f = cell ws (r * 2 + 0) in
    let g = cell ws (r * 2 + 1) in
    omega (arith, ints)

-- told both, at most every guess is right
told_no_more : (ws : List ℕ) (total : ℕ) → IsTable (map pos ws) 4 2 total → (gain_of told (rule 3 total ws ∷ []) 0 *ℤ pos 4) ≤ℤ (pos 4 *ℤ pos (mass told (rule 3 total ws ∷ [])))
told_no_more ws total t =
    let a : slice_index ws 0 + slice_index ws 1 ≡ total = row ws 4 total 0 t (omega arith) in
    let b : slice_index ws 2 + slice_index ws 3 ≡ total = row ws 4 total 1 t (omega arith) in
    let c : slice_index ws 4 + slice_index ws 5 ≡ total = row ws 4 total 2 t (omega arith) in
    let d : slice_index ws 6 + slice_index ws 7 ≡ total = row ws 4 total 3 t (omega arith) in
    omega (arith, ints)

-- told one or nothing, half of the guesses are right
coin_no_more : (ws : List ℕ) (total : ℕ) → IsTable (map pos ws) 2 2 total → (gain_of untold (rule 3 total ws ∷ []) 0 *ℤ pos 4) ≤ℤ (pos 2 *ℤ pos (mass untold (rule 3 total ws ∷ [])))
coin_no_more ws total t =
    let a : slice_index ws 0 + slice_index ws 1 ≡ total = row ws 2 total 0 t (omega arith) in
    let b : slice_index ws 2 + slice_index ws 3 ≡ total = row ws 2 total 1 t (omega arith) in
    omega (arith, ints)

abbrev pub newly : List NodeView
newly = guessing (2 ∷ [])

news_no_more : (ws : List ℕ) (total : ℕ) → IsTable (map pos ws) 2 2 total → (gain_of newly (rule 3 total ws ∷ []) 0 *ℤ pos 4) ≤ℤ (pos 2 *ℤ pos (mass newly (rule 3 total ws ∷ [])))
news_no_more ws total t =
    let a : slice_index ws 0 + slice_index ws 1 ≡ total = row ws 2 total 0 t (omega arith) in
    let b : slice_index ws 2 + slice_index ws 3 ≡ total = row ws 2 total 1 t (omega arith) in
    omega (arith, ints)

abbrev blind : List NodeView
blind = guessing []

blind_no_more : (ws : List ℕ) (total : ℕ) → IsTable (map pos ws) 1 2 total → (gain_of blind (rule 3 total ws ∷ []) 0 *ℤ pos 4) ≤ℤ (pos 2 *ℤ pos (mass blind (rule 3 total ws ∷ [])))
blind_no_more ws total t =
    let a : slice_index ws 0 + slice_index ws 1 ≡ total = row ws 1 total 0 t (omega arith) in
    omega (arith, ints)

-- ---- optima
module _ (seen : List ℕ) where
  guesses : IsDecision (guessing seen) 3
  guesses = record { within = omega arith; kind = refl }

  alone : OwnsAll (guessing seen) 0
  alone zero k = let e = k.kind in absurd (cc)
  alone (suc zero) k = let e = k.kind in absurd (cc)
  alone (suc (suc zero)) k = let e = k.kind in absurd (cc)
  alone (suc (suc (suc zero))) k = refl
  alone (suc (suc (suc (suc zero)))) k = let e = k.kind in absurd (cc)
  alone (suc (suc (suc (suc (suc v))))) k = let e = k.kind in absurd (cc)

-- to guess the first side, and to guess by both
abbrev first_side : List RuleView
first_side = rule 3 1 (1 ∷ 0 ∷ 1 ∷ 0 ∷ []) ∷ []

abbrev by_both : List RuleView
by_both = rule 3 1 (1 ∷ 0 ∷ 0 ∷ 1 ∷ 0 ∷ 1 ∷ 1 ∷ 0 ∷ []) ∷ []

abbrev first_side_blind : List RuleView
first_side_blind = rule 3 1 (1 ∷ 0 ∷ []) ∷ []

difference : IsDifference half (whole (pos 1)) half
difference = record { reduced = reduced_1_2; same = refl }

module _ (profiles : TestsProfiles) where
  told_optimum : IsOptimum told 0 0 (whole (pos 1))
  told_optimum = record {
    alone = alone (0 ∷ 2 ∷ []);
    best = by_both;
    optimal = record { profile = profiles told by_both refl refl; greatest = λ t is. told_no_more (weights_of t 3) (rule_total t 3) (is.rule 3 (guesses (0 ∷ 2 ∷ []))).table };
    worth = record { reduced = reduced_1; same = refl };
  }

  untold_optimum : IsOptimum untold 0 0 half
  untold_optimum = record {
    alone = alone (0 ∷ []);
    best = first_side;
    optimal = record { profile = profiles untold first_side refl refl; greatest = λ t is. coin_no_more (weights_of t 3) (rule_total t 3) (is.rule 3 (guesses (0 ∷ []))).table };
    worth = record { reduced = reduced_1_2; same = refl };
  }

  news_optimum : IsOptimum newly 0 0 half
  news_optimum = record {
    alone = alone (2 ∷ []);
    best = first_side;
    optimal = record { profile = profiles newly first_side refl refl; greatest = λ t is. news_no_more (weights_of t 3) (rule_total t 3) (is.rule 3 (guesses (2 ∷ []))).table };
    worth = record { reduced = reduced_1_2; same = refl };
  }

  blind_optimum : IsOptimum blind 0 0 half
  blind_optimum = record {
    alone = alone [];
    best = first_side_blind;
    optimal = record { profile = profiles blind first_side_blind refl refl; greatest = λ t is. blind_no_more (weights_of t 3) (rule_total t 3) (is.rule 3 (guesses [])).table };
    worth = record { reduced = reduced_1_2; same = refl };
  }

  -- ---- values
  coin_beside_news : IsValueOfSeen told 0 [] 0 0 3 half
  coin_beside_news = record {
    own = record { decision = guesses (0 ∷ 2 ∷ []); owner = refl };
    seen = (0, omega arith, refl);
    value = record { more = whole (pos 1); is_more = told_optimum; less = half; is_less = news_optimum; difference = difference };
  }

  coin_alone : IsValueOfSeen untold 0 [] 0 0 3 (whole (pos 0))
  coin_alone = record {
    own = record { decision = guesses (0 ∷ []); owner = refl };
    seen = (0, omega arith, refl);
    value = record { more = half; is_more = untold_optimum; less = half; is_less = blind_optimum; difference = record { reduced = reduced_0; same = refl } };
  }

  news : IsGraph told → IsValueOfUnseen untold 0 [] 0 2 3 half
  news graph = record {
    own = record { decision = guesses (0 ∷ []); owner = refl };
    unseen = λ a. not_seen (among_of (0 ∷ []) 2 a);
    can_see = graph;
    value = record { more = whole (pos 1); is_more = told_optimum; less = half; is_less = untold_optimum; difference = difference };
  }
    where
      not_seen : Among 2 (0 ∷ []) → ⊥
      not_seen (inl e) = omega arith
      not_seen (inr m) = m

  pub values : IsDiagram (record { nodes = told; agents = 1; decimals = 0 }) → IsDiagram (record { nodes = newly; agents = 1; decimals = 0 }) → OneDifference → HasCoinValues
  values d e one = record {
    told_optimum = told_optimum;
    untold_optimum = untold_optimum;
    coin_beside_news = coin_beside_news;
    coin_alone = coin_alone;
    news = news d.graph;
    no_other = λ r v. one told newly 0 0 r half d.graph d.tables e.graph e.tables v.value coin_beside_news.value;
  }
