-- The small diagrams are diagrams and their plans profiles, since they pass the tests.
use Rattle.std.proofs.Common.{◌≡◌, ℕ, zero, suc, ◌+◌, ◌*◌, ◌<◌, [], ◌∷◌, slice_index_or, refl, arith, pos, ◌≤ℤ◌}
use Rattle.std.proofs.lemmas.Int.{ints}
use Rattle.maid_model.specs.Laws.{TestsDiagrams, TestsRules, TestsProfiles}
use Rattle.maid_model.specs.Nodes.{IsDecision}
use Rattle.finite_sums.specs.Sums.{sum_below}
use Rattle.maid_model.specs.Profiles.{IsRule, IsProfile, uniform_profile}
use Rattle.maid_model.specs.Tested.{rule_at}
use Rattle.maid_examples.specs.Samples.{plan}
use Rattle.maid_examples.specs.FollowerLeader as seen
use Rattle.maid_examples.specs.CopySeen as copy
use Rattle.maid_examples.specs.NodeBetween as between

-- a rule with variables for weights, which no test decides
leader_mixed : (much little : ℕ) → 0 < much + little → IsRule seen.sight (rule_at (seen.mixed much little) 0)
leader_mixed much little positive = record { positive = positive; table = record { len = refl; not_negative = cells; row = row } }
  where
    cells : (i : ℕ) → pos 0 ≤ℤ slice_index_or (pos much ∷ pos little ∷ []) i (pos 0)
    cells zero = omega (arith, ints)
    cells (suc zero) = omega (arith, ints)
    cells (suc (suc i)) = omega (arith, ints)

    row : (r : ℕ) → r < 1 → sum_below 2 (λ s. slice_index_or (pos much ∷ pos little ∷ []) (r * 2 + s) (pos 0)) ≡ pos (much + little)
    row zero l = omega (arith, ints)
    row (suc r) l = absurd (omega arith)

module _ (diagrams : TestsDiagrams) (rules : TestsRules) (profiles : TestsProfiles) where
  seen_mixed : (much little : ℕ) → 0 < much + little → IsProfile seen.sight (seen.mixed much little)
  seen_mixed much little positive = record { decisions = refl; rule = rule }
    where
      rule : (v : ℕ) → IsDecision seen.sight v → IsRule seen.sight (rule_at (seen.mixed much little) v)
      rule zero d = leader_mixed much little positive
      rule (suc zero) d = rules seen.sight (rule_at (seen.mixed much little) 1) refl
      rule (suc (suc zero)) d = let k = d.kind in absurd (cc)
      rule (suc (suc (suc zero))) d = let k = d.kind in absurd (cc)
      rule (suc (suc (suc (suc v)))) d = let k = d.kind in absurd (cc)

  pub seen_sound : seen.IsSoundSample
  seen_sound = record {
    diagram = diagrams seen.sight_diagram refl;
    of_uniform = profiles seen.sight (uniform_profile seen.sight) refl refl;
    of_plan = profiles seen.sight (plan 1) refl refl;
    of_mixed = seen_mixed;
  }

  pub copied_sound : copy.IsSoundSample
  copied_sound = record {
    diagram = diagrams copy.copied_diagram refl;
    of_uniform = profiles copy.copied (uniform_profile copy.copied) refl refl;
    of_plan = profiles copy.copied (plan 2) refl refl;
  }

  pub between_sound : between.AreSound
  between_sound = record {
    two_states = diagrams between.joined_diagram refl;
    one_state = diagrams between.parted_diagram refl;
    uniform_joined = profiles between.joined (uniform_profile between.joined) refl refl;
    much_joined = profiles between.joined between.asks_much refl refl;
    little_joined = profiles between.joined between.asks_little refl refl;
    uniform_parted = profiles between.parted (uniform_profile between.parted) refl refl;
    much_parted = profiles between.parted between.asks_much refl refl;
    little_parted = profiles between.parted between.asks_little refl refl;
  }
