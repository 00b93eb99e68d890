-- What is settled is reached by no more rounds, and the rounds before raise.
use Rattle.std.proofs.Common.{◌≡◌, ◌≢◌, ◌∙◌, ◌⊎◌, inl, inr, ℕ, suc, ◌<◌, List, sym, subst, arith, ℤ, pos, ◌*ℤ◌, ◌<ℤ◌, ◌≤ℤ◌}
use Rattle.std.proofs.lemmas.Int.{ints}
use Rattle.std.proofs.Math.Decide.{ℕ_discrete}
use Rattle.maid_model.specs.Gains.{gain_of, mass}
use Rattle.maid_model.specs.Graph.{IsGraph}
use Rattle.maid_model.specs.Nodes.{agent_of}
use Rattle.maid_model.specs.Subgames.{OwnsAll}
use Rattle.maid_model.specs.Tables.{HasChanceTables}
use Rattle.maid_model.specs.Views.{NodeView, RuleView}
use Rattle.maid_laws.proofs.Best.{cancel_le}
use Rattle.maid_laws.proofs.PureReplies.{mass_positive}
use Rattle.maid_laws.proofs.Tied.{tables_of}
use Rattle.reach_laws.specs.Updates.{IsReachedAfter, IsUpdated, IsUpdateRound, Raised, RoundExists, RoundRaises, Start}
use Rattle.reach_laws.proofs.Rounds.{reached_one, reached_pure}
use Rattle.reach_laws.proofs.Steps.{compare}
use Rattle.policy_update.specs.Faults.{HasTwoOwners}
use Rattle.policy_update.specs.Updated.{RoundsRaise}
use Rattle.policy_update.proofs.Owners.{owns_of}

-- a profile that is reached before, with its round
record Earlier (nodes : List NodeView) (rounds : ℕ) : Type 0 where
  p : List RuleView
  q : List RuleView
  reached : IsReachedAfter nodes rounds p
  round : IsUpdateRound nodes p q
  raises : p ≢ q

earlier : (nodes : List NodeView) {later : ℕ} {q : List RuleView} → IsReachedAfter nodes later q → (rounds : ℕ) → rounds < later → Earlier nodes rounds
earlier nodes Start rounds l = absurd (omega arith)
earlier nodes (Raised {rounds = last} {p = p} {q = q} t x n) rounds l = go (ℕ_discrete rounds last) (λ k. earlier nodes t rounds k)
  where
    less : (a b : ℕ) → a < suc b → a ≢ b → a < b
    less a b h k = omega arith

    go : Dec (rounds ≡ last) → (rounds < last → Earlier nodes rounds) → Earlier nodes rounds
    go (yes e) rec = record { p = p; q = q; reached = subst (λ z. IsReachedAfter nodes z p) (sym e) t; round = x; raises = n }
    go (no m) rec = rec (less rounds last l m)

-- no profile stands after more rounds than raise
pub never_reached : (nodes : List NodeView) (g : IsGraph nodes) (c : HasChanceTables nodes) (agent : ℕ) (owns : OwnsAll nodes agent) → RoundExists → (n rounds : ℕ) (p q : List RuleView) → IsUpdated nodes n p → n < rounds → IsReachedAfter nodes rounds q → ⊥
never_reached nodes g c agent owns law n rounds p q u l r =
    let e = earlier nodes r n l in
    let same : p ≡ e.p = reached_one nodes g c agent owns u.reached e.reached in
    e.raises (sym same ∙ law.one nodes p p e.q (reached_pure nodes g c agent owns u.reached) u.settled (subst (λ z. IsUpdateRound nodes z e.q) (sym same) e.round))

-- each round that raises makes the expected utility greater
pub rounds_raise : (nodes : List NodeView) → IsGraph nodes → HasChanceTables nodes → RoundRaises → (HasTwoOwners nodes → ⊥) → RoundsRaise nodes
rounds_raise nodes g c law none rounds d p q k r (Raised {p = a} t round n) =
    let owns = owns_of nodes none d k in
    let pure = reached_pure nodes g c (agent_of nodes d) owns r in
    let same : a ≡ p = reached_one nodes g c (agent_of nodes d) owns t r in
    let more = law nodes (agent_of nodes d) p q g c owns pure (subst (λ z. IsUpdateRound nodes z q) same round) in
    scaled (gain_of nodes p (agent_of nodes d)) (gain_of nodes q (agent_of nodes d)) (mass nodes p) (mass nodes q) more.1 (mass_positive nodes p (tables_of nodes p g c pure.profile)) (more.3 (λ e. n (same ∙ e)))
  where
    not_less : (a b : ℤ) → a <ℤ b → b ≤ℤ a → ⊥
    not_less a b h k = omega (arith, ints)

    times_less : (x y k : ℤ) → pos 0 <ℤ k → x <ℤ y → (x *ℤ k) <ℤ (y *ℤ k)
    times_less x y k some l = go (compare (y *ℤ k) (x *ℤ k))
      where
        go : ((y *ℤ k) ≤ℤ (x *ℤ k)) ⊎ ((x *ℤ k) <ℤ (y *ℤ k)) → (x *ℤ k) <ℤ (y *ℤ k)
        go (inl h) = absurd (not_less x y l (cancel_le y x k some h))
        go (inr h) = h

    scaled : (x y : ℤ) (m n : ℕ) → m ≡ n → pos 0 <ℤ pos m → x <ℤ y → (x *ℤ pos n) <ℤ (y *ℤ pos m)
    scaled x y m n e some l = subst (λ z. (x *ℤ pos z) <ℤ (y *ℤ pos m)) e (times_less x y (pos m) some l)
