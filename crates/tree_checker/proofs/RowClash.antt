-- A row passes or fails, and fails for one cause.
use Rattle.std.proofs.Common.{◌≡◌, ℕ, ◌*◌, ◌^◌, List, refl, sym, subst, inl, inr, arith, ℤ, pos, ◌≤ℤ◌, ◌<ℤ◌, nat_abs, Option, Some, None}
use Rattle.std.proofs.lemmas.Int.{ints}
use Rattle.std.specs.Prelude.{IsSome}
use Rattle.maid_model.specs.declared.answers.Ratio.{Ratio}
use Rattle.maid_model.specs.declared.answers.Row.{Row}
use Rattle.maid_model.specs.Accepted.{IsAcceptedRow}
use Rattle.maid_model.specs.Answers.{IsFraction}
use Rattle.maid_model.specs.Gains.{gain_at, mass_at}
use Rattle.maid_model.specs.Nodes.{states_of}
use Rattle.maid_model.specs.Views.{NodeView, RuleView}
use Rattle.tree_checker.specs.declared.verdicts.Cause.{Cause}
use Rattle.tree_checker.specs.declared.verdicts.Cause.TheVariants.{Order, Choice, Worth, Never, Gain}
use Rattle.tree_checker.specs.Judged.{PassesIn}
use Rattle.tree_checker.specs.Verdicts.{FailsIn}

-- a mark is one or none
pub marked : (o : Option Ratio) → o ≡ None → IsSome o → ⊥
marked None e s = unmarked s
  where
    unmarked : IsSome {T = Ratio} None → ⊥
    unmarked s = cc
marked (Some w) e s = cc

some_worth : (o : Option Ratio) (w : Ratio) → o ≡ Some w → o ≡ None → ⊥
some_worth o w e f = cc

one_worth : (o : Option Ratio) (w v : Ratio) → o ≡ Some w → o ≡ Some v → v ≡ w
one_worth o w v e f = cc

pub some_is : (o : Option Ratio) (w : Ratio) → o ≡ Some w → IsSome o
some_is o w e = subst IsSome (sym e) refl

positive_not_none : (m : ℤ) → pos 0 <ℤ m → m ≡ pos 0 → ⊥
positive_not_none m l e = omega (arith, ints)

not_both : (a b : ℤ) → a ≤ℤ b → b <ℤ a → ⊥
not_both a b l m = omega (arith, ints)

module _ (gain : ℕ → ℤ) (states : ℕ) (mass : ℤ) (scale : ℕ) (r : Row) where
  pub row_clash : PassesIn gain states mass scale r → (cause : Cause) → FailsIn gain states mass scale r cause → ⊥
  row_clash p Order f = f
  row_clash p Choice f = not_both (gain f.2.0) (gain r.choice) (p.best f.0 f.2.0 f.2.1) f.2.2
  row_clash p Worth f =
      let w = p.worth f.0 in
      f.2.2 (subst (λ v. IsFraction v (gain r.choice) (nat_abs mass * scale)) (one_worth r.worth f.2.0 w.0 f.2.1 w.1) w.2)
  row_clash p Never (inl f) = let w = p.worth f.0 in some_worth r.worth w.0 w.1 f.1
  row_clash p Never (inr f) = marked r.worth (p.never f.0) f.1
  row_clash p Gain f = f

  never_clash : (pos 0 <ℤ mass) → IsSome r.worth → FailsIn gain states mass scale r Never → ⊥
  never_clash l s (inl f) = marked r.worth f.1 s
  never_clash l s (inr f) = positive_not_none mass l f.0

  -- the causes exclude one another
  pub one_cause : (one other : Cause) → FailsIn gain states mass scale r one → FailsIn gain states mass scale r other → one ≡ other
  one_cause Order other f g = absurd f
  one_cause Gain other f g = absurd f
  one_cause one Order f g = absurd g
  one_cause one Gain f g = absurd g
  one_cause Never Never f g = refl
  one_cause Choice Choice f g = refl
  one_cause Worth Worth f g = refl
  one_cause Never Choice f g = absurd (never_clash g.0 g.1 f)
  one_cause Choice Never f g = absurd (never_clash f.0 f.1 g)
  one_cause Never Worth f g = absurd (never_clash g.0 (some_is r.worth g.2.0 g.2.1) f)
  one_cause Worth Never f g = absurd (never_clash f.0 (some_is r.worth f.2.0 f.2.1) g)
  one_cause Choice Worth f g = absurd (g.1 f.2)
  one_cause Worth Choice f g = absurd (f.1 g.2)

-- the row of an accepted report, in the same words
pub passes_of : (nodes : List NodeView) (decimals : ℕ) (base : List RuleView) (d row : ℕ) (r : Row) → IsAcceptedRow nodes decimals base d row r → PassesIn (λ s. gain_at nodes base d s row) (states_of nodes d) (mass_at nodes base d row) (10 ^ decimals) r
passes_of nodes decimals base d row r a = record { best = a.best; worth = a.worth; never = a.never }

pub accepted_of : (nodes : List NodeView) (decimals : ℕ) (base : List RuleView) (d row : ℕ) (r : Row) → PassesIn (λ s. gain_at nodes base d s row) (states_of nodes d) (mass_at nodes base d row) (10 ^ decimals) r → IsAcceptedRow nodes decimals base d row r
accepted_of nodes decimals base d row r p = record { best = p.best; worth = p.worth; never = p.never }
