-- What the stages of a check find, and what it gives where they find nothing.
use Rattle.std.proofs.Common.{◌≡◌, ◌<◌, ◌≤◌, ◌⊎◌, inl, inr, ℕ, List, Ok, Err, refl, arith}
use Rattle.std.proofs.lemmas.Bool.{cases_lt}
use Rattle.std.proofs.Math.Nat.{min-le_left, min-eq_left, min-eq_right, le_of_lt}
use Rattle.maid_model.specs.Bounds.{stopped}
use Rattle.maid_model.specs.declared.limits.TheConstants.{COUNT_END, MOST_LEAVES}
use Rattle.maid_model.specs.Names.{NamesView}
use Rattle.maid_model.specs.Scopes.{KeepsScopedBounds}
use Rattle.maid_model.specs.Views.{DiagramView}
use Rattle.app_forms.specs.Check.{HasVerdict, examining}
use Rattle.app_forms.specs.Diagrams.{NamedDiagram, IsDiagramOf}
use Rattle.app_forms.specs.Outcome.{Written, refused}
use Rattle.app_forms.specs.Reading.{Judges, comes_for}
use Rattle.app_forms.specs.Stages.{TellsBound, TellsLeaves, TellsBadLine}
use Rattle.app_forms.specs.Tasks.{comes_of}
use Rattle.app_forms.specs.declared.status.Status.TheVariants.{TextFault, WeightBound, TooLarge}

-- a stopped count that passes the limit is of more leaves than that
pub many_leaves : (count told : ℕ) → told ≡ stopped count → MOST_LEAVES < told → MOST_LEAVES < count
many_leaves count told e more = let less = min-le_left count COUNT_END in omega (arith, e, more, less)

-- and one within the limit is the count
pub few_leaves : (count told : ℕ) → told ≡ stopped count → told ≤ MOST_LEAVES → count ≤ MOST_LEAVES
few_leaves count told e few = by (cases_lt COUNT_END count) where
  by : (COUNT_END < count) ⊎ (count ≤ COUNT_END) → count ≤ MOST_LEAVES
  by (inr h) = let same = min-eq_left h in omega (arith, e, few, same)
  by (inl h) = let same = min-eq_right {n = COUNT_END} {m = count} (le_of_lt h) in absurd (omega (arith, e, few, same))

module _ (d : DiagramView) (names : NamesView) (told : List ℕ) where
  -- the diagram passes the weight bound
  pub bound_examined : TellsBound d names told → comes_for examining d names (Err (refused WeightBound told))
  unfolding comes_of
  bound_examined tells = λ name bytes is. let x : NamedDiagram = record { d = d; names = names } in inl (inr ((x, is), inl (x, is, (refl, tells))))

  -- it has too many leaves
  pub leaves_examined : (name bytes : List ℕ) → IsDiagramOf bytes d names → KeepsScopedBounds d → TellsLeaves d names told → comes_of examining name bytes (Err (refused TooLarge told))
  unfolding comes_of
  leaves_examined name bytes is keeps tells =
      let x : NamedDiagram = record { d = d; names = names } in inl (inr ((x, is), inr ((x, is, keeps), inl (x, is, (refl, tells)))))

  -- a line of the report is bad
  pub line_judged : (name bytes : List ℕ) → TellsBadLine (name, bytes) d names told → Judges d names name bytes (Err (refused TextFault told))
  unfolding comes_of
  line_judged name bytes tells = λ text is. let x : NamedDiagram = record { d = d; names = names } in inl (inl (x, is, (refl, tells)))

-- the verdict is given
pub verdict_judged : (d : DiagramView) (names : NamesView) (name bytes : List ℕ) (output : Written) → HasVerdict d names bytes output → Judges d names name bytes (Ok output)
unfolding comes_of
verdict_judged d names name bytes output has = λ text is.
    let x : NamedDiagram = record { d = d; names = names } in ((((x, is, (has.solved, has.is_report)), tt)), (x, is, has))
