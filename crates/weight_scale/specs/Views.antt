-- Scaled rows as contracts see them.
use Rattle.std.specs.Prelude.{ℕ, ℤ, List}

-- the weights row by row, and what each row of them adds up to
pub record ScaledView : Type 0 where
  pub weights : List ℤ
  pub total : ℕ
