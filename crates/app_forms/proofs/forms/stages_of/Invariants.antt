use Rattle.std.proofs.Common.{◌≡◌, ◌-◌, decimal}
use Rattle.std.specs.List.{range_with_len}
use Rattle.std.specs.Str.{bytes_eq}
use Rattle.std.specs.Prelude.{find}
use Rattle.app_forms.specs.Request.{stages_of}
use Rattle.app_forms.proofs.forms.stages_of.Given as goal

-- the number is one of those to come
abbrev pub invariant-loop-k : goal.invariant-loop-k
invariant-loop-k l = stages_of l.word ≡ find (λ k. bytes_eq l.word (decimal k)) (range_with_len l.k (61 - l.k))
