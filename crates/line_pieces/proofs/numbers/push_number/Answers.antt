use Rattle.std.proofs.Common.{◌≡◌, ◌++◌, List, ℕ, subst, ◌∙◌}
use Rattle.std.specs.Result.{OnOk}
use Rattle.line_pieces.proofs.Appending.{on_ok}
use Rattle.line_pieces.proofs.numbers.push_number.Goals as goal

pub returns : goal.returns
returns c =
    subst (λ (ds : List ℕ). OnOk c.extend_from_slice.result (c.extend_from_slice.new.self.items ≡ c.args.out.now.items ++ ds)) (c.as_bytes.ensures.value ∙ c.format.ensures.text)
    (on_ok c.extend_from_slice.result c.args.out.now.items c.as_bytes.result.now c.extend_from_slice.new.self.items c.extend_from_slice.ensures.items)
