use Rattle.std.proofs.Common.{◌≡◌, ◌++◌, List, ℕ, Option, None, Some, sym, ◌∙◌, ap, rules}
use Rattle.std.specs.Prelude.{IfSome, IfNone}
use Rattle.std.specs.Option.{MatchOption}
use Rattle.maid_model.specs.declared.answers.Ratio.{Ratio}
use Rattle.maid_model.specs.Reports.{ratio_text}
use Rattle.report_text.specs.Reading.{FitsRatio}
use Rattle.report_text.specs.Slots.{gain_front}
use Rattle.report_text.proofs.Tails.{behind_is}
use Rattle.report_text.proofs.value_lines.read_gain.Goals as goal

read : (line front known value : List ℕ) (found : Option Ratio) → line ≡ front ++ value → front ≡ known → IfSome found (λ r. FitsRatio r × (value ≡ ratio_text r)) → IfNone found ((r : Ratio) → FitsRatio r → value ≡ ratio_text r → ⊥) → MatchOption found ((gain : Ratio) → FitsRatio gain → line ≡ known ++ ratio_text gain → ⊥) (λ gain. FitsRatio gain × (line ≡ known ++ ratio_text gain))
read line front known value (Some gain) is same some none = (some.0, is ∙ (λ i. same i ++ some.1 i))
read line front known value None is same some none = λ gain stands e. none gain stands (behind_is line front known value (ratio_text gain) is same e)

pub returns-in-Some : goal.returns-in-Some
returns-in-Some c =
    let front : c.deref.result.now ≡ gain_front c.args.names.now c.args.agent = search rules in
    read c.args.line.now c.deref.result.now (gain_front c.args.names.now c.args.agent) c.in-Some.value.now c.read_ratio.result c.in-Some.ensures front c.read_ratio.ensures.some c.read_ratio.ensures.none

pub returns-in-None : goal.returns-in-None
returns-in-None c gain stands e =
    let front : c.deref.result.now ≡ gain_front c.args.names.now c.args.agent = search rules in
    c.in-None.ensures (ratio_text gain) (e ∙ ap (λ x. x ++ ratio_text gain) (sym front))
