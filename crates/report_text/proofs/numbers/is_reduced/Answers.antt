use Rattle.std.proofs.Common.{◌≡◌, ◌∙◌, ap, subst, rules}
use Rattle.std.specs.Prelude.{FitsSigned, unsigned_abs}
use Rattle.std.specs.Int.{IsGcd, w128}
use Rattle.std.proofs.lemmas.Int.{to_z-of_z}
use Rattle.report_text.proofs.Fractions.{gcd_reduces, reduced_gcd, is_one, one_is}
use Rattle.report_text.proofs.numbers.is_reduced.Goals as goal

pub returns-then-ratio-gt0 : goal.returns-then-ratio-gt0
returns-then-ratio-gt0 c =
    let fits : FitsSigned w128 c.args.ratio.now.num = search rules in
    let same : c.unsigned_abs.result ≡ unsigned_abs c.args.ratio.now.num = c.unsigned_abs.ensures.value ∙ ap unsigned_abs (to_z-of_z w128 c.args.ratio.now.num fits) in
    let greatest : IsGcd (unsigned_abs c.args.ratio.now.num) c.args.ratio.now.den c.gcd.result = subst (λ n. IsGcd n c.args.ratio.now.den c.gcd.result) same c.gcd.ensures.greatest in (
      λ e. gcd_reduces c.args.ratio.now c.gcd.result c.if-ratio-gt0.true greatest (is_one c.gcd.result e),
      λ red. one_is c.gcd.result (reduced_gcd c.args.ratio.now c.gcd.result greatest red),
    )
