-- An attribute that counts is tried against those that count before it.
use Rattle.std.proofs.Common.{ap, sym, ◌∙◌}
use Rattle.net_build.specs.declared.faults.BuildFault.TheVariants.{Fault}
use Rattle.net_build.specs.declared.faults.BuildKind.TheVariants.{DoubleAttribute}
use Rattle.net_lexer.specs.declared.tokens.Token.{Token}
use Rattle.net_build.proofs.AttributeLemmas.{repeated_refused, repeated_on}
use Rattle.net_build.proofs.attributes.check_counted.Goals as goal

pub returns-then-is_repeated : goal.returns-then-is_repeated
returns-then-is_repeated c =
    repeated_refused c.args.text.now c.args.kind c.args.attributes.now _ c.loop-place.place c.index-attributes-place.result _ c.loop-place-test.true c.index-attributes-place.is
    (sym c.is_repeated.ensures ∙ c.if-is_repeated.true)
    (c.at.ensures ∙ ap (λ (t : Token). Fault t.start DoubleAttribute) c.name.ensures)
    c.loop-place.invariant

pub loop-place-preserved : goal.loop-place-preserved
loop-place-preserved c =
    repeated_on c.args.text.now c.args.kind c.args.attributes.now _ c.loop-place.place c.index-attributes-place.result c.loop-place-test.true c.index-attributes-place.is
    (sym c.is_repeated.ensures ∙ c.if-is_repeated.false)
    c.loop-place.invariant
