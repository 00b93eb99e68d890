use Rattle.std.proofs.Common.{ap, sym, ◌∙◌, ◌++◌}
use Rattle.std.proofs.lemmas.Fmt.{decimal_digit}
use Rattle.line_pieces.proofs.numbers.push_digit.Goals as goal

pub returns : goal.returns
returns c = c.in_ok-push.ensures.items ∙ ap (λ ds. c.args.out.now.items ++ ds) (sym (decimal_digit c.args.digit c.requires))
