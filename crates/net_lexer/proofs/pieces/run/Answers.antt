use Rattle.std.proofs.Common.{sym, ◌∙◌}
use Rattle.net_lexer.proofs.Fronts.{number_piece, signed_piece, bad_run}
use Rattle.net_lexer.proofs.pieces.run.Goals as goal

pub returns-in-Some-clause-some : goal.returns-in-Some-clause-some
returns-in-Some-clause-some c = number_piece _ _ c.requires.some c.requires.begins c.in-Some.ensures.len c.in-Some.ensures.numeral

pub returns-then-is_numeral-clause-some : goal.returns-then-is_numeral-clause-some
returns-then-is_numeral-clause-some c = number_piece _ _ c.requires.some c.requires.begins c.run_len-len.ensures (sym c.is_numeral.ensures ∙ c.if-is_numeral.true)

pub returns-then-is_signed-clause-some : goal.returns-then-is_signed-clause-some
returns-then-is_signed-clause-some c = signed_piece _ _ c.requires.some c.requires.begins c.run_len-len.ensures (sym c.is_signed.ensures ∙ c.if-is_signed.true)

pub returns-else-is_signed-clause-none : goal.returns-else-is_signed-clause-none
returns-else-is_signed-clause-none c = bad_run _ _ c.requires.some c.requires.begins c.run_len-len.ensures (sym c.is_numeral.ensures ∙ c.if-is_numeral.false) (sym c.is_signed.ensures ∙ c.if-is_signed.false)
