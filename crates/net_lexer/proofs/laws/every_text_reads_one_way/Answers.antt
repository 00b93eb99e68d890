use Rattle.net_lexer.proofs.Cover.{covered}
use Rattle.net_lexer.proofs.OneCut.{exclusive, one_list, one_fault}
use Rattle.net_lexer.proofs.laws.every_text_reads_one_way.Goals as goal

pub returns : goal.returns
returns c = record { covered = covered; exclusive = exclusive; one_list = one_list; one_fault = one_fault }
