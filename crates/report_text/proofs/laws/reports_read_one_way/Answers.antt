use Rattle.report_text.proofs.ReadingLaws.{one_value, reads_back, exclusive, one_bad_line}
use Rattle.report_text.proofs.laws.reports_read_one_way.Goals as goal

pub returns : goal.returns
returns c = record { one_value = one_value; reads_back = reads_back; exclusive = exclusive; one_bad_line = one_bad_line }
