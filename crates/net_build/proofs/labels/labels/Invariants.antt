use Rattle.std.proofs.Common.{◌≡◌, map, take}
use Rattle.first_fault.specs.Passes.{each}
use Rattle.first_fault.proofs.Leading.{Leads}
use Rattle.first_fault.proofs.Items.{EachFrom}
use Rattle.maid_model.specs.Names.{list_of}
use Rattle.net_build.specs.Table.{label_row}
use Rattle.net_lexer.specs.Token.{text_value}
use Rattle.net_build.proofs.labels.labels.Given as goal

-- the strings to come find what the whole pass finds, and those so far have their labels
abbrev pub invariant-loop-string : goal.invariant-loop-string
invariant-loop-string l = record {
  lead : Leads (EachFrom (label_row l.text) l.strings l.string-index) (each (label_row l.text) l.strings);
  made : list_of l.labels.items ≡ map (text_value l.text) (take l.string-index l.strings);
}
