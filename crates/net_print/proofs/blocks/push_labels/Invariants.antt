use Rattle.std.proofs.Common.{◌≡◌, ◌++◌, drop}
use Rattle.maid_model.specs.Names.{labels_of}
use Rattle.maid_model.specs.Reports.{quoted}
use Rattle.net_print.specs.Printed.{parted}
use Rattle.net_print.specs.Parts.{parted_behind}
use Rattle.net_print.proofs.blocks.push_labels.Given as goal

-- the labels so far and those to come are all
abbrev pub invariant-loop-state : goal.invariant-loop-state
invariant-loop-state l = l.out.items ++ parted_behind quoted l.state (drop l.state (labels_of l.names l.node)) ≡ l.fn.out.items ++ parted quoted (labels_of l.names l.node)
