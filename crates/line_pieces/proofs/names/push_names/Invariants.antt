use Rattle.std.proofs.Common.{◌≡◌, ◌++◌, map, take}
use Rattle.maid_model.specs.Names.{name_of}
use Rattle.maid_model.specs.Reports.{spaced}
use Rattle.line_pieces.proofs.names.push_names.Given as goal

-- the names so far
abbrev pub invariant-loop-node : goal.invariant-loop-node
invariant-loop-node l = l.out.items ≡ l.fn.out.items ++ spaced (map (name_of l.names) (take l.node-index l.list))
