use Rattle.std.proofs.Common.{◌≡◌, ◌++◌}
use Rattle.maid_model.specs.Names.{list_of}
use Rattle.net_build.proofs.distinct_names.DistinctNames.into_list.Given as goal

-- the names so far and those still to come
abbrev pub invariant-loop-name : goal.invariant-loop-name
invariant-loop-name l = list_of (l.list.items ++ l.name-iterator) ≡ l.fn.self
