use Rattle.std.proofs.Common.{◌≡◌, take, flat_map}
use Rattle.app_forms.specs.Words.{node_titles}
use Rattle.app_forms.proofs.fault_words.node_names.Given as goal

-- the names so far
abbrev pub invariant-loop-block : goal.invariant-loop-block
invariant-loop-block l = l.names.items ≡ flat_map node_titles (take l.block-index l.blocks)
