use Rattle.std.proofs.Common.{◌≡◌, ◌++◌, [], map, take, slice_index_or}
use Rattle.maid_model.specs.Reports.{spaced}
use Rattle.net_lexer.specs.Token.{token_bytes}
use Rattle.app_forms.proofs.fault_words.push_cycle.Given as goal

-- the names so far
abbrev pub invariant-loop-v : goal.invariant-loop-v
invariant-loop-v l = l.out.items ≡ l.fn.out.items ++ spaced (map (λ v. slice_index_or (map (token_bytes l.text) l.names) v []) (take l.v-index l.cycle))
