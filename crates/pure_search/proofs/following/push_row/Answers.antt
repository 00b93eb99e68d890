use Rattle.std.proofs.Common.{◌≡◌, ◌∙◌, ◌++◌, ◌∷◌, [], ap, sym, cond, eqb, append_assoc, rules, arith, ℕ, ◌+◌}
use Rattle.std.proofs.lemmas.List.FromFn.{map-range_with_len_more}
use Rattle.pure_search.proofs.following.push_row.Goals as goal

from_nought : (s : ℕ) → 0 + s ≡ s
from_nought s = omega arith

pub loop-state-preserved : goal.loop-state-preserved
loop-state-preserved c =
    let pushed : c.push.new.self.items ≡ c.loop-state.weights.items ++ cond (eqb c.loop-state.state c.args.choice) 1 0 ∷ [] = search rules in
    pushed
    ∙ ap (λ xs. xs ++ cond (eqb c.loop-state.state c.args.choice) 1 0 ∷ []) c.loop-state.invariant
    ∙ append_assoc c.args.weights.now.items _ _
    ∙ ap (λ xs. c.args.weights.now.items ++ xs) (sym (map-range_with_len_more (λ s. cond (eqb s c.args.choice) 1 0) 0 c.loop-state.state c.loop-state.state (from_nought c.loop-state.state)))
