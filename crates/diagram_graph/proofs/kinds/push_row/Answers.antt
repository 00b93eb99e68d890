use Rattle.maid_model.specs.Profiles.{pure_row}
use Rattle.std.proofs.Common.{◌≡◌, ◌∙◌, ◌++◌, ◌∷◌, [], map, pos, ap, sym, cond, eqb, append_assoc, rules, arith, ℕ, ◌+◌}
use Rattle.std.proofs.lemmas.List.{append-nil, map-append}
use Rattle.std.proofs.lemmas.List.FromFn.{map-range_with_len_more}
use Rattle.diagram_graph.proofs.kinds.push_row.Goals as goal

from_nought : (s : ℕ) → 0 + s ≡ s
from_nought s = omega arith

pub loop-state-preserved : goal.loop-state-preserved
loop-state-preserved c =
    let one = cond (eqb c.loop-state.state c.args.choice) 1 0 in
    let pushed : c.push.new.self.items ≡ c.loop-state.cells.items ++ pos one ∷ [] = search rules in
    pushed
    ∙ ap (λ xs. xs ++ pos one ∷ []) c.loop-state.invariant
    ∙ append_assoc c.args.cells.now.items _ _
    ∙ ap (λ xs. c.args.cells.now.items ++ xs) (sym (map-append pos _ (one ∷ [])) ∙ ap (map pos) (sym (map-range_with_len_more (λ s. cond (eqb s c.args.choice) 1 0) 0 c.loop-state.state c.loop-state.state (from_nought c.loop-state.state))))

pub loop-state-init : goal.loop-state-init
loop-state-init c = sym (append-nil c.args.cells.now.items)

pub returns : goal.returns
returns c = c.loop-state.invariant ∙ ap (λ n. c.args.cells.now.items ++ map pos (pure_row n c.args.choice)) (omega (arith, c.loop-state-test.false, c.loop-state.auto.state-end))
