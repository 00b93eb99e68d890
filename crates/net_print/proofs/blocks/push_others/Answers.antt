use Rattle.std.proofs.Common.{◌≡◌, ◌∙◌, ℕ, ◌+◌, ◌<◌, List, [], ◌∷◌, ◌++◌, length, get_or, drop, flat_map, sym, ap, append_assoc}
use Rattle.std.proofs.lemmas.List.{drop_more}
use Rattle.maid_model.specs.Names.{agent_name}
use Rattle.maid_model.specs.Reports.{quoted}
use Rattle.std.proofs.lemmas.Result.{err_from_is_err_and}
use Rattle.net_print.proofs.blocks.push_others.Goals as goal

-- the element whose turn it is, behind those so far
next_piece : (f : ℕ → List ℕ) (xs : List ℕ) (i : ℕ) (old new whole : List ℕ) → i < length xs → new ≡ old ++ f (get_or xs i 0) → old ++ flat_map f (drop i xs) ≡ whole → new ++ flat_map f (drop (i + 1) xs) ≡ whole
next_piece f xs i old new whole within is so_far =
    let rest = flat_map f (drop (i + 1) xs) in
    ap (λ ts. ts ++ rest) is ∙ append_assoc old (f (get_or xs i 0)) rest ∙ ap (λ ys. old ++ flat_map f ys) (sym (drop_more xs i 0 within)) ∙ so_far

pub agent-requires : goal.agent-requires
agent-requires c = c.requires c.loop-agent.agent-index 0 c.loop-agent-test.true

pub loop-agent-preserved : goal.loop-agent-preserved
loop-agent-preserved c =
    let old = c.loop-agent.out.items in
    let shown = c.in_ok-push_quoted.ensures ∙ ap (λ ts. ts ++ quoted c.agent.result.now) c.in_ok-push.ensures.items ∙ append_assoc old (32 ∷ []) (quoted c.agent.result.now) ∙ ap (λ n. old ++ 32 ∷ quoted n) c.agent.ensures in
    next_piece (λ a. 32 ∷ quoted (agent_name c.args.names.now a)) c.args.agents.now c.loop-agent.agent-index old c.push_quoted.new.out.items _ c.loop-agent-test.true shown c.loop-agent.invariant

pub returns-in_err-push : goal.returns-in_err-push
returns-in_err-push c = rw (err_from_is_err_and c.from_residual.result c.from_residual.ensures.1).1 tt

pub returns-in_err-push_quoted : goal.returns-in_err-push_quoted
returns-in_err-push_quoted c = rw (err_from_is_err_and c.from_residual-in_err-push_quoted.result c.from_residual-in_err-push_quoted.ensures.1).1 tt
