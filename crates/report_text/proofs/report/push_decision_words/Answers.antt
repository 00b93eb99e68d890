-- A decision's agent is one of the diagram's.
use Rattle.std.proofs.Common.{◌≡◌, List, ℕ, [], ◌++◌, length, map, refl, sym, ap, ◌∙◌, append_assoc, arith}
use Rattle.std.specs.Prelude.{codes}
use Rattle.std.proofs.lemmas.Result.{err_from_is_err_and, on_ok_weaker}
use Rattle.maid_model.specs.declared.diagrams.Kind.TheVariants.{Chance, Decision}
use Rattle.maid_model.specs.Names.{agent_name, name_of}
use Rattle.maid_model.specs.Reports.{quoted, spaced}
use Rattle.report_text.proofs.report.push_decision_words.Goals as goal

-- five pieces, and what is appended then
five_and : (old mid new a b c d e rest : List ℕ) → mid ≡ old ++ (a ++ (b ++ (c ++ (d ++ (e ++ []))))) → new ≡ mid ++ rest → new ≡ old ++ (((((a ++ b) ++ c) ++ d) ++ e) ++ rest)
five_and old mid new a b c d e rest pieces then = then ∙ ap (λ l. l ++ rest) pieces ∙ simp append_assoc refl

pub name-requires : goal.name-requires
name-requires c = omega (arith, c.requires.decision.within, c.requires.fit.nodes)

pub agent_of-requires : goal.agent_of-requires
agent_of-requires c = c.requires.decision.within

pub agent-requires : goal.agent-requires
agent-requires c =
    let is = c.requires.decision in
    let known = c.agent_of.ensures.diagram.owners.agent c.args.decision _ is.within (λ chance. let clash : Decision ≡ Chance = sym is.kind ∙ chance in cc) (0, omega arith, refl) in
    let few : length c.args.names.now.agents ≡ c.args.diagram.now.agents = c.requires.fit.agents in
    omega (arith, known, few, c.agent_of.ensures.agent)

pub returns-in_err-push_pieces : goal.returns-in_err-push_pieces
returns-in_err-push_pieces c = rw (err_from_is_err_and c.from_residual.result c.from_residual.ensures.1).1 tt

pub parents_of-requires : goal.parents_of-requires
parents_of-requires c = c.requires.decision.within

pub push_names-requires : goal.push_names-requires
push_names-requires c k d h = omega (arith, (c.parents_of.ensures.known k d h).0, c.requires.fit.nodes)

pub returns : goal.returns
returns c =
    let names = c.args.names.now in
    let agent = c.agent.ensures ∙ ap (agent_name names) c.agent_of.ensures.agent in
    on_ok_weaker c.push_names.result
    (λ appended. five_and c.args.out.now.items c.push_pieces.new.out.items c.push_names.new.out.items (codes "decision ") c.name.result.now (codes " by ") (quoted c.agent.result.now) (codes " sees") (spaced (map (name_of names) c.parents_of.result.now)) c.in_ok-push_pieces.ensures appended
    ∙ (λ i. c.args.out.now.items ++ (((((codes "decision " ++ c.name.ensures i) ++ codes " by ") ++ quoted (agent i)) ++ codes " sees") ++ spaced (map (name_of names) (c.parents_of.ensures.parents i)))))
    c.push_names.ensures
