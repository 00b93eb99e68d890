-- A name is tried against those seen, which are the names before it.
use borrow.Author.Count.{falls}
use Rattle.std.proofs.Common.{◌≡◌, ◌<◌, [], List, ℕ, get_or, map, length, Contains, ap, sym, subst, ◌∙◌, arith}
use Rattle.std.proofs.lemmas.List.{get_or-map, get_or_default, length-map}
use Rattle.std.specs.Global.{Vec}
use Rattle.maid_model.specs.Names.{list_of}
use Rattle.first_fault.specs.Answers.{IsFaultOrNoMemory}
use Rattle.first_fault.specs.Passes.{each_after}
use Rattle.net_build.specs.Blocks.{no_token}
use Rattle.net_build.specs.Passes.{build_fault}
use Rattle.net_build.specs.Table.{repeated_agent_row, seen_agent_row}
use Rattle.net_lexer.specs.Token.{text_value}
use Rattle.net_lexer.specs.declared.tokens.Token.{Token}
use Rattle.first_fault.proofs.HandedOn.{hands_on}
use Rattle.net_build.proofs.LinkLemmas.{behind_on, behind_refused, map_more, behind_end}
use Rattle.net_build.proofs.owner_names.see_agents.Goals as goal

-- the name at a place is the value of the string there
name_at : (text : List ℕ) (agents : List Token) (names : List (Vec ℕ)) (i : ℕ) (name : Vec ℕ) (agent : Token) → list_of names ≡ map (text_value text) agents → i < length agents → name ≡ get_or names i name → name.items ≡ text_value text (get_or agents i agent)
name_at text agents names i name agent are h is =
    let count : length names ≡ length agents = sym (length-map names (λ (v : Vec ℕ). v.items)) ∙ ap length are ∙ length-map agents (text_value text) in
    ap (λ (v : Vec ℕ). v.items) is ∙ sym (get_or-map (λ (v : Vec ℕ). v.items) names i name name.items (omega (arith, count))) ∙ ap (λ l. get_or l i name.items) are ∙ get_or-map (text_value text) agents i agent name.items h

pub returns-in_err-see_agent : goal.returns-in_err-see_agent
returns-in_err-see_agent c =
    let text = c.args.text.now in
    let agents = c.args.agents.now in
    let i = c.loop-place.place in
    let agent = get_or agents i no_token in
    let h = c.loop-place-test.true in
    let name = c.deref.ensures.value ∙ name_at text agents c.args.names.now i c.index-names-place.result no_token c.requires.names h c.index-names-place.is in
    hands_on build_fault (each_after (repeated_agent_row text) [] agents) _ _ c.from_residual.ensures
    (behind_refused (repeated_agent_row text) agents _ i agent _ h (get_or_default agents i no_token agent h) c.loop-place.invariant.lead
    (subst (λ s. IsFaultOrNoMemory build_fault (seen_agent_row s agent.start (text_value text agent)) c.in_err-see_agent.field-0.0) c.loop-place.invariant.seen
    (subst (λ n. IsFaultOrNoMemory build_fault (seen_agent_row c.loop-place.seen agent.start n) c.in_err-see_agent.field-0.0) name c.in_err-see_agent.ensures.row)))

pub loop-place-preserved : goal.loop-place-preserved
loop-place-preserved c =
    let text = c.args.text.now in
    let agents = c.args.agents.now in
    let i = c.loop-place.place in
    let agent = get_or agents i no_token in
    let h = c.loop-place-test.true in
    let at = get_or_default agents i no_token agent h in
    let name = c.deref.ensures.value ∙ name_at text agents c.args.names.now i c.index-names-place.result no_token c.requires.names h c.index-names-place.is in
    let lacks = subst (λ n. Contains c.loop-place.seen n → ⊥) name c.in_ok-see_agent.ensures.row in
    record {
      seen = map_more (text_value text) agents c.loop-place.seen _ i agent _ h at name c.loop-place.invariant.seen c.in_ok-see_agent.ensures.seen;
      lead = behind_on (repeated_agent_row text) agents _ i agent h at c.loop-place.invariant.lead (subst (λ s. Contains s (text_value text agent) → ⊥) c.loop-place.invariant.seen lacks);
    }

pub loop-place-init : goal.loop-place-init
loop-place-init c = record { seen = c.requires.none; lead = λ outcome h. h }

pub bounds-agents-place : goal.bounds-agents-place
bounds-agents-place c = c.loop-place-test.true

pub bounds-names-place : goal.bounds-names-place
bounds-names-place c =
    let count : length c.args.names.now ≡ length c.args.agents.now = sym (length-map c.args.names.now (λ (v : Vec ℕ). v.items)) ∙ ap length c.requires.names ∙ length-map c.args.agents.now (text_value c.args.text.now) in
    omega (arith, count, c.loop-place-test.true)

pub see_agent-requires : goal.see_agent-requires
see_agent-requires c = tt

pub loop-place-smaller : goal.loop-place-smaller
loop-place-smaller c = falls _ _ c.loop-place-test.true

pub returns : goal.returns
returns c = behind_end (repeated_agent_row c.args.text.now) c.args.agents.now _ c.loop-place.place c.loop-place-test.false c.loop-place.invariant.lead
