-- The node's own head, parents and potential.
use Rattle.std.proofs.lemmas.List.{length-map}
use Rattle.std.specs.Global.{Vec}
use Rattle.std.proofs.Common.{◌≡◌, ◌<◌, ℕ, List, [], Option, true, IfSome, length, get_or, ap, sym, ◌∙◌, subst, arith}
use Rattle.std.specs.Option.{IsSome, option_map}
use Rattle.net_parser.specs.Owned.{IsBlockOf}
use Rattle.net_parser.specs.Trees.{BlockTree}
use Rattle.net_parser.specs.Grammar.{is_potential}
use Rattle.net_build.specs.declared.nodes.Head.{Head}
use Rattle.net_build.specs.Stages.{NodeLists, LinkLists}
use Rattle.net_build.proofs.DraftLemmas.{list_at, option_at, seen_some, seen_is_some}
use Rattle.net_build.proofs.RowLemmas.{parents_known, rows_counted, cells_small, draft_at, part_at, not_decision, its_states_at}
use Rattle.net_build.proofs.tables.read_node.Goals as goal

pub count_rows-rows-requires : goal.count_rows-rows-requires
count_rows-rows-requires c =
    let heads : c.deref.result.now ≡ c.args.nodes.now.heads = c.deref.ensures.value ∙ ap (λ (n : NodeLists). n.heads) c.nodes.view_is in
    let parents : c.deref-2.result.now ≡ get_or c.args.links.now.parents c.args.node [] = list_at c.links.inside.parents.items c.args.links.now.parents c.args.node c.index.result.now c.deref-2.result.now (ap (λ (l : LinkLists). l.parents) c.links.view_is) (omega (arith, c.requires.within, c.requires.read.parents_len)) c.index.ensures c.deref-2.ensures.value in
    subst (λ (hs : List Head). (k : ℕ) → (d : ℕ) → k < length c.deref-2.result.now → get_or c.deref-2.result.now k d < length hs) (sym heads) (parents_known c.args.text.now c.args.nodes.now.heads c.args.links.now c.requires.read c.args.node c.requires.within c.deref-2.result.now parents)

pub read_draft-requires-clause-own : goal.read_draft-requires-clause-own
read_draft-requires-clause-own c = seen_some (λ p. p.now) (λ p. IsBlockOf c.args.text.now p × (is_potential p.kind ≡ true)) c.index-3.result.now
    (subst (λ (o : Option BlockTree). IfSome o (λ p. IsBlockOf c.args.text.now p × (is_potential p.kind ≡ true))) (sym (option_at (λ p. p.now) c.links.inside.potentials.items c.args.links.now.potentials c.args.node c.index-3.result.now (ap (λ (l : LinkLists). l.potentials) c.links.view_is) (omega (arith, c.requires.within, c.requires.read.potentials_len)) c.index-3.ensures))
    (c.requires.read.own c.args.node c.requires.within))

pub read_draft-requires-clause-there : goal.read_draft-requires-clause-there
read_draft-requires-clause-there c = λ other. seen_is_some (λ p. p.now) c.index-3.result.now
    (subst IsSome (sym (option_at (λ p. p.now) c.links.inside.potentials.items c.args.links.now.potentials c.args.node c.index-3.result.now (ap (λ (l : LinkLists). l.potentials) c.links.view_is) (omega (arith, c.requires.within, c.requires.read.potentials_len)) c.index-3.ensures))
    (c.requires.read.there c.args.node c.requires.within (not_decision c.args.text.now c.args.nodes.now.heads c.args.links.now c.requires.read c.args.node c.requires.within c.index-2.result.now (c.index-2.ensures ∙ ap (λ (n : NodeLists). get_or n.heads c.args.node c.index-2.result.now) c.nodes.view_is) other)))

pub read_draft-requires-clause-small : goal.read_draft-requires-clause-small
read_draft-requires-clause-small c =
    let heads : c.deref.result.now ≡ c.args.nodes.now.heads = c.deref.ensures.value ∙ ap (λ (n : NodeLists). n.heads) c.nodes.view_is in
    let parents : c.deref-2.result.now ≡ get_or c.args.links.now.parents c.args.node [] = list_at c.links.inside.parents.items c.args.links.now.parents c.args.node c.index.result.now c.deref-2.result.now (ap (λ (l : LinkLists). l.parents) c.links.view_is) (omega (arith, c.requires.within, c.requires.read.parents_len)) c.index.ensures c.deref-2.ensures.value in
    cells_small c.args.text.now c.args.nodes.now.heads c.args.links.now c.requires.read c.args.node c.requires.within c.count_rows-rows.result c.deref-2.result.now c.index-2.result.now (rows_counted c.args.text.now c.args.nodes.now.heads c.args.links.now c.requires.read c.args.node c.requires.within c.count_rows-rows.result c.deref.result.now c.deref-2.result.now heads parents c.count_rows-rows.ensures) parents (c.index-2.ensures ∙ ap (λ (n : NodeLists). get_or n.heads c.args.node c.index-2.result.now) c.nodes.view_is)

pub returns-clause-rows : goal.returns-clause-rows
returns-clause-rows c =
    let heads : c.deref.result.now ≡ c.args.nodes.now.heads = c.deref.ensures.value ∙ ap (λ (n : NodeLists). n.heads) c.nodes.view_is in
    let parents : c.deref-2.result.now ≡ get_or c.args.links.now.parents c.args.node [] = list_at c.links.inside.parents.items c.args.links.now.parents c.args.node c.index.result.now c.deref-2.result.now (ap (λ (l : LinkLists). l.parents) c.links.view_is) (omega (arith, c.requires.within, c.requires.read.parents_len)) c.index.ensures c.deref-2.ensures.value in
    part_at c.args.text.now c.args.nodes.now.heads c.args.links.now c.requires.read c.args.node c.requires.within c.read_draft.result c.count_rows-rows.result c.deref-2.result.now c.index-2.result.now (option_map (λ p. p.now) c.index-3.result.now) (rows_counted c.args.text.now c.args.nodes.now.heads c.args.links.now c.requires.read c.args.node c.requires.within c.count_rows-rows.result c.deref.result.now c.deref-2.result.now heads parents c.count_rows-rows.ensures) parents (c.index-2.ensures ∙ ap (λ (n : NodeLists). get_or n.heads c.args.node c.index-2.result.now) c.nodes.view_is)
    (option_at (λ p. p.now) c.links.inside.potentials.items c.args.links.now.potentials c.args.node c.index-3.result.now (ap (λ (l : LinkLists). l.potentials) c.links.view_is) (omega (arith, c.requires.within, c.requires.read.potentials_len)) c.index-3.ensures)
    c.read_draft.ensures.rows

pub returns-clause-draft : goal.returns-clause-draft
returns-clause-draft c =
    let heads : c.deref.result.now ≡ c.args.nodes.now.heads = c.deref.ensures.value ∙ ap (λ (n : NodeLists). n.heads) c.nodes.view_is in
    let parents : c.deref-2.result.now ≡ get_or c.args.links.now.parents c.args.node [] = list_at c.links.inside.parents.items c.args.links.now.parents c.args.node c.index.result.now c.deref-2.result.now (ap (λ (l : LinkLists). l.parents) c.links.view_is) (omega (arith, c.requires.within, c.requires.read.parents_len)) c.index.ensures c.deref-2.ensures.value in
    draft_at c.args.text.now c.args.nodes.now.heads c.args.links.now c.requires.read c.args.node c.requires.within c.read_draft.result c.count_rows-rows.result c.deref-2.result.now c.index-2.result.now (option_map (λ p. p.now) c.index-3.result.now) (rows_counted c.args.text.now c.args.nodes.now.heads c.args.links.now c.requires.read c.args.node c.requires.within c.count_rows-rows.result c.deref.result.now c.deref-2.result.now heads parents c.count_rows-rows.ensures) parents (c.index-2.ensures ∙ ap (λ (n : NodeLists). get_or n.heads c.args.node c.index-2.result.now) c.nodes.view_is)
    (option_at (λ p. p.now) c.links.inside.potentials.items c.args.links.now.potentials c.args.node c.index-3.result.now (ap (λ (l : LinkLists). l.potentials) c.links.view_is) (omega (arith, c.requires.within, c.requires.read.potentials_len)) c.index-3.ensures)
    c.read_draft.ensures.draft

pub index-requires : goal.index-requires
index-requires c = omega (arith, c.requires.within, c.requires.read.parents_len, ap (λ (l : LinkLists). length l.parents) c.links.view_is, length-map c.links.inside.parents.items (λ (v : Vec ℕ). v.items), c.links.inside.parents.ok.0)

pub index-requires-2 : goal.index-requires-2
index-requires-2 c = omega (arith, c.requires.within, ap (λ (n : NodeLists). length n.heads) c.nodes.view_is, c.nodes.inside.heads.ok.0)

pub index-requires-3 : goal.index-requires-3
index-requires-3 c = omega (arith, c.requires.within, c.requires.read.potentials_len, ap (λ (l : LinkLists). length l.potentials) c.links.view_is, length-map c.links.inside.potentials.items (option_map (λ p. p.now)), c.links.inside.potentials.ok.0)

pub read_draft-requires-clause-states : goal.read_draft-requires-clause-states
read_draft-requires-clause-states c = its_states_at c.args.text.now c.args.nodes.now.heads c.args.links.now c.requires.read c.args.node c.requires.within c.index-2.result.now (c.index-2.ensures ∙ ap (λ (n : NodeLists). get_or n.heads c.args.node c.index-2.result.now) c.nodes.view_is)
