use Rattle.std.proofs.Common.{rules, ◌≡◌, ◌∙◌, ◌<◌, true, inl, sym, subst, ap, arith}
use Rattle.std.specs.Prelude.{Ok}
use Rattle.maid_model.specs.Diagrams.{IsDiagram}
use Rattle.maid_model.specs.Nodes.{IsDecision}
use Rattle.maid_model.specs.Relevance.{IsRequisite}
use Rattle.maid_model.specs.Subgames.{OwnsAll}
use Rattle.maid_model.specs.Values.{IsDifferenceOfOptima}
use Rattle.maid_model.specs.Views.{DiagramView}
use Rattle.optimum_gap.specs.Baselines.{HaveNearScopes}
use Rattle.optimum_gap.specs.Found.{IsLoss, Worthless, reason_pass, unless}
use Rattle.size_precheck.specs.Kept.{DifferAt}
use Rattle.info_value.specs.Finding.{missing}
use Rattle.info_value.proofs.Added.{behind, differ_without, owns_without}
use Rattle.info_value.proofs.finding.find_seen.Goals as goal

pub remove_arc_in-requires : goal.remove_arc_in-requires
remove_arc_in-requires c = subst (λ (e : DiagramView). IsDecision e.nodes c.args.to) (sym c.in_ok-less.ensures.copy) c.requires.decision

pub loss-requires-clause-alone : goal.loss-requires-clause-alone
loss-requires-clause-alone c =
    let d = c.args.baseline.now.diagram.now in
    let is = c.in_ok-seeing.ensures.less.0 ∙ ap (λ (e : DiagramView). missing e c.args.from c.args.to) c.in_ok-less.ensures.copy in
    subst (λ (e : DiagramView). OwnsAll e.nodes c.args.baseline.now.agent) (sym is) (owns_without d.nodes c.args.from c.args.to c.args.baseline.now.agent c.requires.decision c.requires.baseline.is_optimum.alone)

pub loss-requires-clause-within : goal.loss-requires-clause-within
loss-requires-clause-within c =
    let is = c.in_ok-seeing.ensures.less.0 ∙ ap (λ (e : DiagramView). missing e c.args.from c.args.to) c.in_ok-less.ensures.copy in
    subst (λ (e : DiagramView). c.args.baseline.now.agent < e.agents) (sym is) c.requires.baseline.within

pub loss-requires-clause-near : goal.loss-requires-clause-near
loss-requires-clause-near c =
    let d = c.args.baseline.now.diagram.now in
    let whole = c.count-count.ensures.diagram in
    let is = c.in_ok-seeing.ensures.less.0 ∙ ap (λ (e : DiagramView). missing e c.args.from c.args.to) c.in_ok-less.ensures.copy in
    subst (λ (e : DiagramView). HaveNearScopes d e c.args.baseline.now.agent) (sym is) (inl (c.edits_keep_scopes.ensures.without d c.args.from c.args.to c.args.baseline.now.agent whole.graph whole.tables c.requires.decision))

-- the arc is requisite, and the rest is the solver's
pub returns-clause-found : goal.returns-clause-found
returns-clause-found c =
    let d = c.args.baseline.now.diagram.now in
    let agent = c.args.baseline.now.agent in
    let less = missing d c.args.from c.args.to in
    let holds : c.args.needed ≡ true = search rules in
    let is = c.in_ok-seeing.ensures.less.0 ∙ ap (λ (e : DiagramView). missing e c.args.from c.args.to) c.in_ok-less.ensures.copy in
    behind (unless (IsRequisite d.nodes c.args.to c.args.from) Worthless) (reason_pass less) (IsDifferenceOfOptima d.nodes less.nodes d.decimals agent) (Ok c.in_ok-found.found) (c.requires.needed.0 holds)
    (subst (λ e. IsLoss d e agent c.in_ok-found.found) is c.in_ok-found.ensures.loss)

-- ---- the decision is put back
pub exchange-requires-clause-diagram : goal.exchange-requires-clause-diagram
exchange-requires-clause-diagram c = subst IsDiagram (sym (c.in_ok-seeing.ensures.back.again ∙ c.in_ok-less.ensures.copy)) c.count-count.ensures.diagram

pub returns-clause-shared : goal.returns-clause-shared
returns-clause-shared c = record {
  copy = c.exchange.ensures.diagram ∙ c.in_ok-seeing.ensures.back.again ∙ c.in_ok-less.ensures.copy;
  worths = c.in_ok-kept.ensures.shared.worths;
  left = c.in_ok-found.ensures.left;
}

-- ---- what the lines share
pub keep-requires-clause-changed : goal.keep-requires-clause-changed
keep-requires-clause-changed c = let l = c.requires.decision.within in let m = c.count-count.ensures.diagram.limits.nodes in omega (arith, l, m)

pub keep-requires-clause-edited : goal.keep-requires-clause-edited
keep-requires-clause-edited c =
    let d = c.args.baseline.now.diagram.now in
    let is = c.in_ok-seeing.ensures.less.0 ∙ ap (λ (e : DiagramView). missing e c.args.from c.args.to) c.in_ok-less.ensures.copy in
    subst (λ (e : DiagramView). DifferAt d.nodes e.nodes c.args.to) (sym is) (differ_without d.nodes c.args.from c.args.to c.requires.decision)
