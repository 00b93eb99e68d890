use Rattle.std.proofs.Common.{◌≡◌, ◌∙◌, ◌*◌, ◌^◌, ◌≤◌, ◌∷◌, ℕ, List, Result, Ok, Err, ap, sym, subst}
use Rattle.std.specs.Prelude.{Contains, IfOk, max}
use Rattle.maid_model.specs.Diagrams.{greatest_number}
use Rattle.maid_model.specs.Gains.{base_mass, greatest_utility}
use Rattle.maid_model.specs.Nodes.{IsDecision}
use Rattle.maid_model.specs.Parts.{part_diagram, place_in, rules_in, with_ancestors}
use Rattle.maid_model.specs.Profiles.{IsProfile}
use Rattle.maid_model.specs.Scopes.{goals_of, scope_of}
use Rattle.maid_model.specs.Views.{DiagramView, RuleView}
use Rattle.maid_laws.proofs.Members.{among_of}
use Rattle.part_laws.proofs.ScopeLaws.{targets_inside}
use Rattle.tree_checker.specs.Judged.{ListsSums}
use Rattle.tree_checker.specs.declared.decisions.RowSums.{RowSums}
use Rattle.tree_checker.proofs.ScopeParts.{decision_there}
use Rattle.tree_checker.proofs.decisions.scope_sums.Goals as goal

pub ruled_part-requires-clause-of : goal.ruled_part-requires-clause-of
ruled_part-requires-clause-of c v m =
    targets_inside c.args.diagram.now.nodes c.count-count.ensures.diagram.graph c.args.decision c.requires.decision v
    (among_of v (c.args.decision ∷ goals_of c.args.diagram.now.nodes c.args.decision) (subst (λ l. Contains l v) (c.deref.ensures.value ∙ c.in_ok-ends.ensures) m))

pub place_of-place-requires : goal.place_of-place-requires
place_of-place-requires c =
    subst (λ l. Contains l c.args.decision)
    (sym (c.deref-2.ensures.value ∙ c.in_ok-ruled.ensures.nodes ∙ ap (with_ancestors c.args.diagram.now.nodes) (c.deref.ensures.value ∙ c.in_ok-ends.ensures)))
    (c.scopes_are_parts.ensures.decisions c.args.diagram.now.nodes c.args.decision c.count-count.ensures.diagram.graph c.requires.decision).2

-- what sums over a diagram's worlds ask for
record CanSum (d : DiagramView) (p : List RuleView) (v : ℕ) : Type 0 where
  decision : IsDecision d.nodes v
  profile : IsProfile d.nodes p
  fits : base_mass d.nodes p v * max (10 ^ d.decimals) (greatest_utility d.nodes) ≤ greatest_number

can_sum : (d e : DiagramView) (p q : List RuleView) (v w : ℕ) → d ≡ e → p ≡ q → v ≡ w → CanSum e q w → CanSum d p v
can_sum d e p q v w a b c h = subst (λ d. CanSum d p v) (sym a) (subst (λ p. CanSum e p v) (sym b) (subst (λ v. CanSum e q v) (sym c) h))

lists : (d e : DiagramView) (p q : List RuleView) (v w : ℕ) → d ≡ e → p ≡ q → v ≡ w → (s : RowSums) → ListsSums d p v s.gains.items s.masses.items → ListsSums e q w s.gains.items s.masses.items
lists d e p q v w a b c s h = subst (λ d. ListsSums d q w s.gains.items s.masses.items) a (subst (λ p. ListsSums d p w s.gains.items s.masses.items) b (subst (λ v. ListsSums d p v s.gains.items s.masses.items) c h))

pub sums_over-requires : goal.sums_over-requires
sums_over-requires c =
    let d = c.args.diagram.now in
    let v = c.args.decision in
    let g = c.count-count.ensures.diagram.graph in
    let scope : with_ancestors d.nodes c.deref.result.now ≡ scope_of d.nodes v = ap (with_ancestors d.nodes) (c.deref.ensures.value ∙ c.in_ok-ends.ensures) in
    let fit = c.scoped_sums_fit.ensures.room d c.args.base.now g c.count-count.ensures.diagram.tables c.requires.base c.requires.bound in
    let can : CanSum (part_diagram d (scope_of d.nodes v)) (rules_in d.nodes c.args.base.now (scope_of d.nodes v)) (place_in (scope_of d.nodes v) v) = record {
      decision = decision_there d.nodes v g c.requires.decision c.parts_are_diagrams.ensures.nodes c.scopes_are_parts.ensures.decisions;
      profile = c.parts_are_diagrams.ensures.profiles d.nodes c.args.base.now (scope_of d.nodes v) c.requires.base (c.scopes_are_parts.ensures.decisions d.nodes v g c.requires.decision).0;
      fits = (fit.0 v c.requires.decision c.requires.rules).call;
    } in
    let here = can_sum c.in_ok-ruled.ruled.part.diagram (part_diagram d (scope_of d.nodes v)) c.in_ok-ruled.ruled.rules (rules_in d.nodes c.args.base.now (scope_of d.nodes v)) c.place_of-place.result (place_in (scope_of d.nodes v) v)
    (c.in_ok-ruled.ensures.diagram ∙ ap (part_diagram d) scope) (c.in_ok-ruled.ensures.rules ∙ ap (rules_in d.nodes c.args.base.now) scope) (c.place_of-place.ensures ∙ ap (λ l. place_in l v) (c.deref-2.ensures.value ∙ c.in_ok-ruled.ensures.nodes ∙ scope)) can in
    record { decision = here.decision; profile = here.profile; fits = here.fits }

pub returns : goal.returns
returns c =
    let d = c.args.diagram.now in
    let v = c.args.decision in
    let scope : with_ancestors d.nodes c.deref.result.now ≡ scope_of d.nodes v = ap (with_ancestors d.nodes) (c.deref.ensures.value ∙ c.in_ok-ends.ensures) in
    mapped c.sums_over.result (lists c.in_ok-ruled.ruled.part.diagram (part_diagram d (scope_of d.nodes v)) c.in_ok-ruled.ruled.rules (rules_in d.nodes c.args.base.now (scope_of d.nodes v)) c.place_of-place.result (place_in (scope_of d.nodes v) v)
    (c.in_ok-ruled.ensures.diagram ∙ ap (part_diagram d) scope) (c.in_ok-ruled.ensures.rules ∙ ap (rules_in d.nodes c.args.base.now) scope) (c.place_of-place.ensures ∙ ap (λ l. place_in l v) (c.deref-2.ensures.value ∙ c.in_ok-ruled.ensures.nodes ∙ scope))) c.sums_over.ensures
  where
    mapped : {E : Type 0} {P Q : RowSums → Type 0} (r : Result RowSums E) → ((s : RowSums) → P s → Q s) → IfOk r P → IfOk r Q
    mapped (Ok s) f h = f s h
    mapped (Err e) f h = tt
