use Rattle.std.proofs.Common.{◌∙◌, rules, refl, ap, [], ◌∷◌}
use Rattle.first_fault.specs.Outcomes.{refusals as refusals_of}
use Rattle.app_forms.specs.Lines.{leaves_line}
use Rattle.app_forms.specs.declared.status.Status.TheVariants.{TooLarge}
use Rattle.app_forms.specs.Check.{examining}
use Rattle.app_forms.specs.Reading.{TellsFor, TellsTextFault, TellsOf}
use Rattle.app_forms.specs.Stages.{weight_bound, too_many_leaves}
use Rattle.app_forms.specs.Tasks.{comes_of}
use Rattle.app_forms.proofs.Checks.{few_leaves, leaves_examined, many_leaves}
use Rattle.app_forms.proofs.Refusals.{if_err_then, refused_here, text_refused, told_gives}
use Rattle.app_forms.proofs.TellApart.{told_apart}
use Rattle.app_forms.proofs.forms.check.examine.Goals as goal

-- the text has a fault
pub returns-in_err-diagram-clause-err : goal.returns-in_err-diagram-clause-err
returns-in_err-diagram-clause-err c =
    let name = c.args.name.now in
    let bytes = c.args.bytes.now in
    if_err_then c.from_residual.result (TellsTextFault name bytes) (TellsOf (comes_of examining name bytes))
    (λ refusal. text_refused examining (weight_bound ∷ too_many_leaves ∷ []) name bytes refusal refl)
    (search rules)

-- its diagram passes the weight bound
pub returns-in_err-keep_bound-clause-err : goal.returns-in_err-keep_bound-clause-err
returns-in_err-keep_bound-clause-err c =
    let name = c.args.name.now in
    let bytes = c.args.bytes.now in
    let d = c.in_ok-diagram.diagram in
    let names = c.in_ok-diagram.names in
    if_err_then c.from_residual-in_err-keep_bound.result (TellsFor examining d names) (TellsOf (comes_of examining name bytes))
    (λ refusal. refused_here d names examining name bytes refusal c.in_ok-diagram.ensures.ok)
    (search rules)

-- or has too many leaves
pub returns-then-leaves-gt-MOST_LEAVES-clause-err : goal.returns-then-leaves-gt-MOST_LEAVES-clause-err
returns-then-leaves-gt-MOST_LEAVES-clause-err c =
    let name = c.args.name.now in
    let bytes = c.args.bytes.now in
    let d = c.in_ok-diagram.diagram in
    let names = c.in_ok-diagram.names in
    told_gives (refusals_of (comes_of examining name bytes)) TooLarge (leaves_line c.leaves-leaves.result) c.too_many_leaves.result c.told.result
    (λ told e. leaves_examined d names told name bytes c.in_ok-diagram.ensures.ok c.in_ok-keep_bound.ensures.ok (record { many = many_leaves _ c.leaves-leaves.result c.leaves-leaves.ensures c.if-leaves-gt-MOST_LEAVES.true; says = e ∙ ap leaves_line c.leaves-leaves.ensures }))
    c.too_many_leaves.ensures
    c.told.ensures

-- or it can be checked
pub returns-clause-ok : goal.returns-clause-ok
returns-clause-ok c = record {
  is = c.in_ok-diagram.ensures.ok;
  fit = c.in_ok-diagram.ensures.fit;
  told = told_apart c.in_ok-diagram.diagram c.in_ok-diagram.names c.in_ok-diagram.ensures.printable.form;
  can = record { bound = c.in_ok-keep_bound.ensures.ok; few = few_leaves _ c.leaves-leaves.result c.leaves-leaves.ensures c.if-leaves-gt-MOST_LEAVES.false };
}
