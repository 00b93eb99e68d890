use Rattle.std.proofs.Common.{◌∙◌, ◌++◌, subst, sym, ap}
use Rattle.app_lines.specs.Removed.{AreNamed, removed_lines}
use Rattle.net_print.specs.Printed.{printed}
use Rattle.app_forms.specs.Trim.{HasTrim}
use Rattle.app_forms.proofs.Refusals.{text_given}
use Rattle.app_forms.proofs.Trimmed.{trimmed_printable, removed_named, has_trim}
use Rattle.app_forms.proofs.forms.trim.answer.Goals as goal

-- the trimmed diagram can be printed as the whole one can
pub trimmed_text-requires-clause-fit : goal.trimmed_text-requires-clause-fit
trimmed_text-requires-clause-fit c =
    (trimmed_printable c.args.diagram.now c.in_ok-less.less.diagram c.in_ok-less.less.removed.items c.args.names.now c.in_ok-less.ensures c.requires).fit

-- the removed arcs lead from node to node
pub trimmed_text-requires-clause-named : goal.trimmed_text-requires-clause-named
trimmed_text-requires-clause-named c =
    subst (AreNamed c.args.names.now) (sym c.deref.ensures.value)
    (removed_named c.args.diagram.now.nodes c.in_ok-less.less.diagram.nodes c.in_ok-less.less.removed.items c.args.names.now c.requires.diagram.graph c.in_ok-less.ensures.trimmed c.requires.fit.nodes)

-- the text is that of the trimmed diagram
pub returns-clause-ok : goal.returns-clause-ok
returns-clause-ok c =
    let d = c.args.diagram.now in
    let names = c.args.names.now in
    let less = c.in_ok-less.less in
    let can = c.requires in
    text_given d names HasTrim c.in_ok-trimmed_text.field-0.items
    (has_trim c.commented_texts_read_back.ensures d less.diagram less.removed.items names c.in_ok-trimmed_text.field-0.items c.in_ok-less.ensures can
    (removed_named d.nodes less.diagram.nodes less.removed.items names can.diagram.graph c.in_ok-less.ensures.trimmed can.fit.nodes)
    (c.in_ok-trimmed_text.ensures ∙ ap (λ removed. removed_lines names removed ++ printed less.diagram names) c.deref.ensures.value))
