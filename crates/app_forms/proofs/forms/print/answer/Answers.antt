use Rattle.std.proofs.Common.{◌≡◌, ℕ, List, sym, subst}
use Rattle.maid_model.specs.Names.{NamesView}
use Rattle.maid_model.specs.Views.{DiagramView}
use Rattle.net_print.specs.Printed.{printed}
use Rattle.net_print.specs.RoundTrip.{ReadsBack}
use Rattle.app_forms.specs.Diagrams.{IsDiagramOf}
use Rattle.app_forms.specs.Print.{HasPrint}
use Rattle.app_forms.proofs.Refusals.{text_given}
use Rattle.app_forms.proofs.forms.print.answer.Goals as goal

-- what is printed stands for the diagram again
has_print : (d : DiagramView) (names : NamesView) (told : List ℕ) → told ≡ printed d names → ReadsBack d names → HasPrint d names told
has_print d names told is (tokens, tree, is_tokens, spells, clear, stands) = record {
  is = is;
  reads_back = subst (λ bytes. IsDiagramOf bytes d names) (sym is) (record { tree = tree; is_tree = record { tokens = tokens; is_tokens = is_tokens; spells = spells }; clear = clear; stands = stands });
}

-- the text is that of the diagram
pub returns-clause-ok : goal.returns-clause-ok
returns-clause-ok c =
    let d = c.args.diagram.now in
    let names = c.args.names.now in
    text_given d names HasPrint c.in_ok-print.field-0.items (has_print d names c.in_ok-print.field-0.items c.in_ok-print.ensures (c.printed_texts_read_back.ensures d names c.requires))
