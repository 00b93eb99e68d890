-- Leaves that no list stands among are those of the value.
use Rattle.std.proofs.Common.{◌≡◌, ap, ◌∙◌}
use Rattle.net_parser.specs.Owned.{leaves}
use Rattle.net_build.proofs.LabelLemmas.{flat_leaves}
use Rattle.net_build.proofs.drafts.read_data.Goals as goal

pub read_leaves-requires-clause-numerals : goal.read_leaves-requires-clause-numerals
read_leaves-requires-clause-numerals c = flat_leaves _ c.in-Some.tokens.now c.in-Some.ensures.leaves ∙ ap leaves c.value.ensures

pub returns-in-Some-clause-draft : goal.returns-in-Some-clause-draft
returns-in-Some-clause-draft c =
    let same : c.in-Some.tokens.now ≡ leaves c.args.table.now.value = flat_leaves _ c.in-Some.tokens.now c.in-Some.ensures.leaves ∙ ap leaves c.value.ensures in
    rw same at c.read_leaves.ensures.draft
