use Rattle.std.proofs.Common.{IfOk, ◌≡◌, ◌∙◌, List, ℕ, ◌++◌, ◌∷◌, [], codes, decimal, subst, append_assoc}
use Rattle.maid_model.specs.Reports.{line, quoted, ratio_text}
use Rattle.app_forms.proofs.forms.moved.threshold_text.Goals as goal

-- eleven pieces and the line's end, one behind the other
one_line : (name row number colon label is now from low to high : List ℕ) → name ++ (row ++ (number ++ (colon ++ (label ++ (is ++ (now ++ (from ++ (low ++ (to ++ (high ++ 10 ∷ [])))))))))) ≡ line (name ++ row ++ number ++ colon ++ label ++ is ++ now ++ from ++ low ++ to ++ high)
one_line name row number colon label is now from low to high = simp append_assoc

pub returns : goal.returns
returns c =
    let interval = c.args.interval.now in
    let row = decimal c.args.row in
    let now = ratio_text interval.now in
    let low = ratio_text interval.low in
    let high = ratio_text interval.high in
    subst (λ said. IfOk c.joined.result (λ text. text.items ≡ line (codes "maidsolve threshold 1") ++ said))
    (one_line c.name.result.now (codes " row ") row (codes ": ") (quoted c.label.result.now) (codes " = ") now (codes " from ") low (codes " to ") high
    ∙ (λ i. line (c.name.ensures i ++ codes " row " ++ row ++ codes ": " ++ quoted (c.label.ensures i) ++ codes " = " ++ now ++ codes " from " ++ low ++ codes " to " ++ high)))
    c.joined.ensures
