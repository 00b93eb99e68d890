-- A place behind the bytes is told as their end: the same bytes stand before it.
use Rattle.std.proofs.Common.{◌≡◌, ◌∙◌, ◌+◌, ◌++◌, ◌∷◌, ℕ, List, [], IfOk, append_assoc, ap, decimal, length, not, reverse, subst, take}
use Rattle.std.specs.List.{take_while}
use Rattle.std.specs.Prelude.{count_by}
use Rattle.std.proofs.lemmas.List.{take_min}
use Rattle.app_lines.specs.Places.{is_line_end}
use Rattle.maid_model.specs.Reports.{line}
use Rattle.app_forms.proofs.lines.fault.Goals as goal

-- eight pieces, one behind the other
one_line : (name row column words : List ℕ) → name ++ (58 ∷ (row ++ (58 ∷ (column ++ (58 ∷ 32 ∷ (words ++ 10 ∷ [])))))) ≡ line (name ++ 58 ∷ row ++ 58 ∷ column ++ 58 ∷ 32 ∷ words)
one_line name row column words = simp append_assoc

-- the line of a place behind these bytes
abbrev told_behind : List ℕ → List ℕ → List ℕ → List ℕ
told_behind name words front = line (name ++ 58 ∷ decimal (1 + count_by is_line_end front) ++ 58 ∷ decimal (1 + length (take_while (λ b. not (is_line_end b)) (reverse front))) ++ 58 ∷ 32 ∷ words)

pub returns : goal.returns
returns c =
    let name = c.args.name.now in
    let bytes = c.args.bytes.now in
    let words = c.args.words.now in
    subst (λ said. IfOk c.joined.result (λ text. text.items ≡ said))
    (one_line name (decimal c.place-line.result.0) (decimal c.place-line.result.1) words
    ∙ (λ i. line (name ++ 58 ∷ decimal (c.place-line.ensures.line i) ++ 58 ∷ decimal (c.place-line.ensures.column i) ++ 58 ∷ 32 ∷ words))
    ∙ ap (told_behind name words) (ap (λ n. take n bytes) c.min.ensures ∙ take_min c.args.at bytes))
    c.joined.ensures
