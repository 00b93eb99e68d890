-- The laws of reports.
use Rattle.std.proofs.Common.{◌≡◌, ◌⊎◌, ℕ, ◌-◌, ◌<◌, ◌≤◌, List, take, take-take, inl, inr, sym, ◌∙◌, ap, subst, arith}
use Rattle.std.proofs.lemmas.Bool.{cases_order}
use Rattle.maid_model.specs.Views.{DiagramView}
use Rattle.maid_model.specs.Names.{NamesView}
use Rattle.maid_model.specs.Reports.{report}
use Rattle.report_text.specs.Reading.{BeginsReport, CanStand, lines_of}
use Rattle.report_text.specs.Laws.{OneValue, ReportReadsBack, Exclusive, OneBadLine}
use Rattle.report_text.proofs.OneText.{value_one}

pub one_value : OneValue
one_value d names text solved other is p q = value_one d names is solved other p.value q.value (sym p.is ∙ q.is)

pub reads_back : ReportReadsBack
reads_back d names solved other is stands =
    (λ q. value_one d names is other solved q.value stands (sym q.is), λ e. record { value = subst (CanStand d) (sym e) stands; is = ap (report d names) (sym e) })

pub exclusive : Exclusive
exclusive d names text number (solved, is) bad = bad.none (solved, is.value, ap (λ t. take number (lines_of t)) is.is)

-- lines that begin a report, and so do fewer
fewer_lines : (xs ys : List (List ℕ)) (m n : ℕ) → m ≤ n → take n xs ≡ take n ys → take m xs ≡ take m ys
fewer_lines xs ys m n h e = sym (shorter xs) ∙ ap (take m) e ∙ shorter ys
  where
    shorter : (zs : List (List ℕ)) → take m (take n zs) ≡ take m zs
    shorter zs = take-take m n zs h

begins_fewer : (d : DiagramView) (names : NamesView) (text : List ℕ) (m n : ℕ) → m ≤ n → BeginsReport d names text n → BeginsReport d names text m
begins_fewer d names text m n h (solved, stands, e) = (solved, stands, fewer_lines (lines_of text) (lines_of (report d names solved)) m n h e)

pub one_bad_line : OneBadLine
one_bad_line d names text m n p q = by_order (cases_order m n)
  where
    by_order : (m ≡ n) ⊎ ((m < n) ⊎ (n < m)) → m ≡ n
    by_order (inl e) = e
    by_order (inr (inl h)) = absurd (p.none (begins_fewer d names text m (n - 1) (omega arith) q.before))
    by_order (inr (inr h)) = absurd (q.none (begins_fewer d names text n (m - 1) (omega arith) p.before))
