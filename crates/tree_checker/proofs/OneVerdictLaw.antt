-- What a report can show has one verdict: a line has one row or agent, and a decision one base.
use Rattle.std.proofs.Common.{◌≡◌, ◌∙◌, ℕ, ◌^◌, ◌<◌, List, slice_index, length, refl, sym, ap, subst, arith}
use Rattle.std.proofs.Math.Decide.{ℕ_discrete, dec_lt}
use Rattle.maid_model.specs.Accepted.{IsAccepted, IsAcceptedAt, IsReliedFirst}
use Rattle.maid_model.specs.Answers.{FitsDiagram, IsBase, answered, answer_at, rows_at}
use Rattle.maid_model.specs.Gains.{gain_at, mass_at}
use Rattle.maid_model.specs.Nodes.{IsDecision, rows_of, states_of}
use Rattle.maid_model.specs.Relevance.{ReliesOn}
use Rattle.maid_model.specs.Tables.{weights_of, rule_total}
use Rattle.maid_model.specs.Views.{NodeView, RuleView, DiagramView, SolvedView}
use Rattle.maid_laws.proofs.Decided.{not_not_dec}
use Rattle.maid_laws.proofs.SameProfile.{same_profile}
use Rattle.maid_laws.proofs.OneAnswer.{list_dec}
use Rattle.tree_checker.specs.declared.verdicts.Cause.{Cause}
use Rattle.tree_checker.specs.declared.verdicts.Cause.TheVariants.{Order, Choice, Worth, Never, Gain}
use Rattle.tree_checker.specs.declared.verdicts.Verdict.TheVariants.{Accepted, Rejected}
use Rattle.tree_checker.specs.Laws.{OneVerdict}
use Rattle.tree_checker.specs.Verdicts.{FailsRow, FailsAtRow, FailsAtAgent, FailsInRows, FailsLine, line_of_answer, line_of_row, line_of_gain, no_gain}
use Rattle.tree_checker.proofs.LineLaws.{decided, row_before, row_before_gains}
use Rattle.tree_checker.proofs.RowClash.{row_clash, one_cause, passes_of}

stable : {A : Type 0} → Dec A → (¬ ¬ A) → A
stable (yes a) h = a
stable (no n) h = absurd (h n)

-- a decision has one base
pub one_base : (nodes : List NodeView) (d : ℕ) (s p q : List RuleView) → IsBase nodes s d p → IsBase nodes s d q → p ≡ q
one_base nodes d s p q a b = same_profile nodes p q a.profile b.profile rules
  where
    rule : (v : ℕ) → IsDecision nodes v → Dec (ReliesOn nodes d v) → (weights_of p v ≡ weights_of q v) × (rule_total p v ≡ rule_total q v)
    rule v k (yes r) = ((a.relied v r).weights ∙ sym (b.relied v r).weights, (a.relied v r).total ∙ sym (b.relied v r).total)
    rule v k (no n) = ((a.others v k n).weights ∙ sym (b.others v k n).weights, (a.others v k n).total ∙ sym (b.others v k n).total)

    rules : (v : ℕ) → IsDecision nodes v → (weights_of p v ≡ weights_of q v) × (rule_total p v ≡ rule_total q v)
    rules v k = (
      stable (list_dec (weights_of p v) (weights_of q v)) (λ n. not_not_dec (ReliesOn nodes d v) (λ r. n (rule v k r).0)),
      stable (ℕ_discrete (rule_total p v) (rule_total q v)) (λ n. not_not_dec (ReliesOn nodes d v) (λ r. n (rule v k r).1)),
    )

-- an accepted row doesn't fail
pub accepted_clash : (d : DiagramView) (solved : SolvedView) (v : ℕ) → IsAcceptedAt d.nodes d.decimals (answered d solved) v (rows_at solved.answers v) → (base : List RuleView) → IsBase d.nodes (answered d solved) v base
    → (row : ℕ) → row < rows_of d.nodes v → (cause : Cause) → FailsRow d.nodes d.decimals base v row (answer_at solved v row) cause → ⊥
accepted_clash d solved v a base is row l cause f =
    row_clash (λ s. gain_at d.nodes a.base v s row) (states_of d.nodes v) (mass_at d.nodes a.base v row) (10 ^ d.decimals) (answer_at solved v row) (passes_of d.nodes d.decimals a.base v row (answer_at solved v row) (a.each row l)) cause
    (subst (λ b. FailsRow d.nodes d.decimals b v row (answer_at solved v row) cause) (one_base d.nodes v (answered d solved) base a.base is a.is_base) f)

-- a line that fails is the second, a row's or an agent's
pub data Kinds (d : DiagramView) (solved : SolvedView) (line : ℕ) (cause : Cause) : Type 0 where
  AtOrder : cause ≡ Order → line ≡ 2 → (IsReliedFirst d.nodes solved.order → ⊥) → Kinds d solved line cause
  AtRow : FailsInRows d solved line cause → Kinds d solved line cause
  AtAgent : cause ≡ Gain → (agent : ℕ) → line ≡ line_of_gain solved agent → FailsAtAgent d solved agent → Kinds d solved line cause

pub kind_of : (d : DiagramView) (solved : SolvedView) (line : ℕ) (cause : Cause) → FailsLine d solved line cause → Kinds d solved line cause
kind_of d solved line Order f = AtOrder refl f.0 f.1
kind_of d solved line Choice f = AtRow f
kind_of d solved line Worth f = AtRow f
kind_of d solved line Never f = AtRow f
kind_of d solved line Gain f = AtAgent refl f.0 f.1 f.2

module _ (d : DiagramView) (solved : SolvedView) (f : FitsDiagram d solved) where
  -- rows of one line are one row, which fails for one cause
  same_row : (p q r s : ℕ) → p < length solved.order → q < length solved.order → r < rows_of d.nodes (slice_index solved.order p) → s < rows_of d.nodes (slice_index solved.order q)
      → line_of_row solved p r ≡ line_of_row solved q s → (p ≡ q) × (r ≡ s)
  same_row p q r s hp hq hr hs e = go (dec_lt p q) (dec_lt q p)
    where
      go : Dec (p < q) → Dec (q < p) → (p ≡ q) × (r ≡ s)
      go (yes l) b = absurd (let h = row_before d solved f p q r l hp hr in omega (arith, h))
      go (no m) (yes l) = absurd (let h = row_before d solved f q p s l hq hs in omega (arith, h))
      go (no m) (no n) = (places, rows)
        where
          places : p ≡ q
          places = omega arith

          rows : r ≡ s
          rows = let h : line_of_answer solved p ≡ line_of_answer solved q = ap (line_of_answer solved) places in omega (arith, h)

  rows_once : (line : ℕ) (one other : Cause) → FailsInRows d solved line one → FailsInRows d solved line other → one ≡ other
  rows_once line one other (p, r, e, x) (q, s, g, y) =
      let same = same_row p q r s x.place_within y.place_within x.row_within y.row_within (sym e ∙ g) in
      at p r x (subst (λ (p : ℕ). FailsAtRow d solved p r other) (sym same.0) (subst (λ (r : ℕ). FailsAtRow d solved q r other) (sym same.1) y))
    where
      at : (p r : ℕ) → FailsAtRow d solved p r one → FailsAtRow d solved p r other → one ≡ other
      at p r x y =
          let v = slice_index solved.order p in
          one_cause (λ s. gain_at d.nodes x.base v s r) (states_of d.nodes v) (mass_at d.nodes x.base v r) (10 ^ d.decimals) (answer_at solved v r) one other x.fails
          (subst (λ b. FailsRow d.nodes d.decimals b v r (answer_at solved v r) other) (one_base d.nodes v (answered d solved) y.base x.base y.is_base x.is_base) y.fails)

  kinds_once : (line : ℕ) (one other : Cause) → Kinds d solved line one → Kinds d solved line other → one ≡ other
  kinds_once line one other (AtOrder e l n) (AtOrder g m o) = e ∙ sym g
  kinds_once line one other (AtRow x) (AtRow y) = rows_once line one other x y
  kinds_once line one other (AtAgent e a l x) (AtAgent g b m y) = e ∙ sym g
  kinds_once line one other (AtOrder e l n) (AtRow (p, r, m, y)) = absurd (omega arith)
  kinds_once line one other (AtOrder e l n) (AtAgent g b m y) = absurd (omega arith)
  kinds_once line one other (AtRow (p, r, m, y)) (AtOrder e l n) = absurd (omega arith)
  kinds_once line one other (AtRow (p, r, m, x)) (AtAgent g b k y) = absurd (let h = row_before_gains d solved f p r b x.place_within x.row_within in omega (arith, h))
  kinds_once line one other (AtAgent g b m y) (AtOrder e l n) = absurd (omega arith)
  kinds_once line one other (AtAgent g b k y) (AtRow (p, r, m, x)) = absurd (let h = row_before_gains d solved f p r b x.place_within x.row_within in omega (arith, h))

  -- what is accepted has no line that fails
  none_fails : IsAccepted d solved → (line : ℕ) (cause : Cause) → Kinds d solved line cause → ⊥
  none_fails a line cause (AtOrder e l n) = n a.order
  none_fails a line cause (AtRow (p, r, m, x)) = accepted_clash d solved (slice_index solved.order p) (a.rows (slice_index solved.order p) (decided d solved f p x.place_within)) x.base x.is_base r x.row_within cause x.fails
  none_fails a line cause (AtAgent g b m y) = y.fails (a.gains.each b no_gain y.within)

pub one_law : OneVerdict
one_law d solved Accepted Accepted f a b = refl
one_law d solved Accepted (Rejected line cause) f a b = absurd (none_fails d solved f a line cause (kind_of d solved line cause b.fails))
one_law d solved (Rejected line cause) Accepted f a b = absurd (none_fails d solved f b line cause (kind_of d solved line cause a.fails))
one_law d solved (Rejected line cause) (Rejected other why) f a b =
    let same : line ≡ other = (let h = a.first other why b.fails in let k = b.first line cause a.fails in omega (arith, h, k)) in
    let causes : cause ≡ why = kinds_once d solved f line cause why (kind_of d solved line cause a.fails) (kind_of d solved line why (subst (λ n. FailsLine d solved n why) (sym same) b.fails)) in
    (λ i. Rejected (same i) (causes i))
