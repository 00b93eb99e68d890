-- The masses as they were written.
use Rattle.std.proofs.Common.{◌≡◌, ◌∙◌, ℕ, List, replicate, length, sym, ap, subst, arith}
use Rattle.std.proofs.lemmas.List.{length-replicate}
use Rattle.rule_solver.specs.Sums.{HasMasses}
use Rattle.rule_solver.proofs.SumLemmas.{back_written}
use Rattle.rule_solver.proofs.decision_sums.Setting.masses.Goals as goal

pub returns-clause-masses : goal.returns-clause-masses
returns-clause-masses c =
    let d = c.args.self.now.diagram.now in
    let p = c.args.self.now.base.now in
    let before : length c.deref_mut.result.now ≡ length c.in_ok-masses.masses.items = ap (λ (xs : List ℕ). length xs) c.deref_mut.ensures.value in
    let same : length c.put_rows.new.masses ≡ length c.in_ok-masses.masses.items = c.put_rows.ensures.len ∙ before in
    let ok = c.in_ok-masses.masses.ok in
    let back = back_written c.in_ok-masses.masses.len c.put_rows.new.masses c.in_ok-masses.masses.items same (omega arith) in
    subst (HasMasses d p c.args.self.now.decision) (sym back) c.in_ok-put_rows.ensures.masses

pub put_rows-requires-clause-count : goal.put_rows-requires-clause-count
put_rows-requires-clause-count c =
    let made : c.in_ok-masses.masses.items ≡ replicate c.rows.result 0 = c.in_ok-masses.ensures.items_if_clones_equal (λ y e. e) in
    ap (λ (xs : List ℕ). length xs) (c.deref_mut.ensures.value ∙ made) ∙ length-replicate c.rows.result 0 ∙ c.rows.ensures
