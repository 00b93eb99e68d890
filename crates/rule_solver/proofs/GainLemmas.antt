-- What a profile is worth to one agent after another.
use Rattle.std.proofs.Common.{◌≡◌, ◌∙◌, ℕ, ◌+◌, ◌*◌, ◌^◌, ◌<◌, List, [], ◌∷◌, ◌++◌, length, get_or, sym, ap, subst, arith, length-append}
use Rattle.std.proofs.lemmas.List.{get_or_append_left}
use Rattle.std.proofs.lemmas.List.Elements.{All-push}
use Rattle.std.proofs.Math.Decide.{ℕ_discrete}
use Rattle.std.proofs.Math.Seq.{get_or-append_seam}
use Rattle.maid_model.specs.declared.answers.Ratio.{Ratio}
use Rattle.maid_model.specs.Answers.{IsFraction, IsReduced}
use Rattle.maid_model.specs.Gains.{gain_of, mass}
use Rattle.maid_model.specs.Views.{DiagramView, RuleView}
use Rattle.rule_solver.specs.Masses.{HasGains}

-- one more agent
pub gains-push : (d : DiagramView) (p : List RuleView) (n : ℕ) (gains : List Ratio) (r : Ratio) → HasGains d p n gains → IsFraction r (gain_of d.nodes p n) (mass d.nodes p * 10 ^ d.decimals) → HasGains d p (n + 1) (gains ++ r ∷ [])
gains-push d p n gains r g is = record {
  count = length-append gains (r ∷ []) ∙ ap (λ k. k + 1) g.count;
  each = λ agent e h. go agent e h (ℕ_discrete agent n);
  reduced = All-push IsReduced gains r g.reduced is.reduced;
}
  where
    smaller : (a : ℕ) → a < n + 1 → (a ≡ n → ⊥) → a < n
    smaller a h m = omega arith

    go : (agent : ℕ) (e : Ratio) → agent < n + 1 → Dec (agent ≡ n) → IsFraction (get_or (gains ++ r ∷ []) agent e) (gain_of d.nodes p agent) (mass d.nodes p * 10 ^ d.decimals)
    go agent e h (yes k) = subst (λ a. IsFraction (get_or (gains ++ r ∷ []) a e) (gain_of d.nodes p a) (mass d.nodes p * 10 ^ d.decimals)) (sym k) (subst (λ x. IsFraction x (gain_of d.nodes p n) (mass d.nodes p * 10 ^ d.decimals)) (sym last) is)
      where
        last : get_or (gains ++ r ∷ []) n e ≡ r
        last = subst (λ i. get_or (gains ++ r ∷ []) i e ≡ r) g.count (get_or-append_seam gains r [] e)
    go agent e h (no m) =
        let inside : agent < length gains = subst (λ k. agent < k) (sym g.count) (smaller agent h m) in
        subst (λ x. IsFraction x (gain_of d.nodes p agent) (mass d.nodes p * 10 ^ d.decimals)) (sym (get_or_append_left gains (r ∷ []) e agent inside)) (g.each agent e (smaller agent h m))
