use Rattle.std.proofs.Common.{◌≡◌, ◌∙◌, ℕ, ◌+◌, ◌*◌, ◌/◌, ◌%◌, ◌^◌, ◌<◌, ◌≤◌, get_or, ap, subst, rules, arith, ◌⊎◌, inl, inr}
use Rattle.std.specs.Int.{w64, bit_at, trailing_zeros}
use Rattle.std.proofs.lemmas.Nat.Bits.{bit_at-trailing_zeros}
use Rattle.node_sets.proofs.Scanning.{NoneBetween, first_found, next_word, whole_word, none_past}
use Rattle.node_sets.proofs.sets.NodeSet.first_from.Goals as goal

pub returns-then-first-eq4 : goal.returns-then-first-eq4
returns-then-first-eq4 c v from m = none_past c.args.self.now (search rules) v (omega (arith, c.if-first-eq4.true)) m

pub returns-then-rest-ne0 : goal.returns-then-rest-ne0
returns-then-rest-ne0 c =
    let words = c.args.self.now.words in
    let from = c.args.from in
    let fits : get_or words (from / 64) 0 < 2 ^ 64 = search rules in
    let some : 0 < get_or words (from / 64) 0 / 2 ^ (from % 64) = omega (arith, c.if-rest-ne0.true) in
    let small : get_or words (from / 64) 0 / 2 ^ (from % 64) < 2 ^ 64 = search rules in
    let low = bit_at-trailing_zeros w64 _ some small in
    let within : from < 256 = omega (arith, c.requires, c.if-first-eq4.false) in
    first_found words from fits from _ (omega arith) within (λ w l m _. absurd (omega arith)) low.1 low.2

pub loop-i-init : goal.loop-i-init
loop-i-init c = record {
  on = omega arith;
  none = next_word c.args.self.now.words c.args.from c.args.from (search rules) (λ w l m _. absurd (omega arith)) c.if-rest-ne0.false;
}

pub returns-then-self-i-ne0 : goal.returns-then-self-i-ne0
returns-then-self-i-ne0 c =
    let words = c.args.self.now.words in
    let i = c.loop-i.i in
    let fits : get_or words ((64 * i) / 64) 0 < 2 ^ 64 = search rules in
    let some : 0 < get_or words i 0 = omega (arith, c.if-self-i-ne0.true) in
    let small : get_or words i 0 < 2 ^ 64 = search rules in
    let low = bit_at-trailing_zeros w64 (get_or words i 0) some small in
    let on : c.args.from ≤ 64 * i = let a = c.loop-i.invariant.on in omega arith in
    let within : 64 * i < 256 = let a = c.loop-i-test.true in omega arith in
    first_found words (64 * i) fits c.args.from _ on within c.loop-i.invariant.none
    (ap (λ (n : ℕ). bit_at n (trailing_zeros w64 (get_or words i 0))) (whole_word words i) ∙ low.1) (λ k l. ap (λ (n : ℕ). bit_at n k) (whole_word words i) ∙ low.2 k l)

pub loop-i-preserved : goal.loop-i-preserved
loop-i-preserved c =
    let words = c.args.self.now.words in
    let i = c.loop-i.i in
    let fits : get_or words ((64 * i) / 64) 0 < 2 ^ 64 = search rules in
    let at : (64 * i) / 64 ≡ i = omega arith in
    record {
      on = let a = c.loop-i.invariant.on in omega arith;
      none = subst (λ (n : ℕ). NoneBetween c.args.self.now c.args.from (64 * (n + 1))) at (next_word words (64 * i) c.args.from fits c.loop-i.invariant.none (whole_word words i ∙ c.if-self-i-ne0.false));
    }

pub returns : goal.returns
returns c v from m =
    elim (before_or_from v (64 * c.loop-i.i)) as (λ _. ⊥) [
      | inl f ↦ c.loop-i.invariant.none v from f m
      | inr f ↦ let a = c.loop-i-test.false in none_past c.args.self.now (search rules) v (omega arith) m
    ]
  where
    before_or_from : (w p : ℕ) → (w < p) ⊎ (p ≤ w)
    before_or_from w p = grind arith
