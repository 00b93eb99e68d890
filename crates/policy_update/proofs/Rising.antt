-- Steps in a round, and what they raise.
use Rattle.std.proofs.Common.{◌≡◌, ◌⊎◌, ◌∙◌, ℕ, ◌<◌, Bool, true, false, List, [], ◌∷◌, ◌++◌, length, refl, sym, subst, inl, inr, arith, ℤ, ◌<ℤ◌}
use Rattle.std.proofs.lemmas.Int.{ints}
use Rattle.maid_model.specs.Gains.{gain_of}
use Rattle.maid_model.specs.Nodes.{decisions_of}
use Rattle.maid_model.specs.Views.{NodeView, RuleView}
use Rattle.reach_laws.specs.Updates.{IsPass, IsReachedAfter, IsStep, Over, Raised, Start, Then}
use Rattle.policy_update.specs.Steps.{TellsChange}

-- one step more
pub pass_more : (nodes : List NodeView) {ds : List ℕ} {p q : List RuleView} (r : List RuleView) (d : ℕ) → IsPass nodes ds p q → IsStep nodes q d r → IsPass nodes (ds ++ d ∷ []) p r
pass_more nodes r d Over s = Then s Over
pass_more nodes r d (Then t rest) s = Then t (pass_more nodes r d rest s)

-- whether the profile changed so far: then the agent has gained
abbrev pub Rises : List NodeView → ℕ → Bool → List RuleView → List RuleView → Type 0
Rises nodes agent true p q = gain_of nodes p agent <ℤ gain_of nodes q agent
Rises nodes agent false p q = p ≡ q

-- a step stays, or its agent gains
pub rises_more : (nodes : List NodeView) (agent : ℕ) (raised changed both : Bool) (p q r : List RuleView) → (raised ≡ true → both ≡ true) → (raised ≡ false → both ≡ changed)
    → Rises nodes agent raised p q → TellsChange changed q r → (q ≡ r) ⊎ (gain_of nodes q agent <ℤ gain_of nodes r agent) → Rises nodes agent both p r
rises_more nodes agent true changed both p q r yes_then no_then h t c = subst (λ b. Rises nodes agent b p r) (sym (yes_then refl)) (go c)
  where
    longer : (a b c : ℤ) → a <ℤ b → b <ℤ c → a <ℤ c
    longer a b c h k = omega (arith, ints)

    go : (q ≡ r) ⊎ (gain_of nodes q agent <ℤ gain_of nodes r agent) → gain_of nodes p agent <ℤ gain_of nodes r agent
    go (inl e) = subst (λ z. gain_of nodes p agent <ℤ gain_of nodes z agent) e h
    go (inr m) = longer (gain_of nodes p agent) (gain_of nodes q agent) (gain_of nodes r agent) h m
rises_more nodes agent false true both p q r yes_then no_then h t c = subst (λ b. Rises nodes agent b p r) (sym (no_then refl)) (go c)
  where
    go : (q ≡ r) ⊎ (gain_of nodes q agent <ℤ gain_of nodes r agent) → gain_of nodes p agent <ℤ gain_of nodes r agent
    go (inl e) = absurd (t e)
    go (inr m) = subst (λ z. gain_of nodes z agent <ℤ gain_of nodes r agent) (sym h) m
rises_more nodes agent false false both p q r yes_then no_then h t c = subst (λ b. Rises nodes agent b p r) (sym (no_then refl)) (h ∙ t)

-- so it is told whether the profile changed
pub rises_tell : (nodes : List NodeView) (agent : ℕ) (raised : Bool) (p q : List RuleView) → Rises nodes agent raised p q → TellsChange raised p q
rises_tell nodes agent true p q h = λ e. clash (gain_of nodes p agent) (subst (λ z. gain_of nodes p agent <ℤ gain_of nodes z agent) (sym e) h)
  where
    clash : (a : ℤ) → a <ℤ a → ⊥
    clash a h = omega (arith, ints)
rises_tell nodes agent false p q h = h

-- where there is no decision, a round changes nothing
pass_none : (nodes : List NodeView) {ds : List ℕ} {p q : List RuleView} → IsPass nodes ds p q → ds ≡ [] → p ≡ q
pass_none nodes Over e = refl
pass_none nodes (Then s t) e = cc

-- so a round that raises has one
pub some_decision : (nodes : List NodeView) (rounds : ℕ) (p : List RuleView) → 0 < rounds → IsReachedAfter nodes rounds p → 0 < length (decisions_of nodes)
some_decision nodes rounds p l Start = absurd (omega arith)
some_decision nodes rounds q l (Raised {p = p} r round n) = go (decisions_of nodes) refl
  where
    go : (ds : List ℕ) → decisions_of nodes ≡ ds → 0 < length ds
    go [] e = absurd (n (pass_none nodes round e))
    go (d ∷ ds) e = omega arith
