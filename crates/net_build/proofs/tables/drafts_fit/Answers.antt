-- All drafts fit where each does.
use Rattle.std.proofs.Common.{◌≡◌, ◌⊎◌, inl, inr, ℕ, ◌+◌, ◌<◌, List, length, get_or, refl, sym, subst, ◌∙◌, arith}
use Rattle.std.proofs.lemmas.Bool.{false≢true}
use Rattle.std.proofs.lemmas.List.{get_or_default}
use Rattle.net_build.specs.declared.drafts.Draft.{Draft}
use Rattle.net_build.specs.TableParts.{FitsDraft}
use Rattle.net_build.proofs.tables.drafts_fit.Goals as goal

-- the drafts before a place, and the one there
next_fits : (scale : ℕ) (drafts : List Draft) (i : ℕ) (draft : Draft) → draft ≡ get_or drafts i draft → i < length drafts → ((k : ℕ) (d : Draft) → k < i → FitsDraft scale (get_or drafts k d)) → FitsDraft scale draft → (k : ℕ) (d : Draft) → k < i + 1 → FitsDraft scale (get_or drafts k d)
next_fits scale drafts i draft is within so its k d near = by_place (split k i near) where
  split : (a b : ℕ) → a < b + 1 → (a < b) ⊎ (a ≡ b)
  split a b l = grind arith

  by_place : (k < i) ⊎ (k ≡ i) → FitsDraft scale (get_or drafts k d)
  by_place (inl l) = so k d l
  by_place (inr at) = subst (λ n. FitsDraft scale (get_or drafts n d)) (sym at) (subst (FitsDraft scale) (is ∙ get_or_default drafts i draft d within) its)

pub returns-then-not-draft_fits : goal.returns-then-not-draft_fits
returns-then-not-draft_fits c = (
  (λ t. absurd (false≢true t)),
  λ all. sym c.if-not-draft_fits.true
      ∙ c.draft_fits.ensures.1 (subst (FitsDraft c.args.scale) (sym c.draft-item.is) (all c.loop-draft.draft-index c.draft-item.result c.loop-draft-test.true)),
)

pub loop-draft-preserved : goal.loop-draft-preserved
loop-draft-preserved c = next_fits c.args.scale c.args.drafts.now c.loop-draft.draft-index c.draft-item.result c.draft-item.is c.loop-draft-test.true c.loop-draft.invariant (c.draft_fits.ensures.0 c.if-not-draft_fits.false)

pub returns : goal.returns
returns c = ((λ t k d h. c.loop-draft.invariant k d (omega (arith, h, c.loop-draft-test.false))), λ all. refl)
