-- Where the first line stands that shows nothing: the lines before it go on to a whole report, and
-- with it they go on to none.
use Rattle.std.proofs.Common.{◌≡◌, ℕ, zero, suc, ◌+◌, List, [], ◌∷◌, ◌++◌, take, inl, inr, refl, ap, subst, arith}
use Rattle.maid_model.specs.Views.{NodeView}
use Rattle.maid_model.specs.Names.{NamesView}
use Rattle.report_text.specs.Slots.{Slot, End, Shows, StopsIn}
use Rattle.report_text.proofs.ReportLines.{Follows}

-- so many lines stand at their places, and the next one does not
abbrev pub StopsAt : List NodeView → NamesView → List Slot → List (List ℕ) → ℕ → Type 0
StopsAt nodes names [] lines place = ⊥
StopsAt nodes names (s ∷ slots) [] zero = Shows nodes names s [] → ⊥
StopsAt nodes names (s ∷ slots) [] (suc place) = ⊥
StopsAt nodes names (s ∷ slots) (l ∷ lines) zero = Shows nodes names s l → ⊥
StopsAt nodes names (s ∷ slots) (l ∷ lines) (suc place) = Shows nodes names s l × StopsAt nodes names slots lines place

-- each place may be filled
abbrev pub CanFill : List NodeView → NamesView → List Slot → Type 0
CanFill nodes names [] = Unit {0}
CanFill nodes names (s ∷ slots) = ((line : List ℕ) × Shows nodes names s line) × CanFill nodes names slots

module _ (nodes : List NodeView) (names : NamesView) where
  pub record Counted (slots : List Slot) (lines : List (List ℕ)) (read number : ℕ) : Type 0 where
    pub place : ℕ
    pub is : number ≡ read + suc place
    pub stops : StopsAt nodes names slots lines place

  pub counted : (slots : List Slot) (lines : List (List ℕ)) (read number : ℕ) → StopsIn nodes names slots lines read number → Counted slots lines read number
  counted [] lines read number h = absurd h
  counted (s ∷ slots) [] read number h = record { place = 0; is = h.1; stops = h.0 }
  counted (s ∷ slots) (l ∷ lines) read number (inl h) = record { place = 0; is = h.1; stops = h.0 }
  counted (s ∷ slots) (l ∷ lines) read number (inr h) =
      let c = counted slots lines (read + 1) number h.1 in
      let n = c.is in
      record { place = suc c.place; is = omega arith; stops = (h.0, c.stops) }

  pub can_then : (slots others : List Slot) → CanFill nodes names slots → CanFill nodes names others → CanFill nodes names (slots ++ others)
  can_then [] others f g = g
  can_then (s ∷ slots) others f g = (f.0, can_then slots others f.1 g)

  pub record Filled (slots : List Slot) (lines : List (List ℕ)) (place : ℕ) : Type 0 where
    pub whole : List (List ℕ)
    pub follows : Follows nodes names slots whole
    pub same : take place lines ≡ take place whole

  pub filled : (slots : List Slot) → CanFill nodes names slots → (lines : List (List ℕ)) → Filled slots lines 0
  filled [] can lines = record { whole = []; follows = tt; same = none lines }
    where
      none : (lines : List (List ℕ)) → take 0 lines ≡ take 0 []
      none [] = refl
      none (l ∷ lines) = refl
  filled (s ∷ slots) can lines =
      let f = filled slots can.1 [] in
      record { whole = can.0.0 ∷ f.whole; follows = (can.0.1, f.follows); same = none lines (can.0.0 ∷ f.whole) }
    where
      none : (lines whole : List (List ℕ)) → take 0 lines ≡ take 0 whole
      none [] [] = refl
      none [] (w ∷ whole) = refl
      none (l ∷ lines) [] = refl
      none (l ∷ lines) (w ∷ whole) = refl

  -- the lines before it go on
  pub goes_on : (slots : List Slot) → CanFill nodes names slots → (lines : List (List ℕ)) (place : ℕ) → StopsAt nodes names (slots ++ End ∷ []) lines place → Filled slots lines place
  goes_on [] can lines zero h = filled [] can lines
  goes_on [] can [] (suc place) h = absurd h
  goes_on [] can (l ∷ lines) (suc place) h = absurd h.1
  goes_on (s ∷ slots) can lines zero h = filled (s ∷ slots) can lines
  goes_on (s ∷ slots) can [] (suc place) h = absurd h
  goes_on (s ∷ slots) can (l ∷ lines) (suc place) h =
      let f = goes_on slots can.1 lines place h.1 in
      record { whole = l ∷ f.whole; follows = (h.0, f.follows); same = ap (λ ls. l ∷ ls) f.same }

  -- with it they don't
  pub ends_there : (slots : List Slot) (whole lines : List (List ℕ)) (place : ℕ) → Follows nodes names slots whole → StopsAt nodes names (slots ++ End ∷ []) lines place → take (suc place) lines ≡ take (suc place) whole → ⊥
  ends_there [] [] [] zero f h e = h refl
  ends_there [] [] [] (suc place) f h e = h
  ends_there [] [] (l ∷ lines) zero f h e = absurd cc
  ends_there [] [] (l ∷ lines) (suc place) f h e = h.1
  ends_there [] (w ∷ whole) lines place f h e = f
  ends_there (s ∷ slots) [] lines place f h e = f
  ends_there (s ∷ slots) (w ∷ whole) [] zero f h e = absurd cc
  ends_there (s ∷ slots) (w ∷ whole) [] (suc place) f h e = h
  ends_there (s ∷ slots) (w ∷ whole) (l ∷ lines) zero f h e =
      let same : w ≡ l = cc in
      h (subst (λ x. Shows nodes names s x) same f.0)
  ends_there (s ∷ slots) (w ∷ whole) (l ∷ lines) (suc place) f h e =
      let tail : take (suc place) lines ≡ take (suc place) whole = cc in
      ends_there slots whole lines place f.1 h.1 tail
