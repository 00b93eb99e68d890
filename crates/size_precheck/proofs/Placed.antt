-- What is known of the nodes that wait, each at a place of its own, as what is known of one
-- changes.
use Rattle.std.proofs.Common.{◌≡◌, ◌∙◌, ◌⊎◌, ℕ, ◌+◌, ◌<◌, ◌∷◌, [], List, length, set, length-set, refl, sym, ap, subst, inl, inr, arith}
use Rattle.std.specs.Prelude.{slice_index_or}
use Rattle.std.proofs.lemmas.List.{get_or-set_same, get_or-set_other, get_or_append_left, get_or_at, length_push}
use Rattle.node_sets.specs.Sets.{IsIn, IsFirstFrom}
use Rattle.node_sets.specs.declared.sets.NodeSet.{NodeSet}
use Rattle.size_precheck.specs.declared.joints.Counted.{Counted}
use Rattle.size_precheck.specs.declared.joints.Known.{Known}
use Rattle.size_precheck.specs.Joints.{counted_in, no_counted, place_of, HasPlace, HasPlaces, KeepsOthers, KeepsPlaces, TakesPlace}

-- ---- places
pub keeps_both : (a b c : Known) → KeepsPlaces a b → KeepsPlaces b c → KeepsPlaces a c
keeps_both a b c first then = record { places = then.places ∙ first.places; len = then.len ∙ first.len }

pub placed_less : (P Q : ℕ → Type 0) (known : Known) → ((y : ℕ) → Q y → P y) → HasPlaces P known → HasPlaces Q known
placed_less P Q known less h = record {
  each = λ y q. h.each y (less y q);
  own = λ x y p q. h.own x y (less x p) (less y q);
}

module _ (before after : Known) (keeps : KeepsPlaces before after) where
  pub same_place : (y : ℕ) → place_of after y ≡ place_of before y
  same_place y = ap (λ (ps : List ℕ). slice_index_or ps y 0) keeps.places

  pub placed_still : (Waits : ℕ → Type 0) → HasPlaces Waits before → HasPlaces Waits after
  placed_still Waits h = record {
    each = λ y w.
        let l = h.each y w in
        let e = same_place y in
        let n = ap (λ (ps : List ℕ). length ps) keeps.places in
        (omega (arith, l.0, n), omega (arith, l.1, e, keeps.len));
    own = λ x y p q e. h.own x y p q (sym (same_place x) ∙ e ∙ same_place y);
  }

-- ---- what is known
-- of the others that wait it is as it was
pub others_kept : (Waits : ℕ → Type 0) (changed : NodeSet) (before after : Known) → HasPlaces Waits before → ((y : ℕ) → IsIn changed y → Waits y) → KeepsOthers (IsIn changed) before after
    → (x : ℕ) → Waits x → (IsIn changed x → ⊥) → counted_in after x ≡ counted_in before x
others_kept Waits changed before after h inside kept x w n = kept x (λ y m e. n (subst (IsIn changed) (sym (h.own x y w (inside y m) e)) m))

-- what is held at y's place becomes this
pub record ChangesAt (y : ℕ) (held : Counted) (before after : Known) : Type 0 where
  pub within : place_of before y < length before.held.items
  pub places : after.places.items ≡ before.places.items
  pub items : after.held.items ≡ set before.held.items (place_of before y) held

module _ (y : ℕ) (held : Counted) (before after : Known) (changes : ChangesAt y held before after) where
  pub change_keeps : KeepsPlaces before after
  change_keeps = record {
    places = changes.places;
    len = ap (λ (hs : List Counted). length hs) changes.items ∙ length-set before.held.items (place_of before y) held;
  }

  at_place : (x : ℕ) → counted_in after x ≡ slice_index_or (set before.held.items (place_of before y) held) (place_of before x) no_counted
  at_place x = ap (λ (hs : List Counted). slice_index_or hs (place_of after x) no_counted) changes.items
      ∙ ap (λ (p : ℕ). slice_index_or (set before.held.items (place_of before y) held) p no_counted) (same_place before after change_keeps x)

  pub change_here : counted_in after y ≡ held
  change_here = at_place y ∙ get_or-set_same before.held.items (place_of before y) held no_counted changes.within

  pub change_others : (x : ℕ) → (place_of before x ≡ place_of before y → ⊥) → counted_in after x ≡ counted_in before x
  change_others x n = at_place x ∙ get_or-set_other before.held.items (place_of before y) (place_of before x) held no_counted n

-- ---- a place is given
module _ (y : ℕ) (held : Counted) (before after : Known) (takes : TakesPlace y held before after) where
  pub given_here : counted_in after y ≡ held
  given_here =
      ap (λ (p : ℕ). slice_index_or after.held.items p no_counted) takes.place
      ∙ ap (λ (hs : List Counted). slice_index_or hs (length before.held.items) no_counted) takes.held
      ∙ get_or_at before.held.items held [] no_counted (length before.held.items) refl

  pub given_others : (x : ℕ) → (x ≡ y → ⊥) → place_of before x < length before.held.items → counted_in after x ≡ counted_in before x
  given_others x n l =
      ap (λ (p : ℕ). slice_index_or after.held.items p no_counted) (takes.others x n)
      ∙ ap (λ (hs : List Counted). slice_index_or hs (place_of before x) no_counted) takes.held
      ∙ get_or_append_left before.held.items (held ∷ []) no_counted (place_of before x) l

  -- those that had places and y have places
  module _ (Had Has : ℕ → Type 0) (listed : y < length before.places.items) (had : HasPlaces Had before) (those : (x : ℕ) → Has x → (x ≡ y) ⊎ ((x ≡ y → ⊥) × Had x)) where
    more_held : length after.held.items ≡ length before.held.items + 1
    more_held = ap (λ (hs : List Counted). length hs) takes.held ∙ length_push before.held.items held

    one : (x : ℕ) → (x ≡ y) ⊎ ((x ≡ y → ⊥) × Had x) → HasPlace after x
    one x (inl e) = let p = ap (place_of after) e ∙ takes.place in (omega (arith, e, listed, takes.len), omega (arith, p, more_held))
    one x (inr h) =
        let p = takes.others x h.0 in
        let l = had.each x h.1 in
        (omega (arith, l.0, takes.len), omega (arith, p, l.1, more_held))

    two : (x z : ℕ) → (x ≡ y) ⊎ ((x ≡ y → ⊥) × Had x) → (z ≡ y) ⊎ ((z ≡ y → ⊥) × Had z) → place_of after x ≡ place_of after z → x ≡ z
    two x z (inl e) (inl f) s = e ∙ sym f
    two x z (inl e) (inr h) s = let p = ap (place_of after) e ∙ takes.place in let l = (had.each z h.1).1 in absurd (omega (arith, p, takes.others z h.0, l, s))
    two x z (inr h) (inl e) s = let p = ap (place_of after) e ∙ takes.place in let l = (had.each x h.1).1 in absurd (omega (arith, p, takes.others x h.0, l, s))
    two x z (inr h) (inr k) s = had.own x z h.1 k.1 (sym (takes.others x h.0) ∙ s ∙ takes.others z k.0)

    pub given_place : HasPlaces Has after
    given_place = record { each = λ x h. one x (those x h); own = λ x z h k. two x z (those x h) (those z k) }

-- ---- along a walk over nodes that change, each at its own place
-- what is known is as it was but for the nodes so far
abbrev pub KeepsRest : NodeSet → ℕ → Known → Known → Type 0
KeepsRest nodes from before after = KeepsOthers (λ y. IsIn nodes y × (y < from)) before after

module _ (nodes : NodeSet) (from y : ℕ) (first : IsFirstFrom nodes from y) (initial before after : Known) (held : Counted)
    (keeps : KeepsPlaces initial before) (changes : ChangesAt y held before after) where
  -- of the others that wait it is not changed
  pub others_untouched : (Waits : ℕ → Type 0) → HasPlaces Waits initial → Waits y → (x : ℕ) → Waits x → (x ≡ y → ⊥) → counted_in after x ≡ counted_in before x
  others_untouched Waits h here x w n = change_others y held before after changes x (λ e. n ((placed_still initial before keeps Waits h).own x y w here e))

  module _ (so_far : KeepsRest nodes from initial before) where
    -- of the one that is found it is as it was at first
    pub found_untouched : HasPlaces (IsIn nodes) initial → counted_in before y ≡ counted_in initial y
    found_untouched h = so_far y (λ x m e. let l = m.1 in let n = first.not_before in let s = h.own y x first.inside m.0 e in absurd (omega arith))

    pub rest_still : KeepsRest nodes (y + 1) initial after
    rest_still x n =
        change_others y held before after changes x (λ e. n y (first.inside, omega arith) (sym (same_place initial before keeps x) ∙ e ∙ same_place initial before keeps y))
        ∙ so_far x (λ z m e. n z (m.0, let l = m.1 in let b = first.not_before in omega arith) e)
