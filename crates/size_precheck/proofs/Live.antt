-- What joints tell of the live tables, as tables are put and nodes are eliminated.
use Rattle.std.proofs.Common.{◌≡◌, ◌∙◌, ◌⊎◌, ◌↔◌, ℕ, ◌<◌, Bool, true, false, cond, not, filter, List, [], ◌∷◌, ◌++◌, sym, subst, inl, inr}
use Rattle.node_sets.specs.Sets.{holds, IsIn}
use Rattle.node_sets.specs.declared.sets.NodeSet.{NodeSet}
use Rattle.size_precheck.specs.declared.joints.Joint.{Joint}
use Rattle.size_precheck.specs.declared.joints.Table.{Table}
use Rattle.size_precheck.specs.Joints.{IsPut, SomeOf, TagsDiffer, Tells, AreLive}
use Rattle.size_precheck.proofs.Somewhere.{some_map, some_push, push_some, some_filter, filter_some, some_never, some_split, each_push, each_some, each_filter, not_true}

-- the tables that hold v, and those that don't
abbrev pub with_v : ℕ → List Table → List Table
with_v v live = filter (λ t. holds t.scope v) live

abbrev pub without_v : ℕ → List Table → List Table
without_v v live = filter (λ t. not (holds t.scope v)) live

-- two facts of the table with one tag
pub both_of_tag : (P Q : Table → Type 0) (x : ℕ) (live : List Table) → TagsDiffer live
    → SomeOf (λ t. (t.tag ≡ x) × P t) live → SomeOf (λ t. (t.tag ≡ x) × Q t) live → SomeOf (λ t. P t × Q t) live
both_of_tag P Q x [] d h k = h
both_of_tag P Q x (t ∷ ts) d (inl p) (inl q) = inl (p.1, q.1)
both_of_tag P Q x (t ∷ ts) d (inl p) (inr s) = absurd (d.0 (some_map (λ t. (t.tag ≡ x) × Q t) (λ s. s.tag ≡ t.tag) (λ s h. h.0 ∙ sym p.0) ts s))
both_of_tag P Q x (t ∷ ts) d (inr s) (inl q) = absurd (d.0 (some_map (λ t. (t.tag ≡ x) × P t) (λ s. s.tag ≡ t.tag) (λ s h. h.0 ∙ sym q.0) ts s))
both_of_tag P Q x (t ∷ ts) d (inr s) (inr r) = inr (both_of_tag P Q x ts d.1 s r)

pub differ_push : (live : List Table) (made : Table) → TagsDiffer live → (SomeOf (λ t. t.tag ≡ made.tag) live → ⊥) → TagsDiffer (live ++ made ∷ [])
differ_push [] made d n = ((λ s. s), tt)
differ_push (t ∷ ts) made d n = (
  (λ s. elim (some_push (λ s. s.tag ≡ t.tag) ts made s) as (λ _. ⊥) [ inl h ↦ d.0 h | inr e ↦ n (inl (sym e)) ]),
  differ_push ts made d.1 (λ s. n (inr s)),
)

pub differ_filter : (q : Table → Bool) (live : List Table) → TagsDiffer live → TagsDiffer (filter q live)
differ_filter q [] d = tt
differ_filter q (t ∷ ts) d = go (q t) (differ_filter q ts d.1)
  where
    go : (b : Bool) → TagsDiffer (filter q ts) → TagsDiffer (cond b (t ∷ filter q ts) (filter q ts))
    go true r = ((λ s. d.0 (some_map (λ s. (q s ≡ true) × (s.tag ≡ t.tag)) (λ s. s.tag ≡ t.tag) (λ s h. h.1) ts (some_filter (λ s. s.tag ≡ t.tag) q ts s))), r)
    go false r = r

-- ---- a first table
module _ (live : List Table) (table : Table) (y : ℕ) where
  pub first_put : (gone out : NodeSet) (before after : Joint) → ((x : ℕ) → IsIn gone x → ⊥) → ((x : ℕ) → IsIn out x → ⊥)
      → IsIn table.scope y → IsPut table (IsIn gone) (IsIn out) before after → Tells live y before → Tells (live ++ table ∷ []) y after
  first_put gone out before after no_gone no_out holds_y put tells = record {
    set = λ u. (
      (λ m. let h = (put.set u).0 m in push_some (Both u) live table (elim h.0 as (λ _. SomeOf (Both u) live ⊎ Both u table) [ inl b ↦ inl ((tells.set u).0 b) | inr s ↦ inr (holds_y, s) ])),
      (λ s. (put.set u).1 (elim (some_push (Both u) live table s) as (λ _. IsIn before.set u ⊎ IsIn table.scope u) [ inl h ↦ inl ((tells.set u).1 h) | inr h ↦ inr h.1 ], no_out u)),
    );
    tables = λ x. (
      (λ m. push_some (Tagged x) live table (elim ((put.tables x).0 m) as (λ _. SomeOf (Tagged x) live ⊎ Tagged x table) [ inl h ↦ inl ((tells.tables x).0 h.0) | inr e ↦ inr (sym e, holds_y) ])),
      (λ s. (put.tables x).1 (elim (some_push (Tagged x) live table s) as (λ _. (IsIn before.tables x × (IsIn gone x → ⊥)) ⊎ (x ≡ table.tag)) [ inl h ↦ inl ((tells.tables x).1 h, no_gone x) | inr h ↦ inr (sym h.0) ])),
    );
  }
    where
      Both : ℕ → Table → Type 0
      Both u t = IsIn t.scope y × IsIn t.scope u

      Tagged : ℕ → Table → Type 0
      Tagged x t = (t.tag ≡ x) × IsIn t.scope y

  pub first_same : (joint : Joint) → (IsIn table.scope y → ⊥) → Tells live y joint → Tells (live ++ table ∷ []) y joint
  first_same joint apart tells = record {
    set = λ u. (
      (λ m. push_some (Both u) live table (inl ((tells.set u).0 m))),
      (λ s. elim (some_push (Both u) live table s) as (λ _. IsIn joint.set u) [ inl h ↦ (tells.set u).1 h | inr h ↦ absurd (apart h.0) ]),
    );
    tables = λ x. (
      (λ m. push_some (Tagged x) live table (inl ((tells.tables x).0 m))),
      (λ s. elim (some_push (Tagged x) live table s) as (λ _. IsIn joint.tables x) [ inl h ↦ (tells.tables x).1 h | inr h ↦ absurd (apart h.1) ]),
    );
  }
    where
      Both : ℕ → Table → Type 0
      Both u t = IsIn t.scope y × IsIn t.scope u

      Tagged : ℕ → Table → Type 0
      Tagged x t = (t.tag ≡ x) × IsIn t.scope y

-- ---- a step: the tables that hold v give way to one over their joined set without v
module _ (live : List Table) (made : Table) (v : ℕ)
    (scope : (u : ℕ) → IsIn made.scope u ↔ (SomeOf (λ t. IsIn t.scope v × IsIn t.scope u) live × (u ≡ v → ⊥))) where
  abbrev pub after_step : List Table
  after_step = without_v v live ++ made ∷ []

  abbrev Holds : Table → Type 0
  Holds t = IsIn t.scope v

  abbrev Passes : Table → Type 0
  Passes t = not (holds t.scope v) ≡ true

  module _ (y : ℕ) (other : y ≡ v → ⊥) where
    abbrev Both : ℕ → Table → Type 0
    Both u t = IsIn t.scope y × IsIn t.scope u

    abbrev Tagged : ℕ → Table → Type 0
    Tagged x t = (t.tag ≡ x) × IsIn t.scope y

    -- what two nodes share before the step
    shared : (u : ℕ) → (u ≡ v → ⊥) → SomeOf (Both u) live → SomeOf (Both u) (without_v v live) ⊎ (IsIn made.scope y × IsIn made.scope u)
    shared u apart s = elim (some_split (Both u) (λ t. holds t.scope v) live s) as (λ _. SomeOf (Both u) (without_v v live) ⊎ (IsIn made.scope y × IsIn made.scope u)) [
      | inl h ↦ inl (filter_some (Both u) (λ t. not (holds t.scope v)) live h)
      | inr h ↦ inr (
        (scope y).1 (some_map (λ t. Holds t × Both u t) (λ t. Holds t × IsIn t.scope y) (λ t k. (k.0, k.1.0)) live h, other),
        (scope u).1 (some_map (λ t. Holds t × Both u t) (λ t. Holds t × IsIn t.scope u) (λ t k. (k.0, k.1.1)) live h, apart),
      )
    ]

    kept : (P : Table → Type 0) → SomeOf P (without_v v live) → SomeOf P live
    kept P s = some_map (λ t. Passes t × P t) P (λ t k. k.1) live (some_filter P (λ t. not (holds t.scope v)) live s)

    -- no table that stays holds v
    not_v : (u : ℕ) → SomeOf (Both u) (without_v v live) → u ≡ v → ⊥
    not_v u s e = some_never (λ t. Passes t × Both u t) live (λ t k. not_true _ k.0 (subst (IsIn t.scope) e k.1.1)) (some_filter (Both u) (λ t. not (holds t.scope v)) live s)

    pub step_put : (gone : NodeSet) (before after : Joint) → TagsDiffer live → ((x : ℕ) → IsIn gone x ↔ SomeOf (λ t. (t.tag ≡ x) × Holds t) live)
        → IsIn made.scope y → IsPut made (IsIn gone) (λ u. u ≡ v) before after → Tells live y before → Tells after_step y after
    step_put gone before after differ gone_is holds_y put tells = record {
      set = λ u. (
        (λ m.
            let h = (put.set u).0 m in
            push_some (Both u) (without_v v live) made (elim h.0 as (λ _. SomeOf (Both u) (without_v v live) ⊎ Both u made) [
              | inl b ↦ shared u h.1 ((tells.set u).0 b)
              | inr s ↦ inr (holds_y, s)
            ])),
        (λ s. (put.set u).1 (elim (some_push (Both u) (without_v v live) made s) as (λ _. (IsIn before.set u ⊎ IsIn made.scope u) × (u ≡ v → ⊥)) [
          | inl h ↦ (inl ((tells.set u).1 (kept (Both u) h)), not_v u h)
          | inr h ↦ (inr h.1, ((scope u).0 h.1).1)
        ])),
      );
      tables = λ x. (
        (λ m. push_some (Tagged x) (without_v v live) made (elim ((put.tables x).0 m) as (λ _. SomeOf (Tagged x) (without_v v live) ⊎ Tagged x made) [
          | inl h ↦ elim (some_split (Tagged x) (λ t. holds t.scope v) live ((tells.tables x).0 h.0)) as (λ _. SomeOf (Tagged x) (without_v v live) ⊎ Tagged x made) [
            | inl k ↦ inl (filter_some (Tagged x) (λ t. not (holds t.scope v)) live k)
            | inr k ↦ absurd (h.1 ((gone_is x).1 (some_map (λ t. Holds t × Tagged x t) (λ t. (t.tag ≡ x) × Holds t) (λ t i. (i.1.0, i.0)) live k)))
          ]
          | inr e ↦ inr (sym e, holds_y)
        ])),
        (λ s. (put.tables x).1 (elim (some_push (Tagged x) (without_v v live) made s) as (λ _. (IsIn before.tables x × (IsIn gone x → ⊥)) ⊎ (x ≡ made.tag)) [
          | inl h ↦ inl ((tells.tables x).1 (kept (Tagged x) h), stays x h)
          | inr h ↦ inr (sym h.0)
        ])),
      );
    }
      where
        stays : (x : ℕ) → SomeOf (Tagged x) (without_v v live) → IsIn gone x → ⊥
        stays x s g = some_never (λ t. Passes t × Holds t) live (λ t k. not_true _ k.0 k.1)
            (both_of_tag Passes Holds x live differ
            (some_map (λ t. Passes t × Tagged x t) (λ t. (t.tag ≡ x) × Passes t) (λ t k. (k.1.0, k.0)) live (some_filter (Tagged x) (λ t. not (holds t.scope v)) live s))
            ((gone_is x).0 g))

    pub step_same : (joint : Joint) → (IsIn made.scope y → ⊥) → Tells live y joint → Tells after_step y joint
    step_same joint apart tells = record {
      set = λ u. (
        (λ m. push_some (Both u) (without_v v live) made (inl (stay (Both u) (λ t k. k.0) ((tells.set u).0 m)))),
        (λ s. elim (some_push (Both u) (without_v v live) made s) as (λ _. IsIn joint.set u) [ inl h ↦ (tells.set u).1 (kept (Both u) h) | inr h ↦ absurd (apart h.0) ]),
      );
      tables = λ x. (
        (λ m. push_some (Tagged x) (without_v v live) made (inl (stay (Tagged x) (λ t k. k.1) ((tells.tables x).0 m)))),
        (λ s. elim (some_push (Tagged x) (without_v v live) made s) as (λ _. IsIn joint.tables x) [ inl h ↦ (tells.tables x).1 (kept (Tagged x) h) | inr h ↦ absurd (apart h.1) ]),
      );
    }
      where
        stay : (P : Table → Type 0) → ((t : Table) → P t → IsIn t.scope y) → SomeOf P live → SomeOf P (without_v v live)
        stay P in_y s = elim (some_split P (λ t. holds t.scope v) live s) as (λ _. SomeOf P (without_v v live)) [
          | inl h ↦ filter_some P (λ t. not (holds t.scope v)) live h
          | inr h ↦ absurd (apart ((scope y).1 (some_map (λ t. Holds t × P t) (λ t. Holds t × IsIn t.scope y) (λ t k. (k.0, in_y t k.1)) live h, other)))
        ]

  -- the tables stay live
  pub step_live : (Waiting Later : ℕ → Type 0) → Waiting v → v < 256 → made.tag ≡ v → ((x : ℕ) → Later x → Waiting x × (x ≡ v → ⊥)) → AreLive Waiting live → AreLive Later after_step
  step_live Waiting Later waits small tag later h = record {
    small = each_push (λ t. t.tag < 256) (without_v v live) made (each_filter (λ t. t.tag < 256) (λ t. t.tag < 256) (λ t. not (holds t.scope v)) (λ t _ k. k) live h.small) (subst (λ x. x < 256) (sym tag) small);
    differ = differ_push (without_v v live) made (differ_filter (λ t. not (holds t.scope v)) live h.differ) new_tag;
    own = each_push Own (without_v v live) made (each_filter (λ t. Waiting t.tag → IsIn t.scope t.tag) Own (λ t. not (holds t.scope v)) (λ t _ k w. k (later t.tag w).0) live h.own) (λ w. absurd ((later made.tag w).1 tag));
  }
    where
      Own : Table → Type 0
      Own t = Later t.tag → IsIn t.scope t.tag

      new_tag : SomeOf (λ t. t.tag ≡ made.tag) (without_v v live) → ⊥
      new_tag s =
          some_never (λ t. (Waiting t.tag → IsIn t.scope t.tag) × (Passes t × (t.tag ≡ made.tag))) live
          (λ t k. let e = k.1.1 ∙ tag in not_true _ k.1.0 (subst (IsIn t.scope) e (k.0 (subst Waiting (sym e) waits))))
          (each_some (λ t. Waiting t.tag → IsIn t.scope t.tag) (λ t. Passes t × (t.tag ≡ made.tag)) live h.own (some_filter (λ t. t.tag ≡ made.tag) (λ t. not (holds t.scope v)) live s))
