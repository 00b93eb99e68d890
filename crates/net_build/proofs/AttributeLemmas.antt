-- Attributes that count, among those before.
use Rattle.std.proofs.Common.{◌≡◌, ◌⊎◌, inl, inr, ℕ, zero, suc, ◌+◌, ◌<◌, Bool, true, false, ◌&&◌, ◌||◌, cond, List, [], ◌∷◌, length, get_or, map, filter, take, Contains, refl, ap, sym, ◌∙◌, arith}
use Rattle.std.proofs.lemmas.Bool.{false≢true}
use Rattle.std.proofs.lemmas.Slice.Eq.{bytes_eq-Decides}
use Rattle.std.specs.List.{list_any}
use Rattle.std.specs.Str.{bytes_eq}
use Rattle.finite_sums.proofs.Sights.{bytes_same}
use Rattle.net_build.specs.declared.faults.BuildFault.{BuildFault}
use Rattle.net_build.specs.declared.faults.BuildFault.TheVariants.{Fault}
use Rattle.net_build.specs.declared.faults.BuildKind.TheVariants as kinds
use Rattle.net_build.specs.Blocks.{is_counted, topic_of, word_of}
use Rattle.first_fault.specs.Passes.{Pass}
use Rattle.first_fault.specs.Answers.{IsFaultOrNoMemory}
use Rattle.net_build.specs.Passes.{Found, build_fault}
use Rattle.net_build.specs.Table.{repeated_row}
use Rattle.net_parser.specs.declared.trees.BlockKind.{BlockKind}
use Rattle.net_parser.specs.Trees.{AttributeTree}
use Rattle.first_fault.proofs.Leading.{Leads, AfterPass, after_skip, after_step, after_refused}

-- both sides of an `and`
pub and_left : (a b : Bool) → (a && b) ≡ true → a ≡ true
and_left true b e = refl
and_left false b e = e

pub and_right : (a b : Bool) → (a && b) ≡ true → b ≡ true
and_right true b e = e
and_right false b e = absurd (false≢true e)

pub contains_first : {X : Type 0} (x : X) (xs : List X) → Contains (x ∷ xs) x
contains_first x xs = (0, omega arith, refl)

pub contains_later : {X : Type 0} (y x : X) (xs : List X) → Contains xs x → Contains (y ∷ xs) x
contains_later y x xs (k, within, here) = (suc k, omega arith, here)

pub contains_cases : {X : Type 0} (y x : X) (xs : List X) → Contains (y ∷ xs) x → (y ≡ x) ⊎ Contains xs x
contains_cases y x xs (zero, within, here) = inl here
contains_cases y x xs (suc k, within, here) = inr (k, omega arith, here)

pub contains_none : {X : Type 0} (x : X) → Contains [] x → ⊥
contains_none x (k, within, here) = omega arith

-- the words of the items that a test keeps, one item on
words_kept : {X : Type 0} (f : X → List ℕ) (p : X → Bool) (x : X) (xs : List X) → p x ≡ true → map f (filter p (x ∷ xs)) ≡ f x ∷ map f (filter p xs)
words_kept f p x xs e = ap (λ b. map f (cond b (x ∷ filter p xs) (filter p xs))) e

words_left : {X : Type 0} (f : X → List ℕ) (p : X → Bool) (x : X) (xs : List X) → p x ≡ false → map f (filter p (x ∷ xs)) ≡ map f (filter p xs)
words_left f p x xs e = ap (λ b. map f (cond b (x ∷ filter p xs) (filter p xs))) e

pub or_true : (b : Bool) → (b || true) ≡ true
or_true true = refl
or_true false = refl

-- an item that the test keeps and that has the word
abbrev pub has_kept : {X : Type 0} → (X → List ℕ) → (X → Bool) → List ℕ → List X → Bool
has_kept f p w xs = list_any (λ x. p x && bytes_eq (f x) w) xs

-- is among those kept
pub any_is_contained : {X : Type 0} (f : X → List ℕ) (p : X → Bool) (w : List ℕ) (xs : List X) → has_kept f p w xs ≡ true → Contains (map f (filter p xs)) w
any_is_contained f p w [] any = absurd (false≢true any)
any_is_contained f p w (x ∷ xs) any = by_test (p x) refl (bytes_eq (f x) w) refl (λ k. any_is_contained f p w xs k) where
  by_test : (t : Bool) → p x ≡ t → (b : Bool) → bytes_eq (f x) w ≡ b → (has_kept f p w xs ≡ true → Contains (map f (filter p xs)) w) → Contains (map f (filter p (x ∷ xs))) w
  by_test true k true e rec = rw (words_kept f p x xs k) (0, omega arith, (bytes_eq-Decides (f x) w).0 e)
  by_test true k false e rec = rw (words_kept f p x xs k) (contains_later (f x) w _ (rec (sym (λ i. (k i && e i) || has_kept f p w xs) ∙ any)))
  by_test false k b e rec = rw (words_left f p x xs k) (rec (sym (λ i. (k i && bytes_eq (f x) w) || has_kept f p w xs) ∙ any))

-- and the other way round
pub contained_is_any : {X : Type 0} (f : X → List ℕ) (p : X → Bool) (w : List ℕ) (xs : List X) → Contains (map f (filter p xs)) w → has_kept f p w xs ≡ true
contained_is_any f p w [] h = absurd (contains_none w h)
contained_is_any f p w (x ∷ xs) h = by_test (p x) refl (λ k. ap (λ b. (p x && bytes_eq (f x) w) || b) (contained_is_any f p w xs k) ∙ or_true (p x && bytes_eq (f x) w)) where
  by_test : (t : Bool) → p x ≡ t → (Contains (map f (filter p xs)) w → has_kept f p w (x ∷ xs) ≡ true) → has_kept f p w (x ∷ xs) ≡ true
  by_test true k later = here (contains_cases (f x) w _ (rw (words_kept f p x xs k) at h)) where
    here : (f x ≡ w) ⊎ Contains (map f (filter p xs)) w → has_kept f p w (x ∷ xs) ≡ true
    here (inl e) = λ i. (k i && bytes_same (f x) w e i) || has_kept f p w xs
    here (inr m) = later m
  by_test false k later = later (rw (words_left f p x xs k) at h)

-- the attributes of a kind of block that count, and what those from place i on find
abbrev pub CountedFrom : List ℕ → BlockKind → List AttributeTree → ℕ → Pass Found
CountedFrom text kind attributes i = AfterPass (repeated_row text) (λ a. is_counted kind (word_of text a)) attributes i

-- the attribute counts, and so does one before the place that is about the same
abbrev pub stands_before : List ℕ → BlockKind → List AttributeTree → ℕ → AttributeTree → Bool
stands_before text kind attributes i x = is_counted kind (word_of text x) && has_kept (topic_of text) (λ a. is_counted kind (word_of text a)) (topic_of text x) (take i attributes)

-- where the attribute does, it stands a second time
pub repeated_refused : (text : List ℕ) (kind : BlockKind) (attributes : List AttributeTree) (W : Pass Found) (i : ℕ) (x : AttributeTree) (fault : BuildFault) → i < length attributes → x ≡ get_or attributes i x
    → stands_before text kind attributes i x ≡ true → fault ≡ Fault x.name.start kinds.DoubleAttribute → Leads (CountedFrom text kind attributes i) W → IsFaultOrNoMemory build_fault W fault
repeated_refused text kind attributes W i x fault h is before what lead =
    rw what (after_refused (repeated_row text) (λ a. is_counted kind (word_of text a)) attributes W i x (build_fault (Fault x.name.start kinds.DoubleAttribute)) h is (and_left _ _ before) lead
    (any_is_contained (topic_of text) (λ a. is_counted kind (word_of text a)) (topic_of text x) (take i attributes) (and_right _ _ before), refl))

-- where it doesn't, the attributes behind it lead on
pub repeated_on : (text : List ℕ) (kind : BlockKind) (attributes : List AttributeTree) (W : Pass Found) (i : ℕ) (x : AttributeTree) → i < length attributes → x ≡ get_or attributes i x
    → stands_before text kind attributes i x ≡ false → Leads (CountedFrom text kind attributes i) W → Leads (CountedFrom text kind attributes (i + 1)) W
repeated_on text kind attributes W i x h is before lead = by_test (is_counted kind (word_of text x)) refl where
  by_test : (t : Bool) → is_counted kind (word_of text x) ≡ t → Leads (CountedFrom text kind attributes (i + 1)) W
  by_test true k = after_step (repeated_row text) (λ a. is_counted kind (word_of text a)) attributes W i x h is k lead
      (λ among. false≢true (sym before ∙ (λ j. k j && contained_is_any (topic_of text) (λ a. is_counted kind (word_of text a)) (topic_of text x) (take i attributes) among j)))
  by_test false k = after_skip (repeated_row text) (λ a. is_counted kind (word_of text a)) attributes W i x h is k lead
