-- What the words of a table keep: where each part finds nothing or a fault, or never both, or one
-- fault at most, so does the whole.
use Rattle.std.proofs.Common.{◌≡◌, Bool, true, false, inl, inr, List, [], ◌∷◌, ◌++◌, None, Some, refl, sym, ◌∙◌, ap, subst}
use Rattle.first_fault.specs.Passes.{Pass, clear, rule, only, ◌▸◌, each, each_after, over}
use Rattle.first_fault.specs.Properties.{IsCovered, IsExclusive, HasOne, FindsOnly}

-- A fault or none. A row's condition has to be decided.
pub clear_covered : {Fault : Type 0} → IsCovered (clear {Fault = Fault})
clear_covered = inl tt

pub rule_covered : {Fault : Type 0} (Applies : Type 0) (fault : Fault) → Dec Applies → IsCovered (rule Applies fault)
rule_covered Applies fault (yes h) = inr (fault, (h, refl))
rule_covered Applies fault (no n) = inl n

-- the second pass may rely on it that the first finds nothing
pub then_covered : {Fault : Type 0} (P Q : Pass Fault) → IsCovered P → (P None → IsCovered Q) → IsCovered (P ▸ Q)
then_covered P Q (inr found) q = inr (found.0, inl found.1)
then_covered P Q (inl nothing) q = behind (q nothing) where
  behind : IsCovered Q → IsCovered (P ▸ Q)
  behind (inl h) = inl (nothing, h)
  behind (inr found) = inr (found.0, inr (nothing, found.1))

pub each_covered : {A Fault : Type 0} (P : A → Pass Fault) → ((x : A) → IsCovered (P x)) → (xs : List A) → IsCovered (each P xs)
each_covered P p [] = inl tt
each_covered P p (x ∷ xs) = then_covered (P x) (each P xs) (p x) (λ nothing. each_covered P p xs)

pub each_after_covered : {A Fault : Type 0} (P : List A → A → Pass Fault) → ((earlier : List A) (x : A) → IsCovered (P earlier x)) → (earlier xs : List A) → IsCovered (each_after P earlier xs)
each_after_covered P p earlier [] = inl tt
each_after_covered P p earlier (x ∷ xs) = then_covered (P earlier x) (each_after P (earlier ++ x ∷ []) xs) (p earlier x) (λ nothing. each_after_covered P p (earlier ++ x ∷ []) xs)

pub over_covered : {A Fault : Type 0} (IsIt : A → Type 0) (P : A → Pass Fault) (x : A) → IsIt x → IsCovered (P x) → IsCovered (over IsIt P)
over_covered IsIt P x is (inl nothing) = inl (x, is, nothing)
over_covered IsIt P x is (inr found) = inr (found.0, (x, is, found.1))

-- The same as a record, from which the pass can be read off.
pub record IsWhole {Fault : Type 0} (P : Pass Fault) : Type 0 where
  pub covered : IsCovered P

pub covered_whole : {Fault : Type 0} {P : Pass Fault} → IsCovered P → IsWhole P
covered_whole h = record { covered = h }

pub clear_whole : {Fault : Type 0} → IsWhole (clear {Fault = Fault})
clear_whole = record { covered = clear_covered }

pub rule_whole : {Fault : Type 0} (Applies : Type 0) (fault : Fault) → Dec Applies → IsWhole (rule Applies fault)
rule_whole Applies fault h = record { covered = rule_covered Applies fault h }

pub only_whole : {Fault : Type 0} (b : Bool) {P : Pass Fault} → IsWhole P → IsWhole (only b P)
only_whole true p = p
only_whole false p = clear_whole

-- the second pass may rely on it that the first finds nothing
pub behind_whole : {Fault : Type 0} (P Q : Pass Fault) → IsWhole P → (P None → IsWhole Q) → IsWhole (P ▸ Q)
behind_whole P Q p q = record { covered = then_covered P Q p.covered (λ nothing. (q nothing).covered) }

pub then_whole : {Fault : Type 0} {P Q : Pass Fault} → IsWhole P → IsWhole Q → IsWhole (P ▸ Q)
then_whole {P = P} {Q = Q} p q = behind_whole P Q p (λ _. q)

pub each_whole : {A Fault : Type 0} {P : A → Pass Fault} → ((x : A) → IsWhole (P x)) → (xs : List A) → IsWhole (each P xs)
each_whole {P = P} p xs = record { covered = each_covered P (λ x. (p x).covered) xs }

pub each_after_whole : {A Fault : Type 0} {P : List A → A → Pass Fault} → ((earlier : List A) (x : A) → IsWhole (P earlier x)) → (earlier xs : List A) → IsWhole (each_after P earlier xs)
each_after_whole {P = P} p earlier xs = record { covered = each_after_covered P (λ before x. (p before x).covered) earlier xs }

pub over_whole : {A Fault : Type 0} (IsIt : A → Type 0) (P : A → Pass Fault) (x : A) → IsIt x → IsWhole (P x) → IsWhole (over IsIt P)
over_whole IsIt P x is p = record { covered = over_covered IsIt P x is p.covered }

-- Never both, and faults of one look. The look of a fault itself is the fault.
pub record IsOneBy {Fault Look : Type 0} (look : Fault → Look) (P : Pass Fault) : Type 0 where
  pub exclusive : IsExclusive P
  pub one : HasOne look P

abbrev pub IsOne : {Fault : Type 0} → Pass Fault → Type 0
IsOne P = IsOneBy (λ f. f) P

pub clear_one : {Fault Look : Type 0} {look : Fault → Look} → IsOneBy look clear
clear_one = record { exclusive = λ f none some. some; one = λ f g h k. absurd h }

pub rule_one : {Fault Look : Type 0} {look : Fault → Look} (Applies : Type 0) (fault : Fault) → IsOneBy look (rule Applies fault)
rule_one {look = look} Applies fault = record { exclusive = λ f none some. none some.0; one = λ f g h k. ap look (h.1 ∙ sym k.1) }

pub only_one : {Fault Look : Type 0} {look : Fault → Look} (b : Bool) {P : Pass Fault} → IsOneBy look P → IsOneBy look (only b P)
only_one true p = p
only_one false p = clear_one

pub then_exclusive : {Fault : Type 0} (P Q : Pass Fault) → IsExclusive P → IsExclusive Q → IsExclusive (P ▸ Q)
then_exclusive P Q p q f none (inl some) = p f none.0 some
then_exclusive P Q p q f none (inr some) = q f none.1 some.1

pub then_has_one : {Fault Look : Type 0} (look : Fault → Look) (P Q : Pass Fault) → IsExclusive P → HasOne look P → HasOne look Q → HasOne look (P ▸ Q)
then_has_one look P Q apart p q f g (inl h) (inl k) = p f g h k
then_has_one look P Q apart p q f g (inl h) (inr k) = absurd (apart f k.0 h)
then_has_one look P Q apart p q f g (inr h) (inl k) = absurd (apart g h.0 k)
then_has_one look P Q apart p q f g (inr h) (inr k) = q f g h.1 k.1

pub then_one : {Fault Look : Type 0} {look : Fault → Look} {P Q : Pass Fault} → IsOneBy look P → IsOneBy look Q → IsOneBy look (P ▸ Q)
then_one {look = look} {P = P} {Q = Q} p q = record { exclusive = then_exclusive P Q p.exclusive q.exclusive; one = then_has_one look P Q p.exclusive p.one q.one }

pub each_one : {A Fault Look : Type 0} {look : Fault → Look} {P : A → Pass Fault} → ((x : A) → IsOneBy look (P x)) → (xs : List A) → IsOneBy look (each P xs)
each_one p [] = clear_one
each_one p (x ∷ xs) = then_one (p x) (each_one p xs)

pub each_after_one : {A Fault Look : Type 0} {look : Fault → Look} {P : List A → A → Pass Fault} → ((earlier : List A) (x : A) → IsOneBy look (P earlier x)) → (earlier xs : List A) → IsOneBy look (each_after P earlier xs)
each_after_one p earlier [] = clear_one
each_after_one p earlier (x ∷ xs) = then_one (p earlier x) (each_after_one p (earlier ++ x ∷ []) xs)

-- there is one such value
pub over_one : {A Fault Look : Type 0} {look : Fault → Look} (IsIt : A → Type 0) (P : A → Pass Fault) → ((x y : A) → IsIt x → IsIt y → x ≡ y) → ((x : A) → IsIt x → IsOneBy look (P x)) → IsOneBy look (over IsIt P)
over_one IsIt P same p = record {
  exclusive = λ f none some. (p none.0 none.1).exclusive f none.2 (subst (λ x. P x (Some f)) (same some.0 none.0 some.1 none.1) some.2);
  one = λ f g h k. (p h.0 h.1).one f g h.2 (subst (λ x. P x (Some g)) (same k.0 h.0 k.1 h.1) k.2);
}

-- All that is found is such.
pub then_only : {Fault : Type 0} (IsSuch : Fault → Type 0) (P Q : Pass Fault) → FindsOnly IsSuch P → FindsOnly IsSuch Q → FindsOnly IsSuch (P ▸ Q)
then_only IsSuch P Q p q f (inl h) = p f h
then_only IsSuch P Q p q f (inr h) = q f h.1

pub each_only : {A Fault : Type 0} (IsSuch : Fault → Type 0) (P : A → Pass Fault) → ((x : A) → FindsOnly IsSuch (P x)) → (xs : List A) → FindsOnly IsSuch (each P xs)
each_only IsSuch P p [] f h = absurd h
each_only IsSuch P p (x ∷ xs) f h = then_only IsSuch (P x) (each P xs) (p x) (each_only IsSuch P p xs) f h
