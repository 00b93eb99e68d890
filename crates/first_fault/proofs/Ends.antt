-- What comes of a task: something always comes, and all that comes looks the same, where its stages
-- and what it gives do.
use Rattle.std.proofs.Common.{◌≡◌, inl, inr, List, Result, Ok, Err}
use Rattle.first_fault.specs.Passes.{Pass, each}
use Rattle.first_fault.specs.Outcomes.{Outcomes, gives, ◌▸▸◌, staged}
use Rattle.first_fault.specs.Properties.{EndsAlike}
use Rattle.first_fault.proofs.Kept.{IsOneBy, each_one}

pub gives_alike : {A Fault Look : Type 0} (look : Result A Fault → Look) (IsSuch : A → Type 0) → ((x y : A) → IsSuch x → IsSuch y → look (Ok x) ≡ look (Ok y)) → EndsAlike look (gives IsSuch)
gives_alike look IsSuch same (Ok x) (Ok y) h k = same x y h k
gives_alike look IsSuch same (Ok x) (Err g) h k = absurd k
gives_alike look IsSuch same (Err f) p h k = absurd h

pub then_alike : {A Fault Look : Type 0} (look : Result A Fault → Look) (P : Pass Fault) (C : Outcomes A Fault) → IsOneBy (λ f. look (Err f)) P → EndsAlike look C → EndsAlike look (P ▸▸ C)
then_alike look P C p c (Ok x) (Ok y) h k = c (Ok x) (Ok y) h.1 k.1
then_alike look P C p c (Ok x) (Err g) h (inl k) = absurd (p.exclusive g h.0 k)
then_alike look P C p c (Ok x) (Err g) h (inr k) = c (Ok x) (Err g) h.1 k.1
then_alike look P C p c (Err f) (Ok y) (inl h) k = absurd (p.exclusive f k.0 h)
then_alike look P C p c (Err f) (Ok y) (inr h) k = c (Err f) (Ok y) h.1 k.1
then_alike look P C p c (Err f) (Err g) (inl h) (inl k) = p.one f g h k
then_alike look P C p c (Err f) (Err g) (inl h) (inr k) = absurd (p.exclusive f k.0 h)
then_alike look P C p c (Err f) (Err g) (inr h) (inl k) = absurd (p.exclusive g h.0 k)
then_alike look P C p c (Err f) (Err g) (inr h) (inr k) = c (Err f) (Err g) h.1 k.1

pub staged_alike : {S D A Fault Look : Type 0} (look : Result A Fault → Look) (Finds : S → D → Pass Fault) (stages : List S) (IsOf : D → A → Type 0) (d : D)
    → ((s : S) → IsOneBy (λ f. look (Err f)) (Finds s d)) → ((x y : A) → IsOf d x → IsOf d y → look (Ok x) ≡ look (Ok y)) → EndsAlike look (staged Finds stages IsOf d)
staged_alike look Finds stages IsOf d finds same = then_alike look (each (λ s. Finds s d) stages) (gives (IsOf d)) (each_one finds stages) (gives_alike look (IsOf d) same)
