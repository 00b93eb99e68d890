-- What calls tell is handed on: by a `?`, by a line that is told if there is memory for it, and by
-- a whole write.
use Rattle.std.proofs.Common.{◌≡◌, ◌==◌, ◌≤◌, ℕ, arith, false, inl, inr, ◌⊎◌, IfErr, OnOk, OnErr, Result, Ok, Err, ap}
use Rattle.std.proofs.lemmas.Result.{err_from_is_err_and}
use Rattle.std.specs.Result.{IsErr, IsErrAnd}
use Rattle.std.proofs.lemmas.Bool.Decides.{nat_tests}
use Rattle.maid_io.specs.Count.{Rose}
use Rattle.app_forms.specs.Status.{code_of}
use Rattle.maid_app.specs.Told.{IsAfterWriting}
use Rattle.app_forms.specs.declared.status.Status.{Status}
use Rattle.app_forms.specs.declared.status.Status.TheVariants.{Done, Usage, Absent, ReadFault, TextTooLong, TextFault, Cycle, WeightBound, TooLarge, WriteFault, NoMemory, Rejected, UnknownAgent, NoPure, NotOneAgent, RoundsSpent, UnknownNode, UnknownState, BelowDecision, Impossible, UnknownRow, NoOthers}

-- the fault that a `?` hands on is as it was
pub err_handed : {A E : Type 0} (r : Result A E) (fault : E) (P : E → Type 0) → IsErr r × IsErrAnd r (λ y. y ≡ fault) → P fault → IfErr r P
err_handed r fault P is h = let p = err_from_is_err_and r is.1 in rw (p.1, p.2) h

-- a whole write took the text, or a front of it where the count rose
pub taken : {E A Part Rises : Type 0} (r : Result (Unit {0}) E) → OnOk r A → OnErr r Part → OnErr r Rises → A ⊎ (Rises × Part)
taken (Ok x) all part rises = inl all
taken (Err e) all part rises = inr (rises, part)

-- a count that rose in a later call rose in all
pub rose_later : (before mid now : ℕ) → before ≤ mid → Rose mid now → Rose before now
rose_later before mid now kept rose = omega (arith, kept, rose)

-- numbers that are told apart are not the same
not_same : (m n : ℕ) → m == n ≡ false → m ≡ n → ⊥
not_same m n apart e = grind (arith, nat_tests)

-- one status is not another, which has a code of its own
pub other_status : {So : Type 0} (a b : Status) → code_of a == code_of b ≡ false → a ≡ b → So
other_status a b apart e = absurd (not_same (code_of a) (code_of b) apart (ap code_of e))

-- what neither status behind a whole text meets, no such status does
pub not_after : (P : Status → Type 0) → (P Done → ⊥) → (P Rejected → ⊥) → (status : Status) → IsAfterWriting status → P status → ⊥
not_after P done rejected Done after h = done h
not_after P done rejected Usage after h = after
not_after P done rejected Absent after h = after
not_after P done rejected ReadFault after h = after
not_after P done rejected TextTooLong after h = after
not_after P done rejected TextFault after h = after
not_after P done rejected Cycle after h = after
not_after P done rejected WeightBound after h = after
not_after P done rejected TooLarge after h = after
not_after P done rejected WriteFault after h = after
not_after P done rejected NoMemory after h = after
not_after P done rejected Rejected after h = rejected h
not_after P done rejected UnknownAgent after h = after
not_after P done rejected NoPure after h = after
not_after P done rejected NotOneAgent after h = after
not_after P done rejected RoundsSpent after h = after
not_after P done rejected UnknownNode after h = after
not_after P done rejected UnknownState after h = after
not_after P done rejected BelowDecision after h = after
not_after P done rejected Impossible after h = after
not_after P done rejected UnknownRow after h = after
not_after P done rejected NoOthers after h = after
