-- A row of some parents is a state of the first parent and a row of the others.
use Rattle.std.proofs.Common.{◌≡◌, ◌∙◌, ℕ, zero, suc, ◌*◌, ◌/◌, ◌%◌, ◌<◌, List, ◌∷◌, ◌++◌, arith, sym, ap, subst}
use Rattle.std.proofs.Math.Nat.{mul-div_cancel_left, div-lt_iff_lt-mul, mod-lt}
use Rattle.maid_model.specs.Names.{NamesView, label_of}
use Rattle.maid_model.specs.Nodes.{rows_under}
use Rattle.maid_model.specs.Reports.{parent_states, quoted, state_labels}

-- the rows of all parents over the first one's states are the rows of the others
pub rows_below : (count : ℕ → ℕ) (u : ℕ) (us : List ℕ) → 0 < count u → rows_under count (u ∷ us) / count u ≡ rows_under count us
rows_below count u us h = mul-div_cancel_left (rows_under count us) h

pub some_below : (c below row : ℕ) → row < c * below → 0 < below
some_below c zero row h = absurd (none (zero_right c))
  where
    zero_right : (c : ℕ) → c * 0 ≡ 0
    zero_right c = omega arith

    none : c * 0 ≡ 0 → ⊥
    none e = omega arith
some_below c (suc below) row h = omega arith

-- the first parent's state is one that it has
pub state_within : (c below row : ℕ) → row < c * below → row / below < c
state_within c below row h = (div-lt_iff_lt-mul (some_below c below row h)).1 h

-- one step of the loop over parents
pub record IsStep (count : ℕ → ℕ) (names : NamesView) (u : ℕ) (us : List ℕ) (rest below : ℕ) : Type 0 where
  pub rows : below ≡ rows_under count us
  pub row : rest % below < below
  pub labels : state_labels names (u ∷ us) (parent_states count (u ∷ us) rest) ≡ (32 ∷ quoted (label_of names u (rest / below))) ++ state_labels names us (parent_states count us (rest % below))

pub step : (count : ℕ → ℕ) (names : NamesView) (u : ℕ) (us : List ℕ) (rest before : ℕ) → 0 < count u → before ≡ rows_under count (u ∷ us) → rest < before → IsStep count names u us rest (before / count u)
step count names u us rest before some e h = record {
  rows = same;
  row = mod-lt rest (subst (λ n. 0 < n) (sym same) (some_below (count u) (rows_under count us) rest (subst (λ n. rest < n) e h)));
  labels = sym (ap (λ n. (32 ∷ quoted (label_of names u (rest / n))) ++ state_labels names us (parent_states count us (rest % n))) same);
}
  where
    same : before / count u ≡ rows_under count us
    same = ap (λ n. n / count u) e ∙ rows_below count u us some

-- the first parent's state is one that it has
pub state_in : (count : ℕ → ℕ) (u : ℕ) (us : List ℕ) (rest before : ℕ) → 0 < count u → before ≡ rows_under count (u ∷ us) → rest < before → rest / (before / count u) < count u
state_in count u us rest before some e h =
    subst (λ n. rest / n < count u) (sym (ap (λ n. n / count u) e ∙ rows_below count u us some))
    (state_within (count u) (rows_under count us) rest (subst (λ n. rest < n) e h))
