-- Lines in turn: where a line was read at its place, the text stops where the others stop.
use Rattle.std.proofs.Common.{◌≡◌, ℕ, ◌+◌, List, [], ◌∷◌, ◌++◌, true, false, Bool, not, eqb, cond, inl, inr, refl, sym, ◌∙◌, ap, subst, arith, append_assoc, tests}
use Rattle.std.specs.List.{onto_first}
use Rattle.std.proofs.lemmas.Bool.{and_parts}
use Rattle.maid_model.specs.Views.{NodeView}
use Rattle.maid_model.specs.Names.{NamesView}
use Rattle.report_text.specs.declared.reading.ReportFault.{ReportFault}
use Rattle.report_text.specs.declared.reading.ReportFault.TheVariants.{BadLine, NoMemory}
use Rattle.report_text.specs.Reading.{lines_of}
use Rattle.report_text.specs.Slots.{Slot, End, Shows, StopsIn, IsDecisionOrder, IsOrderless, IsStuck, PassesLines, LinesView, IsTaken, lacks, order_words}
use Rattle.report_text.proofs.Tails.{same_front}

-- the first line of a text, where it has an end
pub lines_line : (line rest : List ℕ) → lacks 10 line ≡ true → lines_of (line ++ 10 ∷ rest) ≡ (line ++ 10 ∷ []) ∷ lines_of rest
lines_line [] rest l = refl
lines_line (b ∷ line) rest l =
    let parts = and_parts (not (eqb b 10)) _ l in
    let no : eqb b 10 ≡ false = not_same b parts.0 in
    rw (no, lines_line line rest parts.1) refl
  where
    not_same : (b : ℕ) → not (eqb b 10) ≡ true → eqb b 10 ≡ false
    not_same b h = grind (arith, tests)

pub taken_lines : (line : List ℕ) (old new : LinesView) → IsTaken line old new → lines_of old.rest ≡ (line ++ 10 ∷ []) ∷ lines_of new.rest
taken_lines line old new taken = ap lines_of taken.bytes ∙ lines_line line new.rest taken.one

-- without an end there is one line at most, and it has no end
pub data IsUnended (bytes : List ℕ) : Type 0 where
  Over : bytes ≡ [] → IsUnended bytes
  Cut : lines_of bytes ≡ bytes ∷ [] → IsUnended bytes

pub unended : (bytes : List ℕ) → lacks 10 bytes ≡ true → IsUnended bytes
unended [] l = Over refl
unended (b ∷ bytes) l = Cut (one b bytes (and_parts (not (eqb b 10)) _ l).0 (unended bytes (and_parts (not (eqb b 10)) _ l).1))
  where
    not_same : (b : ℕ) → not (eqb b 10) ≡ true → eqb b 10 ≡ false
    not_same b h = grind (arith, tests)

    one : (b : ℕ) (bytes : List ℕ) → not (eqb b 10) ≡ true → IsUnended bytes → lines_of (b ∷ bytes) ≡ (b ∷ bytes) ∷ []
    one b bytes n (Over e) = rw (not_same b n, e) refl
    one b bytes n (Cut e) = rw (not_same b n, e) refl

-- a line that has an end doesn't lack it
pub ended_has : (line : List ℕ) → lacks 10 (line ++ 10 ∷ []) ≡ true → ⊥
ended_has [] l = absurd cc
ended_has (b ∷ line) l = ended_has line (and_parts (not (eqb b 10)) _ l).1

module _ (nodes : List NodeView) (names : NamesView) where
  -- the text stops at these places, whatever follows them
  pub stops_front : (slots others : List Slot) (lines : List (List ℕ)) (read number : ℕ) → StopsIn nodes names slots lines read number → StopsIn nodes names (slots ++ others) lines read number
  stops_front [] others lines read number h = absurd h
  stops_front (s ∷ slots) others [] read number h = h
  stops_front (s ∷ slots) others (l ∷ lines) read number (inl h) = inl h
  stops_front (s ∷ slots) others (l ∷ lines) read number (inr h) = inr (h.0, stops_front slots others lines (read + 1) number h.1)

  pub stuck_front : (slots others : List Slot) (lines : LinesView) (fault : ReportFault) → IsStuck nodes names slots lines fault → IsStuck nodes names (slots ++ others) lines fault
  stuck_front slots others lines NoMemory h = tt
  stuck_front slots others lines (BadLine number) h = stops_front slots others (lines_of lines.rest) lines.read number h

  -- behind lines that were read
  pub stuck_behind : (slots others : List Slot) (old new : LinesView) (fault : ReportFault) → PassesLines nodes names slots old new → IsStuck nodes names others new fault → IsStuck nodes names (slots ++ others) old fault
  stuck_behind slots others old new NoMemory passes h = tt
  stuck_behind slots others old new (BadLine number) passes h = passes others number h

  pub passes_one : (slot : Slot) (line : List ℕ) (old new : LinesView) → Shows nodes names slot (line ++ 10 ∷ []) → IsTaken line old new → PassesLines nodes names (slot ∷ []) old new
  passes_one slot line old new shows taken others number h =
      subst (λ lines. StopsIn nodes names (slot ∷ others) lines old.read number) (sym (taken_lines line old new taken))
      (inr (shows, subst (λ n. StopsIn nodes names others (lines_of new.rest) n number) taken.read h))

  pub passes_then : (slots others : List Slot) (old mid new : LinesView) → PassesLines nodes names slots old mid → PassesLines nodes names others mid new → PassesLines nodes names (slots ++ others) old new
  passes_then slots others old mid new p q rest number h =
      subst (λ s. StopsIn nodes names s (lines_of old.rest) old.read number) (sym (append_assoc slots others rest)) (p (others ++ rest) number (q rest number h))

  -- the next line is bad
  pub stuck_line : (slot : Slot) (line : List ℕ) (old new : LinesView) → IsTaken line old new → (Shows nodes names slot (line ++ 10 ∷ []) → ⊥) → IsStuck nodes names (slot ∷ []) old (BadLine (old.read + 1))
  stuck_line slot line old new taken none =
      subst (λ lines. StopsIn nodes names (slot ∷ []) lines old.read (old.read + 1)) (sym (taken_lines line old new taken)) (inl (none, refl))

  -- no line with an end is left
  pub stuck_cut : (slot : Slot) (lines : LinesView) → lacks 10 lines.rest ≡ true → ((line : List ℕ) → Shows nodes names slot line → lacks 10 line ≡ true → ⊥) → IsStuck nodes names (slot ∷ []) lines (BadLine (lines.read + 1))
  stuck_cut slot lines l none = by_end (unended lines.rest l)
    where
      by_end : IsUnended lines.rest → StopsIn nodes names (slot ∷ []) (lines_of lines.rest) lines.read (lines.read + 1)
      by_end (Over e) = subst (λ bytes. StopsIn nodes names (slot ∷ []) (lines_of bytes) lines.read (lines.read + 1)) (sym e) (λ shows. none [] shows refl, refl)
      by_end (Cut e) = subst (λ ls. StopsIn nodes names (slot ∷ []) ls lines.read (lines.read + 1)) (sym e) (inl (λ shows. none lines.rest shows l, refl))

  -- more than the end is left
  pub stuck_more : (lines : LinesView) → (lines.rest ≡ [] → ⊥) → IsStuck nodes names (End ∷ []) lines (BadLine (lines.read + 1))
  stuck_more lines more = by_lines lines.rest more
    where
      by_first : (ls : List (List ℕ)) (b : ℕ) → StopsIn nodes names (End ∷ []) (onto_first b ls) lines.read (lines.read + 1)
      by_first [] b = inl (λ e. absurd cc, refl)
      by_first (l ∷ ls) b = inl (λ e. absurd cc, refl)

      by_test : (t : Bool) (b : ℕ) (bytes : List ℕ) → StopsIn nodes names (End ∷ []) (cond t ((10 ∷ []) ∷ lines_of bytes) (onto_first b (lines_of bytes))) lines.read (lines.read + 1)
      by_test true b bytes = inl (λ e. absurd cc, refl)
      by_test false b bytes = by_first (lines_of bytes) b

      by_lines : (bytes : List ℕ) → (bytes ≡ [] → ⊥) → StopsIn nodes names (End ∷ []) (lines_of bytes) lines.read (lines.read + 1)
      by_lines [] more = absurd (more refl)
      by_lines (b ∷ bytes) more = by_test (eqb b 10) b bytes

  -- no line of an order
  pub orderless_line : (line : List ℕ) (old new : LinesView) → IsTaken line old new → ((order : List ℕ) → IsDecisionOrder nodes order → line ≡ order_words names order → ⊥) → IsOrderless nodes names old (BadLine (old.read + 1))
  orderless_line line old new taken none =
      (refl, λ order others is e. none order is (same_front line (order_words names order) (let same : (line ++ 10 ∷ []) ∷ lines_of new.rest ≡ (order_words names order ++ 10 ∷ []) ∷ others = sym (taken_lines line old new taken) ∙ e in let head : line ++ 10 ∷ [] ≡ order_words names order ++ 10 ∷ [] = cc in head)))

  pub orderless_cut : (lines : LinesView) → lacks 10 lines.rest ≡ true → IsOrderless nodes names lines (BadLine (lines.read + 1))
  orderless_cut lines l = (refl, λ order others is e. by_end (order_words names order) others (unended lines.rest l) e)
    where
      by_end : (words : List ℕ) (others : List (List ℕ)) → IsUnended lines.rest → lines_of lines.rest ≡ (words ++ 10 ∷ []) ∷ others → ⊥
      by_end words others (Over e) same = let none : lines_of lines.rest ≡ [] = ap lines_of e in absurd cc
      by_end words others (Cut e) same =
          let one : lines.rest ∷ [] ≡ (words ++ 10 ∷ []) ∷ others = sym e ∙ same in
          let head : lines.rest ≡ words ++ 10 ∷ [] = cc in
          ended_has words (subst (λ x. lacks 10 x ≡ true) head l)
