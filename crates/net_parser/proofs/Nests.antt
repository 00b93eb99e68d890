-- Lists in one another: what is still to come where so many of them are open.
use Rattle.std.proofs.Common.{◌≡◌, ◌-◌, ◌+◌, ℕ, zero, suc, true, List, [], ◌∷◌, ◌++◌, inr, drop, length, nat_lt, take, refl, sym, ap, subst, ◌∙◌, append-nil, append_assoc, arith}
use Rattle.std.specs.Prelude.{◌<◌, Some, None, if◌then◌else◌}
use Rattle.std.proofs.Math.Seq.{take-append_seam}
use Rattle.std.proofs.lemmas.Bool.{lt-ltb}
use Rattle.std.proofs.lemmas.List.{length-append}
use Rattle.net_lexer.specs.declared.tokens.Token.{Token}
use Rattle.net_lexer.specs.declared.tokens.TokenKind.{TokenKind}
use Rattle.net_lexer.specs.declared.tokens.TokenKind.TheVariants as kinds
use Rattle.net_parser.specs.declared.reader.Stop.TheVariants.{TooDeep}
use Rattle.net_parser.specs.Grammar.{Rule, Never, ◌▹◌, Mark, Value, Values}
use Rattle.net_parser.specs.Lexemes.{Lexeme, is_leaf, tokens_in}
use Rattle.net_parser.specs.Marks.{TreeMark, read, wrapped}
use Rattle.net_parser.specs.ReaderCalls.{PassesList, PassesValue}
use Rattle.net_parser.specs.Reading.{Symbol, next, refusal_at, values, stop, within}
use Rattle.net_parser.specs.Trees.{ValueTree, ValueTrees, leaf, list, more}
use Rattle.net_parser.specs.Views.{closed, mark_of, marks_of, tree_of, values_of}
use Rattle.net_parser.proofs.Stopped.{stopped_at, went_on_at}

-- the lists round the innermost one
abbrev pub outer : ℕ → ℕ → List Symbol
outer depth zero = []
outer depth (suc level) = values (depth - level) ∷ outer depth level

-- what is still to come where so many lists are open inside one of that depth
abbrev pub to_come : ℕ → ℕ → List Symbol → List Symbol
to_come depth level after = values (depth - level) ∷ outer depth level ++ after

leaf_next : (depth : ℕ) (kind : TokenKind) (bytes : List ℕ) → is_leaf kind ≡ true → next (values depth) kind bytes ≡ Some (values depth ∷ [])
leaf_next depth kinds.Word bytes e = refl
leaf_next depth kinds.Text bytes e = refl
leaf_next depth kinds.Number bytes e = refl
leaf_next depth kind bytes e = cc

module _ (depth level : ℕ) (after : List Symbol) (l : Lexeme) (now ls : List Lexeme) (is : now ≡ l ∷ ls) where
  -- a leaf leaves all as it is
  pub leaf_passed : is_leaf l.token.kind ≡ true → stop (within (to_come depth level after)) now ≡ stop (within (to_come depth level after)) ls
  leaf_passed e = went_on_at (values (depth - level)) (outer depth level ++ after) l now ls (values (depth - level) ∷ []) is (leaf_next (depth - level) l.token.kind l.bytes e)

  -- one list more is open behind a parenthesis that opens one
  pub list_opened : l.token.kind ≡ kinds.ParenOpen → level < depth → (above : ℕ) → above ≡ level + 1 → stop (within (to_come depth level after)) now ≡ stop (within (to_come depth above after)) ls
  list_opened kind room above one =
      let some = ap (λ seen. next (values (depth - level)) seen l.bytes) kind ∙ ap (λ test. if test then Some (values (depth - level - 1) ∷ values (depth - level) ∷ []) else None) (lt-ltb 0 (depth - level) (omega (arith, room))) in
      let fewer : depth - level - 1 ≡ depth - suc level = omega (arith, room) in
      let same : suc level ≡ above = omega (arith, one) in
      went_on_at (values (depth - level)) (outer depth level ++ after) l now ls (values (depth - level - 1) ∷ values (depth - level) ∷ []) is some
      ∙ ap (λ d. stop (within (values d ∷ values (depth - level) ∷ outer depth level ++ after)) ls) fewer
      ∙ ap (λ n. stop (within (to_come depth n after)) ls) same

  -- no more lists may be open than that
  pub list_refused : l.token.kind ≡ kinds.ParenOpen → level ≡ depth → stop (within (to_come depth level after)) now ≡ Some (TooDeep, now)
  list_refused kind full =
      let nought : depth - level ≡ 0 = omega (arith, full) in
      let none = ap (λ seen. next (values (depth - level)) seen l.bytes) kind ∙ ap (λ n. if nat_lt 0 n then Some (values (n - 1) ∷ values n ∷ []) else None) nought in
      stopped_at (values (depth - level)) (outer depth level ++ after) l now ls TooDeep is none (ap (λ seen. refusal_at (values (depth - level)) seen l.bytes) kind)

  -- a parenthesis closes the innermost list
  pub list_ended : l.token.kind ≡ kinds.ParenClose → (below : ℕ) → level ≡ below + 1 → stop (within (to_come depth level after)) now ≡ stop (within (to_come depth below after)) ls
  list_ended kind below one =
      let same : level ≡ suc below = omega (arith, one) in
      went_on_at (values (depth - level)) (outer depth level ++ after) l now ls [] is (ap (λ seen. next (values (depth - level)) seen l.bytes) kind)
      ∙ ap (λ n. stop (within (outer depth n ++ after)) ls) same

-- The values of the innermost of so many open lists, and behind each parenthesis those that follow
-- in the list round it.
abbrev pub Ends : ℕ → ℕ → ValueTrees → List ValueTrees → Rule
Ends depth zero now [] = Values depth now
Ends depth zero now (next ∷ later) = Never
Ends depth (suc level) now [] = Never
Ends depth (suc level) now (next ∷ later) = Values (depth - suc level) now ▹ Mark kinds.ParenClose ▹ Ends depth level next later

-- one value more in front
value_before : (depth level : ℕ) (v : ValueTree) (vs : ValueTrees) (later : List ValueTrees) (a m b : List Lexeme) → Value (depth - level) v a m → Ends depth level vs later m b → Ends depth level (more v vs) later a b
value_before depth zero v vs [] a m b h rest = (m, subst (λ d. Value d v a m) (let e : depth - zero ≡ depth = omega arith in e) h, rest)
value_before depth zero v vs (next ∷ later) a m b h rest = absurd rest
value_before depth (suc level) v vs [] a m b h rest = absurd rest
value_before depth (suc level) v vs (next ∷ later) a m b h rest = (rest.0, (m, h, rest.1), rest.2)

-- what the marks stand for, with as many lists open
abbrev pub Reads : ℕ → ℕ → List TreeMark → Rule
Reads depth level marks = Ends depth level (read marks).0 (read marks).1

leaf_mark : (kind : TokenKind) (t : Token) → is_leaf kind ≡ true → mark_of kind t ≡ inr t
leaf_mark kinds.Word t e = refl
leaf_mark kinds.Text t e = refl
leaf_mark kinds.Number t e = refl
leaf_mark kind t e = cc

list_before : (depth level : ℕ) (now : ValueTrees) (later : List ValueTrees) (l : Lexeme) (ls b : List Lexeme) → l.token.kind ≡ kinds.ParenOpen → level < depth → Ends depth (suc level) now later ls b → Ends depth level (wrapped now later).0 (wrapped now later).1 (l ∷ ls) b
list_before depth level now [] l ls b kind room h = absurd h
list_before depth level now (next ∷ later) l ls b kind room h =
    let inside = subst (λ d. Values d now ls h.0) (let e : depth - suc level ≡ depth - level - 1 = omega (arith, room) in e) h.1 in
    let whole : Value (depth - level) (list now) (l ∷ ls) h.2.0 = (omega (arith, room), (ls, (kind, refl), (h.0, inside, h.2.1))) in
    value_before depth level (list now) next later (l ∷ ls) h.2.0 b whole h.2.2

module _ (depth level : ℕ) (marks : List TreeMark) (l : Lexeme) (ls b : List Lexeme) where
  leaf_first : is_leaf l.token.kind ≡ true → Reads depth level marks ls b → Reads depth level (mark_of l.token.kind l.token ∷ marks) (l ∷ ls) b
  leaf_first e h = subst (λ m. Reads depth level (m ∷ marks) (l ∷ ls) b) (sym (leaf_mark l.token.kind l.token e))
      (value_before depth level (leaf l.token) (read marks).0 (read marks).1 (l ∷ ls) ls b ((e, refl), refl) h)

  open_first : l.token.kind ≡ kinds.ParenOpen → level < depth → Reads depth (suc level) marks ls b → Reads depth level (mark_of l.token.kind l.token ∷ marks) (l ∷ ls) b
  open_first e room h = subst (λ kind. Reads depth level (mark_of kind l.token ∷ marks) (l ∷ ls) b) (sym e)
      (list_before depth level (read marks).0 (read marks).1 l ls b e room h)

  close_first : l.token.kind ≡ kinds.ParenClose → Reads depth level marks ls b → Reads depth (suc level) (mark_of l.token.kind l.token ∷ marks) (l ∷ ls) b
  close_first e h = subst (λ kind. Reads depth (suc level) (mark_of kind l.token ∷ marks) (l ∷ ls) b) (sym e)
      (l ∷ ls, refl, (ls, (e, refl), h))

-- Tokens that lead from the first to here, with so many lists open: whatever ends these lists from
-- here on spells values together with them.
pub record Leads (depth level : ℕ) (from now : List Lexeme) : Type 0 where
  pub passed : List Lexeme
  pub all : from ≡ passed ++ now
  pub goes_on : (marks : List TreeMark) (to : List Lexeme) → Reads depth level marks now to → Reads depth 0 (marks_of (tokens_in passed) ++ marks) from to

pub none_passed : (depth : ℕ) (from : List Lexeme) → Leads depth 0 from from
none_passed depth from = record { passed = []; all = refl; goes_on = λ marks to h. h }

-- one token further
one_more : (depth level further : ℕ) (from now ls : List Lexeme) (l : Lexeme) → now ≡ l ∷ ls → Leads depth level from now → ((marks : List TreeMark) (to : List Lexeme) → Reads depth further marks ls to → Reads depth level (mark_of l.token.kind l.token ∷ marks) (l ∷ ls) to) → Leads depth further from ls
one_more depth level further from now ls l is leads step = record {
  passed = leads.passed ++ l ∷ [];
  all = leads.all ∙ ap (λ n. leads.passed ++ n) is ∙ sym (append_assoc leads.passed (l ∷ []) ls);
  goes_on = λ marks to h.
      subst (λ ms. Reads depth 0 ms from to) (sym (marked leads.passed marks))
      (leads.goes_on (mark_of l.token.kind l.token ∷ marks) to (subst (λ n. Reads depth level (mark_of l.token.kind l.token ∷ marks) n to) (sym is) (step marks to h)));
} where
  marked : (passed : List Lexeme) (marks : List TreeMark) → marks_of (tokens_in (passed ++ l ∷ [])) ++ marks ≡ marks_of (tokens_in passed) ++ mark_of l.token.kind l.token ∷ marks
  marked [] marks = refl
  marked (p ∷ passed) marks = ap (λ ms. mark_of p.token.kind p.token ∷ ms) (marked passed marks)

module _ (depth level : ℕ) (from now ls : List Lexeme) (l : Lexeme) (is : now ≡ l ∷ ls) where
  pub leads_past_leaf : is_leaf l.token.kind ≡ true → Leads depth level from now → Leads depth level from ls
  leads_past_leaf e leads = one_more depth level level from now ls l is leads (λ marks to h. leaf_first depth level marks l ls to e h)

  pub leads_into_list : l.token.kind ≡ kinds.ParenOpen → level < depth → (above : ℕ) → above ≡ level + 1 → Leads depth level from now → Leads depth above from ls
  leads_into_list e room above one leads =
      let same : suc level ≡ above = omega (arith, one) in
      subst (λ n. Leads depth n from ls) same (one_more depth level (suc level) from now ls l is leads (λ marks to h. open_first depth level marks l ls to e room h))

  pub leads_out_of_list : l.token.kind ≡ kinds.ParenClose → (below : ℕ) → level ≡ below + 1 → Leads depth level from now → Leads depth below from ls
  leads_out_of_list e below one leads =
      let same : level ≡ suc below = omega (arith, one) in
      one_more depth (suc below) below from now ls l is (subst (λ n. Leads depth n from now) same leads) (λ marks to h. close_first depth below marks l ls to e h)

ended : (depth : ℕ) (now : ValueTrees) (later : List ValueTrees) (a b : List Lexeme) → Ends depth 0 now later a b → Values depth (closed now later) a b
ended depth now [] a b h = h
ended depth now (next ∷ later) a b h = absurd h

-- where no list is open, the tokens up to here spell the values of the list
pub leads_to_end : (depth : ℕ) (from now : List Lexeme) (leads : Leads depth 0 from now) → Values depth (values_of (tokens_in leads.passed)) from now
leads_to_end depth from now leads =
    let marks = marks_of (tokens_in leads.passed) in
    ended depth (read marks).0 (read marks).1 from now
    (subst (λ ms. Reads depth 0 ms from now) (append-nil marks) (leads.goes_on [] now refl))

-- the parenthesis that closes the list itself
pub list_passed : (depth level : ℕ) (from now further : List Lexeme) (l : Lexeme) → now ≡ l ∷ drop 1 now → further ≡ drop 1 now → l.token.kind ≡ kinds.ParenClose → level ≡ 0 → Leads depth level from now → PassesList depth from further
list_passed depth level from now further l is e kind nought leads =
    let whole = subst (λ n. Leads depth n from now) nought leads in
    let front : now ≡ l ∷ further = is ∙ ap (λ ls. l ∷ ls) (sym e) in
    let close = subst (λ ls. Mark kinds.ParenClose ls further) (sym front) (kind, refl) in
    (whole.passed, l, whole.all ∙ ap (λ ls. whole.passed ++ ls) front, (now, leads_to_end depth from now whole, close))

-- a value that is a leaf
pub leaf_alone : (depth : ℕ) (from further : List Lexeme) (l : Lexeme) → from ≡ l ∷ drop 1 from → further ≡ drop 1 from → is_leaf l.token.kind ≡ true → PassesValue depth from further
leaf_alone depth from further l is e kind =
    let front : from ≡ l ∷ further = is ∙ ap (λ ls. l ∷ ls) (sym e) in
    (l ∷ [], front, subst (λ ls. Value depth (leaf l.token) ls further) (sym front) ((kind, refl), refl))

-- the tree of a list's tokens
list_tree : (first close : Token) (inside : List Token) → tree_of (first ∷ inside ++ close ∷ []) ≡ list (values_of inside)
list_tree first close [] = refl
list_tree first close (t ∷ ts) =
    let len : length (ts ++ close ∷ []) ≡ length (t ∷ ts) = simp length-append (omega arith) in
    ap (λ n. list (values_of (take n (t ∷ ts ++ close ∷ [])))) len ∙ ap (λ us. list (values_of us)) (take-append_seam (t ∷ ts) (close ∷ []))

tokens_around : (first close : Lexeme) (inside : List Lexeme) → tokens_in (first ∷ inside ++ close ∷ []) ≡ first.token ∷ tokens_in inside ++ close.token ∷ []
tokens_around first close inside = ap (λ ts. first.token ∷ ts) (behind inside) where
  behind : (ls : List Lexeme) → tokens_in (ls ++ close ∷ []) ≡ tokens_in ls ++ close.token ∷ []
  behind [] = refl
  behind (l ∷ ls) = ap (λ ts. l.token ∷ ts) (behind ls)

-- a value that is a list
pub whole_list : (depth : ℕ) (from inner further : List Lexeme) (l : Lexeme) → from ≡ l ∷ drop 1 from → inner ≡ drop 1 from → l.token.kind ≡ kinds.ParenOpen → 0 < depth → PassesList (depth - 1) inner further → PassesValue depth from further
whole_list depth from inner further l is e kind room passes =
    let front : from ≡ l ∷ inner = is ∙ ap (λ ls. l ∷ ls) (sym e) in
    let inside = passes.0 in
    let close = passes.1 in
    let tree = ap tree_of (tokens_around l close inside) ∙ list_tree l.token close.token (tokens_in inside) in
    let whole : Value depth (list (values_of (tokens_in inside))) (l ∷ inner) further = (room, (inner, (kind, refl), passes.3)) in (
      l ∷ inside ++ close ∷ [],
      front ∙ ap (λ ls. l ∷ ls) (passes.2 ∙ sym (append_assoc inside (close ∷ []) further)),
      subst (λ v. Value depth v from further) (sym tree) (subst (λ ls. Value depth (list (values_of (tokens_in inside))) ls further) (sym front) whole),
    )
