-- Where reading stops is the first impossible token.
use Rattle.std.proofs.Common.{◌≡◌, ℕ, List, [], ◌∷◌, ◌++◌, ◌⊎◌, inl, inr, refl, sym, ap, subst, ◌∙◌, length, append_assoc, append-nil}
use Rattle.std.specs.Prelude.{Option, Some, None}
use Rattle.std.proofs.lemmas.Option.{same_Some}
use Rattle.net_lexer.specs.declared.tokens.Token.{Token}
use Rattle.net_lexer.specs.declared.tokens.TokenKind.TheVariants as kinds
use Rattle.net_parser.specs.declared.reader.Stop.{Stop}
use Rattle.net_parser.specs.declared.reader.Stop.TheVariants.{Unexpected, Unsupported, TooDeep, NoMemory}
use Rattle.net_parser.specs.declared.parsing.ParseFault.{ParseFault}
use Rattle.net_parser.specs.declared.parsing.ParseFault.TheVariants as faults
use Rattle.net_parser.specs.Trees.{BlockTree}
use Rattle.net_parser.specs.Lexemes.{Lexeme, lexemes, IsMark}
use Rattle.net_parser.specs.Grammar.{IsModelName, Spells}
use Rattle.first_fault.specs.Answers.{IsFaultOrNoMemory}
use Rattle.net_parser.specs.Faults.{IsSentence, IsPossible, IsWrong, Stops, IsForeignWord, IsForeignBlock, IsFunction, IsModelAttribute, IsUnsupported, IsDeepList, IsTooDeep, IsUnexpected, StopsAt, IsFault, tree_pass, parse_fault, rest_place}
use Rattle.net_parser.specs.Laws.{Covered, Exclusive, OneFault}
use Rattle.net_parser.specs.Reading.{Place, start, within, step, stop, stop_at_end, refusal, fault_at, IsStop}
use Rattle.net_parser.proofs.Places.{Rest, Leads, EndsAt, found, leads_forth, leads_back, symbol_some, finish_place, may_stand, stands, rest_from_none}
use Rattle.net_parser.proofs.Refusals.{Stands, Foreign, Function, Model, Deep, unsupported, deep, known_refusal, not_foreign, not_function, not_model, not_deep}

-- what each reason means
abbrev pub IsKind : Stop → List Lexeme → List Lexeme → Type 0
IsKind Unexpected = IsUnexpected
IsKind Unsupported = IsUnsupported
IsKind TooDeep = IsTooDeep
IsKind NoMemory = λ before rest. ⊥

module _ (before : List Lexeme) (last : Place) (leads : Leads start before last) where
  regrouped : (l : Lexeme) (ls : List Lexeme) → (before ++ l ∷ []) ++ ls ≡ before ++ l ∷ ls
  regrouped l ls = append_assoc before (l ∷ []) ls

  possible : (l : Lexeme) → Stands last l → IsPossible (before ++ l ∷ [])
  possible l stands =
      let more = may_stand last l stands.0 stands.1 in
      (more.0, subst IsSentence (sym (regrouped l more.0)) (leads_forth before start last (l ∷ more.0) leads more.1))

  stood : (l : Lexeme) → IsPossible (before ++ l ∷ []) → Stands last l
  stood l h = stands last l h.0 (leads_back before start last (l ∷ h.0) leads (subst IsSentence (regrouped l h.0) h.1))

  all_possible : IsPossible before
  all_possible = let rest = finish_place last in (rest.0, leads_forth before start last rest.0 leads rest.1)

  whole : IsSentence before → Rest last []
  whole h = leads_back before start last [] leads (subst IsSentence (sym (append-nil before)) h)

  text : Rest last [] → IsSentence before
  text h = subst IsSentence (append-nil before) (leads_forth before start last [] leads h)

  foreign : (l : Lexeme) → IsForeignBlock before l → Foreign last l
  foreign l h = record { whole = whole h.place; word = h.word }

  function : (l : Lexeme) → IsFunction before l → Function last l
  function l h = record { node = h.place.0; is = h.place.1; stands = stood h.place.0 h.place.2; word = h.word }

  model : (l : Lexeme) → IsModelAttribute before l → Model last l
  model l h = record { others = λ other name free. stood other (h.place other name free); word = h.word }

  deep_list : (l : Lexeme) → IsDeepList before l → Deep last l
  deep_list l h = record { leaves = λ leaf is. stood leaf (h.place leaf is); mark = h.mark }

  not_unsupported : (l : Lexeme) → step last l ≡ None → refusal last l ≡ Unexpected → IsForeignBlock before l ⊎ IsFunction before l ⊎ IsModelAttribute before l → ⊥
  not_unsupported l e u (inl h) = not_foreign last l u (foreign l h)
  not_unsupported l e u (inr (inl h)) = not_function last l e u (function l h)
  not_unsupported l e u (inr (inr h)) = not_model last l e u (model l h)

  is_unsupported : (l : Lexeme) → Foreign last l ⊎ Function last l ⊎ Model last l → IsForeignBlock before l ⊎ IsFunction before l ⊎ IsModelAttribute before l
  is_unsupported l (inl h) = inl (record { place = text h.whole; word = h.word })
  is_unsupported l (inr (inl h)) = inr (inl (record { place = (h.node, h.is, possible h.node h.stands); word = h.word }))
  is_unsupported l (inr (inr h)) = inr (inr (record { place = λ name is free. possible name (h.others name is free); word = h.word }))

  kind : (why : Stop) (l : Lexeme) (after : List Lexeme) → step last l ≡ None → refusal last l ≡ why → IsKind why before (l ∷ after)
  kind Unexpected l after e u = record { supported = not_unsupported l e u; shallow = λ h. not_deep last l u (deep_list l h) }
  kind Unsupported l after e u = is_unsupported l (unsupported last l u)
  kind TooDeep l after e u = let h = deep last l u in record { place = λ value is. possible value (h.leaves value is); mark = h.mark }
  kind NoMemory l after e u = known_refusal last l u

  wrong : (l : Lexeme) (after : List Lexeme) → step last l ≡ None → IsWrong before (l ∷ after)
  wrong l after e h = let f = (stood l h).1 in cc

ends_wrong : (before : List Lexeme) (last : Place) (why : Stop) → Leads start before last → stop_at_end last ≡ Some (why, []) → IsKind why before [] × IsWrong before []
ends_wrong before start why leads e = cc
ends_wrong before (within []) why leads e = cc
ends_wrong before (within (symbol ∷ after)) why leads e =
    let p : ◌≡◌ {A = Stop × List Lexeme} (Unexpected, []) (why, []) = same_Some _ _ e in
    let u : why ≡ Unexpected = sym (ap (λ (x : Stop × List Lexeme). x.0) p) in
    let whole_of = whole before (within (symbol ∷ after)) leads in
    (rw u (record { supported = λ h. h; shallow = λ h. h }), λ h. let rest = whole_of h in symbol_some symbol rest.0 rest.1)

told : (before rest : List Lexeme) (last : Place) (why : Stop) → Leads start before last → EndsAt last why rest → IsKind why before rest × IsWrong before rest
told before [] last why leads ends = ends_wrong before last why leads ends
told before (l ∷ after) last why leads ends = (kind before last leads why l after ends.0 ends.1, wrong before last leads l after ends.0)

-- where reading stops, and why
pub stopped : (ls : List Lexeme) (why : Stop) (rest : List Lexeme) → stop start ls ≡ Some (why, rest) → (before : List Lexeme) × Stops ls before rest × IsKind why before rest
stopped ls why rest e =
    let f = found ls start why rest e in
    let t = told f.before rest f.last why f.leads f.ends in
    (f.before, record { all = f.all; possible = all_possible f.before f.last f.leads; wrong = t.1 }, t.0)

pub is_fault : (text : List ℕ) (tokens : List Token) (why : Stop) (before rest : List Lexeme) → Stops (lexemes text tokens) before rest → IsKind why before rest → IsFault text tokens (fault_at why (rest_place (length text) rest))
is_fault text tokens Unexpected before rest stops kind = (before, rest, stops, refl, kind)
is_fault text tokens Unsupported before rest stops kind = (before, rest, stops, refl, kind)
is_fault text tokens TooDeep before rest stops kind = (before, rest, stops, refl, kind)
is_fault text tokens NoMemory before rest stops kind = kind

covered_by : (text : List ℕ) (tokens : List Token) (found : Option (Stop × List Lexeme)) → stop start (lexemes text tokens) ≡ found → ((tree : List BlockTree) × Spells tree (lexemes text tokens)) ⊎ ((fault : ParseFault) × IsFault text tokens fault)
covered_by text tokens None e = inl (rest_from_none (lexemes text tokens) start e)
covered_by text tokens (Some (why, rest)) e =
    let s = stopped (lexemes text tokens) why rest e in
    inr (fault_at why (rest_place (length text) rest), is_fault text tokens why s.0 rest s.1 s.2)

pub covered : Covered
covered text tokens = covered_by text tokens (stop start (lexemes text tokens)) refl

-- a tree leaves no place for a stop
pub no_stop : (ls before rest : List Lexeme) → IsSentence ls → Stops ls before rest → ⊥
no_stop ls before [] h s = s.wrong (subst IsSentence (s.all ∙ append-nil before) h)
no_stop ls before (l ∷ after) h s = s.wrong (after, subst IsSentence (s.all ∙ sym (append_assoc before (l ∷ []) after)) h)

pub exclusive : Exclusive
exclusive text tokens (faults.Unexpected at) spelled h = no_stop (lexemes text tokens) h.0 h.1 spelled h.2
exclusive text tokens (faults.Unsupported at) spelled h = no_stop (lexemes text tokens) h.0 h.1 spelled h.2
exclusive text tokens (faults.TooDeep at) spelled h = no_stop (lexemes text tokens) h.0 h.1 spelled h.2
exclusive text tokens faults.NoMemory spelled h = h

-- the front of a possible list is possible
front : (xs ys : List Lexeme) → IsPossible (xs ++ ys) → IsPossible xs
front xs ys h = (ys ++ h.0, subst IsSentence (append_assoc xs ys h.0) h.1)

longer : (before more : List Lexeme) (l : Lexeme) (rest : List Lexeme) → IsWrong before (l ∷ rest) → IsPossible (before ++ l ∷ more) → ⊥
longer before more l rest wrong h = wrong (front (before ++ l ∷ []) more (subst IsPossible (sym (append_assoc before (l ∷ []) more)) h))

-- two ways to part a list: one front is the other or goes on with the next
parted : (xs ys us vs : List Lexeme) → xs ++ ys ≡ us ++ vs → ((xs ≡ us) × (ys ≡ vs)) ⊎ ((l : Lexeme) × (more : List Lexeme) × (rest : List Lexeme) × (us ≡ xs ++ l ∷ more) × (ys ≡ l ∷ rest)) ⊎ ((l : Lexeme) × (more : List Lexeme) × (rest : List Lexeme) × (xs ≡ us ++ l ∷ more) × (vs ≡ l ∷ rest))
parted [] ys [] vs e = inl (refl, e)
parted [] ys (u ∷ us) vs e = inr (inl (u, us, us ++ vs, refl, e))
parted (x ∷ xs) ys [] vs e = inr (inr (x, xs, xs ++ ys, refl, sym e))
parted (x ∷ xs) ys (u ∷ us) vs e =
    let h : x ≡ u = cc in
    let t : xs ++ ys ≡ us ++ vs = cc in
    elim (parted xs ys us vs t) [
      | inl p ↦ inl (rw (h, p.0) refl, p.1)
      | inr (inl p) ↦ inr (inl (p.0, p.1, p.2, rw (h, p.3) refl, p.4))
      | inr (inr p) ↦ inr (inr (p.0, p.1, p.2, rw (h, p.3) refl, p.4))
    ]

-- tokens stop in one place alone
pub one_stop : (ls before rest others behind : List Lexeme) → Stops ls before rest → Stops ls others behind → (before ≡ others) × (rest ≡ behind)
one_stop ls before rest others behind s t = elim (parted before rest others behind (sym s.all ∙ t.all)) [
  | inl p ↦ p
  | inr (inl p) ↦ absurd (longer before p.1 p.0 p.2 (rw p.4 at s.wrong) (rw p.3 at t.possible))
  | inr (inr p) ↦ absurd (longer others p.1 p.0 p.2 (rw p.4 at t.wrong) (rw p.3 at s.possible))
]

foreign_deep : (l : Lexeme) → IsForeignWord l → IsMark kinds.ParenOpen l → ⊥
foreign_deep l h mark = elim h.is [
  | inl w ↦ (let f = w.kind in cc)
  | inr (inl w) ↦ (let f = w.kind in cc)
  | inr (inr (inl w)) ↦ (let f = w.kind in cc)
  | inr (inr (inr w)) ↦ (let f = w.kind in cc)
]

model_deep : (l : Lexeme) → IsModelName l → IsMark kinds.ParenOpen l → ⊥
model_deep l h mark = elim h.is [ inl w ↦ (let f = w.kind in cc) | inr w ↦ (let f = w.kind in cc) ]

unsupported_deep : (before rest : List Lexeme) → IsUnsupported before rest → IsTooDeep before rest → ⊥
unsupported_deep before [] h k = h
unsupported_deep before (l ∷ after) (inl h) k = foreign_deep l h.word k.mark
unsupported_deep before (l ∷ after) (inr (inl h)) k = let f = h.word.kind in let g = k.mark in cc
unsupported_deep before (l ∷ after) (inr (inr h)) k = model_deep l h.word k.mark

module _ (text : List ℕ) (tokens : List Token) (a b : ℕ) where
  same_place : (P Q : List Lexeme → List Lexeme → Type 0) → StopsAt text tokens a P → StopsAt text tokens b Q → a ≡ b
  same_place P Q h k =
      let same = one_stop (lexemes text tokens) h.0 h.1 k.0 k.1 h.2 k.2 in
      h.3 ∙ ap (rest_place (length text)) same.1 ∙ sym k.3

  -- both kinds at one place
  both_kinds : (P Q : List Lexeme → List Lexeme → Type 0) → StopsAt text tokens a P → StopsAt text tokens b Q → (before : List Lexeme) × (rest : List Lexeme) × P before rest × Q before rest
  both_kinds P Q h k =
      let same = one_stop (lexemes text tokens) h.0 h.1 k.0 k.1 h.2 k.2 in
      (k.0, k.1, subst (λ rest. P k.0 rest) same.1 (subst (λ before. P before h.1) same.0 h.4), k.4)

  unlike : (P Q : List Lexeme → List Lexeme → Type 0) → ((before rest : List Lexeme) → P before rest → Q before rest → ⊥) → StopsAt text tokens a P → StopsAt text tokens b Q → ⊥
  unlike P Q apart h k = let both = both_kinds P Q h k in apart both.0 both.1 both.2 both.3

pub one_fault : OneFault
one_fault text tokens (faults.Unexpected a) (faults.Unexpected b) h k = ap faults.Unexpected (same_place text tokens a b IsUnexpected IsUnexpected h k)
one_fault text tokens (faults.Unsupported a) (faults.Unsupported b) h k = ap faults.Unsupported (same_place text tokens a b IsUnsupported IsUnsupported h k)
one_fault text tokens (faults.TooDeep a) (faults.TooDeep b) h k = ap faults.TooDeep (same_place text tokens a b IsTooDeep IsTooDeep h k)
one_fault text tokens (faults.Unexpected a) (faults.Unsupported b) h k = absurd (unlike text tokens a b IsUnexpected IsUnsupported (λ before rest p q. p.supported q) h k)
one_fault text tokens (faults.Unexpected a) (faults.TooDeep b) h k = absurd (unlike text tokens a b IsUnexpected IsTooDeep (λ before rest p q. p.shallow q) h k)
one_fault text tokens (faults.Unsupported a) (faults.Unexpected b) h k = absurd (unlike text tokens b a IsUnexpected IsUnsupported (λ before rest p q. p.supported q) k h)
one_fault text tokens (faults.TooDeep a) (faults.Unexpected b) h k = absurd (unlike text tokens b a IsUnexpected IsTooDeep (λ before rest p q. p.shallow q) k h)
one_fault text tokens (faults.Unsupported a) (faults.TooDeep b) h k = absurd (unlike text tokens a b IsUnsupported IsTooDeep unsupported_deep h k)
one_fault text tokens (faults.TooDeep a) (faults.Unsupported b) h k = absurd (unlike text tokens b a IsUnsupported IsTooDeep unsupported_deep k h)
one_fault text tokens faults.NoMemory other h k = absurd h
one_fault text tokens fault faults.NoMemory h k = absurd k

-- what a reader's stop says of the tokens
pub refused : (text : List ℕ) (tokens : List Token) (why : Stop) (rest : List Lexeme) → IsStop why (stop start (lexemes text tokens)) rest → IsFaultOrNoMemory parse_fault (tree_pass text tokens) (fault_at why (rest_place (length text) rest))
refused text tokens Unexpected rest e = let s = stopped (lexemes text tokens) Unexpected rest e in is_fault text tokens Unexpected s.0 rest s.1 s.2
refused text tokens Unsupported rest e = let s = stopped (lexemes text tokens) Unsupported rest e in is_fault text tokens Unsupported s.0 rest s.1 s.2
refused text tokens TooDeep rest e = let s = stopped (lexemes text tokens) TooDeep rest e in is_fault text tokens TooDeep s.0 rest s.1 s.2
refused text tokens NoMemory rest e = tt
