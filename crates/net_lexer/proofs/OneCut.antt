-- A text is cut into pieces in one way.
use Rattle.std.proofs.Common.{◌≡◌, ◌-◌, ℕ, List, [], ◌∷◌, length, drop, refl, sym, ap, ◌∙◌, subst, arith}
use Rattle.std.specs.List.{filter_map}
use Rattle.std.proofs.Math.Seq.{drop-length}
use Rattle.net_lexer.specs.Pieces.{IsPieceOf, Lead, token_of, IsFaultAt}
use Rattle.net_lexer.specs.Laws.{Exclusive, OneList, OneFault}
use Rattle.net_lexer.specs.declared.tokens.LexFault.{LexFault}
use Rattle.net_lexer.specs.declared.pieces.Piece.{Piece}
use Rattle.net_lexer.specs.declared.pieces.PieceKind.{PieceKind}
use Rattle.net_lexer.proofs.Starts.{piece, start_of, piece_start, fault_start, fault_of, IsStuck}

-- a place that no piece leads on from
abbrev pub Stuck : List ℕ → ℕ → Type 0
Stuck text place = IsStuck (start_of (drop place text))

-- no piece stands where one is stuck
no_piece : (text : List ℕ) (p : Piece) (place : ℕ) → IsPieceOf text p → p.start ≡ place → Stuck text place → ⊥
no_piece text p place is at stuck = rw (← at, piece_start text p is) at stuck

-- a piece by its parts
abbrev piece_of : PieceKind → ℕ → ℕ → Piece
piece_of kind start end = record { kind = kind; start = start; end = end }

-- pieces with the same parts are one
same_fields : (kind other : PieceKind) (start start' end end' : ℕ) → kind ≡ other → start ≡ start' → end ≡ end' → piece_of kind start end ≡ piece_of other start' end'
same_fields kind other start start' end end' e f g = cc

-- what some bytes begin with is one piece
same_start : (k l : PieceKind) (m n : ℕ) → piece k m ≡ piece l n → (k ≡ l) × (m ≡ n)
same_start k l m n e = (cc, cc)

-- two pieces of a text at one place are one
same_piece : (text : List ℕ) (p q : Piece) → IsPieceOf text p → IsPieceOf text q → p.start ≡ q.start → p ≡ q
same_piece text p q p_is q_is at =
    let found : piece p.kind (p.end - p.start) ≡ piece q.kind (q.end - q.start) = sym (piece_start text p p_is) ∙ ap (λ n. start_of (drop n text)) at ∙ piece_start text q q_is in
    let parts = same_start p.kind q.kind (p.end - p.start) (q.end - q.start) found in
    let p_some = p_is.some in
    let q_some = q_is.some in
    same_fields p.kind q.kind p.start q.start p.end q.end parts.0 at (omega (arith, parts.1))

-- two ways through a text that both end where they are stuck are one
pub same_way : (text : List ℕ) (from : ℕ) (ps qs : List Piece) (to other : ℕ) → Lead text from ps to → Lead text from qs other → Stuck text to → Stuck text other → (ps ≡ qs) × (to ≡ other)
same_way text from [] [] to other lead lead' stuck stuck' = (refl, sym lead ∙ lead')
same_way text from [] (q ∷ qs) to other lead lead' stuck stuck' = absurd (no_piece text q to lead'.1 (lead'.0 ∙ lead) stuck)
same_way text from (p ∷ ps) [] to other lead lead' stuck stuck' = absurd (no_piece text p other lead.1 (lead.0 ∙ lead') stuck')
same_way text from (p ∷ ps) (q ∷ qs) to other lead lead' stuck stuck' =
    let same = same_piece text p q lead.1 lead'.1 (lead.0 ∙ sym lead'.0) in
    let rest = subst (λ (r : Piece). Lead text r.end qs other) (sym same) lead'.2 in
    let more = same_way text p.end ps qs to other lead.2 rest stuck stuck' in
    (cc (same, more.0), more.1)

-- no piece begins at the end
at_end : (text : List ℕ) → Stuck text (length text)
at_end text = rw drop-length tt

-- no piece begins at a fault
at_fault : (text : List ℕ) (place : ℕ) (fault : LexFault) → IsFaultAt place (drop place text) fault → Stuck text place
at_fault text place fault is = (fault_start place (drop place text) fault is).1

-- both lists are read off the same pieces
pub one_list : OneList
one_list text tokens others is is' =
    let same = same_way text 0 is.pieces is'.pieces (length text) (length text) is.lead is'.lead (at_end text) (at_end text) in
    is.among ∙ ap (filter_map token_of) same.0 ∙ sym is'.among

-- both faults are what stands behind the same pieces
pub one_fault : OneFault
one_fault text fault other is is' =
    let same = same_way text 0 is.pieces is'.pieces is.place is'.place is.lead is'.lead (at_fault text is.place fault is.found) (at_fault text is'.place other is'.found) in
    let first = (fault_start is.place (drop is.place text) fault is.found).0 in
    let second = (fault_start is'.place (drop is'.place text) other is'.found).0 in
    first ∙ ap (λ place. fault_of place (start_of (drop place text))) same.1 ∙ sym second

-- the same pieces can't lead to the end and to a place before it
pub exclusive : Exclusive
exclusive text fault (tokens, is) is' =
    let same = same_way text 0 is.pieces is'.pieces (length text) is'.place is.lead is'.lead (at_end text) (at_fault text is'.place fault is'.found) in
    let within = is'.within in
    omega (arith, same.1)
