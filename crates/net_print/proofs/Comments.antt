-- Comment lines before a text that is written token by token: they are read over.
use Rattle.std.proofs.Common.{◌≡◌, ◌∙◌, ℕ, suc, ◌+◌, ◌-◌, ◌≤◌, true, false, List, [], ◌∷◌, ◌++◌, All, length, filter_map, refl, sym, ap, subst, arith, append_assoc}
use Rattle.std.specs.List.{list_all}
use Rattle.std.proofs.lemmas.Bool.{ne_eqb}
use Rattle.std.proofs.lemmas.List.{length-drop, length-append, drop_at}
use Rattle.std.proofs.lemmas.List.Elements.{All-head, All-tail, filter_map-append}
use Rattle.std.proofs.lemmas.List.Sums.{list_all-from_AllPass}
use Rattle.maid_model.specs.Diagrams.{IsDiagram}
use Rattle.maid_model.specs.Names.{NamesView, NamesFit}
use Rattle.maid_model.specs.Reports.{IsOneLine, line}
use Rattle.maid_model.specs.Views.{DiagramView}
use Rattle.net_build.specs.Form.{HasTextForm}
use Rattle.net_build.specs.Plain.{IsPlain}
use Rattle.net_lexer.specs.Bytes.{is_line_byte}
use Rattle.net_lexer.specs.Pieces.{begins, Lead, token_of, IsTokens}
use Rattle.net_lexer.specs.declared.pieces.Piece.{Piece}
use Rattle.net_lexer.specs.declared.pieces.PieceKind.TheVariants.{Blank, Comment}
use Rattle.net_parser.specs.Lexemes.{lexemes}
use Rattle.net_print.specs.Printed.{printed}
use Rattle.net_print.specs.RoundTrip.{comment_lines}
use Rattle.net_print.proofs.Written.{Written, Stands, At, at_next, at_end, piece, piece_at, pieces_at, leads, lead-append, among, text_onto, tokens_at, end_at, lexemes_at, lexemes_are}

-- a diagram and names that a text can stand for, and comments to stand before it
pub record IsPrintableBehind (d : DiagramView) (names : NamesView) : Type 0 where
  pub comments : List (List ℕ)
  pub lines : All IsOneLine comments
  pub diagram : IsDiagram d
  pub plain : IsPlain d
  pub fit : NamesFit d names
  pub form : HasTextForm d names

-- the comments and the printed text
abbrev pub text_of : (d : DiagramView) (names : NamesView) → IsPrintableBehind d names → List ℕ
text_of d names is = comment_lines is.comments ++ printed d names

-- where the printed text begins
abbrev pub place_of : (d : DiagramView) (names : NamesView) → IsPrintableBehind d names → ℕ
place_of d names is = length (comment_lines is.comments)

-- where the line of a comment ends
abbrev end_of_words : ℕ → List ℕ → ℕ
end_of_words from words = from + length (37 ∷ words)

-- a comment and its line's end, for each
abbrev comment_pieces : ℕ → List (List ℕ) → List Piece
comment_pieces from [] = []
comment_pieces from (words ∷ comments) = piece Comment from (end_of_words from words) ∷ piece Blank (end_of_words from words) (end_of_words from words + 1) ∷ comment_pieces (end_of_words from words + 1) comments

no_tokens : (from : ℕ) (comments : List (List ℕ)) → filter_map token_of (comment_pieces from comments) ≡ []
no_tokens from [] = refl
no_tokens from (words ∷ comments) = no_tokens (end_of_words from words + 1) comments

-- the bytes of one line, as the lexer tests them
line_bytes : (words : List ℕ) → IsOneLine words → list_all is_line_byte words ≡ true
line_bytes words is = list_all-from_AllPass is_line_byte words (λ k d h. rw (ne_eqb _ 10 (is k d h)) refl)

-- they lead over the comments
comments_lead : (text : List ℕ) (from : ℕ) (comments : List (List ℕ)) (rest : List ℕ) → At text from (comment_lines comments ++ rest) → All IsOneLine comments → Lead text from (comment_pieces from comments) (from + length (comment_lines comments))
comments_lead text from [] rest at are = none from where
  none : (n : ℕ) → n ≡ n + 0
  none n = omega arith
comments_lead text from (words ∷ comments) rest at are =
    let later = comment_lines comments ++ rest in
    let here : At text from ((37 ∷ words) ++ (10 ∷ later)) = subst (At text from) (append_assoc (line (37 ∷ words)) (comment_lines comments) rest ∙ append_assoc (37 ∷ words) (10 ∷ []) later) at in
    let behind = at_next text from (37 ∷ words) (10 ∷ later) here in
    let after = at_next text (end_of_words from words) (10 ∷ []) later behind in
    let lines = subst (Lead text (end_of_words from words + 1) (comment_pieces (end_of_words from words + 1) comments))
    (more from (length words) (length (line (37 ∷ words))) (length (comment_lines comments)) (length (comment_lines (words ∷ comments))) (length-append (37 ∷ words) (10 ∷ [])) (length-append (line (37 ∷ words)) (comment_lines comments)))
    (comments_lead text (end_of_words from words + 1) comments rest after (All-tail IsOneLine words comments are)) in (
      refl,
      piece_at text from Comment (37 ∷ words) (10 ∷ later) here (line_bytes words (All-head IsOneLine words comments are)) (omega arith) refl,
      (refl, piece_at text (end_of_words from words) Blank (10 ∷ []) later behind refl (omega arith) (ends later), lines),
    )
  where
    ends : (xs : List ℕ) → begins (λ b. false) xs ≡ false
    ends [] = refl
    ends (x ∷ xs) = refl

    more : (a n l m whole : ℕ) → l ≡ suc n + 1 → whole ≡ l + m → a + suc n + 1 + m ≡ a + whole
    more a n l m whole e f = omega arith

module _ (comments : List (List ℕ)) (are : All IsOneLine comments) (ws : List Written) where
  abbrev Front : List ℕ
  Front = comment_lines comments

  abbrev Text : List ℕ
  Text = Front ++ text_onto ws []

  -- the tokens stand behind the comments
  pub written_at : At Text (length Front) (text_onto ws [])
  written_at = record {
    here = drop_at Front (text_onto ws []) (length Front) refl;
    within = fits (length Front) (length (text_onto ws [])) (length Text) (length-append Front (text_onto ws []));
  }
    where
      fits : (a b t : ℕ) → t ≡ a + b → a ≤ t
      fits a b t e = omega arith

  -- and are the text's
  pub written_tokens : Stands ws [] → IsTokens Text (tokens_at (length Front) ws)
  written_tokens stands =
      let last = at_end Text (length Front) ws [] written_at in
      let first = comments_lead Text 0 comments (text_onto ws []) (record { here = refl; within = omega arith }) are in
      let back = leads Text (length Front) ws [] written_at stands in
      record {
        pieces = comment_pieces 0 comments ++ pieces_at (length Front) ws;
        lead = lead-append Text 0 (comment_pieces 0 comments) (pieces_at (length Front) ws) (length Front) (length Text) (subst (Lead Text 0 (comment_pieces 0 comments)) (start (length Front)) first)
            (subst (Lead Text (length Front) (pieces_at (length Front) ws)) (ended (length Text) (end_at (length Front) ws) last.within (sym (length-drop (end_at (length Front) ws) Text) ∙ ap length last.here)) back);
        among = among (length Front) ws ∙ sym (filter_map-append token_of (comment_pieces 0 comments) (pieces_at (length Front) ws) ∙ ap (λ front. front ++ filter_map token_of (pieces_at (length Front) ws)) (no_tokens 0 comments));
      }
    where
      start : (n : ℕ) → 0 + n ≡ n
      start n = omega arith

      ended : (t n : ℕ) → n ≤ t → t - n ≡ 0 → n ≡ t
      ended t n le e = omega arith

  -- with these lexemes
  pub written_lexemes : lexemes Text (tokens_at (length Front) ws) ≡ lexemes_at (length Front) ws
  written_lexemes = lexemes_are Text (length Front) ws [] written_at
