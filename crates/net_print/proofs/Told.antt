-- What the tokens of a written text say.
use Rattle.std.proofs.Common.{◌≡◌, ◌∙◌, ◌⊎◌, ℕ, suc, ◌+◌, ◌-◌, false, List, [], ◌∷◌, ◌++◌, length, map, All, refl, sym, ap, subst, inl, inr, arith, append_assoc}
use Rattle.std.specs.List.{flat_map, slice_range}
use Rattle.std.proofs.lemmas.Bool.{cases_eq, ne_eqb}
use Rattle.std.proofs.lemmas.List.{length-append}
use Rattle.std.proofs.lemmas.List.Elements.{All-head, All-tail}
use Rattle.maid_model.specs.Reports.{escaped, quoted}
use Rattle.net_lexer.specs.Bytes.{is_backslash}
use Rattle.net_lexer.specs.Strings.{unescaped}
use Rattle.net_lexer.specs.Token.{token_bytes, text_value}
use Rattle.net_lexer.specs.declared.tokens.TokenKind.TheVariants.{Text}
use Rattle.net_parser.specs.Owned.{all_leaves}
use Rattle.net_lexer.specs.declared.tokens.Token.{Token}
use Rattle.net_parser.specs.Trees.{BlockTree}
use Rattle.net_print.proofs.Spelling.{leaf_trees, trees_at}
use Rattle.net_print.proofs.Words.{written, space, items}
use Rattle.net_print.proofs.Written.{Written, At, at_next, at_slice, at_bytes, at_rest, at_end, behind, end_at, start_of, text_onto, text_onto-append, token_at, tokens_at}

-- a byte that is no backslash means itself
means_itself : (b : ℕ) (bs : List ℕ) → is_backslash b ≡ false → unescaped (b ∷ bs) ≡ b ∷ unescaped bs
means_itself b [] e = refl
means_itself b (c ∷ bs) e = rw e refl

unescaped_byte : (b : ℕ) (bs : List ℕ) → unescaped (escaped b ++ bs) ≡ b ∷ unescaped bs
unescaped_byte b bs = by_cases (cases_eq b 34) (cases_eq b 92) where
  plain : (b ≡ 34 → ⊥) → (b ≡ 92 → ⊥) → escaped b ≡ b ∷ []
  plain n m = rw (ne_eqb b 34 n, ne_eqb b 92 m) refl

  no_backslash : (b ≡ 92 → ⊥) → is_backslash b ≡ false
  no_backslash n = rw (ne_eqb b 92 n) refl

  by_cases : (b ≡ 34) ⊎ (b ≡ 34 → ⊥) → (b ≡ 92) ⊎ (b ≡ 92 → ⊥) → unescaped (escaped b ++ bs) ≡ b ∷ unescaped bs
  by_cases (inl e) other = ap (λ x. unescaped (escaped x ++ bs)) e ∙ sym (ap (λ x. x ∷ unescaped bs) e)
  by_cases (inr n) (inl e) = ap (λ x. unescaped (escaped x ++ bs)) e ∙ sym (ap (λ x. x ∷ unescaped bs) e)
  by_cases (inr n) (inr m) = ap (λ xs. unescaped (xs ++ bs)) (plain n m) ∙ means_itself b bs (no_backslash m)

pub unescaped_escaped : (label : List ℕ) → unescaped (flat_map escaped label) ≡ label
unescaped_escaped [] = refl
unescaped_escaped (b ∷ label) = unescaped_byte b (flat_map escaped label) ∙ ap (λ bs. b ∷ bs) (unescaped_escaped label)

-- the leaves of a list of tokens
pub leaves_are : (tokens : List Token) → all_leaves (leaf_trees tokens) ≡ tokens
leaves_are [] = refl
leaves_are (t ∷ tokens) = ap (λ ts. t ∷ ts) (leaves_are tokens)

module _ (text : List ℕ) where
  -- a token says its bytes
  pub says : (from : ℕ) (w : Written) (rest : List ℕ) → At text from (w.before ++ (w.bytes ++ (w.after ++ rest))) → token_bytes text (token_at from w) ≡ w.bytes
  says from w rest at = at_slice text (start_of from w) w.bytes (w.after ++ rest) (at_bytes text from w rest at)

  quoted_says : (start : ℕ) (label rest : List ℕ) → At text start (quoted label ++ rest) → unescaped (slice_range text (start + 1) (start + length (quoted label) - 1)) ≡ label
  quoted_says start label rest at =
      let inner = flat_map escaped label in
      let opened : At text (start + 1) (inner ++ (34 ∷ rest)) = subst (At text (start + 1)) (append_assoc inner (34 ∷ []) rest) (at_next text start (34 ∷ []) ((inner ++ 34 ∷ []) ++ rest) at) in
      let width : start + length (quoted label) - 1 ≡ start + 1 + length inner = last start (length inner) (length (inner ++ 34 ∷ [])) (length-append inner (34 ∷ [])) in
      ap (λ n. unescaped (slice_range text (start + 1) n)) width ∙ ap unescaped (at_slice text (start + 1) inner (34 ∷ rest) opened) ∙ unescaped_escaped label
    where
      last : (s n m : ℕ) → m ≡ n + 1 → s + suc m - 1 ≡ s + 1 + n
      last s n m e = omega arith

  -- a string says its label
  pub text_says : (from : ℕ) (before label after rest : List ℕ) → At text from (before ++ (quoted label ++ (after ++ rest))) → text_value text (token_at from (written before Text (quoted label) after)) ≡ label
  text_says from before label after rest at = quoted_says (start_of from (written before Text (quoted label) after)) label (after ++ rest) (at_bytes text from (written before Text (quoted label) after) rest at)

  later_say : (from : ℕ) (labels : List (List ℕ)) (rest : List ℕ) → At text from (text_onto (map (λ y. written space Text (quoted y) []) labels) rest) → map (text_value text) (tokens_at from (map (λ y. written space Text (quoted y) []) labels)) ≡ labels
  later_say from [] rest at = refl
  later_say from (label ∷ labels) rest at =
      let w = written space Text (quoted label) [] in
      let more = text_onto (map (λ y. written space Text (quoted y) []) labels) rest in
      let later = tokens_at (behind from w) (map (λ y. written space Text (quoted y) []) labels) in
      ap (λ l. l ∷ map (text_value text) later) (text_says from space label [] more at)
      ∙ ap (λ ls. label ∷ ls) (later_say (behind from w) labels rest (at_rest text from w more at))

  -- strings say their labels
  pub texts_say : (from : ℕ) (labels : List (List ℕ)) (rest : List ℕ) → At text from (text_onto (items Text quoted labels) rest) → map (text_value text) (tokens_at from (items Text quoted labels)) ≡ labels
  texts_say from [] rest at = refl
  texts_say from (label ∷ labels) rest at =
      let w = written [] Text (quoted label) [] in
      let more = text_onto (map (λ y. written space Text (quoted y) []) labels) rest in
      let later = tokens_at (behind from w) (map (λ y. written space Text (quoted y) []) labels) in
      ap (λ l. l ∷ map (text_value text) later) (text_says from [] label [] more at)
      ∙ ap (λ ls. label ∷ ls) (later_say (behind from w) labels rest (at_rest text from w more at))

  -- tokens say their bytes
  pub all_say : (from : ℕ) (ws : List Written) (rest : List ℕ) → At text from (text_onto ws rest) → map (token_bytes text) (tokens_at from ws) ≡ map (λ w. w.bytes) ws
  all_say from [] rest at = refl
  all_say from (w ∷ ws) rest at =
      let more = text_onto ws rest in
      ap (λ bs. bs ∷ map (token_bytes text) (tokens_at (behind from w) ws)) (says from w more at) ∙ ap (λ bs. w.bytes ∷ bs) (all_say (behind from w) ws rest (at_rest text from w more at))

  -- what the blocks of some lines say, one after the other
  pub trees_tell : {B : Type 0} (f : BlockTree → B) (g : ℕ → B) (tree : ℕ → ℕ → BlockTree) (lines : ℕ → List Written) (from : ℕ) (vs : List ℕ) (rest : List ℕ) → At text from (text_onto (flat_map lines vs) rest) → All (λ v. (p : ℕ) (more : List ℕ) → At text p (text_onto (lines v) more) → f (tree p v) ≡ g v) vs → map f (trees_at tree lines from vs) ≡ map g vs
  trees_tell f g tree lines from [] rest at all = refl
  trees_tell f g tree lines from (v ∷ vs) rest at all =
      let more = text_onto (flat_map lines vs) rest in
      let here : At text from (text_onto (lines v) more) = subst (At text from) (text_onto-append (lines v) (flat_map lines vs) rest) at in
      ap (λ b. b ∷ map f (trees_at tree lines (end_at from (lines v)) vs)) (All-head (λ u. (p : ℕ) (more : List ℕ) → At text p (text_onto (lines u) more) → f (tree p u) ≡ g u) v vs all from more here)
      ∙ ap (λ bs. g v ∷ bs) (trees_tell f g tree lines (end_at from (lines v)) vs rest (at_end text from (lines v) more here) (All-tail (λ u. (p : ℕ) (more : List ℕ) → At text p (text_onto (lines u) more) → f (tree p u) ≡ g u) v vs all))
