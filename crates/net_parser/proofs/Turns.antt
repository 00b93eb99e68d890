-- One more in a list of the grammar.
use Rattle.std.proofs.Common.{◌≡◌, ◌-◌, ℕ, Bool, true, false, List, [], ◌∷◌, ◌++◌, refl, sym, ap, ◌∙◌, nat_lt, length, ◌==◌, subst}
use Rattle.std.proofs.Math.Dec.{eqb-suc-zero}
use Rattle.std.specs.Prelude.{Some, None, if◌then◌else◌}
use Rattle.std.specs.Option.{option_map}
use Rattle.net_lexer.specs.Token.{is_name}
use Rattle.net_lexer.specs.declared.tokens.TokenKind.{TokenKind}
use Rattle.net_lexer.specs.declared.tokens.TokenKind.TheVariants as kinds
use Rattle.net_parser.specs.Trees.{BlockTree}
use Rattle.net_parser.specs.Lexemes.{Lexeme}
use Rattle.net_parser.specs.Grammar.{Rule, Each, Mark, Block, Text}
use Rattle.net_parser.proofs.Moves.{begun}
use Rattle.net_parser.specs.Reading.{Symbol, mark, name, value, values, attribute_name, attributes, given, names, may_name, next, refusal_at, same_kind, is_next, block_place, place_behind, stop, within, step, refusal}

same_step : (x y : Symbol) (after others : List Symbol) (l : Lexeme) (ls : List Lexeme) → step (within (x ∷ after)) l ≡ step (within (y ∷ others)) l → refusal (within (x ∷ after)) l ≡ refusal (within (y ∷ others)) l → stop (within (x ∷ after)) (l ∷ ls) ≡ stop (within (y ∷ others)) (l ∷ ls)
same_step x y after others l ls e f = rw (e, f) refl

value_step : (depth : ℕ) (after : List Symbol) (kind : TokenKind) (bytes : List ℕ) → same_kind kinds.ParenClose kind ≡ false → (option_map (λ symbols. symbols ++ after) (next (values depth) kind bytes) ≡ option_map (λ symbols. symbols ++ values depth ∷ after) (next (value depth) kind bytes)) × (refusal_at (values depth) kind bytes ≡ refusal_at (value depth) kind bytes)
value_step depth after kinds.ParenClose bytes e = cc
value_step depth after kinds.ParenOpen bytes e = (opened (nat_lt 0 depth), refl) where
  opened : (test : Bool) → option_map (λ symbols. symbols ++ after) (if test then Some (values (depth - 1) ∷ values depth ∷ []) else None) ≡ option_map (λ symbols. symbols ++ values depth ∷ after) (if test then Some (values (depth - 1) ∷ []) else None)
  opened true = refl
  opened false = refl
value_step depth after kinds.Word bytes e = (refl, refl)
value_step depth after kinds.Text bytes e = (refl, refl)
value_step depth after kinds.Number bytes e = (refl, refl)
value_step depth after kind bytes e = (refl, refl)

-- where the list isn't closed a value comes
pub values_go_on : (depth : ℕ) (after : List Symbol) (ls : List Lexeme) → is_next kinds.ParenClose ls ≡ false → stop (within (values depth ∷ after)) ls ≡ stop (within (value depth ∷ values depth ∷ after)) ls
values_go_on depth after [] e = refl
values_go_on depth after (l ∷ ls) e =
    let t = value_step depth after l.token.kind l.bytes e in
    same_step (values depth) (value depth) after (values depth ∷ after) l ls t.0 t.1

pub each-push : {A : Type 0} (P : A → Rule) (xs : List A) (x : A) (a b c : List Lexeme) → Each P xs a b → P x b c → Each P (xs ++ x ∷ []) a c
each-push P [] x a b c h k = (c, begun (P x) h k, refl)
each-push P (y ∷ xs) x a b c h k = (h.0, h.1, each-push P xs x h.0 b c h.2 k)

named : (test potential : Bool) (after : List Symbol) → option_map (λ symbols. symbols ++ after) (if test then Some (mark kinds.Equals ∷ value 32 ∷ mark kinds.Semicolon ∷ attributes potential ∷ []) else None) ≡ option_map (λ symbols. symbols ++ mark kinds.Equals ∷ value 32 ∷ mark kinds.Semicolon ∷ attributes potential ∷ after) (if test then Some [] else None)
named true potential after = refl
named false potential after = refl

attribute_step : (potential : Bool) (after : List Symbol) (kind : TokenKind) (bytes : List ℕ) → same_kind kinds.BraceClose kind ≡ false → (option_map (λ symbols. symbols ++ after) (next (attributes potential) kind bytes) ≡ option_map (λ symbols. symbols ++ mark kinds.Equals ∷ value 32 ∷ mark kinds.Semicolon ∷ attributes potential ∷ after) (next (attribute_name potential) kind bytes)) × (refusal_at (attributes potential) kind bytes ≡ refusal_at (attribute_name potential) kind bytes)
attribute_step potential after kinds.BraceClose bytes e = cc
attribute_step true after kinds.Word bytes e = (named (may_name true bytes) true after, refl)
attribute_step false after kinds.Word bytes e = (named (may_name false bytes) false after, refl)
attribute_step true after kind bytes e = (refl, refl)
attribute_step false after kind bytes e = (refl, refl)

-- where the body isn't closed an attribute comes
attributes_go_on : (potential : Bool) (after : List Symbol) (ls : List Lexeme) → is_next kinds.BraceClose ls ≡ false → stop (within (attributes potential ∷ after)) ls ≡ stop (within (attribute_name potential ∷ mark kinds.Equals ∷ value 32 ∷ mark kinds.Semicolon ∷ attributes potential ∷ after)) ls
attributes_go_on potential after [] e = refl
attributes_go_on potential after (l ∷ ls) e =
    let t = attribute_step potential after l.token.kind l.bytes e in
    same_step (attributes potential) (attribute_name potential) after (mark kinds.Equals ∷ value 32 ∷ mark kinds.Semicolon ∷ attributes potential ∷ after) l ls t.0 t.1

name_step : (after : List Symbol) (kind : TokenKind) (bytes : List ℕ) → same_kind kinds.ParenClose kind ≡ false → (option_map (λ symbols. symbols ++ after) (next names kind bytes) ≡ option_map (λ symbols. symbols ++ names ∷ after) (next name kind bytes)) × (refusal_at names kind bytes ≡ refusal_at name kind bytes)
name_step after kinds.ParenClose bytes e = cc
name_step after kinds.Word bytes e = (named_list (is_name bytes), refl) where
  named_list : (test : Bool) → option_map (λ symbols. symbols ++ after) (if test then Some (names ∷ []) else None) ≡ option_map (λ symbols. symbols ++ names ∷ after) (if test then Some [] else None)
  named_list true = refl
  named_list false = refl
name_step after kind bytes e = (refl, refl)

-- where the names aren't closed a name comes
names_go_on : (after : List Symbol) (ls : List Lexeme) → is_next kinds.ParenClose ls ≡ false → stop (within (names ∷ after)) ls ≡ stop (within (name ∷ names ∷ after)) ls
names_go_on after [] e = refl
names_go_on after (l ∷ ls) e =
    let t = name_step after l.token.kind l.bytes e in
    same_step names name after (names ∷ after) l ls t.0 t.1

-- One turn of a loop: what is read up to here goes on with these symbols.
module _ (list : Symbol) (item : List Symbol) (close : TokenKind) (go_on : (after : List Symbol) (ls : List Lexeme) → is_next close ls ≡ false → stop (within (list ∷ after)) ls ≡ stop (within (item ++ list ∷ after)) ls) where
  turn : (after : List Symbol) (from now further : List Lexeme) → stop (within (list ∷ after)) from ≡ stop (within (list ∷ after)) now → further ≡ now → is_next close now ≡ false → stop (within (list ∷ after)) from ≡ stop (within (item ++ list ∷ after)) further
  turn after from now further e same is_open = e ∙ go_on after now is_open ∙ ap (stop (within (item ++ list ∷ after))) (sym same)

pub attributes_turn : (potential : Bool) (after : List Symbol) (from now further : List Lexeme) → stop (within (attributes potential ∷ after)) from ≡ stop (within (attributes potential ∷ after)) now → further ≡ now → is_next kinds.BraceClose now ≡ false → stop (within (attributes potential ∷ after)) from ≡ stop (within (attribute_name potential ∷ mark kinds.Equals ∷ value 32 ∷ mark kinds.Semicolon ∷ attributes potential ∷ after)) further
attributes_turn potential = turn (attributes potential) (attribute_name potential ∷ mark kinds.Equals ∷ value 32 ∷ mark kinds.Semicolon ∷ []) kinds.BraceClose (attributes_go_on potential)

pub names_turn : (after : List Symbol) (from now further : List Lexeme) → stop (within (names ∷ after)) from ≡ stop (within (names ∷ after)) now → further ≡ now → is_next kinds.ParenClose now ≡ false → stop (within (names ∷ after)) from ≡ stop (within (name ∷ names ∷ after)) further
names_turn = turn names (name ∷ []) kinds.ParenClose names_go_on

-- behind a head's first name
given_step : (l : Lexeme) (ls : List Lexeme) (after : List Symbol) (kind : TokenKind) → l.token.kind ≡ kind → same_kind kinds.Bar kind ≡ false → stop (within (given ∷ after)) (l ∷ ls) ≡ stop (within (mark kinds.ParenClose ∷ after)) (l ∷ ls)
given_step l ls after kinds.Bar e f = cc
given_step l ls after kinds.ParenClose e f = rw e refl
given_step l ls after kinds.Word e f = rw e refl
given_step l ls after kind e f = rw e refl

pub given_closes : (after : List Symbol) (ls : List Lexeme) → is_next kinds.Bar ls ≡ false → stop (within (given ∷ after)) ls ≡ stop (within (mark kinds.ParenClose ∷ after)) ls
given_closes after [] e = refl
given_closes after (l ∷ ls) e = given_step l ls after l.token.kind refl e

pub given_opens : (after : List Symbol) (a b : List Lexeme) → Mark kinds.Bar a b → stop (within (given ∷ after)) a ≡ stop (within (names ∷ after)) b
given_opens after [] b h = absurd h
given_opens after (l ∷ ls) b h = rw (h.0, h.1) refl

-- The first block alone is read as the first.
pub place_is : (blocks : List BlockTree) (first : Bool) → first ≡ (length blocks == 0) → block_place first ≡ place_behind blocks
place_is [] first e = rw e refl
place_is (block ∷ blocks) first e = rw (e, eqb-suc-zero (length blocks)) refl

pub text-push : (blocks : List BlockTree) (first : Bool) (block : BlockTree) (a b c : List Lexeme) → first ≡ (length blocks == 0) → Text blocks a b → Block first block b c → Text (blocks ++ block ∷ []) a c
text-push [] first block a b c e h k = (c, begun (Block true block) h (rw e at k), refl)
text-push (other ∷ blocks) first block a b c e h k = (h.0, h.1, each-push (Block false) blocks block h.0 b c h.2 (subst (λ f. Block f block b c) (e ∙ eqb-suc-zero (length blocks)) k))

pub place-push : (blocks : List BlockTree) (block : BlockTree) → place_behind (blocks ++ block ∷ []) ≡ within []
place-push [] block = refl
place-push (other ∷ blocks) block = refl
