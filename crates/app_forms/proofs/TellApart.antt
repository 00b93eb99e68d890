-- The names in a text are such as a report tells apart: they differ, and no byte of theirs ends a
-- word or a line.
use Rattle.std.proofs.Common.{◌≡◌, ◌≢◌, ℕ, true, List, [], ◌∷◌, length, refl, sym, ap, ◌∙◌}
use Rattle.std.specs.Prelude.{nat_le}
use Rattle.std.specs.List.{list_all}
use Rattle.std.proofs.lemmas.Bool.{and_parts}
use Rattle.std.proofs.lemmas.List.Elements.{All-nil, All-cons}
use Rattle.std.proofs.lemmas.List.Sums.{AllPass-from_list_all}
use Rattle.maid_model.specs.Names.{NamesView}
use Rattle.maid_model.specs.Reports.{IsOneLine}
use Rattle.maid_model.specs.Views.{DiagramView}
use Rattle.maid_model.specs.declared.limits.TheConstants.{MOST_NAME_BYTES}
use Rattle.net_build.specs.Blocks.{is_label}
use Rattle.net_build.specs.Form.{HasTextForm}
use Rattle.net_lexer.specs.Bytes.{is_word_start, is_word_byte}
use Rattle.net_lexer.specs.Token.{is_name}
use Rattle.report_text.specs.Reading.{AreTold, IsOneWord}

word_byte : (b : ℕ) → is_word_byte b ≡ true → (b ≢ 10) × (b ≢ 32)
word_byte b is = (λ e. let no = sym (ap is_word_byte e) ∙ is in absurd cc, λ e. let no = sym (ap is_word_byte e) ∙ is in absurd cc)

start_byte : (b : ℕ) → is_word_start b ≡ true → is_word_byte b ≡ true
start_byte b is = rw is refl

pub one_word : (name : List ℕ) → is_name name ≡ true → IsOneWord name
one_word [] is = All-nil (λ byte. (byte ≢ 10) × (byte ≢ 32))
one_word (b ∷ bytes) is =
    let parts = and_parts (is_word_start b) (list_all is_word_byte bytes) is in
    All-cons (λ byte. (byte ≢ 10) × (byte ≢ 32)) b bytes (word_byte b (start_byte b parts.0)) (λ k d h. word_byte _ (AllPass-from_list_all is_word_byte bytes parts.1 k d h))

plain_byte : (b : ℕ) → nat_le 32 b ≡ true → b ≢ 10
plain_byte b is = λ e. let no = sym (ap (nat_le 32) e) ∙ is in absurd cc

one_line : (bytes : List ℕ) → is_label bytes ≡ true → IsOneLine bytes
one_line bytes is =
    let parts = and_parts (nat_le (length bytes) MOST_NAME_BYTES) (list_all (λ b. nat_le 32 b) bytes) is in
    λ k d h. plain_byte _ (AllPass-from_list_all (λ b. nat_le 32 b) bytes parts.1 k d h)

pub told_apart : (d : DiagramView) (names : NamesView) → HasTextForm d names → AreTold names
told_apart d names form = record {
  differ = form.distinct;
  words = λ k e h. one_word _ (form.words k e h).unsigned;
  labels = λ k e h i f g. one_line _ (form.labels k e h i f g);
  agents = λ k e h. one_line _ (form.agents k e h);
}
