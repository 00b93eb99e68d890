-- Leaves that are numbers, and what their rows find.
use Rattle.std.proofs.Common.{◌≡◌, ℕ, Bool, true, false, List, All, None, sym, subst, refl}
use Rattle.net_build.specs.Blocks.{is_number}
use Rattle.first_fault.specs.Passes.{each}
use Rattle.net_build.specs.Table.{number_row}
use Rattle.net_lexer.specs.Token.{IsTokenOf}
use Rattle.net_lexer.specs.declared.tokens.Token.{Token}
use Rattle.net_parser.specs.Owned.{IsLeafOf}
use Rattle.first_fault.proofs.Items.{each_none}

-- leaves are tokens of the text
pub own_leaves : (text : List ℕ) (tokens leaves : List Token) → tokens ≡ leaves → All (IsLeafOf text) leaves → All (IsTokenOf text) tokens
own_leaves text tokens leaves same all = subst (λ ts. All (IsTokenOf text) ts) (sym same) (λ k d h. (all k d h).own)

not_false : (b : Bool) → (b ≡ false → ⊥) → b ≡ true
not_false true h = refl
not_false false h = absurd (h refl)

-- where no row of numbers finds anything, each leaf is a number
pub all_numbers : (tokens : List Token) → each number_row tokens None → All (λ t. is_number t.kind ≡ true) tokens
all_numbers tokens h = each_none number_row (λ t. is_number t.kind ≡ true) (λ t nothing. not_false (is_number t.kind) nothing) tokens h
