-- What pieces of a text say.
use Rattle.std.specs.Prelude.{ℕ, List, decimal}
use Rattle.std.specs.List.{flat_map}
use Rattle.maid_model.specs.Reports.{quoted, ratio_text}
use Rattle.line_pieces.specs.declared.pieces.Piece.{Piece}
use Rattle.line_pieces.specs.declared.pieces.Piece.TheVariants.{Text, Number, Quoted, Fraction}

-- bytes as they stand, a number's decimal digits, bytes between quotes, or a fraction
abbrev pub piece_text : Piece → List ℕ
piece_text (Text bytes) = bytes.now
piece_text (Number number) = decimal number
piece_text (Quoted bytes) = quoted bytes.now
piece_text (Fraction ratio) = ratio_text ratio.now

-- each piece behind the one before it
abbrev pub pieces_text : List Piece → List ℕ
pieces_text pieces = flat_map piece_text pieces
