use Rattle.std.proofs.Common.{◌≡◌, ◌++◌, subst, sym}
use Rattle.std.specs.Result.{OnOk}
use Rattle.line_pieces.specs.declared.pieces.Piece.{Piece}
use Rattle.line_pieces.specs.Pieces.{piece_text}
use Rattle.line_pieces.proofs.pieces.push_piece.Goals as goal

pub returns-in-Quoted : goal.returns-in-Quoted
returns-in-Quoted c = subst (λ (p : Piece). OnOk c.push_quoted.result (c.push_quoted.new.out.items ≡ c.args.out.now.items ++ piece_text p)) (sym c.in-Quoted.is) c.push_quoted.ensures
