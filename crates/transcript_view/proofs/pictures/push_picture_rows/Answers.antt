use Rattle.std.proofs.Common.{◌++◌, ◌∷◌, [], map}
use Rattle.view_forms.specs.Pictures.{heading, squares_row}
use Rattle.transcript_view.proofs.Pieces.{six-pieces}
use Rattle.transcript_view.proofs.pictures.push_picture_rows.Goals as goal

pub returns : goal.returns
returns c =
    rw (c.in_ok-push_squares_line-5.ensures, c.in_ok-push_squares_line-4.ensures, c.in_ok-push_squares_line-3.ensures, c.in_ok-push_squares_line-2.ensures, c.in_ok-push_squares_line.ensures, c.in_ok-push_heading.ensures)
    (six-pieces c.args.out.now.items (heading (map (λ line. line.now) c.args.lines.now) ++ 10 ∷ []) (squares_row 0 (map (λ line. line.now) c.args.lines.now) ++ 10 ∷ [])
    (squares_row 1 (map (λ line. line.now) c.args.lines.now) ++ 10 ∷ []) (squares_row 2 (map (λ line. line.now) c.args.lines.now) ++ 10 ∷ [])
    (squares_row 3 (map (λ line. line.now) c.args.lines.now) ++ 10 ∷ []) (squares_row 4 (map (λ line. line.now) c.args.lines.now) ++ 10 ∷ []))
