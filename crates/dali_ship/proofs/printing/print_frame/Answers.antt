use Rattle.std.proofs.Common.{◌++◌}
use Rattle.std.proofs.lemmas.Result.{err_from_is_err_and}
use Rattle.dali_ship.proofs.printing.print_frame.Goals as goal

pub returns-in_err-print_piece : goal.returns-in_err-print_piece
returns-in_err-print_piece g c text rest old far =
    let q = err_from_is_err_and c.from_residual.result c.from_residual.ensures.1 in
    rw (q.1, q.2) (c.in_err-print_piece.ensures.on text (c.args.frame.now ++ rest) old far)
