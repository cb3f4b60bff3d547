use Rattle.std.proofs.Common.{arith}
use Rattle.og_io.proofs.Pieces.{piece_taken, piece_some, piece_appends}
use Rattle.og_io.proofs.write_piece.Goals as goal

pub returns-clause-taken : goal.returns-clause-taken
returns-clause-taken g c = piece_taken c.write.result 65536 c.args.text.now c.first_piece.result.now c.first_piece.ensures c.write.ensures.taken

pub returns-clause-at_least_one : goal.returns-clause-at_least_one
returns-clause-at_least_one g c = piece_some c.write.result 65536 c.args.text.now c.first_piece.result.now (omega arith) c.first_piece.ensures c.write.ensures.at_least_one

pub returns-clause-appends : goal.returns-clause-appends
returns-clause-appends g c =
    piece_appends c.write.result 65536 c.args.text.now c.first_piece.result.now (g.K.Sink.seen c.args.sink.now).held (g.K.Sink.seen c.write.new.self).held c.first_piece.ensures c.write.ensures.taken c.write.ensures.appends
