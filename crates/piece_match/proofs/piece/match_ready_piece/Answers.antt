use Rattle.piece_match.proofs.Standing.{alike_leaf, standing_leaf}
use Rattle.piece_match.proofs.piece.match_ready_piece.Goals as goal

pub returns-clause-alike : goal.returns-clause-alike
returns-clause-alike g c p same = alike_leaf c.args.pattern.now c.args.piece.now p c.leaf_in.result same c.leaf_in.ensures

pub returns-clause-stands : goal.returns-clause-stands
returns-clause-stands g c view n kid alone same = standing_leaf c.args.pattern.now c.args.piece.now view n c.leaf_in.result kid alone same c.leaf_in.ensures
