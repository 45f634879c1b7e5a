use Rattle.piece_match.proofs.Names.{kid_lies, cut_step}
use Rattle.piece_match.proofs.cut.pieces.Goals as goal

pub piece_at-requires : goal.piece_at-requires
piece_at-requires c = kid_lies c.args.view.now _ _ _ c.as_slice-kid-items.ensures c.loop-kid-test.true c.kid-item.is
