use Rattle.std.proofs.Common.{◌∙◌, arith}
use Rattle.file_match.proofs.Bits.{place_fits}
use Rattle.file_match.proofs.Marked.{covers_none, mark_next, all_marked, all_zero}
use Rattle.file_match.proofs.words.words_of.Goals as goal

pub loop-node-init : goal.loop-node-init
loop-node-init c = record {
  room = (c.requires, omega (arith, c.in_ok-marks.ensures.len, c.in_ok-marks.marks.ok.0));
  covers = covers_none c.args.count _ _ _ (all_zero _ (λ x y h. h) _ c.in_ok-marks.ensures.items) (c.into_iter-node-iterator.ensures.into_iter_gives ∙ c.in_ok-node-items.ensures);
}

pub mark-requires : goal.mark-requires
mark-requires c = place_fits c.args.count _ _ c.loop-node.invariant.room

pub loop-node-preserved : goal.loop-node-preserved
loop-node-preserved c = record {
  room = (c.requires, omega (arith, c.mark.ensures.room, c.loop-node.invariant.room.1));
  covers = mark_next c.args.count _ _ _ _ _ _ _ c.loop-node.invariant.covers c.in-Some.ensures.steps c.place_of.ensures.place c.mark.ensures.marked;
}

pub returns-clause-exact : goal.returns-clause-exact
returns-clause-exact c = all_marked c.args.count _ _ _ c.loop-node.invariant.room c.loop-node.invariant.covers c.in-None.ensures.steps.0
