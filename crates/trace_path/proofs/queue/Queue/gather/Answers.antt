use Rattle.std.proofs.Common.{refl, arith, ◌∙◌}
use Rattle.graph_form.proofs.Amongs.{among_at, among_more}
use Rattle.trace_path.proofs.Counts.{gathers_none, gathers_more}
use Rattle.trace_path.proofs.queue.Queue.gather.Goals as goal

pub loop-fact-init : goal.loop-fact-init
loop-fact-init c = record {
  gathers = gathers_none c.args.base c.args.self.now.seen.items c.args.self.now.facts.items;
  classes = refl;
}

pub note-requires-clause-room : goal.note-requires-clause-room
note-requires-clause-room c = omega (arith, c.requires.room _ (among_at c.args.facts.now c.loop-fact.fact-index 0 c.loop-fact-test.true), c.loop-fact.invariant.gathers.finds.room)

pub loop-fact-preserved : goal.loop-fact-preserved
loop-fact-preserved c = record {
  gathers = gathers_more _ _ _ _ _ _ _ _ _ _ c.loop-fact.invariant.gathers c.in_ok-note.ensures.notes (among_more c.args.facts.now c.loop-fact.fact-index 0 c.loop-fact-test.true);
  classes = c.note.ensures.classes ∙ c.loop-fact.invariant.classes;
}
