use Rattle.std.specs.Prelude.{slice_get}
use Rattle.part_judge.proofs.Outcomes.{finds_at, finds_one}
use Rattle.part_judge.proofs.judging.judge.Goals as goal

pub returns-clause-finds : goal.returns-clause-finds
returns-clause-finds c =
    finds_at c.args.leaves.now c.args.rx.now c.args.file.now.bytes c.args.file.now.tree c.args.rule.now.parts c.as_slice.result.now c.args.part c.index-as_slice-part.result c.look.result c.as_slice.ensures c.requires.part c.look.ensures.finds

pub returns-clause-only : goal.returns-clause-only
returns-clause-only c =
    finds_one c.args.leaves.now c.args.rx.now c.args.file.now.bytes c.args.file.now.tree (slice_get c.args.rule.now.parts c.args.part) c.look.result (returns-clause-finds c)
