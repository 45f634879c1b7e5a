use Rattle.std.proofs.Common.{◌≡◌, ◌≤◌, ◌-◌, ◌*◌, length, take}
use Rattle.node_tree.specs.Marks.{mark_of, AreMarks}
use Rattle.node_tree.proofs.places.Places.of.Given as goal

abbrev pub decreases-loop-from : goal.decreases-loop-from
decreases-loop-from l = length l.text - l.from

abbrev pub invariant-loop-from : goal.invariant-loop-from
invariant-loop-from l = (l.from ≡ 1024 * length l.marks.items) × (l.from ≤ length l.text) × AreMarks l.text 0 l.marks.items × (l.mark ≡ mark_of (take l.from l.text))
