use Rattle.std.proofs.Common.{◌≡◌, ℕ, ◌+◌, ◌-◌, ◌*◌, ◌≤◌, List, length, take, subst, sym, ap, ◌∙◌, arith}
use Rattle.node_tree.specs.declared.mark.Mark.{Mark}
use Rattle.node_tree.specs.Marks.{AreMarks, mark_of}
use Rattle.node_tree.proofs.LineEnds.{lines_fit, bytes_fit, piece_length, front_more, pushed}
use Rattle.node_tree.proofs.places.Places.of.Goals as goal

pub after-mark-requires-clause-lines : goal.after-mark-requires-clause-lines
after-mark-requires-clause-lines c =
    let i = c.loop-from.invariant in
    omega (arith, c.loop-from-test.true, c.requires, lines_fit c.args.text.now c.loop-from.from c.loop-from.mark i.3 i.1, piece_length c.loop-from.from (c.loop-from.from + 1024 - c.loop-from.from) c.args.text.now)

pub after-mark-requires-clause-bytes : goal.after-mark-requires-clause-bytes
after-mark-requires-clause-bytes c =
    let i = c.loop-from.invariant in
    omega (arith, c.loop-from-test.true, c.requires, bytes_fit c.args.text.now c.loop-from.from c.loop-from.mark i.3 i.1, piece_length c.loop-from.from (c.loop-from.from + 1024 - c.loop-from.from) c.args.text.now)

pub loop-from-preserved : goal.loop-from-preserved
loop-from-preserved c =
    let i = c.loop-from.invariant in
    let more = pushed c.args.text.now c.loop-from.marks.items c.push.new.self.items c.loop-from.mark c.loop-from.from c.in_ok-push.ensures.items i.0 i.2 i.3 in
    (omega (arith, i.0, more.0), omega (arith, c.loop-from-test.true), more.1, c.after-mark.ensures (take c.loop-from.from c.args.text.now) i.3 ∙ ap mark_of (front_more c.loop-from.from (c.loop-from.from + 1024 - c.loop-from.from) (c.loop-from.from + 1024) c.args.text.now (omega arith)))

pub invariant_of-result : goal.invariant_of-result
invariant_of-result c =
    let i = c.loop-from.invariant in
    let more = pushed c.args.text.now c.loop-from.marks.items c.push-2.new.self.items c.loop-from.mark c.loop-from.from c.in_ok-push-2.ensures.items i.0 i.2 i.3 in
    (c.requires, omega (arith, c.loop-from-test.false, i.0, more.0), more.1)
