use Rattle.std.proofs.Common.{arith, ◌≡◌, ◌+◌, ◌-◌}
use Rattle.trace_path.proofs.Follow.{distinct_push, distinct_same}
use Rattle.trace_path.proofs.check.add_new.Goals as goal

pub returns-then-numbers-at : goal.returns-then-numbers-at
returns-then-numbers-at c =
    let back : (c.args.at - 1) + 1 ≡ c.args.at = omega (arith, c.if-at-gt0.true) in
    distinct_same c.args.numbers.now c.args.at (c.args.at - 1) c.args.found.now.items c.requires.at back c.if-numbers-at.true c.requires.distinct

pub returns : goal.returns
returns c = distinct_push c.args.numbers.now c.args.at c.args.found.now.items _ c.requires.ascends c.requires.at c.requires.distinct c.in_ok-push.ensures.items
