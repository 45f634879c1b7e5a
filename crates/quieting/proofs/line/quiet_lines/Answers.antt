use Rattle.quieting.proofs.Keys.{quiets_begin, one_quiet, quiets_end}
use Rattle.quieting.proofs.line.quiet_lines.Goals as goal

pub loop-quiet-init : goal.loop-quiet-init
loop-quiet-init c = quiets_begin c.args.quiets.now c.new-lines.result c.new-lines.ensures.empty

pub loop-quiet-preserved : goal.loop-quiet-preserved
loop-quiet-preserved c =
    one_quiet c.args.quiets.now c.loop-quiet.quiet-index c.quiet-item.result c.loop-quiet.lines c.add_quiet.new.lines c.loop-quiet-test.true c.quiet-item.is c.in_ok-add_quiet.ensures c.loop-quiet.invariant

pub returns : goal.returns
returns c = quiets_end c.args.quiets.now c.loop-quiet.quiet-index c.loop-quiet.lines c.loop-quiet-test.false c.loop-quiet.invariant
