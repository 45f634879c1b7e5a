use Rattle.quieting.proofs.Keys.{QuietsOn}
use Rattle.quieting.proofs.line.quiet_lines.Given as goal

abbrev pub invariant-loop-quiet : goal.invariant-loop-quiet
invariant-loop-quiet l = QuietsOn l.quiets l.quiet-index l.lines
