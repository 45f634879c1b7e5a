use Rattle.std.proofs.Common.{◌⊎◌, ◌↔◌, length}
use Rattle.node_match.specs.Sets.{Among}
use Rattle.report_form.specs.declared.notice.Notice.{Notice}
use Rattle.seen_files.proofs.adding.all_notices.Given as goal

abbrev pub decreases-loop-notice : goal.decreases-loop-notice
decreases-loop-notice l = length l.old

abbrev pub invariant-loop-notice : goal.invariant-loop-notice
invariant-loop-notice l = (n : Notice) → (Among l.old n ⊎ Among l.notices.items n) ↔ (Among l.initial.old n ⊎ Among l.initial.notices.items n)
