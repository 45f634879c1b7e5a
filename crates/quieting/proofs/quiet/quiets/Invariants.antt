use Rattle.std.proofs.Common.{◌≡◌, ◌++◌, drop}
use Rattle.std.specs.List.{filter_map}
use Rattle.quieting.specs.Quieting.{quiet_of, quiets_of}
use Rattle.quieting.proofs.quiet.quiets.Given as goal

abbrev pub invariant-loop-comment : goal.invariant-loop-comment
invariant-loop-comment l = l.quiets ++ filter_map (quiet_of l.text) (drop l.comment-index l.comments) ≡ quiets_of l.text l.comments
