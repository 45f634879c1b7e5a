use Rattle.std.proofs.Common.{List, map, take}
use Rattle.rule_form.specs.declared.rule.Rule.{Rule}
use Rattle.kept_leaves.specs.Kept.{map_of}
use Rattle.file_map.specs.Seen.{lent}
use Rattle.file_results.specs.Quieted.{grammars_of}
use Rattle.seen_files.specs.More.{IsMore}
use Rattle.seen_files.specs.Seen.{AfterSeen}
use Rattle.seen_files.specs.Walk.{turned, HasWalked, HasPassed}
use Rattle.seen_files.proofs.seeing.see_all.Given as goal

abbrev pub invariant-loop-path : goal.invariant-loop-path
invariant-loop-path g l =
    (before : List Rule) → IsMore before l.running l.added
    → AfterSeen (grammars_of (g.R.TreeReader.spells l.reader) (g.R.TreeReader.knows l.reader) (g.R.CommentReader.comments l.reader) l.traced) before l.running (turned l.initial.left l.initial.kept) (λ old.
    HasWalked (grammars_of (g.R.TreeReader.spells l.reader) (g.R.TreeReader.knows l.reader) (g.R.CommentReader.comments l.reader) l.traced) l.running old (map lent (take l.path-index l.path-items)) (map_of l.initial.kept) l.initial.steps (map_of l.kept) l.steps l.seen
    × HasPassed (map lent (take l.path-index l.path-items)) l.initial.left l.left)
