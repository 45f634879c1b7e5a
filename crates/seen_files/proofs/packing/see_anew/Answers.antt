use Rattle.std.proofs.Common.{◌≡◌, ◌+◌}
use Rattle.kept_leaves.specs.Growth.{Meets}
use Rattle.kept_leaves.specs.Kept.{map_of}
use Rattle.file_results.specs.Quieted.{grammars_of}
use Rattle.seen_files.specs.Needs.{IsNeededAt}
use Rattle.seen_files.specs.Seen.{file_of, IsSeen}
use Rattle.seen_files.proofs.Found.{if_packed}
use Rattle.seen_files.proofs.packing.see_anew.Goals as goal

pub returns-clause-file : goal.returns-clause-file
returns-clause-file g c = if_packed c.in_ok-found.found c.pack.result c.pack.ensures (λ s. file_of s ≡ (c.args.path.now, c.args.bytes.now.value)) c.in_ok-found.ensures.file

pub returns-clause-seen : goal.returns-clause-seen
returns-clause-seen g c apart =
    if_packed c.in_ok-found.found c.pack.result c.pack.ensures (IsSeen (grammars_of (g.R.TreeReader.spells c.args.reader.now) (g.R.TreeReader.knows c.args.reader.now) (g.R.CommentReader.comments c.args.reader.now) c.args.traced) c.args.running.now) (c.in_ok-found.ensures.seen apart)

pub returns-clause-kept : goal.returns-clause-kept
returns-clause-kept g c =
    if_packed c.in_ok-found.found c.pack.result c.pack.ensures (λ s. Meets (IsNeededAt c.args.running.now s) (map_of c.args.kept.now) (c.args.steps.now + 1) (map_of c.find_anew.new.kept) c.find_anew.new.steps) c.in_ok-found.ensures.kept
