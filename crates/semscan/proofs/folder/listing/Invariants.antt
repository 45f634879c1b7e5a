use Rattle.std.specs.Prelude.{All}
use Rattle.scan_world.specs.Files.{IsUnder, PathsAscend}
use Rattle.semscan.proofs.folder.listing.Given as goal

abbrev pub invariant-loop-file : goal.invariant-loop-file
invariant-loop-file l = record {
  ordered : PathsAscend l.paths;
  under : All (IsUnder l.prefix) l.paths;
}
