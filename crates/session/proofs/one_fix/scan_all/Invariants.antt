use Rattle.std.proofs.Common.{◌≡◌, take, map}
use Rattle.file_map.specs.Seen.{lent}
use Rattle.scan_session.specs.Quieted.{grammars_of}
use Rattle.scan_session.specs.Scans.{Scans}
use Rattle.seen_files.specs.Fresh.{SeesFresh}
use Rattle.session.proofs.one_fix.scan_all.Given as goal

abbrev pub invariant-loop-path : goal.invariant-loop-path
invariant-loop-path g l = record {
  scanned : Scans (grammars_of (g.R.TreeReader.spells l.reader) (g.R.TreeReader.knows l.reader) (g.R.CommentReader.comments l.reader) l.traced) (map lent (take l.path-index l.path-items)) l.initial.scanner l.scanner;
  sees : SeesFresh (grammars_of (g.R.TreeReader.spells l.reader) (g.R.TreeReader.knows l.reader) (g.R.CommentReader.comments l.reader) l.traced) l.initial.scanner.running.items (map lent (take l.path-index l.path-items)) l.initial.steps l.steps;
  same_rules : l.scanner.running.items ≡ l.initial.scanner.running.items;
  same_reader : l.scanner.reader.now ≡ l.initial.scanner.reader.now;
  same_traced : l.scanner.traced ≡ l.initial.scanner.traced;
}
