use Rattle.std.proofs.Common.{◌≡◌, take, map}
use Rattle.scan_session.specs.Quieted.{grammars_of}
use Rattle.seen_files.specs.Seen.{file_of}
use Rattle.session.proofs.Adding.{HasAdded}
use Rattle.session.proofs.scanning.add_all.Given as goal

abbrev pub invariant-loop-file : goal.invariant-loop-file
invariant-loop-file g l = record {
  added : HasAdded (grammars_of (g.R.TreeReader.spells l.initial.scanner.reader.now) (g.R.TreeReader.knows l.initial.scanner.reader.now) (g.R.CommentReader.comments l.initial.scanner.reader.now) l.initial.scanner.traced) l.seen l.initial.scanner (map file_of (take l.file-index l.file-items)) l.scanner;
  same_reader : l.scanner.reader.now ≡ l.initial.scanner.reader.now;
  same_traced : l.scanner.traced ≡ l.initial.scanner.traced;
}
