use Rattle.std.proofs.Common.{drop}
use Rattle.file_match.proofs.Marked.{Marks}
use Rattle.file_match.proofs.words.may_match.Given as goal

abbrev pub invariant-loop-place : goal.invariant-loop-place
invariant-loop-place l = Marks l.words.count l.words.marks.items l.wanted.places (drop l.place-index l.wanted.places)
