use Rattle.std.proofs.Common.{◌≡◌, drop}
use Rattle.std.specs.Prelude.{All}
use Rattle.tree_match.specs.Placed.{IsLeafPlaced}
use Rattle.tree_match.specs.Members.{known_tree}
use Rattle.file_results.proofs.Asking.{AskedTo}
use Rattle.file_results.proofs.Judged.{Leads}
use Rattle.file_results.proofs.looking.leaves_of.Given as goal

abbrev pub invariant-loop-pattern : goal.invariant-loop-pattern
invariant-loop-pattern g l =
    let v = g.S.FileSearch.file l.fn.search in
    Leads v.lang (known_tree v) l.patterns l.leaves (drop l.pattern-index l.patterns) × All (IsLeafPlaced v.bytes) l.leaves × (g.S.FileSearch.file l.search ≡ v) × AskedTo g.S.FileSearch.asks l.patterns l.fn.search l.fn.steps (drop l.pattern-index l.patterns) l.search l.steps
