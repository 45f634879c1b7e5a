use Rattle.std.proofs.Common.{◌≡◌, drop}
use Rattle.tree_match.specs.Members.{known_tree}
use Rattle.file_results.specs.Judging.{AreAllPlaced}
use Rattle.file_results.specs.Asking.{RuleAsksFor}
use Rattle.file_results.proofs.Asking.{AsksTo}
use Rattle.file_results.proofs.Judged.{UpTo}
use Rattle.file_results.proofs.looking.judge_all.Given as goal

abbrev pub invariant-loop-number : goal.invariant-loop-number
invariant-loop-number g l =
    let v = l.fn.view in
    UpTo l.path v.lang v.bytes (known_tree v) l.running l.number l.judged.items × AreAllPlaced v.bytes l.judged.items
    × (g.S.FileSearch.file l.search ≡ g.S.FileSearch.file l.fn.search) × AsksTo g.S.FileSearch.asks (RuleAsksFor l.path v.lang) l.running l.fn.search l.fn.steps (drop l.number l.running) l.search l.steps × (l.view ≡ v)
