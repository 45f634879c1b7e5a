use Rattle.std.proofs.Common.{◌≡◌, drop}
use Rattle.tree_match.specs.Members.{known_tree}
use Rattle.file_results.specs.Judging.{AreAllPlaced}
use Rattle.file_results.specs.Asking.{PartAsksFor}
use Rattle.file_results.proofs.Asking.{AsksTo}
use Rattle.file_results.proofs.Judged.{Gathers}
use Rattle.file_results.proofs.looking.add_parts.Given as goal

abbrev pub invariant-loop-part : goal.invariant-loop-part
invariant-loop-part g l =
    let v = l.fn.view in
    Gathers l.rule.texts v.lang v.bytes (known_tree v) l.number l.fn.judged.items l.judged.items l.rule.parts (drop l.part l.rule.parts) × (AreAllPlaced v.bytes l.fn.judged.items → AreAllPlaced v.bytes l.judged.items)
    × (g.S.FileSearch.file l.search ≡ g.S.FileSearch.file l.fn.search) × AsksTo g.S.FileSearch.asks (PartAsksFor v.lang) l.rule.parts l.fn.search l.fn.steps (drop l.part l.rule.parts) l.search l.steps × (l.view ≡ v)
