use Rattle.std.proofs.Common.{◌≡◌, true, length}
use Rattle.std.specs.BTreeSet.{contains}
use Rattle.std.specs.Ordering.{nat_cmp}
use Rattle.tree_match.specs.Members.{known_tree}
use Rattle.file_results.specs.Asking.{AsksAmong, WantedAsk}
use Rattle.file_results.proofs.Followed.{Pairs, RuleAt}
use Rattle.file_results.proofs.tracing.follow_rules.Given as goal

abbrev pub invariant-loop-number : goal.invariant-loop-number
invariant-loop-number g l =
    let v = l.fn.file in
    (length l.followed ≡ l.number-counter) × Pairs (RuleAt v.lang v.bytes (known_tree v) (λ n. contains nat_cmp l.wanted n ≡ true)) l.running l.followed × (g.S.FileSearch.file l.search ≡ g.S.FileSearch.file l.fn.search)
    × AsksAmong g.S.FileSearch.asks (WantedAsk v.lang l.running (λ n. contains nat_cmp l.wanted n ≡ true)) l.fn.search l.fn.steps l.search l.steps × (l.file ≡ v)
