use Rattle.std.proofs.Common.{◌≡◌, true, length}
use Rattle.tree_match.specs.Members.{known_tree}
use Rattle.file_results.specs.Asking.{PartsAskFor, AsksAmong}
use Rattle.file_results.proofs.Followed.{Pairs, FollowedAt}
use Rattle.file_results.proofs.tracing.follow_parts.Given as goal

abbrev pub invariant-loop-part : goal.invariant-loop-part
invariant-loop-part g l =
    let v = l.fn.file in
    (length l.followed ≡ l.part) × Pairs (FollowedAt v.lang l.rule.texts v.bytes (known_tree v)) l.rule.parts l.followed × (g.S.FileSearch.file l.search ≡ g.S.FileSearch.file l.fn.search)
    × AsksAmong g.S.FileSearch.asks (λ p. (l.wanted ≡ true) × PartsAskFor v.lang l.rule.parts p) l.fn.search l.fn.steps l.search l.steps × (l.file ≡ v)
