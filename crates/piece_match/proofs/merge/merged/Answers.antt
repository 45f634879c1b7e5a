use Rattle.std.proofs.Common.{◌⊎◌, ◌↔◌, List, subst}
use Rattle.node_match.specs.Sets.{Among}
use Rattle.tree_match.specs.Members.{Member}
use Rattle.piece_match.specs.Merging.{AreBefore}
use Rattle.piece_match.proofs.Merges.{start_behind, start_both, end_behind, end_both, ok_as}
use Rattle.piece_match.proofs.merge.merged.Goals as goal

pub go_on-requires : goal.go_on-requires
go_on-requires c =
    let P : List Member → Type 0 = λ xs. AreBefore xs c.args.others in
    let Q : List Member → Type 0 = λ xs. AreBefore c.as_slice.result.now xs in
    start_behind c.args.first _ c.args.others _ c.requires.first c.requires.others (subst P c.as_slice.ensures (subst Q c.as_slice-2.ensures (c.in_ok-is_before.ensures c.if-branch.true))) c.new.ensures c.reverse.ensures

pub returns-then-branch-clause-same : goal.returns-then-branch-clause-same
returns-then-branch-clause-same c =
    ok_as _ _ c.go_on.result (λ all h m. end_behind c.args.first _ c.args.others _ m (Among all m) c.new.ensures c.reverse.ensures (h m)) c.go_on.ensures.same

pub go_on-requires-2 : goal.go_on-requires-2
go_on-requires-2 c = start_both _ c.args.first c.args.others _ _ c.requires.first c.requires.others c.new-2.ensures c.reverse-2.ensures c.reverse-3.ensures

pub returns-clause-same : goal.returns-clause-same
returns-clause-same c =
    ok_as _ _ c.go_on-2.result (λ all h m. end_both _ c.args.first c.args.others _ _ m (Among all m) c.new-2.ensures c.reverse-2.ensures c.reverse-3.ensures (h m)) c.go_on-2.ensures.same
