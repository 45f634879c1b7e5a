use Rattle.std.proofs.Common.{[], sym, subst}
use Rattle.node_pool.specs.Spots.{seen}
use Rattle.tree_match.specs.declared.aim.Aim.{Aim}
use Rattle.node_match.specs.Sets.{AddsUpTo}
use Rattle.tree_match.specs.Aims.{MemberFrom}
use Rattle.node_search.specs.States.{line_of}
use Rattle.tree_match.proofs.Spreads.{states_end}
use Rattle.tree_match.proofs.ends.add_ends.Goals as goal
use Rattle.node_match.proofs.Sets.{adds_up_as}

pub returns-in_ok-add_all-in-All-clause-added : goal.returns-in_ok-add_all-in-All-clause-added
returns-in_ok-add_all-in-All-clause-added c =
    let C = c.args.search.known.names.now in
    let h = seen c.args.search.holder.spot in
    let P : Aim → Type 0 = λ aim. AddsUpTo c.args.search.most c.args.members.now c.add_all.new.members (λ m. MemberFrom C aim h [] c.args.ends.now m) in
    subst P (sym c.in-All.is) (adds_up_as _ _ _ _ _ c.in_ok-add_all-in-All.ensures.added (λ m. states_end C c.in-All.range h c.args.ends.now _ _ m c.new-trails.ensures (c.in_ok-finish-in-All.ensures C (line_of h) (sym c.count_kids.ensures))))

pub returns-in_ok-add_runs-in-Run-clause-added : goal.returns-in_ok-add_runs-in-Run-clause-added
returns-in_ok-add_runs-in-Run-clause-added c =
    let C = c.args.search.known.names.now in
    let h = seen c.args.search.holder.spot in
    let P : Aim → Type 0 = λ aim. AddsUpTo c.args.search.most c.args.members.now c.add_runs.new.members (λ m. MemberFrom C aim h [] c.args.ends.now m) in
    subst P (sym c.in-Run.is) (c.in_ok-add_runs-in-Run.ensures.added C)
