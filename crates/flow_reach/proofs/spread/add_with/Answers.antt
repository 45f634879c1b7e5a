use Rattle.std.proofs.Common.{sym, subst, List, ℕ, ◌↔◌}
use Rattle.flow_reach.specs.Adds.{Coded}
use Rattle.graph_form.specs.Sets.{Among}
use Rattle.flow_reach.proofs.Grow.{grows_as}
use Rattle.flow_reach.proofs.Steps.{added_by}
use Rattle.flow_reach.proofs.spread.add_with.Goals as goal

pub see_each-requires-clause-room : goal.see_each-requires-clause-room
see_each-requires-clause-room c k at =
    let P : List ℕ → Type 0 = λ xs. (x : ℕ) → Among xs x ↔ Coded c.args.adds.now c.args.fact x in
    let same = subst P (sym c.deref.ensures.value) c.in_ok-only_seconds.ensures in
    c.requires.room k ((added_by c.args.points.now c.args.stride c.args.adds.now c.args.fact c.deref.result.now same k).0 at)

pub returns : goal.returns
returns c =
    let P : List ℕ → Type 0 = λ xs. (x : ℕ) → Among xs x ↔ Coded c.args.adds.now c.args.fact x in
    let same = subst P (sym c.deref.ensures.value) c.in_ok-only_seconds.ensures in
    grows_as _ _ _ _ c.in_ok-see_each.ensures (added_by c.args.points.now c.args.stride c.args.adds.now c.args.fact c.deref.result.now same)
