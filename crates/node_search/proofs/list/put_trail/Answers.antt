use Rattle.std.proofs.Common.{List, subst}
use Rattle.meta_bind.specs.declared.bound.Bound.{Bound}
use Rattle.node_match.specs.Sets.{Among}
use Rattle.node_match.proofs.Sets.{pushed}
use Rattle.node_match.proofs.Sets.{already}
use Rattle.node_search.proofs.list.put_trail.Goals as goal

pub returns-then-is_last : goal.returns-then-is_last
returns-then-is_last c =
    let P : List (List Bound) → Type 0 = λ xs. Among xs c.args.trail in
    already c.args.trails.now c.args.trail (subst P c.as_slice.ensures (c.is_last.ensures c.if-is_last.true))

pub returns : goal.returns
returns c = pushed _ _ _ c.in_ok-push.ensures.ok
