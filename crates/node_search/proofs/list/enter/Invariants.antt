use Rattle.std.proofs.Common.{◌↔◌, ◌⊎◌, List, length}
use Rattle.node_match.specs.Free.{Part}
use Rattle.node_match.specs.Fronts.{End}
use Rattle.node_search.specs.States.{Line, AnyFrom, Entered}
use Rattle.node_search.proofs.list.enter.Given as goal
use Rattle.node_tree.specs.declared.known.Known.{Known}

abbrev pub invariant-loop-trail : goal.invariant-loop-trail
invariant-loop-trail l = (k : List Known) (h : Line) (ps : List Part) (c : End) → (AnyFrom k h ps l.states c ⊎ Entered k h ps l.at l.found c) ↔ (AnyFrom k h ps l.initial.states c ⊎ Entered k h ps l.at l.initial.found c)

abbrev pub decreases-loop-trail : goal.decreases-loop-trail
decreases-loop-trail l = length l.found
