use Rattle.std.proofs.Common.{◌↔◌, ◌⊎◌, drop}
use Rattle.node_pool.specs.Spots.{seen}
use Rattle.node_match.specs.Free.{parts_of}
use Rattle.node_match.specs.Fronts.{End}
use Rattle.node_search.specs.States.{line_of, AnyFrom}
use Rattle.tree_match.proofs.next_states.land_each.Given as goal

abbrev pub invariant-loop-state : goal.invariant-loop-state
invariant-loop-state l = (c : End) → (AnyFrom l.search.known.names.now (line_of (seen l.search.holder.spot)) (drop l.fn.at (parts_of l.search.pattern.now)) l.landed c
    ⊎ AnyFrom l.search.known.names.now (line_of (seen l.search.holder.spot)) (drop l.fn.at (parts_of l.search.pattern.now)) (drop l.state-index l.state-items) c)
    ↔ AnyFrom l.search.known.names.now (line_of (seen l.search.holder.spot)) (drop l.fn.at (parts_of l.search.pattern.now)) l.state-items c
