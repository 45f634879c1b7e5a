use Rattle.std.proofs.Common.{◌≡◌, ◌↔◌, ◌∷◌, ◌-◌, List, length, drop}
use Rattle.std.specs.Prelude.{Some, true}
use Rattle.node_tree.specs.Numbers.{kids_at}
use Rattle.node_pool.specs.Spots.{seen}
use Rattle.node_match.specs.Free.{Part}
use Rattle.node_match.specs.Fronts.{End}
use Rattle.node_search.specs.States.{Goes}
use Rattle.tree_match.proofs.next_states.land_first.Given as goal

abbrev pub decreases-loop-at : goal.decreases-loop-at
decreases-loop-at l = length l.holder.kids.now - l.at

abbrev pub invariant-loop-at : goal.invariant-loop-at
invariant-loop-at l = record {
  states : l.states ≡ l.initial.states;
  goes : (ps : List Part) (c : End) → Goes l.known.names.now true (seen l.holder.spot) (Some l.part ∷ ps) (drop l.at (kids_at (seen l.holder.spot))) l.state.trail c
      ↔ Goes l.known.names.now true (seen l.holder.spot) (Some l.part ∷ ps) (drop l.state.at (kids_at (seen l.holder.spot))) l.state.trail c;
}
