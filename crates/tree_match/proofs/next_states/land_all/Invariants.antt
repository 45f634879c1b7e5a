use Rattle.std.proofs.Common.{◌↔◌, ◌⊎◌, ◌∷◌, ◌-◌, List, length, drop}
use Rattle.std.specs.Prelude.{Some, true}
use Rattle.node_tree.specs.declared.known.Known.{Known}
use Rattle.node_tree.specs.Tree.{kids_of}
use Rattle.node_tree.specs.Numbers.{kids_at}
use Rattle.node_pool.specs.Spots.{seen}
use Rattle.node_match.specs.Free.{Part}
use Rattle.node_match.specs.Fronts.{End}
use Rattle.node_search.specs.States.{line_of, AnyFrom, Goes}
use Rattle.tree_match.proofs.next_states.land_all.Given as goal

abbrev pub decreases-loop-at : goal.decreases-loop-at
decreases-loop-at l = length (kids_of l.node) - l.at

abbrev pub invariant-loop-at : goal.invariant-loop-at
invariant-loop-at l = (k : List Known) (ps : List Part) (c : End) →
    (AnyFrom k (line_of (seen l.holder)) (Some l.part ∷ ps) l.states c ⊎ Goes k true (seen l.holder) (Some l.part ∷ ps) (drop l.at (kids_at (seen l.holder))) l.state.trail c)
    ↔ (AnyFrom k (line_of (seen l.holder)) (Some l.part ∷ ps) l.initial.states c ⊎ Goes k true (seen l.holder) (Some l.part ∷ ps) (drop l.state.at (kids_at (seen l.holder))) l.state.trail c)
