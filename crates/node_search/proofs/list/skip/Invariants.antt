use Rattle.std.proofs.Common.{◌≡◌, ◌↔◌, ◌⊎◌, List, ◌∷◌, length, drop}
use Rattle.std.specs.Prelude.{None}
use Rattle.node_match.specs.Free.{Part}
use Rattle.node_match.specs.Fronts.{End}
use Rattle.node_search.specs.States.{Line, AnyFrom}
use Rattle.node_search.proofs.list.skip.Given as goal
use Rattle.node_tree.specs.declared.known.Known.{Known}

abbrev pub invariant-loop-state : goal.invariant-loop-state
invariant-loop-state l = (k : List Known) (line : Line) → length line.kids ≡ l.end → (ps : List Part) (c : End) → (AnyFrom k line ps l.next c ⊎ AnyFrom k line (None ∷ ps) (drop l.state-index l.state-items) c) ↔ AnyFrom k line (None ∷ ps) l.state-items c
