use Rattle.std.proofs.Common.{◌≡◌, ◌↔◌, ◌⊎◌, List, [], length, drop}
use Rattle.meta_bind.specs.declared.bound.Bound.{Bound}
use Rattle.node_match.specs.Sets.{Among}
use Rattle.node_search.specs.States.{Line, AnyFrom}
use Rattle.node_search.proofs.list.finish.Given as goal
use Rattle.node_tree.specs.declared.known.Known.{Known}

abbrev pub invariant-loop-state : goal.invariant-loop-state
invariant-loop-state l = (k : List Known) (line : Line) → length line.kids ≡ l.end → (c : List Bound) → (Among l.out c ⊎ AnyFrom k line [] (drop l.state-index l.state-items) ([], c)) ↔ (Among l.initial.out c ⊎ AnyFrom k line [] l.state-items ([], c))
