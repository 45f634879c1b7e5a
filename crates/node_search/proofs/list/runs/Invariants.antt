use Rattle.std.specs.Prelude.{Some}
use Rattle.std.proofs.Common.{◌↔◌, ◌⊎◌, List, ◌∷◌, drop, true}
use Rattle.node_match.specs.Free.{Part}
use Rattle.node_match.specs.Fronts.{End}
use Rattle.node_search.specs.States.{line_of, AnyFrom, Goes}
use Rattle.node_search.proofs.list.runs.Given as goal
use Rattle.node_tree.specs.Numbers.{kids_at}
use Rattle.node_pool.specs.Spots.{seen}
use Rattle.node_tree.specs.declared.known.Known.{Known}

abbrev pub invariant-loop-at : goal.invariant-loop-at
invariant-loop-at l = (k : List Known) (ps : List Part) (c : End) → (AnyFrom k (line_of (seen l.holder)) ps l.next c ⊎ Goes k true (seen l.holder) (Some l.pattern ∷ ps) (drop l.at (kids_at (seen l.holder))) l.state.trail c)
    ↔ (AnyFrom k (line_of (seen l.holder)) ps l.initial.next c ⊎ Goes k true (seen l.holder) (Some l.pattern ∷ ps) (drop l.start (kids_at (seen l.holder))) l.state.trail c)
