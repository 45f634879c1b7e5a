use Rattle.std.proofs.Common.{◌↔◌, ◌⊎◌, List, drop}
use Rattle.node_match.specs.Free.{Part}
use Rattle.node_match.specs.Fronts.{End}
use Rattle.node_search.specs.States.{line_of, AnyFrom, Runs}
use Rattle.node_search.proofs.list.runs_at.Given as goal
use Rattle.node_tree.specs.Numbers.{kids_at}
use Rattle.node_pool.specs.Spots.{seen}
use Rattle.node_tree.specs.declared.known.Known.{Known}

abbrev pub invariant-loop-size : goal.invariant-loop-size
invariant-loop-size l = (k : List Known) (ps : List Part) (c : End) → (AnyFrom k (line_of (seen l.holder)) ps l.states c ⊎ Runs k l.size (seen l.holder) l.pattern ps (drop l.at (kids_at (seen l.holder))) l.trail c)
    ↔ (AnyFrom k (line_of (seen l.holder)) ps l.initial.states c ⊎ Runs k 0 (seen l.holder) l.pattern ps (drop l.at (kids_at (seen l.holder))) l.trail c)
