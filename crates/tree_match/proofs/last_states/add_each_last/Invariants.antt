use Rattle.std.proofs.Common.{◌≡◌, ◌↔◌, ◌⊎◌, List, [], length, drop}
use Rattle.node_tree.specs.declared.known.Known.{Known}
use Rattle.node_pool.specs.Spots.{seen}
use Rattle.node_match.specs.Free.{Part}
use Rattle.node_match.specs.Refused.{all_single}
use Rattle.node_match.specs.Fronts.{End}
use Rattle.node_search.specs.States.{line_of, AnyFrom}
use Rattle.tree_match.proofs.last_states.add_each_last.Given as goal

abbrev pub invariant-loop-state : goal.invariant-loop-state
invariant-loop-state l = (k : List Known) (ps : List Part) (c : End) → all_single ps → length ps ≡ l.left → c.0 ≡ []
    → (AnyFrom k (line_of (seen l.holder)) ps l.last c ⊎ AnyFrom k (line_of (seen l.holder)) ps (drop l.state-index l.state-items) c) ↔ AnyFrom k (line_of (seen l.holder)) ps l.state-items c
