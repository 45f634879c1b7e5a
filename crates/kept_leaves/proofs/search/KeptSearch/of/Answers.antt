use Rattle.std.proofs.Common.{◌∙◌, ap}
use Rattle.kept_leaves.specs.declared.leaf.KeptPairs.{KeptPairs}
use Rattle.kept_leaves.specs.declared.leaf.OpenLeaves.{OpenLeaves}
use Rattle.kept_leaves.specs.Kept.{kept_in, map_of}
use Rattle.kept_leaves.specs.Opened.{open_map}
use Rattle.kept_leaves.proofs.Laws.{right_as}
use Rattle.kept_leaves.proofs.search.KeptSearch.of.Goals as goal

pub open_parts-requires-clause-leaves : goal.open_parts-requires-clause-leaves
open_parts-requires-clause-leaves c =
    let new : OpenLeaves = record { store = c.of.result } in
    record { is_open = c.of.ensures.open; right = right_as (kept_in c.kept.inside.pairs.store) (open_map new) c.of.ensures.same c.kept.invariant.right }

pub returns-clause-kept : goal.returns-clause-kept
returns-clause-kept c path a b = c.in_ok-parts.ensures.same path a b ∙ c.of.ensures.same path a b ∙ ap (λ (k : KeptPairs). map_of k path a b) c.kept.view_is
