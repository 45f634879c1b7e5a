use Rattle.std.proofs.Common.{◌∙◌, ap}
use Rattle.kept_leaves.specs.Asking.{Search, kept_by}
use Rattle.kept_leaves.specs.Kept.{kept_in}
use Rattle.kept_leaves.specs.Opened.{open_map}
use Rattle.kept_leaves.proofs.Laws.{right_as}
use Rattle.kept_leaves.proofs.search.KeptSearch.into_kept.Goals as goal

pub invariant_of-result : goal.invariant_of-result
invariant_of-result c = record { sound = c.in_ok-store.ensures.sound; right = right_as (open_map c.self.inside.leaves) (kept_in c.in_ok-store.store) c.in_ok-store.ensures.same c.self.invariant.0.right }

pub returns : goal.returns
returns c path a b = c.in_ok-store.ensures.same path a b ∙ ap (λ (s : Search). kept_by s path a b) c.self.view_is
