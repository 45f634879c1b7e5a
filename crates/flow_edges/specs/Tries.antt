-- The first points of the parts of a Try, as the code has them.
use Rattle.std.specs.Prelude.{◌≡◌}
use Rattle.flow_edges.specs.declared.first_points.Firsts.{Firsts}
use Rattle.flow_edges.specs.Flow.{Tried}

pub record IsFirsts (t : Tried) (firsts : Firsts) : Type 0 where
  pub final : firsts.final_part ≡ t.final
  pub after : firsts.after ≡ t.after
  pub after_body : firsts.after_body ≡ t.after_body
  pub heads : firsts.heads ≡ t.heads
