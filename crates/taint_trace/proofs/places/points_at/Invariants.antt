use Rattle.std.proofs.Common.{◌≡◌, take, map, Some}
use Rattle.std.specs.Prelude.{slice_get}
use Rattle.taint_trace.proofs.places.points_at.Given as goal

abbrev pub invariant-loop-place : goal.invariant-loop-place
invariant-loop-place l = map (slice_get l.points) (take l.place-index l.places) ≡ map Some l.path
