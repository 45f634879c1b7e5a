use Rattle.std.proofs.Common.{◌≡◌, ◌≤◌, ◌-◌, ◌++◌, drop, length}
use Rattle.std.specs.Str.{IsCharBoundary}
use Rattle.meta_bind.specs.Fills.{filled}
use Rattle.meta_bind.proofs.template.fill.Given as goal

abbrev pub invariant-loop-at : goal.invariant-loop-at
invariant-loop-at l = record {
  within : l.at ≤ length l.template;
  boundary : IsCharBoundary l.template l.at;
  adds : l.text ++ filled l.binding l.bytes (drop l.at l.template) ≡ filled l.binding l.bytes l.template;
}

abbrev pub decreases-loop-at : goal.decreases-loop-at
decreases-loop-at l = length l.template - l.at
