use Rattle.std.proofs.Common.{◌≡◌, ◌+◌, false, drop}
use Rattle.std.specs.Option.{option_map}
use Rattle.yaml_lines.specs.Key.{colon_at}
use Rattle.yaml_lines.proofs.key.colon.Given as goal

abbrev pub invariant-loop-at : goal.invariant-loop-at
invariant-loop-at l = colon_at false l.text ≡ option_map (λ n. n + l.at) (colon_at l.gap (drop l.at l.text))
