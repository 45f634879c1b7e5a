use Rattle.std.proofs.Common.{◌≡◌, ◌+◌, ◌≤◌, drop}
use Rattle.std.specs.Option.{option_map}
use Rattle.yaml_lines.specs.Key.{quoted_at}
use Rattle.yaml_lines.proofs.key.quoted_end.Given as goal

abbrev pub invariant-loop-at : goal.invariant-loop-at
invariant-loop-at l = record {
  rest : quoted_at l.fn.start l.text ≡ option_map (λ n. n + l.at) (quoted_at l.scan (drop l.at l.text));
  depth : l.scan.depth ≤ l.fn.start.depth + l.at;
}
