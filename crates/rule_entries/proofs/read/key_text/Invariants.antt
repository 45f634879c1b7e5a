use Rattle.std.proofs.Common.{◌≡◌, ◌≤◌, length, drop}
use Rattle.rule_entries.specs.Rules.{key_of}
use Rattle.rule_entries.proofs.read.key_text.Given as goal

abbrev pub invariant-parts : goal.invariant-parts
invariant-parts l = record {
  place : l.at ≤ length l.path;
  so_far : l.key ≡ key_of l.fn.place (drop l.at l.path);
}

abbrev pub decreases-parts : goal.decreases-parts
decreases-parts l = l.at
