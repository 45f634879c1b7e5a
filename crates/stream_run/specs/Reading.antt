-- Whether the rule files that a command reads can be read in one way only.
use Rattle.std.specs.Prelude.{◌≡◌, ℕ, Option}
use Rattle.scan_world.specs.Files.{Files}
use Rattle.file_map.specs.declared.limit.LimitKind.{LimitKind}
use Rattle.file_map.specs.FileMap.{File}
use Rattle.rule_map.specs.RuleMap.{PutRuleEnds}
use Rattle.wire_stream.specs.declared.wire.Wire.{Wire}
use Rattle.wire_stream.specs.declared.wire.Wire.TheVariants as wires
use Rattle.workspace.specs.Reports.{Readings, AreReadOnce}

-- putting that rule file ends in one way: it passes one limit, or none
abbrev pub PutEndsOnce : Readings → Files → File → Type 0
PutEndsOnce readings rules file = (a b : Option (LimitKind × ℕ)) → PutRuleEnds readings.writes rules file a → PutRuleEnds readings.writes rules file b → b ≡ a

-- There is one way to read what a command reads of rules: the rule file that it puts, or all that are there for a scan or a fix.
abbrev pub ReadsOnce : Readings → Files → Wire → Type 0
ReadsOnce readings rules (wires.Rule name bytes) = PutEndsOnce readings rules (name, bytes)
ReadsOnce readings rules wires.Scan = AreReadOnce readings.writes rules
ReadsOnce readings rules wires.Fix = AreReadOnce readings.writes rules
ReadsOnce readings rules _ = Unit {0}
