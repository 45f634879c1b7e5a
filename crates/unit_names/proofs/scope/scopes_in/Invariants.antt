use Rattle.std.proofs.Common.{take}
use Rattle.unit_names.specs.Scopes.{AreScopesOf}
use Rattle.unit_names.proofs.scope.scopes_in.Given as goal

abbrev pub invariant-loop-unit : goal.invariant-loop-unit
invariant-loop-unit l = AreScopesOf l.root (take l.unit-index l.unit-items) l.scopes
