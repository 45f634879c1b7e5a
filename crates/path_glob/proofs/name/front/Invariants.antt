use Rattle.std.proofs.Common.{length}
use Rattle.std.specs.Str.{chars}
use Rattle.std.specs.Str.{IsUtf8}
use Rattle.path_glob.specs.Glob.{StandsForChars, AtEnd}
use Rattle.path_glob.proofs.Fitting.{Remains}
use Rattle.path_glob.proofs.name.front.Given as goal

abbrev pub invariant-signs : goal.invariant-signs
invariant-signs l = (IsUtf8 l.glob × IsUtf8 l.segment) × Remains StandsForChars AtEnd (chars l.initial.glob) (chars l.initial.segment) (chars l.glob) (chars l.segment)

abbrev pub decreases-signs : goal.decreases-signs
decreases-signs l = length (chars l.glob)
