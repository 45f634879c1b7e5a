use Rattle.std.proofs.Common.{◌+◌, length, ◌↔◌}
use Rattle.std.specs.Str.{chars}
use Rattle.path_glob.specs.Fitting.{FitsLater}
use Rattle.std.specs.Str.{IsUtf8}
use Rattle.path_glob.specs.Glob.{StandsForChars, AtEnd}
use Rattle.path_glob.proofs.name.fits_later.Given as goal

abbrev pub invariant-places : goal.invariant-places
invariant-places l =
    (IsUtf8 l.glob × IsUtf8 l.segment)
    × (FitsLater StandsForChars AtEnd (chars l.initial.glob) (chars l.initial.segment) ↔ FitsLater StandsForChars AtEnd (chars l.glob) (chars l.segment))

abbrev pub decreases-places : goal.decreases-places
decreases-places l = length (chars l.glob) + length (chars l.segment)
