use Rattle.std.proofs.Common.{rules}
use Rattle.path_glob.specs.Glob.{StandsForChars, AtEnd}
use Rattle.path_glob.proofs.Fitting.{search_goes}
use Rattle.path_glob.proofs.name.fits_later.Goals as goal

pub places-preserved : goal.places-preserved
places-preserved c =
    ((c.places.invariant.0.0, search rules), search_goes StandsForChars AtEnd _ _ _ _ c.in-Some.field-0-0 _ c.places.invariant.1 c.in-Some.ensures c.in-Miss.ensures)
