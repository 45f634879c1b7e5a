use Rattle.path_glob.specs.Glob.{StandsForSegments, Anything}
use Rattle.path_glob.proofs.Fitting.{search_ends, search_goes}
use Rattle.path_glob.proofs.glob.fits_later.Goals as goal

pub returns-in_default : goal.returns-in_default
returns-in_default c = search_ends StandsForSegments Anything _ _ _ _ c.places.invariant c.in_default.ensures c.in-Miss.ensures

pub places-preserved : goal.places-preserved
places-preserved c = search_goes StandsForSegments Anything _ _ _ _ c.in-Some.field-0-0.now _ c.places.invariant c.in-Some.ensures c.in-Miss.ensures
