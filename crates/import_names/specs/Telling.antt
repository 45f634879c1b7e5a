-- Claims by which a name stands for another.
use Rattle.std.specs.Prelude.{◌==◌, ◌&&◌, not, Bool, List, length}
use Rattle.import_names.specs.Claims.{meaning}
use Rattle.import_names.specs.declared.claim.Claim.{Claim}

-- the claim has parts, and by all that is said of its name that stands for another
abbrev pub tells : List Claim → Claim → Bool
tells claims c = not (length c.parts == 0) && not (length (meaning claims c.name) == 0)
