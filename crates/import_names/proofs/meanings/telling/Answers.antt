use Rattle.std.proofs.Common.{◌≡◌, ◌∙◌, List, ◌≤◌, length, sym, ap, subst, arith}
use Rattle.std.specs.Prelude.{filter}
use Rattle.import_names.specs.Claims.{meaning}
use Rattle.import_names.specs.Ordered.{AreInOrder}
use Rattle.import_names.specs.Telling.{tells}
use Rattle.import_names.proofs.Telling.{all_told, same_told, still_in_order}
use Rattle.import_names.proofs.meanings.telling.Goals as goal

pub returns-clause-ordered : goal.returns-clause-ordered
returns-clause-ordered c =
    let claims = c.args.claims.now in
    let through : length claims ≤ c.loop-claim.claim-index = omega (arith, c.loop-claim.auto.claim-index-end, c.loop-claim-test.false) in
    subst AreInOrder (sym (all_told claims c.loop-claim.claim-index c.loop-claim.few.items through c.loop-claim.invariant)) (still_in_order claims (tells claims) c.requires)

pub returns-clause-same : goal.returns-clause-same
returns-clause-same c =
    let claims = c.args.claims.now in
    let through : length claims ≤ c.loop-claim.claim-index = omega (arith, c.loop-claim.auto.claim-index-end, c.loop-claim-test.false) in
    ap meaning (all_told claims c.loop-claim.claim-index c.loop-claim.few.items through c.loop-claim.invariant) ∙ same_told claims
