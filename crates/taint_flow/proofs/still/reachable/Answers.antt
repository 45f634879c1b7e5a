use Rattle.std.proofs.Common.{ℕ, subst}
use Rattle.taint_flow.specs.Still.{AreStill}
use Rattle.taint_flow.proofs.Reaching.{reachable_is}
use Rattle.taint_flow.proofs.still.reachable.Goals as goal

pub returns : goal.returns
returns c =
    let moves = c.in_ok-moves.moves in
    let A : ℕ → Type 0 = λ n. AreStill n moves in
    reachable_is c.args.graph.now moves (subst A c.len.ensures c.in_ok-moves.ensures) (c.fits.ensures.0 (let e = c.if-not-fits.false in cc)) c.in-Ok.reached c.in-Ok.ensures.reached
