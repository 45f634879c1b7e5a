use Rattle.std.proofs.Common.{subst, List, ℕ}
use Rattle.std.specs.Prelude.{MatchOption}
use Rattle.trace_path.specs.Trace.{IsTrace, IsLeast}
use Rattle.trace_path.proofs.search.shortest.Goals as goal

pub returns-clause-least : goal.returns-clause-least
returns-clause-least c =
    let P : List (ℕ × ℕ) → Type 0 = λ gs. MatchOption c.in_ok-found.found ((points : List ℕ) → IsTrace c.args.graph.now c.args.moves.now gs points → ⊥) (IsLeast c.args.graph.now c.args.moves.now gs) in
    subst P c.as_slice.ensures c.in_ok-found.ensures
