use Rattle.std.proofs.Common.{◌≡◌, ◌≢◌, ◌↔◌, ◌+◌, ◌*◌, ℕ, sym, subst}
use Rattle.std.specs.Prelude.{slice_index}
use Rattle.held_values.specs.Holding.{Holds}
use Rattle.held_values.specs.Told.{Tells}
use Rattle.held_values.proofs.propagation.propagate.Goals as goal

pub returns-clause-held : goal.returns-clause-held
unfolding Tells
returns-clause-held c = record {
  points = c.len-points.ensures;
  names = c.len-names.ensures;
  exact = λ point name literal there lt some.
      let P : ℕ → Type 0 = λ n. ((slice_index c.in_ok-values.values.items (name * n + point) ≡ literal) × (literal ≢ 0) × (literal ≢ 4294967295)) ↔ Holds c.args.graph.now c.args.effects.now point name literal in
      subst P (sym c.len-points.ensures) (c.in_ok-values.ensures.exact point name literal there lt some);
}
