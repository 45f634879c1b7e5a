use Rattle.std.proofs.Common.{◌≡◌, ◌<◌, length, ◌↔◌, ◌⊎◌, inl, inr, ◌+◌, ℕ, List, sym, subst, arith}
use Rattle.graph_form.specs.Sets.{Among}
use Rattle.taint_flow.specs.Splits.{ListHas}
use Rattle.taint_flow.specs.Still.{Reachable}
use Rattle.taint_flow.proofs.split.add_reached.Goals as goal

pub returns-then-not-has-clause-added : goal.returns-then-not-has-clause-added
returns-then-not-has-clause-added c graph is source at name lt =
    let there : c.args.point < length graph.points = omega (arith, c.requires.point, is.points) in (
      λ h. inl h,
      λ h. elim h [
        | inl o ↦ o
        | inr (e, reach, adds) ↦
            let R : ℕ → Type 0 = λ p. Reachable graph p in
            let yes = c.has.ensures.1 ((is.exact c.args.point there).1 (subst R (sym e) reach)) in
            let no = c.if-not-has.true in
            absurd cc
      ],
    )

pub returns-clause-added : goal.returns-clause-added
returns-clause-added c graph is source at name lt =
    let there : c.args.point < length graph.points = omega (arith, c.requires.point, is.points) in
    let yes = c.has.ensures.0 (let e = c.if-not-has.false in cc) in
    let reach = (is.exact c.args.point there).0 yes in
    let R : ℕ → Type 0 = λ p. Reachable graph p in
    let A : List (ℕ × ℕ) → Type 0 = λ xs. ListHas c.add_point.new.added.items source (at, name) ↔ (ListHas c.args.added.now.items source (at, name) ⊎ ((c.args.point ≡ at) × Among xs (source, c.args.sources + name))) in
    let r = subst A c.as_slice.ensures (c.in_ok-add_point.ensures.added source at name lt) in (
      λ h. elim (r.0 h) [ inl o ↦ inl o | inr (e, adds) ↦ inr (e, subst R e reach, adds) ],
      λ h. elim h [ inl o ↦ r.1 (inl o) | inr (e, path, adds) ↦ r.1 (inr (e, adds)) ],
    )
