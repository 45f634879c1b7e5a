use Rattle.std.proofs.Common.{◌≡◌, ◌↔◌, ◌⊎◌, ◌<◌, ℕ, ◌-◌, List, length, refl, sym, subst, arith}
use Rattle.std.proofs.lemmas.Option.{slice_get_read}
use Rattle.graph_form.specs.Sets.{Among}
use Rattle.graph_form.proofs.Amongs.{among_push}
use Rattle.flow_reach.proofs.Steps.{as_right, pair_is}
use Rattle.taint_flow.proofs.Splitting.{list_push}
use Rattle.taint_flow.proofs.split.add_one.Goals as goal

pub returns-clause-added : goal.returns-clause-added
returns-clause-added c source at name lt =
    let lists = c.args.added.now.items in
    let i = c.args.first in
    let list = c.index_mut.result.now in
    let y : ℕ × ℕ = (c.args.point, c.args.second - c.args.sources) in
    let there : i < length lists = omega (arith, c.requires, c.if-first-sources.false) in
    let p = pair_is y at name in
    let P : List (ℕ × ℕ) → Type 0 = λ xs. (z : ℕ × ℕ) → Among xs z ↔ (Among list.items z ⊎ (y ≡ z)) in
    as_right _ _ _ _ (list_push lists i source list c.push.new.self y (at, name) (slice_get_read lists _ i list refl there c.index_mut.ensures.value) (subst P (sym c.in_ok-push.ensures.items) (λ z. among_push list.items y z))) (
      λ (e, q). ((p.0 q).0, e, omega (arith, (p.0 q).1, c.if-second-sources.false)),
      λ (a, e, b). (e, p.1 (a, omega (arith, b, c.if-second-sources.false))),
    )
