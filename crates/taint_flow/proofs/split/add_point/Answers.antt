use Rattle.std.proofs.Common.{◌≡◌, ◌↔◌, ◌⊎◌, inl, inr, ◌+◌, ℕ, List, get_or, refl, subst, ◌∙◌}
use Rattle.std.proofs.lemmas.List.{take_all}
use Rattle.graph_form.specs.Sets.{Among}
use Rattle.graph_form.proofs.Amongs.{among_more}
use Rattle.flow_reach.proofs.Steps.{more, pair_is}
use Rattle.taint_flow.specs.Splits.{ListHas}
use Rattle.taint_flow.proofs.split.add_point.Goals as goal

pub loop-pair-init : goal.loop-pair-init
loop-pair-init c = record {
  size = refl;
  added = λ source at name lt. (λ h. inl h, λ h. elim h [ inl o ↦ o | inr none ↦ absurd none.1 ]);
}

pub add_one-requires : goal.add_one-requires
add_one-requires c = c.loop-pair.invariant.size ∙ c.requires

pub loop-pair-preserved : goal.loop-pair-preserved
loop-pair-preserved c =
    let xs = c.args.adds.now in
    let i = c.loop-pair.pair-index in
    record {
      size = c.in_ok-add_one.ensures.size ∙ c.loop-pair.invariant.size;
      added = λ source at name lt.
          let p = pair_is (get_or xs i (0, 0)) source (c.args.sources + name) in
          let m = among_more xs i (0, 0) c.loop-pair-test.true (source, c.args.sources + name) in
          more _ _ _ _ _ _ (c.in_ok-add_one.ensures.added source at name lt) (c.loop-pair.invariant.added source at name lt) (
            λ (e, among). elim (m.0 among) [ inl before ↦ inl (e, before) | inr q ↦ inr (e, (p.0 q).0, (p.0 q).1) ],
            λ h. elim h [ inl (e, before) ↦ (e, m.1 (inl before)) | inr (e, a, b) ↦ (e, m.1 (inr (p.1 (a, b)))) ],
          );
    }

pub returns-clause-added : goal.returns-clause-added
returns-clause-added c source at name lt =
    let P : List (ℕ × ℕ) → Type 0 = λ xs. ListHas c.loop-pair.added.items source (at, name) ↔ (ListHas c.args.added.now.items source (at, name) ⊎ ((c.args.point ≡ at) × Among xs (source, c.args.sources + name))) in
    subst P (take_all c.loop-pair.pair-index c.args.adds.now c.loop-pair-test.false) (c.loop-pair.invariant.added source at name lt)
