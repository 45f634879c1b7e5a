use Rattle.std.proofs.Common.{◌≡◌, ◌↔◌, ◌⊎◌, inl, inr, ℕ, List, get_or, refl, sym, subst}
use Rattle.std.proofs.lemmas.List.{take_all}
use Rattle.std.proofs.lemmas.Option.{slice_get_read}
use Rattle.graph_form.specs.Sets.{Among}
use Rattle.graph_form.proofs.Amongs.{among_at, among_more}
use Rattle.flow_reach.specs.Spread.{RowHas}
use Rattle.flow_reach.proofs.Steps.{more, pair_is, row_at}
use Rattle.taint_flow.proofs.search.add_after.Goals as goal

pub loop-at-init : goal.loop-at-init
loop-at-init c to name = (λ h. inl h, λ h. elim h [ inl o ↦ o | inr none ↦ absurd none.1 ])

pub bounds-after-at : goal.bounds-after-at
bounds-after-at c =
    let at = get_or c.args.added.now c.loop-at.at-index (0, 0) in
    c.requires at.0 at.1 (among_at c.args.added.now c.loop-at.at-index (0, 0) c.loop-at-test.true)

pub loop-at-preserved : goal.loop-at-preserved
loop-at-preserved c to name =
    let xs = c.args.added.now in
    let i = c.loop-at.at-index in
    let at = get_or xs i (0, 0) in
    let there = c.requires at.0 at.1 (among_at xs i (0, 0) c.loop-at-test.true) in
    let list = c.index-after-at.result in
    let list_at = slice_get_read c.args.after.now _ at.0 list refl there c.index-after-at.is in
    let row = row_at c.args.after.now at.0 list to list_at in
    let L : List ℕ → Type 0 = λ ys. Among c.add_each.new.into.items (to, name) ↔ (Among c.loop-at.into.items (to, name) ⊎ (Among ys to × (at.1 ≡ name))) in
    more _ _ _ _ _ _ (subst L c.deref.ensures.value (c.in_ok-add_each.ensures to name)) (c.loop-at.invariant to name) (
      λ (point, among, has). elim ((among_more xs i (0, 0) c.loop-at-test.true (point, name)).0 among) [
        | inl before ↦ inl (point, before, has)
        | inr q ↦
            let p = (pair_is at point name).0 q in
            let R : ℕ → Type 0 = λ x. RowHas c.args.after.now x to in
            inr (row.0 (subst R (sym p.0) has), p.1)
      ],
      λ h. elim h [
        | inl (point, before, has) ↦ (point, (among_more xs i (0, 0) c.loop-at-test.true (point, name)).1 (inl before), has)
        | inr (among, e) ↦ (at.0, (among_more xs i (0, 0) c.loop-at-test.true (at.0, name)).1 (inr ((pair_is at at.0 name).1 (refl, e))), row.1 among)
      ],
    )

pub returns : goal.returns
returns c to name =
    let P : List (ℕ × ℕ) → Type 0 = λ xs. Among c.loop-at.into.items (to, name) ↔ (Among c.args.into.now.items (to, name) ⊎ ((point : ℕ) × Among xs (point, name) × RowHas c.args.after.now point to)) in
    subst P (take_all c.loop-at.at-index c.args.added.now c.loop-at-test.false) (c.loop-at.invariant to name)
