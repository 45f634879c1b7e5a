use Rattle.std.proofs.Common.{◌≡◌, inl, inr, ℕ, true, false, List, sym, ◌∙◌, subst}
use Rattle.std.specs.Prelude.{None}
use Rattle.node_tree.specs.declared.view.FileView.{FileView}
use Rattle.taint_judge.specs.Follows.{IsRead}
use Rattle.taint_judge.specs.Lists.{OverRule}
use Rattle.file_results.proofs.Followed.{no_items, is_none}
use Rattle.file_results.proofs.tracing.sets_for.Goals as goal

pub returns-then-is_empty : goal.returns-then-is_empty
returns-then-is_empty c = no_items c.findings.result.now _ c.is_empty.result c.findings.ensures c.is_empty.ensures c.if-is_empty.true

pub of-requires-clause-few : goal.of-requires-clause-few
of-requires-clause-few c =
    let v = c.args.file.now in
    let W : FileView → Type 0 = λ w. OverRule c.args.leaves.now c.in_ok-rx.rx w.bytes c.args.body.now None in
    let R : List (List ℕ) → Type 0 = λ ts. OverRule c.args.leaves.now ts v.bytes c.args.body.now None in
    elim c.requires.few [
      | inl none ↦ (let e : true ≡ false = sym (is_none c.findings.result.now _ c.is_empty.result c.findings.ensures c.is_empty.ensures none) ∙ c.if-is_empty.false in absurd cc)
      | inr few ↦ subst W (sym c.view.ensures) (subst R (sym c.in_ok-rx.ensures) few)
    ]

pub returns : goal.returns
returns c =
    let v = c.args.file.now in
    let sets = c.in_ok-sets.sets in
    let W : FileView → Type 0 = λ w. IsRead c.args.leaves.now c.in_ok-rx.rx w.bytes w.tree c.args.body.now sets.sinks sets.ranges in
    let R : List (List ℕ) → Type 0 = λ ts. IsRead c.args.leaves.now ts v.bytes v.tree c.args.body.now sets.sinks sets.ranges in
    subst R c.in_ok-rx.ensures (subst W c.view.ensures c.in_ok-sets.ensures.read)
