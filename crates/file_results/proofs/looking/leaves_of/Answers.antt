use Rattle.std.proofs.Common.{◌+◌, List, refl, sym, ◌∙◌, subst, drop}
use Rattle.std.specs.Prelude.{All}
use Rattle.std.proofs.lemmas.List.{drop_all}
use Rattle.std.proofs.lemmas.List.Elements.{All-nil, All-push}
use Rattle.meta_bind.proofs.Lookups.{opened}
use Rattle.node_tree.specs.declared.view.FileView.{FileView}
use Rattle.tree_match.specs.declared.leaf.Leaf.{Leaf}
use Rattle.tree_match.specs.Placed.{IsLeafPlaced}
use Rattle.tree_match.specs.Members.{known_tree}
use Rattle.file_results.specs.Looking.{named_leaf}
use Rattle.file_results.proofs.Asking.{asked_start, asked_on, asked_end}
use Rattle.file_results.proofs.Judged.{leads_start, leads_on, leads_end}
use Rattle.file_results.proofs.looking.leaves_of.Goals as goal

pub loop-pattern-init : goal.loop-pattern-init
loop-pattern-init g c =
    let ps = c.args.patterns.now in
    let s = c.args.search.now in
    let v = g.S.FileSearch.file s in
    let P : List Leaf → Type 0 = All (IsLeafPlaced v.bytes) in (
      leads_start v.lang (known_tree v) ps (drop 0 ps) c.new-leaves.result c.new-leaves.ensures refl,
      subst P (sym c.new-leaves.ensures) (All-nil (IsLeafPlaced v.bytes)),
      refl,
      asked_start g.S.FileSearch.asks ps (drop 0 ps) s c.args.steps.now refl,
    )

pub loop-pattern-preserved : goal.loop-pattern-preserved
loop-pattern-preserved g c =
    let i = c.loop-pattern.pattern-index in
    let ps = c.args.patterns.now in
    let p = c.pattern-item.result in
    let old = c.loop-pattern.leaves in
    let leaf = c.in_ok-leaf.field-0 in
    let v = g.S.FileSearch.file c.args.search.now in
    let far = c.loop-pattern.invariant in
    let opens = opened ps i p c.loop-pattern-test.true c.pattern-item.is in
    let P : List Leaf → Type 0 = All (IsLeafPlaced v.bytes) in
    let Q : FileView → Type 0 = λ w. named_leaf w.known w.lang w.tree p leaf in
    let R : FileView → Type 0 = λ w. IsLeafPlaced w.bytes leaf in (
      leads_on v.lang (known_tree v) ps old c.push.new.self (drop i ps) (drop (i + 1) ps) p leaf far.0 opens c.in_ok-push.ensures.ok (subst Q far.2 c.in_ok-leaf.ensures.exact),
      subst P (sym c.in_ok-push.ensures.ok) (All-push (IsLeafPlaced v.bytes) old leaf far.1 (subst R far.2 c.in_ok-leaf.ensures.placed)),
      c.leaf.ensures.same ∙ far.2,
      asked_on g.S.FileSearch.asks ps (drop i ps) (drop (i + 1) ps) p c.args.search.now c.loop-pattern.search c.leaf.new.self c.args.steps.now c.loop-pattern.steps c.leaf.new.steps far.3 opens c.in_ok-leaf.ensures.asks,
    )

pub returns-clause-leaves : goal.returns-clause-leaves
returns-clause-leaves g c =
    let ps = c.args.patterns.now in
    let v = g.S.FileSearch.file c.args.search.now in
    leads_end v.lang (known_tree v) ps c.loop-pattern.leaves (drop c.loop-pattern.pattern-index ps) c.loop-pattern.invariant.0 (drop_all c.loop-pattern.pattern-index ps c.loop-pattern-test.false)

pub returns-clause-placed : goal.returns-clause-placed
returns-clause-placed g c = c.loop-pattern.invariant.1

pub returns-clause-same : goal.returns-clause-same
returns-clause-same g c = c.loop-pattern.invariant.2

pub returns-in_err-leaf-clause-same : goal.returns-in_err-leaf-clause-same
returns-in_err-leaf-clause-same g c = c.leaf.ensures.same ∙ c.loop-pattern.invariant.2

pub returns-in_err-push-clause-same : goal.returns-in_err-push-clause-same
returns-in_err-push-clause-same g c = c.leaf.ensures.same ∙ c.loop-pattern.invariant.2

pub returns-clause-asked : goal.returns-clause-asked
returns-clause-asked g c =
    let ps = c.args.patterns.now in
    asked_end g.S.FileSearch.asks ps (drop c.loop-pattern.pattern-index ps) c.args.search.now c.loop-pattern.search c.args.steps.now c.loop-pattern.steps c.loop-pattern.invariant.3 (drop_all c.loop-pattern.pattern-index ps c.loop-pattern-test.false)
