use Rattle.std.proofs.Common.{arith, take, ◌++◌, ◌∷◌, [], subst, sym, ap, ◌∙◌, List}
use Rattle.std.specs.Prelude.{Option, None}
use Rattle.std.proofs.lemmas.List.{take_more, length-take-le}
use Rattle.node_tree.specs.declared.span.Span.{Span}
use Rattle.taint_flow.specs.declared.hit.TaintHit.{TaintHit}
use Rattle.taint_flow.specs.Lowest.{AreListed}
use Rattle.taint_flow.proofs.Lowest.{listed_none, listed_some}
use Rattle.taint_flow.proofs.least.Least.hits.Goals.{in-Some+in_ok-push, in_default}
use Rattle.taint_flow.proofs.least.Least.hits.Goals as goal

pub loop-sink-preserved : goal.loop-sink-preserved
loop-sink-preserved c =
    let items = c.deref-least-items.result.now in
    let so_far = take c.loop-sink.sink items in
    let more = take_more items c.loop-sink.sink None c.loop-sink-test.true in
    let Of : List (Option Span) → Type 0 = λ table. AreListed table c.match-least.hits in
    let Lists : List TaintHit → Type 0 = λ hits. AreListed (so_far ++ None ∷ []) hits in
    elim c.match-least.branch [
      | in-Some+in_ok-push w ↦ subst Of (sym (more ∙ ap (λ o. so_far ++ o ∷ []) w.in-Some.is)) (listed_some so_far c.loop-sink.sink c.loop-sink.hits c.match-least.hits w.in-Some.source (length-take-le c.loop-sink.sink items (omega (arith, c.loop-sink-test.true))) (w.hits-is ∙ w.in_ok-push.ensures.ok) c.loop-sink.invariant)
      | in_default w ↦ subst Of (sym (more ∙ ap (λ o. so_far ++ o ∷ []) w.in_default.is)) (subst Lists (sym w.hits-is) (listed_none so_far c.loop-sink.hits c.loop-sink.invariant))
    ]
