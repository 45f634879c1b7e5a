use Rattle.std.proofs.Common.{ap, sym, ◌∙◌, drop, ◌≡◌, ◌∷◌, ◌+◌, refl, List}
use Rattle.std.proofs.lemmas.List.{drop_all, at_drop_more}
use Rattle.flow_graph.specs.declared.labels.Label.{Label}
use Rattle.flow_graph.specs.Outline.{target_among}
use Rattle.flow_graph.proofs.Outlines.{target_here, target_other}
use Rattle.flow_graph.proofs.labels.target_named.Goals as goal

pub returns-then-is_same : goal.returns-then-is_same
returns-then-is_same c =
    let T = λ (ls : List Label). target_among ls c.args.exit c.args.name.now in
    let one : drop c.loop-label.label-index c.args.labels.now ≡ c.label-item.result ∷ drop (c.loop-label.label-index + 1) c.args.labels.now = at_drop_more (λ ys. ys) c.args.labels.now c.loop-label.label-index c.label-item.result c.loop-label-test.true ∙ ap (λ y. y ∷ drop (c.loop-label.label-index + 1) c.args.labels.now) (sym c.label-item.is) in
    sym (c.loop-label.invariant ∙ ap T one ∙ target_here c.label-item.result _ c.args.exit c.args.name.now (c.is_same.ensures.0 c.if-is_same.true))

pub loop-label-preserved : goal.loop-label-preserved
loop-label-preserved c =
    let T = λ (ls : List Label). target_among ls c.args.exit c.args.name.now in
    let one : drop c.loop-label.label-index c.args.labels.now ≡ c.label-item.result ∷ drop (c.loop-label.label-index + 1) c.args.labels.now = at_drop_more (λ ys. ys) c.args.labels.now c.loop-label.label-index c.label-item.result c.loop-label-test.true ∙ ap (λ y. y ∷ drop (c.loop-label.label-index + 1) c.args.labels.now) (sym c.label-item.is) in
    c.loop-label.invariant ∙ ap T one ∙ target_other c.label-item.result _ c.args.exit c.args.name.now (λ e. let t = c.is_same.ensures.1 e in let f = c.if-is_same.false in cc)

pub returns : goal.returns
returns c =
    let T = λ (ls : List Label). target_among ls c.args.exit c.args.name.now in
    sym (c.loop-label.invariant ∙ ap T (drop_all c.loop-label.label-index c.args.labels.now c.loop-label-test.false))
