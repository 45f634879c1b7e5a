use Rattle.std.proofs.Common.{◌≡◌, ◌+◌, ◌∷◌, drop, rules, sym, ap, ◌∙◌, refl, Some}
use Rattle.std.specs.Prelude.{FitsSigned}
use Rattle.std.proofs.lemmas.Int.{to_z-of_z}
use Rattle.std.proofs.lemmas.List.{drop_more}
use mir.Syntax.{w128}
use mir.Val.{to_z, of_z}
use Rattle.rule_form.specs.declared.comparison.Amount.{Amount}
use Rattle.meta_filter.specs.Values.{value_of}
use Rattle.meta_filter.proofs.Links.{next_pair}
use Rattle.meta_filter.proofs.holds.links_truth.Goals as goal

pub loop-i-preserved : goal.loop-i-preserved
loop-i-preserved c =
    let others = c.args.others.now in
    let i = c.loop-i.i in
    let x = c.index-others-i.result in
    let number = c.in_ok-value.value in
    let fits : FitsSigned w128 number = search rules in
    let value : value_of c.args.binding.now c.args.bytes.now x ≡ Some number = sym c.value_of.ensures ∙ c.in_ok-value.was in
    let front : drop i others ≡ x ∷ drop (i + 1) others = drop_more others i x c.loop-i-test.true ∙ ap (λ (y : Amount). y ∷ drop (i + 1) others) (sym c.index-others-i.is) in
    c.loop-i.invariant ∙ next_pair c.args.binding.now c.args.bytes.now others c.args.ops.now i (to_z w128 c.loop-i.before-bits) (to_z w128 (of_z w128 number)) c.loop-i.holds c.pair_holds-pair.result _ x front (rw (to_z-of_z w128 number fits) value) c.pair_holds-pair.ensures refl
