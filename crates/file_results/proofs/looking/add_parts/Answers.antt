use Rattle.std.proofs.Common.{◌+◌, ◌<◌, length, refl, sym, ap, ◌∙◌, subst, drop, arith}
use Rattle.std.proofs.lemmas.List.{drop_all}
use Rattle.node_tree.specs.declared.view.FileView.{FileView}
use Rattle.node_match.specs.Sets.{Adds}
use Rattle.rule_form.specs.declared.rule.Rule.{Rule}
use Rattle.tree_match.specs.Members.{known_tree}
use Rattle.file_search.specs.Asked.{AsksFor}
use Rattle.file_results.specs.Judging.{PartAdds, AreAllPlaced}
use Rattle.running_rules.proofs.Members.{there_is}
use Rattle.file_results.specs.Asking.{PartAsksFor}
use Rattle.file_results.proofs.Asking.{asks_start, asks_on, asks_end}
use Rattle.file_results.proofs.Judged.{gathers_start, gathers_on, gathers_end}
use Rattle.file_results.proofs.looking.add_parts.Goals as goal

pub loop-part-init : goal.loop-part-init
loop-part-init g c =
    let v = c.args.view.now in
    let ps = c.args.rule.now.parts in (
      gathers_start c.args.rule.now.texts v.lang v.bytes (known_tree v) c.args.number c.args.judged.now.items ps (drop 0 ps) refl,
      λ h. h,
      refl,
      asks_start g.S.FileSearch.asks (PartAsksFor v.lang) ps (drop 0 ps) c.args.search.now c.args.steps.now refl,
      refl,
    )

pub add_part-requires-clause-file : goal.add_part-requires-clause-file
add_part-requires-clause-file g c = c.loop-part.invariant.2 ∙ c.requires ∙ sym c.loop-part.invariant.4

pub add_part-requires-clause-part : goal.add_part-requires-clause-part
add_part-requires-clause-part g c = let lt = c.loop-part-test.true in let e = c.len-part-end.ensures ∙ ap (λ (r : Rule). length r.parts) c.rule.ensures in omega (arith, lt, e)

pub loop-part-preserved : goal.loop-part-preserved
loop-part-preserved g c =
    let v = c.args.view.now in
    let ps = c.args.rule.now.parts in
    let i = c.loop-part.part in
    let lt : i < length ps = let a = c.loop-part-test.true in let e = c.len-part-end.ensures ∙ ap (λ (r : Rule). length r.parts) c.rule.ensures in omega (arith, a, e) in
    let one = there_is ps i lt in
    let far = c.loop-part.invariant in
    let J : FileView → Type 0 = λ w. Adds c.loop-part.judged.items c.add_part.new.judged.items (PartAdds c.args.rule.now.texts w.lang w.bytes (known_tree w) c.args.number one.0) in
    let P : FileView → Type 0 = λ w. AreAllPlaced w.bytes c.loop-part.judged.items → AreAllPlaced w.bytes c.add_part.new.judged.items in
    let A : FileView → Type 0 = λ w. AsksFor g.S.FileSearch.asks (PartAsksFor w.lang one.0) c.loop-part.search c.loop-part.steps c.add_part.new.search c.add_part.new.steps in (
      gathers_on c.args.rule.now.texts v.lang v.bytes (known_tree v) c.args.number _ c.loop-part.judged.items c.add_part.new.judged.items ps (drop i ps) (drop (i + 1) ps) one.0 far.0 one.2 (subst J far.4 (c.in_ok-add_part.ensures.judged one.0 one.1)),
      λ h. subst P far.4 c.in_ok-add_part.ensures.placed (far.1 h),
      c.add_part.ensures.same ∙ far.2,
      asks_on g.S.FileSearch.asks (PartAsksFor v.lang) ps (drop i ps) (drop (i + 1) ps) one.0 c.args.search.now c.loop-part.search c.add_part.new.search c.args.steps.now c.loop-part.steps c.add_part.new.steps far.3 one.2 (subst A far.4 (c.in_ok-add_part.ensures.asked one.0 one.1)),
      c.add_part.ensures.kept ∙ far.4,
    )

pub returns-clause-judged : goal.returns-clause-judged
returns-clause-judged g c =
    let v = c.args.view.now in
    let ps = c.args.rule.now.parts in
    let i = c.loop-part.part in
    let a = c.loop-part-test.false in
    let e = c.len-part-end.ensures ∙ ap (λ (r : Rule). length r.parts) c.rule.ensures in
    gathers_end c.args.rule.now.texts v.lang v.bytes (known_tree v) c.args.number _ c.loop-part.judged.items ps (drop i ps) c.loop-part.invariant.0 (drop_all i ps (omega (arith, a, e)))

pub returns-clause-placed : goal.returns-clause-placed
returns-clause-placed g c = c.loop-part.invariant.1

pub returns-clause-same : goal.returns-clause-same
returns-clause-same g c = c.loop-part.invariant.2

pub returns-in_err-add_part-clause-same : goal.returns-in_err-add_part-clause-same
returns-in_err-add_part-clause-same g c = c.add_part.ensures.same ∙ c.loop-part.invariant.2

pub returns-clause-kept : goal.returns-clause-kept
returns-clause-kept g c = c.loop-part.invariant.4

pub returns-in_err-add_part-clause-kept : goal.returns-in_err-add_part-clause-kept
returns-in_err-add_part-clause-kept g c = c.add_part.ensures.kept ∙ c.loop-part.invariant.4

pub returns-clause-asked : goal.returns-clause-asked
returns-clause-asked g c =
    let ps = c.args.rule.now.parts in
    let i = c.loop-part.part in
    let a = c.loop-part-test.false in
    let e = c.len-part-end.ensures ∙ ap (λ (r : Rule). length r.parts) c.rule.ensures in
    asks_end g.S.FileSearch.asks (PartAsksFor c.args.view.now.lang) ps (drop i ps) c.args.search.now c.loop-part.search c.args.steps.now c.loop-part.steps c.loop-part.invariant.3 (drop_all i ps (omega (arith, a, e)))
