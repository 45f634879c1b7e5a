use Rattle.std.proofs.Common.{◌≡◌, ◌⊎◌, List, [], sym, subst, ap, ◌∙◌}
use Rattle.std.specs.Prelude.{All, None, MatchOption}
use Rattle.node_tree.specs.declared.view.FileView.{FileView}
use Rattle.rule_form.specs.declared.rule.Body.TheVariants.{Taint}
use Rattle.rule_form.specs.declared.rule.Part.{Part}
use Rattle.rule_form.specs.declared.rule.Rule.{Rule}
use Rattle.tree_match.specs.declared.leaf.Leaf.{Leaf}
use Rattle.tree_match.specs.Members.{known_tree}
use Rattle.tree_match.specs.Placed.{IsLeafPlaced}
use Rattle.taint_judge.specs.Follows.{IsRead}
use Rattle.taint_judge.specs.Lists.{OverRule}
use Rattle.part_judge.specs.Findings.{BodyFinds, findings_of}
use Rattle.running_rules.proofs.Members.{read_there, there_is}
use Rattle.file_results.specs.Asking.{PartAsksFor}
use Rattle.file_results.specs.Looking.{LooksAt}
use Rattle.file_results.proofs.Asking.{some_these}
use Rattle.file_results.proofs.Judged.{leaves_one}
use Rattle.file_results.proofs.Followed.{few_or_none}
use Rattle.file_results.proofs.tracing.follow_part.Goals as goal

pub sets_for-requires-clause-placed : goal.sets_for-requires-clause-placed
sets_for-requires-clause-placed g c =
    let P : FileView → Type 0 = λ w. All (λ leaf. IsLeafPlaced w.bytes leaf) c.in_ok-leaves.leaves in
    subst P (sym c.judge_part.ensures.kept) c.in_ok-leaves.ensures.leaves_placed

pub sets_for-requires-clause-few : goal.sets_for-requires-clause-few
sets_for-requires-clause-few g c =
    let v = c.args.file.now in
    let rule = c.args.rule.now in
    let one = there_is rule.parts c.args.part c.requires.part in
    let p = one.0 in
    let same = read_there c.as_slice.result.now rule.parts c.args.part c.index-as_slice-part.result p (c.as_slice.ensures ∙ ap (λ (r : Rule). r.parts) c.rule.ensures) c.index-as_slice-part.is one.1 in
    let follows : p.body ≡ Taint c.in-Taint.body = ap (λ (q : Part). q.body) (sym same) ∙ c.in-Taint.is in
    let leaves = c.in_ok-leaves.leaves in
    let finds = (c.in_ok-leaves.ensures.finds p one.1).finds in
    let P : List Leaf → Type 0 = λ ls. BodyFinds ls rule.texts v.bytes v.tree p.body c.in_ok-leaves.found in
    let Q : FileView → Type 0 = λ w. (findings_of c.in_ok-leaves.found ≡ []) ⊎ OverRule leaves rule.texts w.bytes c.in-Taint.body None in
    subst Q (sym c.judge_part.ensures.kept) (few_or_none leaves rule.texts v.bytes v.tree c.in-Taint.body p.body c.in_ok-leaves.found follows (subst P (leaves_one v.lang (known_tree v) p.patterns finds.0 leaves finds.1 (c.in_ok-leaves.ensures.leaves p one.1)) finds.2))

pub returns-clause-followed : goal.returns-clause-followed
returns-clause-followed g c p at =
    let same = read_there c.as_slice.result.now c.args.rule.now.parts c.args.part c.index-as_slice-part.result p (c.as_slice.ensures ∙ ap (λ (r : Rule). r.parts) c.rule.ensures) c.index-as_slice-part.is at in
    let P : Part → Type 0 = λ q. LooksAt q c.view.result.now.lang in
    let L : FileView → Type 0 = λ w. LooksAt p w.lang in
    let R : FileView → Type 0 = λ w. MatchOption c.in_ok-sets.sets (findings_of c.in_ok-leaves.found ≡ []) (λ s. IsRead c.in_ok-leaves.leaves c.args.rule.now.texts w.bytes w.tree c.in-Taint.body s.sinks s.ranges) in
    record {
      looks = subst L c.view.ensures (subst P same (c.looks_at.ensures.0 c.if-not-looks_at.false));
      rule = c.in-Taint.body;
      follows = ap (λ (q : Part). q.body) (sym same) ∙ c.in-Taint.is;
      leaves = c.in_ok-leaves.leaves;
      are = c.in_ok-leaves.ensures.leaves p at;
      judges = c.in_ok-leaves.ensures.finds p at;
      read = subst R c.judge_part.ensures.kept c.in_ok-sets.ensures;
    }

pub returns-clause-asked : goal.returns-clause-asked
returns-clause-asked g c p at =
    let same = read_there c.as_slice.result.now c.args.rule.now.parts c.args.part c.index-as_slice-part.result p (c.as_slice.ensures ∙ ap (λ (r : Rule). r.parts) c.rule.ensures) c.index-as_slice-part.is at in
    let P : Part → Type 0 = λ q. LooksAt q c.view.result.now.lang in
    let L : FileView → Type 0 = λ w. LooksAt p w.lang in
    let looks = subst L c.view.ensures (subst P same (c.looks_at.ensures.0 c.if-not-looks_at.false)) in
    some_these g.S.FileSearch.asks p.patterns (PartAsksFor c.args.file.now.lang p) c.args.search.now c.judge_part.new.search c.args.steps.now c.judge_part.new.steps (c.in_ok-leaves.ensures.asked p at) (λ q h. (looks, h))
