use Rattle.std.proofs.Common.{◌≡◌, List, sym, ap, ◌∙◌, subst, arith}
use Rattle.std.specs.Prelude.{All, Ok}
use Rattle.node_tree.specs.declared.view.FileView.{FileView}
use Rattle.tree_match.specs.Placed.{IsLeafPlaced}
use Rattle.node_tree.specs.declared.view.Pattern.{Pattern}
use Rattle.rule_form.specs.declared.rule.Part.{Part}
use Rattle.rule_form.specs.declared.rule.Rule.{Rule}
use Rattle.tree_match.specs.Members.{known_tree}
use Rattle.file_search.specs.Asked.{Asked}
use Rattle.file_results.specs.Looking.{AreLeaves, named_leaf}
use Rattle.running_rules.proofs.Members.{read_there}
use Rattle.file_results.proofs.Judged.{part_judges, part_finds, part_only}
use Rattle.file_results.proofs.looking.judge_part.Goals as goal

pub returns-clause-finds : goal.returns-clause-finds
returns-clause-finds g c p at =
    let parts = c.args.rule.now.parts in
    let texts = c.args.rule.now.texts in
    let rule = c.rule-rule.ensures in
    let same = read_there c.as_slice.result.now parts c.args.part c.index-as_slice-part.result p (c.as_slice.ensures ∙ ap (λ (r : Rule). r.parts) rule) c.index-as_slice-part.is at in
    let number : c.in-Ok.number ≡ c.args.part = grind arith in
    let w = c.args.view.now in
    let s = g.S.FileSearch.file c.args.search.now in
    let P : List Pattern → Type 0 = λ ps. AreLeaves (named_leaf s.known s.lang) s.tree ps c.in_ok-leaves.leaves in
    let Q : FileView → Type 0 = λ x. AreLeaves (named_leaf x.known x.lang) x.tree p.patterns c.in_ok-leaves.leaves in
    let are = subst Q c.requires.file (subst P (c.as_slice-2.ensures ∙ ap (λ (q : Part). q.patterns) (sym c.index-as_slice-part.is ∙ same)) c.in_ok-leaves.ensures.leaves) in
    part_judges w.lang texts w.bytes (known_tree w) parts c.args.part c.in-Ok.number p c.in_ok-leaves.leaves at number are (Ok c.in_ok-found.found)
    (part_finds c.in_ok-leaves.leaves c.in_ok-rx.rx texts w.bytes w.tree c.rule-rule.result.now.parts parts c.in-Ok.number (Ok c.in_ok-found.found) c.in_ok-rx.ensures (ap (λ (r : Rule). r.parts) rule) c.in_ok-found.ensures.finds)
    (part_only c.in_ok-leaves.leaves c.in_ok-rx.rx texts w.bytes w.tree c.rule-rule.result.now.parts parts c.in-Ok.number (Ok c.in_ok-found.found) c.in_ok-rx.ensures (ap (λ (r : Rule). r.parts) rule) c.in_ok-found.ensures.only)

pub returns-clause-leaves : goal.returns-clause-leaves
returns-clause-leaves g c p at =
    let parts = c.args.rule.now.parts in
    let same = read_there c.as_slice.result.now parts c.args.part c.index-as_slice-part.result p (c.as_slice.ensures ∙ ap (λ (r : Rule). r.parts) c.rule-rule.ensures) c.index-as_slice-part.is at in
    let s = g.S.FileSearch.file c.args.search.now in
    let P : List Pattern → Type 0 = λ ps. AreLeaves (named_leaf s.known s.lang) s.tree ps c.in_ok-leaves.leaves in
    let Q : FileView → Type 0 = λ x. AreLeaves (named_leaf x.known x.lang) x.tree p.patterns c.in_ok-leaves.leaves in
    subst Q c.requires.file (subst P (c.as_slice-2.ensures ∙ ap (λ (q : Part). q.patterns) (sym c.index-as_slice-part.is ∙ same)) c.in_ok-leaves.ensures.leaves)

pub returns-clause-leaves_placed : goal.returns-clause-leaves_placed
returns-clause-leaves_placed g c =
    let P : FileView → Type 0 = λ w. All (λ leaf. IsLeafPlaced w.bytes leaf) c.in_ok-leaves.leaves in
    subst P c.requires.file c.in_ok-leaves.ensures.placed

pub judge-requires-clause-placed : goal.judge-requires-clause-placed
judge-requires-clause-placed g c =
    let P : FileView → Type 0 = λ w. All (λ leaf. IsLeafPlaced w.bytes leaf) c.in_ok-leaves.leaves in
    subst P c.requires.file c.in_ok-leaves.ensures.placed

pub returns-clause-asked : goal.returns-clause-asked
returns-clause-asked g c p at =
    let parts = c.args.rule.now.parts in
    let same = read_there c.as_slice.result.now parts c.args.part c.index-as_slice-part.result p (c.as_slice.ensures ∙ ap (λ (r : Rule). r.parts) c.rule-rule.ensures) c.index-as_slice-part.is at in
    let A : List Pattern → Type 0 = λ ps. Asked g.S.FileSearch.asks ps c.args.search.now c.args.steps.now c.leaves_of.new.search c.leaves_of.new.steps in
    subst A (c.as_slice-2.ensures ∙ ap (λ (q : Part). q.patterns) (sym c.index-as_slice-part.is ∙ same)) c.in_ok-leaves.ensures.asked
