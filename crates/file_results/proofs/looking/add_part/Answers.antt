use Rattle.std.proofs.Common.{◌≡◌, refl, sym, ap, ◌∙◌, subst, true, false}
use Rattle.node_tree.specs.declared.view.FileView.{FileView}
use Rattle.rule_form.specs.declared.rule.Part.{Part}
use Rattle.rule_form.specs.declared.rule.Rule.{Rule}
use Rattle.tree_match.specs.Members.{known_tree}
use Rattle.file_results.specs.Looking.{LooksAt}
use Rattle.file_results.specs.Asking.{PartAsksFor}
use Rattle.file_results.proofs.Asking.{asks_none, asks_these}
use Rattle.running_rules.proofs.Members.{read_there}
use Rattle.file_results.proofs.Judged.{part_adds, part_adds_none, all_placed_more}
use Rattle.file_results.proofs.looking.add_part.Goals as goal

pub returns-then-not-looks_at-clause-judged : goal.returns-then-not-looks_at-clause-judged
returns-then-not-looks_at-clause-judged g c p at =
    let v = c.args.view.now in
    let same = read_there c.as_slice.result.now c.args.rule.now.parts c.args.part c.index-as_slice-part.result p (c.as_slice.ensures ∙ ap (λ (r : Rule). r.parts) c.rule.ensures) c.index-as_slice-part.is at in
    let P : Part → Type 0 = λ q. LooksAt q c.view.result.now.lang → ⊥ in
    let L : FileView → Type 0 = λ w. LooksAt p w.lang → ⊥ in
    let passed : LooksAt c.index-as_slice-part.result c.view.result.now.lang → ⊥ = λ h. let yes = c.looks_at.ensures.1 h in let e : false ≡ true = sym c.if-not-looks_at.true ∙ yes in cc in
    let blind = subst P same passed in
    part_adds_none c.args.rule.now.texts v.lang v.bytes (known_tree v) c.args.number p c.args.judged.now.items (subst L c.view.ensures blind)

pub returns-clause-judged : goal.returns-clause-judged
returns-clause-judged g c p at =
    let v = c.args.view.now in
    let same = read_there c.as_slice.result.now c.args.rule.now.parts c.args.part c.index-as_slice-part.result p (c.as_slice.ensures ∙ ap (λ (r : Rule). r.parts) c.rule.ensures) c.index-as_slice-part.is at in
    let P : Part → Type 0 = λ q. LooksAt q c.view.result.now.lang in
    let L : FileView → Type 0 = λ w. LooksAt p w.lang in
    let looks = subst L c.view.ensures (subst P same (c.looks_at.ensures.0 c.if-not-looks_at.false)) in
    part_adds c.args.rule.now.texts v.lang v.bytes (known_tree v) c.args.number p (record { number = c.args.number; found = c.in_ok-found.found }) c.args.judged.now.items c.push.new.self.items c.in_ok-push.ensures.items refl looks (c.in_ok-found.ensures.finds p at)

pub returns-clause-placed : goal.returns-clause-placed
returns-clause-placed g c all =
    all_placed_more c.args.view.now.bytes c.args.judged.now.items c.push.new.self.items (record { number = c.args.number; found = c.in_ok-found.found }) all c.in_ok-push.ensures.items c.in_ok-found.ensures.placed

pub returns-then-not-looks_at-clause-asked : goal.returns-then-not-looks_at-clause-asked
returns-then-not-looks_at-clause-asked g c p at =
    let v = c.args.view.now in
    let same = read_there c.as_slice.result.now c.args.rule.now.parts c.args.part c.index-as_slice-part.result p (c.as_slice.ensures ∙ ap (λ (r : Rule). r.parts) c.rule.ensures) c.index-as_slice-part.is at in
    let P : Part → Type 0 = λ q. LooksAt q c.view.result.now.lang → ⊥ in
    let L : FileView → Type 0 = λ w. LooksAt p w.lang → ⊥ in
    let passed : LooksAt c.index-as_slice-part.result c.view.result.now.lang → ⊥ = λ h. let yes = c.looks_at.ensures.1 h in let e : false ≡ true = sym c.if-not-looks_at.true ∙ yes in cc in
    let blind = subst L c.view.ensures (subst P same passed) in
    asks_none g.S.FileSearch.asks (PartAsksFor v.lang p) c.args.search.now c.args.steps.now (λ q h. blind h.0)

pub returns-clause-asked : goal.returns-clause-asked
returns-clause-asked g c p at =
    let v = c.args.view.now in
    let same = read_there c.as_slice.result.now c.args.rule.now.parts c.args.part c.index-as_slice-part.result p (c.as_slice.ensures ∙ ap (λ (r : Rule). r.parts) c.rule.ensures) c.index-as_slice-part.is at in
    let P : Part → Type 0 = λ q. LooksAt q c.view.result.now.lang in
    let L : FileView → Type 0 = λ w. LooksAt p w.lang in
    let looks = subst L c.view.ensures (subst P same (c.looks_at.ensures.0 c.if-not-looks_at.false)) in
    asks_these g.S.FileSearch.asks p.patterns (PartAsksFor v.lang p) c.args.search.now c.judge_part.new.search c.args.steps.now c.judge_part.new.steps (c.in_ok-found.ensures.asked p at) (λ q. (λ h. (looks, h), λ h. h.1))
