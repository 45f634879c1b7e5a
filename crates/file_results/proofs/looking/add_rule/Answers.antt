use Rattle.std.proofs.Common.{◌≡◌, true, false, sym, ◌∙◌, subst}
use Rattle.rule_form.specs.declared.rule.Rule.{Rule}
use Rattle.tree_match.specs.Members.{known_tree}
use Rattle.file_results.specs.Looking.{Allows}
use Rattle.running_rules.proofs.Members.{on_ok_map}
use Rattle.file_results.specs.Asking.{PartsAskFor, RuleAsksFor}
use Rattle.file_results.proofs.Asking.{asks_none, asks_as}
use Rattle.file_results.proofs.Judged.{rule_adds}
use Rattle.file_results.proofs.looking.add_rule.Goals as goal

pub returns-clause-judged : goal.returns-clause-judged
returns-clause-judged g c =
    let v = c.args.view.now in
    let rule = c.args.rule.now in
    let P : Rule → Type 0 = λ r. Allows r c.args.path.now in
    on_ok_map c.add_parts.result (rule_adds v.lang v.bytes (known_tree v) c.args.number c.args.path.now rule c.args.judged.now.items c.add_parts.new.judged.items (subst P c.rule.ensures (c.allows.ensures.0 c.if-not-allows.false))) c.add_parts.ensures.judged

pub returns-then-not-allows-clause-asked : goal.returns-then-not-allows-clause-asked
returns-then-not-allows-clause-asked g c =
    let v = c.args.view.now in
    let P : Rule → Type 0 = λ r. Allows r c.args.path.now in
    asks_none g.S.FileSearch.asks (RuleAsksFor c.args.path.now v.lang c.args.rule.now) c.args.search.now c.args.steps.now
    (λ p h. let yes = c.allows.ensures.1 (subst P (sym c.rule.ensures) h.0) in let e : false ≡ true = sym c.if-not-allows.true ∙ yes in cc)

pub returns-clause-asked : goal.returns-clause-asked
returns-clause-asked g c =
    let v = c.args.view.now in
    let rule = c.args.rule.now in
    let P : Rule → Type 0 = λ r. Allows r c.args.path.now in
    let allowed = subst P c.rule.ensures (c.allows.ensures.0 c.if-not-allows.false) in
    on_ok_map c.add_parts.result (λ h. asks_as g.S.FileSearch.asks (PartsAskFor v.lang rule.parts) (RuleAsksFor c.args.path.now v.lang rule) c.args.search.now c.add_parts.new.search c.args.steps.now c.add_parts.new.steps h (λ p. (λ k. (allowed, k), λ k. k.1))) c.add_parts.ensures.asked
