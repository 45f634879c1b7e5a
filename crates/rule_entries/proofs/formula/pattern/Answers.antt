use Rattle.rule_entries.proofs.Laws.{after_goes}
use Rattle.rule_entries.proofs.formula.pattern.Goals as goal

pub returns : goal.returns
returns g c =
    after_goes (λ t. t.now) _ _ c.in_ok-text.text c.args.found.now c.leaf.new.found c.leaf.result c.in_ok-text.ensures c.leaf.ensures
