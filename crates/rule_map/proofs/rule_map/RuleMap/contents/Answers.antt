use Rattle.std.proofs.Common.{◌∙◌, sym}
use Rattle.rule_map.specs.RuleMap.{AreRuleFiles}
use Rattle.rule_map.proofs.Keeping.{they_are, no_others}
use Rattle.rule_map.proofs.rule_map.RuleMap.contents.Goals as goal

pub returns-clause-contents : goal.returns-clause-contents
returns-clause-contents g c =
    rw (← c.self.view_is, c.as_slice.ensures.value) (they_are (g.R.PatternReader.writes c.self.inside.reader.now) c.self.inside.texts.items c.self.inside.contents.items c.self.invariant.read)

pub returns-clause-only : goal.returns-clause-only
returns-clause-only g c = λ contents is.
    let there : AreRuleFiles (g.R.PatternReader.writes c.self.inside.reader.now) c.self.inside.texts.items contents = rw (← c.self.view_is) at is in
    no_others (g.R.PatternReader.writes c.self.inside.reader.now) c.self.inside.texts.items c.self.inside.contents.items contents c.self.invariant.read there ∙ sym c.as_slice.ensures.value
