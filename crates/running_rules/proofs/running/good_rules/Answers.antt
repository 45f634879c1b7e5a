use Rattle.std.proofs.Common.{◌+◌, ◌++◌, ℕ, List, ap, ◌∙◌, map, drop}
use Rattle.std.proofs.lemmas.List.{drop_all}
use Rattle.meta_bind.proofs.Lookups.{opened}
use Rattle.rule_entries.specs.declared.outcome.RuleOutcome.{RuleOutcome}
use Rattle.running_rules.specs.Running.{stated_from}
use Rattle.running_rules.specs.Taking.{said}
use Rattle.running_rules.proofs.Taking.{files_on, files_end}
use Rattle.running_rules.proofs.running.good_rules.Goals as goal

pub loop-file-preserved : goal.loop-file-preserved
loop-file-preserved c =
    let i = c.loop-file.file-index in
    let fs = c.args.files.now in
    let f = c.file-item.result in
    let old = map said c.loop-file.entries.items in
    let new = c.in_ok-add_entries.ensures ∙ ap (λ (n : List ℕ). old ++ stated_from n 0 c.outcomes_in.result.now) c.as_str.ensures ∙ ap (λ (os : List RuleOutcome). old ++ stated_from f.name 0 os) c.outcomes_in.ensures in
    files_on old (map said c.add_entries.new.entries.items) f (drop i fs) (drop (i + 1) fs) _ c.loop-file.invariant (opened fs i f c.loop-file-test.true c.file-item.is) new

pub returns : goal.returns
returns c = files_end (map said c.loop-file.entries.items) _ _ c.loop-file.invariant (drop_all c.loop-file.file-index c.args.files.now c.loop-file-test.false)
