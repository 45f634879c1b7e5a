use Rattle.std.proofs.Common.{◌≡◌, ◌++◌, map, drop}
use Rattle.running_rules.specs.Running.{option_notice}
use Rattle.running_rules.proofs.running.note_options.Given as goal

abbrev pub invariant-loop-option : goal.invariant-loop-option
invariant-loop-option l = l.notices.items ++ map (option_notice l.file l.id) (drop l.option-index l.options) ≡ l.fn.notices.items ++ map (option_notice l.file l.id) l.options
