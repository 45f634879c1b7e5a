use Rattle.std.proofs.Common.{◌+◌, ◌++◌, ◌∷◌, [], ℕ, List, ap, ◌∙◌, drop}
use Rattle.std.proofs.lemmas.List.{drop_all}
use Rattle.meta_bind.proofs.Lookups.{opened}
use Rattle.running_rules.specs.Running.{option_notice}
use Rattle.running_rules.proofs.Members.{map_step, map_end}
use Rattle.running_rules.proofs.running.note_options.Goals as goal

pub loop-option-preserved : goal.loop-option-preserved
loop-option-preserved c =
    let i = c.loop-option.option-index in
    let os = c.args.options.now in
    let o = c.option-item.result in
    let f = option_notice c.args.file.now c.args.id.now in
    map_step f c.loop-option.notices.items c.add_notice.new.notices.items o (drop i os) (drop (i + 1) os) _ c.loop-option.invariant (opened os i o c.loop-option-test.true c.option-item.is) (c.in_ok-add_notice.ensures ∙ ap (λ (d : List ℕ). c.loop-option.notices.items ++ f d ∷ []) c.as_str.ensures)

pub returns : goal.returns
returns c = map_end (option_notice c.args.file.now c.args.id.now) c.loop-option.notices.items _ _ c.loop-option.invariant (drop_all c.loop-option.option-index c.args.options.now c.loop-option-test.false)
