use Rattle.std.proofs.Common.{◌++◌, ◌∷◌, [], map, sym, ap, ◌∙◌}
use Rattle.std.specs.List.{flat_map}
use Rattle.std.proofs.lemmas.List.{take_all, append-nil}
use Rattle.import_names.specs.Claims as spec
use Rattle.import_names.proofs.Targets.{of_name, of_other, of_parts}
use Rattle.import_names.proofs.say.+add_names.Goals as goal

pub returns-then-is_name : goal.returns-then-is_name
returns-then-is_name t c =
    let old = c.args.into.now.items in
    c.in_ok-add_plain.ensures ∙ ap (λ text. old ++ spec.plain text ∷ []) c.as_str.ensures
    ∙ ap (λ names. old ++ map spec.plain names) (sym (of_name c.args.target.now (sym c.is_name.ensures ∙ c.if-is_name.true)))

pub returns-then-not-holds_parts : goal.returns-then-not-holds_parts
returns-then-not-holds_parts t c =
    let old = c.args.into.now.items in
    sym (append-nil old)
    ∙ ap (λ names. old ++ map spec.plain names) (sym (of_other c.args.target.now (sym c.is_name.ensures ∙ c.if-is_name.false) (sym c.holds_parts.ensures ∙ c.if-not-holds_parts.true)))

pub returns : goal.returns
returns t c =
    let old = c.args.into.now.items in
    c.loop-kid.invariant
    ∙ ap (λ ks. old ++ map spec.plain (flat_map spec.target_names ks)) (take_all c.loop-kid.kid-index c.as_slice-kid-items.result.now c.loop-kid-test.false ∙ c.as_slice-kid-items.ensures)
    ∙ ap (λ names. old ++ map spec.plain names) (sym (of_parts c.args.target.now (sym c.is_name.ensures ∙ c.if-is_name.false) (sym c.holds_parts.ensures ∙ c.if-not-holds_parts.false)))
