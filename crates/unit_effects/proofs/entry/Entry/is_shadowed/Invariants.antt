use Rattle.std.proofs.Common.{◌≡◌, ◌++◌, ◌∷◌, [], take, map, length}
use Rattle.std.specs.List.{list_any}
use Rattle.unit_names.specs.Words.{is_one_of, name_word}
use Rattle.unit_effects.proofs.entry.Entry.is_shadowed.Given as goal

abbrev pub invariant-loop-function : goal.invariant-loop-function
invariant-loop-function l = list_any (λ f. is_one_of f.own (name_word l.name)) (take l.function-index l.function-items) ≡ Rattle.std.proofs.Common.false
