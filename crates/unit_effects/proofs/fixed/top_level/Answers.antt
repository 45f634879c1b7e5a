use Rattle.unit_effects.specs.Fixed.{occurrences_of}
use Rattle.unit_effects.proofs.Noting.{none_first, some_first, empty_tells}
use Rattle.unit_effects.proofs.fixed.top_level.Goals as goal

pub returns-in-None : goal.returns-in-None
returns-in-None c = none_first (occurrences_of c.args.tree.now) c.new-once.result c.args.scopes.now c.in-None.ensures.value (empty_tells c.new-once.result c.new-once.ensures.empty)

pub returns-in_ok-note_scope-in-Some : goal.returns-in_ok-note_scope-in-Some
returns-in_ok-note_scope-in-Some c =
    some_first (occurrences_of c.args.tree.now) c.new-once.result c.note_scope.new.once c.args.scopes.now c.in-Some.scope.now c.in-Some.ensures.value (empty_tells c.new-once.result c.new-once.ensures.empty) c.in_ok-note_scope-in-Some.ensures
