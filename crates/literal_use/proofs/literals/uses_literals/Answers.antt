use Rattle.std.proofs.Common.{◌∙◌, ap, sym}
use Rattle.std.specs.Prelude.{◌&&◌}
use Rattle.literal_use.specs.Literals.{has_literal}
use Rattle.literal_use.proofs.Names.{members_alike, leaves_alike}
use Rattle.literal_use.proofs.literals.uses_literals.Goals as goal

pub returns-then-pattern-clause-members : goal.returns-then-pattern-clause-members
returns-then-pattern-clause-members c none =
    members_alike c.args.pattern.now (ap (λ b. b && has_literal c.args.pattern.now.tree) c.if-pattern.true ∙ sym c.has_literal.ensures ∙ none)

pub returns-then-pattern-clause-leaves : goal.returns-then-pattern-clause-leaves
returns-then-pattern-clause-leaves c none =
    leaves_alike c.args.pattern.now (ap (λ b. b && has_literal c.args.pattern.now.tree) c.if-pattern.true ∙ sym c.has_literal.ensures ∙ none)
