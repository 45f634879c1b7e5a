use Rattle.std.proofs.Common.{sym, ◌∙◌}
use Rattle.std.proofs.lemmas.Bool.{false≢true}
use Rattle.path_glob.specs.Path.{IsHidden}
use Rattle.path_glob.proofs.Some.{some_further}
use Rattle.path_glob.proofs.path.has_hidden.Goals as goal

pub segments-preserved : goal.segments-preserved
segments-preserved c =
    some_further IsHidden _ _ c.in-Some.segment.now _ c.segments.invariant c.in-Some.ensures
    (λ h. absurd (false≢true (sym c.if-is_hidden.false ∙ c.is_hidden.ensures.1 h)))
