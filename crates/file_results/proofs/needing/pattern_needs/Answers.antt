use Rattle.std.proofs.Common.{◌≡◌, ◌↔◌, false, true, Bool, IsTrue, sym, ◌∙◌}
use Rattle.file_results.specs.Needing.{Uses}
use Rattle.file_results.proofs.Named.{if_ok_map}
use Rattle.file_results.proofs.needing.pattern_needs.Goals as goal

pub returns-then-not-uses_literals : goal.returns-then-not-uses_literals
returns-then-not-uses_literals g c =
    let free = sym c.if-not-uses_literals.true ∙ c.uses_literals.ensures.exact in
    (λ e. absurd (let f : false ≡ true = e in cc), λ uses. absurd (let f : false ≡ true = free ∙ uses.0 in cc))

pub returns : goal.returns
returns g c =
    let p = c.args.pattern.now in
    let May = g.F.MayHave.may c.args.file.now in
    let P : Bool → Type 0 = λ may. IsTrue may ↔ May p in
    let Q : Bool → Type 0 = λ needs. IsTrue needs ↔ Uses May p in
    let takes = sym c.uses_literals.ensures.exact ∙ c.if-not-uses_literals.false in
    if_ok_map P Q c.may_have.result (λ may exact. (λ e. (takes, exact.0 e), λ uses. exact.1 uses.1)) c.may_have.ensures
