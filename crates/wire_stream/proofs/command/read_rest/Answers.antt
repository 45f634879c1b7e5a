use Rattle.std.proofs.Common.{ap, subst, arith}
use Rattle.std.proofs.lemmas.Result.{err_from_is_err_and}
use Rattle.wire_stream.specs.Commands.{body_length}
use Rattle.wire_stream.specs.Heads.{IsHead}
use Rattle.wire_stream.specs.declared.head.Head.{Head}
use Rattle.wire_stream.proofs.Streams.{err_as}
use Rattle.wire_stream.proofs.Whole.{rest_none, rest_put, rest_rule, no_rest_put, no_rest_rule, size_put, size_rule}
use Rattle.wire_stream.proofs.command.read_rest.Goals as goal

pub returns-in-Whole-clause-rest : goal.returns-in-Whole-clause-rest
returns-in-Whole-clause-rest g c = λ line h. rest_none _ _ _ _ (subst (λ (x : Head). IsHead line x) c.in-Whole.is h)

pub returns-in_err-body-in-Put-clause-bad : goal.returns-in_err-body-in-Put-clause-bad
returns-in_err-body-in-Put-clause-bad g c = let p = err_from_is_err_and c.from_residual.result c.from_residual.ensures.1 in
    rw (p.1, p.2) (λ e line h. no_rest_put _ _ c.in-Put.size c.in-Put.path line (c.in_err-body-in-Put.ensures.bad (err_as _ _ _ _ e)) (subst (λ (x : Head). IsHead line x) c.in-Put.is h))

pub returns-in_err-body-in-Put-clause-failed : goal.returns-in_err-body-in-Put-clause-failed
returns-in_err-body-in-Put-clause-failed g c = let p = err_from_is_err_and c.from_residual.result c.from_residual.ensures.1 in
    rw (p.1, p.2) (λ e line h. (c.in-Put.size, ap body_length (subst (λ (x : Head). IsHead line x) c.in-Put.is h), c.in_err-body-in-Put.ensures.failed (err_as _ _ _ _ e)))

pub returns-in_err-body-in-Put-clause-cause : goal.returns-in_err-body-in-Put-clause-cause
returns-in_err-body-in-Put-clause-cause g c = let p = err_from_is_err_and c.from_residual.result c.from_residual.ensures.1 in
    rw (p.1, p.2) c.in_err-body-in-Put.ensures.cause

pub returns-in_ok-body-in-Put-clause-rest : goal.returns-in_ok-body-in-Put-clause-rest
returns-in_ok-body-in-Put-clause-rest g c = λ line h.
    rest_put _ _ _ _ c.in-Put.size c.in-Put.path c.in_ok-body-in-Put.body line c.in_ok-body-in-Put.ensures.whole (subst (λ (x : Head). IsHead line x) c.in-Put.is h)

pub returns-in_ok-body-in-Put-clause-short : goal.returns-in_ok-body-in-Put-clause-short
returns-in_ok-body-in-Put-clause-short g c =
    let q = size_put c.in-Put.size c.in-Put.path c.requires.0 c.requires.1 (subst (λ (x : Head). IsHead c.requires.0 x) c.in-Put.is c.requires.2) in omega arith

pub overflow_add-result : goal.overflow_add-result
overflow_add-result g c =
    let q = size_put c.in-Put.size c.in-Put.path c.requires.0 c.requires.1 (subst (λ (x : Head). IsHead c.requires.0 x) c.in-Put.is c.requires.2) in omega (arith, q)

pub returns-in_err-body-in-Rule-clause-bad : goal.returns-in_err-body-in-Rule-clause-bad
returns-in_err-body-in-Rule-clause-bad g c = let p = err_from_is_err_and c.from_residual-in_err-body-in-Rule.result c.from_residual-in_err-body-in-Rule.ensures.1 in
    rw (p.1, p.2) (λ e line h. no_rest_rule _ _ c.in-Rule.size c.in-Rule.name line (c.in_err-body-in-Rule.ensures.bad (err_as _ _ _ _ e)) (subst (λ (x : Head). IsHead line x) c.in-Rule.is h))

pub returns-in_err-body-in-Rule-clause-failed : goal.returns-in_err-body-in-Rule-clause-failed
returns-in_err-body-in-Rule-clause-failed g c = let p = err_from_is_err_and c.from_residual-in_err-body-in-Rule.result c.from_residual-in_err-body-in-Rule.ensures.1 in
    rw (p.1, p.2) (λ e line h. (c.in-Rule.size, ap body_length (subst (λ (x : Head). IsHead line x) c.in-Rule.is h), c.in_err-body-in-Rule.ensures.failed (err_as _ _ _ _ e)))

pub returns-in_err-body-in-Rule-clause-cause : goal.returns-in_err-body-in-Rule-clause-cause
returns-in_err-body-in-Rule-clause-cause g c = let p = err_from_is_err_and c.from_residual-in_err-body-in-Rule.result c.from_residual-in_err-body-in-Rule.ensures.1 in
    rw (p.1, p.2) c.in_err-body-in-Rule.ensures.cause

pub returns-in_ok-body-in-Rule-clause-rest : goal.returns-in_ok-body-in-Rule-clause-rest
returns-in_ok-body-in-Rule-clause-rest g c = λ line h.
    rest_rule _ _ _ _ c.in-Rule.size c.in-Rule.name c.in_ok-body-in-Rule.body line c.in_ok-body-in-Rule.ensures.whole (subst (λ (x : Head). IsHead line x) c.in-Rule.is h)

pub returns-in_ok-body-in-Rule-clause-short : goal.returns-in_ok-body-in-Rule-clause-short
returns-in_ok-body-in-Rule-clause-short g c =
    let q = size_rule c.in-Rule.size c.in-Rule.name c.requires.0 c.requires.1 (subst (λ (x : Head). IsHead c.requires.0 x) c.in-Rule.is c.requires.2) in omega arith

pub overflow_add-result-in-Rule : goal.overflow_add-result-in-Rule
overflow_add-result-in-Rule g c =
    let q = size_rule c.in-Rule.size c.in-Rule.name c.requires.0 c.requires.1 (subst (λ (x : Head). IsHead c.requires.0 x) c.in-Rule.is c.requires.2) in omega (arith, q)
