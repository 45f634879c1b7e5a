use Rattle.std.proofs.Common.{sym, ◌∙◌}
use Rattle.std.proofs.lemmas.Bool.{false≢true}
use Rattle.scan_world.proofs.Folders.{none_under, some_under}
use Rattle.scan_world.proofs.paths.is_under.Goals as goal

pub returns-in-None : goal.returns-in-None
returns-in-None c =
    let there = sym c.eq.ensures ∙ c.if-eq.false in
    let prefix = c.as_bytes-else-eq.ensures.value in
    let path = c.as_bytes.ensures.value in
    let cut = rw (prefix, path) at c.in-None.ensures.cases in
    (λ t. absurd (false≢true t), none_under c.args.prefix.now c.args.path.now there cut)

pub returns-in-Some : goal.returns-in-Some
returns-in-Some c =
    let there = sym c.eq.ensures ∙ c.if-eq.false in
    let prefix = c.as_bytes-else-eq.ensures.value in
    let path = c.as_bytes.ensures.value in
    let cut = rw (prefix, path) at c.in-Some.ensures.cases in
    some_under c.args.prefix.now c.args.path.now c.in-Some.rest.now c.begins_below.result there cut.0 cut.1 c.begins_below.ensures
