use Rattle.std.proofs.Common.{Ok}
use Rattle.std.proofs.lemmas.Result.{err_from_is_err_and}
use Rattle.rule_keys.specs.Extras.{constants_of}
use Rattle.rule_entries.proofs.Entries.{no_message, no_severity, no_languages, no_mode, no_body, parts_as, whole}
use Rattle.rule_entries.proofs.read.rule.Goals as goal

pub returns-in_err-message : goal.returns-in_err-message
returns-in_err-message g c =
    let writes = g.R.PatternReader.writes c.args.reader.now in
    let p = err_from_is_err_and c.from_residual.result c.from_residual.ensures.1 in
    rw (p.1, p.2) (no_message writes c.args.id.now c.args.entries.now c.in_err-message.field-0.0 c.in_err-message.ensures)

pub returns-in_err-severity : goal.returns-in_err-severity
returns-in_err-severity g c =
    let writes = g.R.PatternReader.writes c.args.reader.now in
    let p = err_from_is_err_and c.from_residual-in_err-severity.result c.from_residual-in_err-severity.ensures.1 in
    rw (p.1, p.2) (no_severity writes c.args.id.now c.args.entries.now c.in_ok-message.message.now c.in_ok-message.ensures c.in_err-severity.field-0.0 c.in_err-severity.ensures)

pub returns-in_err-langs : goal.returns-in_err-langs
returns-in_err-langs g c =
    let writes = g.R.PatternReader.writes c.args.reader.now in
    let p = err_from_is_err_and c.from_residual-in_err-langs.result c.from_residual-in_err-langs.ensures.1 in
    rw (p.1, p.2) (no_languages writes c.args.id.now c.args.entries.now c.in_ok-message.message.now c.in_ok-message.ensures c.in_ok-severity.severity c.in_ok-severity.ensures c.in_err-langs.field-0.0 c.in_err-langs.ensures)

pub returns-in_err-mode : goal.returns-in_err-mode
returns-in_err-mode g c =
    let writes = g.R.PatternReader.writes c.args.reader.now in
    let p = err_from_is_err_and c.from_residual-in_err-mode.result c.from_residual-in_err-mode.ensures.1 in
    rw (p.1, p.2) (no_mode writes c.args.id.now c.args.entries.now c.in_ok-message.message.now c.in_ok-message.ensures c.in_ok-severity.severity c.in_ok-severity.ensures c.in_ok-langs.langs c.in_ok-langs.ensures c.in_err-mode.field-0.0 c.in_err-mode.ensures)

pub returns-in_err-check_body : goal.returns-in_err-check_body
returns-in_err-check_body g c =
    let writes = g.R.PatternReader.writes c.args.reader.now in
    let p = err_from_is_err_and c.from_residual-in_err-check_body.result c.from_residual-in_err-check_body.ensures.1 in
    rw (p.1, p.2) (no_body writes c.args.id.now c.args.entries.now c.in_ok-message.message.now c.in_ok-message.ensures c.in_ok-severity.severity c.in_ok-severity.ensures c.in_ok-langs.langs c.in_ok-langs.ensures c.in_ok-mode.mode c.in_ok-mode.ensures c.in_err-check_body.field-0.0 c.in_err-check_body.ensures)

pub returns : goal.returns
returns g c =
    let writes = g.R.PatternReader.writes c.args.reader.now in
    let parts = parts_as writes c.in_ok-mode.mode c.args.entries.now c.constants-constants.result (constants_of c.args.entries.now) c.as_slice.result.now c.in_ok-langs.langs c.nothing-found.result (Ok (c.in_ok-parts.parts, c.parts.new.found)) c.constants-constants.ensures c.as_slice.ensures c.nothing-found.ensures c.in_ok-parts.ensures in
    whole writes c.args.id.now c.args.entries.now c.in_ok-message.message.now c.in_ok-message.ensures c.in_ok-severity.severity c.in_ok-severity.ensures c.in_ok-langs.langs c.in_ok-langs.ensures c.in_ok-mode.mode c.in_ok-mode.ensures c.in_ok-check_body.field-0 c.in_ok-check_body.ensures c.in_ok-parts.parts c.parts.new.found parts c.in_ok-fix.fix c.in_ok-fix.ensures c.in_ok-paths.paths c.in_ok-paths.ensures c.in_ok-unread.unread c.in_ok-unread.ensures c.in_ok-id.id c.in_ok-message-2.message c.into_list.result c.in_ok-id.ensures c.in_ok-message-2.ensures c.into_list.ensures
