use Rattle.seen_files.specs.Seen.{IsSameFile}
use Rattle.seen_files.proofs.Found.{shown_by, noted_by}
use Rattle.seen_files.proofs.looking.look_with_names.Goals as goal

pub returns-clause-results : goal.returns-clause-results
returns-clause-results g c own apart =
    let v = c.args.view in
    let w = c.in_ok-named.named in
    let same : IsSameFile v w = record { lang = c.in_ok-named.ensures.lang; bytes = c.in_ok-named.ensures.bytes; tree = c.in_ok-named.ensures.tree } in
    shown_by (g.R.TreeReader.knows c.args.reader.now) c.args.running.now c.args.path.now v w same (c.in_ok-named.ensures.wanted own) (g.R.CommentReader.comments c.args.reader.now) c.args.traced c.in_ok-results.results (c.in_ok-results.ensures.results apart)

pub returns-clause-notices : goal.returns-clause-notices
returns-clause-notices g c own =
    let v = c.args.view in
    let w = c.in_ok-named.named in
    let same : IsSameFile v w = record { lang = c.in_ok-named.ensures.lang; bytes = c.in_ok-named.ensures.bytes; tree = c.in_ok-named.ensures.tree } in
    noted_by (g.R.TreeReader.knows c.args.reader.now) c.args.running.now c.args.path.now v w same (c.in_ok-named.ensures.wanted own) c.args.notices.now.items c.look.new.notices.items c.in_ok-results.ensures.notices
