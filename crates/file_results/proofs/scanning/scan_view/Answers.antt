use Rattle.node_match.specs.Sets.{Adds}
use Rattle.file_search.specs.Asked.{AsksFor}
use Rattle.file_results.specs.Sets.{IsExactly}
use Rattle.file_results.specs.Reports.{reported_cmp}
use Rattle.file_results.specs.Looking.{named_leaf}
use Rattle.file_results.specs.Asking.{IsAskedFor}
use Rattle.file_results.specs.Quieted.{AreUnquieted}
use Rattle.file_results.specs.Shown.{IsShownIn, IsNotedIn}
use Rattle.running_rules.proofs.Members.{on_ok}
use Rattle.file_results.proofs.Hits.{if_reported}
use Rattle.file_results.proofs.Quieted.{shown_exactly}
use Rattle.file_results.proofs.scanning.scan_view.Goals as goal

pub returns-clause-results : goal.returns-clause-results
returns-clause-results g c apart =
    let v = c.args.view.now in
    let rules = c.args.running.now in
    let path = c.args.path.now in
    let comments = g.R.CommentReader.comments c.args.reader.now in
    if_reported (AreUnquieted comments v.lang v.bytes c.in_ok-found.found) (IsExactly reported_cmp (IsShownIn (named_leaf v.known) comments c.args.traced rules path v.lang v.bytes v.tree)) c.without_quieted.result
    (λ shown u. shown_exactly comments v.lang v.bytes (named_leaf v.known) c.args.traced rules path v.tree c.in_ok-found.found shown (c.in_ok-found.ensures.results apart) u) c.without_quieted.ensures

pub returns-clause-notices : goal.returns-clause-notices
returns-clause-notices g c =
    let v = c.args.view.now in
    on_ok (Adds c.args.notices.now.items c.find_view.new.notices.items (IsNotedIn (named_leaf v.known) c.args.running.now c.args.path.now v.lang v.bytes v.tree)) c.without_quieted.result c.in_ok-found.ensures.notices

pub returns-clause-asked : goal.returns-clause-asked
returns-clause-asked g c =
    on_ok (AsksFor g.S.FileSearch.asks (IsAskedFor c.args.path.now c.args.view.now.lang c.args.running.now) c.args.search.now c.args.steps.now c.find_view.new.search c.find_view.new.steps) c.without_quieted.result c.in_ok-found.ensures.asked
