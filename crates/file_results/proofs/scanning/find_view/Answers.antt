use Rattle.std.proofs.Common.{◌↔◌, ℕ, List, sym, subst, ◌∙◌}
use Rattle.node_tree.specs.declared.view.FileView.{FileView}
use Rattle.rule_form.specs.declared.rule.Rule.{Rule}
use Rattle.std.specs.List.{flat_map}
use Rattle.tree_match.specs.Ascending.{IsAscending}
use Rattle.node_match.specs.Sets.{Among, Adds}
use Rattle.tree_match.specs.Members.{known_tree}
use Rattle.file_results.specs.declared.looking.Judged.{Judged}
use Rattle.file_results.specs.Hits.{Hit, hit_cmp}
use Rattle.file_results.specs.Reports.{reported_cmp}
use Rattle.file_results.specs.Sets.{IsExactly}
use Rattle.file_results.specs.Judging.{IsJudged, AreAllPlaced, judged_notices}
use Rattle.file_search.specs.Asked.{AsksFor}
use Rattle.file_results.specs.Looking.{named_leaf}
use Rattle.report_form.specs.declared.report.Reported.{Reported}
use Rattle.file_results.specs.Asking.{IsAskedFor, AsksAmong, WantedAsk}
use Rattle.file_results.specs.Shown.{IsNotedIn}
use Rattle.file_results.specs.Tracing.{HasTrace}
use Rattle.file_results.specs.Followed.{AreFoundHits, AreTraced, IsTracedIn, IsWanted}
use Rattle.file_results.proofs.Asking.{asks_again}
use Rattle.file_results.proofs.Traces.{traced_exactly}
use Rattle.file_results.proofs.Followed.{of_hits, hits_found, wanted_asks}
use Rattle.running_rules.proofs.Members.{appended, on_ok, on_ok_map}
use Rattle.file_results.proofs.Hits.{found_all, shown_all, numbered, hits_numbered, hits_placed, results_exactly, noted_exactly, if_reported}
use Rattle.file_results.proofs.scanning.find_view.Goals as goal

-- what the rules find in a file
abbrev Found : List ℕ → List Rule → List Judged → FileView → Type 0
Found path rules judged v = (x : Judged) → Among judged x ↔ IsJudged path v.lang v.bytes (known_tree v) rules x

pub judge_all-requires : goal.judge_all-requires
judge_all-requires g c = c.requires ∙ sym c.of-file.ensures

pub note_judged-requires : goal.note_judged-requires
note_judged-requires g c =
    let v = c.args.view.now in
    let path = c.args.path.now in
    let rules = c.args.running.now in
    let found = c.as_slice-found.result.now in
    numbered path v.lang v.bytes (known_tree v) rules found (found_all path v.lang v.bytes (known_tree v) rules c.in_ok-judged.judged.items found c.as_slice-found.ensures.value (subst (Found path rules c.in_ok-judged.judged.items) c.of-file.ensures c.in_ok-judged.ensures.judged))

pub report_rows-requires-clause-numbered : goal.report_rows-requires-clause-numbered
report_rows-requires-clause-numbered g c =
    let v = c.args.view.now in
    let path = c.args.path.now in
    let rules = c.args.running.now in
    let found = c.as_slice-found.result.now in
    let all = found_all path v.lang v.bytes (known_tree v) rules c.in_ok-judged.judged.items found c.as_slice-found.ensures.value (subst (Found path rules c.in_ok-judged.judged.items) c.of-file.ensures c.in_ok-judged.ensures.judged) in
    let whole = shown_all rules found c.in_ok-unsorted.unsorted.items c.in_ok-rows.rows.items c.as_slice-shown.result.now c.as_slice-shown.ensures.value c.in_ok-rows.ensures.same c.in_ok-unsorted.ensures in
    hits_numbered path v.lang v.bytes (known_tree v) rules found all c.as_slice-shown.result.now whole

pub report_rows-requires-clause-placed : goal.report_rows-requires-clause-placed
report_rows-requires-clause-placed g c =
    let v = c.args.view.now in
    let path = c.args.path.now in
    let rules = c.args.running.now in
    let found = c.as_slice-found.result.now in
    let all = found_all path v.lang v.bytes (known_tree v) rules c.in_ok-judged.judged.items found c.as_slice-found.ensures.value (subst (Found path rules c.in_ok-judged.judged.items) c.of-file.ensures c.in_ok-judged.ensures.judged) in
    let whole = shown_all rules found c.in_ok-unsorted.unsorted.items c.in_ok-rows.rows.items c.as_slice-shown.result.now c.as_slice-shown.ensures.value c.in_ok-rows.ensures.same c.in_ok-unsorted.ensures in
    let P : List Judged → Type 0 = AreAllPlaced v.bytes in
    let Q : FileView → Type 0 = λ w. AreAllPlaced w.bytes c.in_ok-judged.judged.items in
    hits_placed path v.lang v.bytes (known_tree v) rules found all c.as_slice-shown.result.now whole (subst P (sym c.as_slice-found.ensures.value) (subst Q c.of-file.ensures c.in_ok-judged.ensures.placed))

pub with_traces-requires-clause-file : goal.with_traces-requires-clause-file
with_traces-requires-clause-file g c = c.judge_all.ensures.same ∙ c.requires ∙ sym (c.judge_all.ensures.kept ∙ c.of-file.ensures)

pub with_traces-requires-clause-found : goal.with_traces-requires-clause-found
with_traces-requires-clause-found g c =
    let v = c.args.view.now in
    let path = c.args.path.now in
    let rules = c.args.running.now in
    let found = c.as_slice-found.result.now in
    let all = found_all path v.lang v.bytes (known_tree v) rules c.in_ok-judged.judged.items found c.as_slice-found.ensures.value (subst (Found path rules c.in_ok-judged.judged.items) c.of-file.ensures c.in_ok-judged.ensures.judged) in
    let whole = shown_all rules found c.in_ok-unsorted.unsorted.items c.in_ok-rows.rows.items c.as_slice-shown.result.now c.as_slice-shown.ensures.value c.in_ok-rows.ensures.same c.in_ok-unsorted.ensures in
    let P : FileView → Type 0 = λ w. AreFoundHits w.lang w.bytes (known_tree w) rules c.as_slice-shown.result.now in
    subst P (sym (c.judge_all.ensures.kept ∙ c.of-file.ensures)) (hits_found path v.lang v.bytes (known_tree v) rules found all c.as_slice-shown.result.now whole)

pub with_traces-requires-clause-bares : goal.with_traces-requires-clause-bares
with_traces-requires-clause-bares g c = of_hits c.args.path.now c.args.view.now.bytes c.args.running.now c.as_slice-shown.result.now c.in_ok-bares.bares c.in_ok-bares.ensures

pub returns-clause-results : goal.returns-clause-results
returns-clause-results g c apart =
    let v = c.args.view.now in
    let path = c.args.path.now in
    let rules = c.args.running.now in
    let traced = c.args.traced in
    let found = c.as_slice-found.result.now in
    let shown = c.as_slice-shown.result.now in
    let bares = c.in_ok-bares.bares in
    let all = found_all path v.lang v.bytes (known_tree v) rules c.in_ok-judged.judged.items found c.as_slice-found.ensures.value (subst (Found path rules c.in_ok-judged.judged.items) c.of-file.ensures c.in_ok-judged.ensures.judged) in
    let whole = shown_all rules found c.in_ok-unsorted.unsorted.items c.in_ok-rows.rows.items shown c.as_slice-shown.ensures.value c.in_ok-rows.ensures.same c.in_ok-unsorted.ensures in
    let P : List Hit → Type 0 = IsAscending hit_cmp in
    let up = subst P (sym c.as_slice-shown.ensures.value) c.in_ok-rows.ensures.ordered in
    let exact = results_exactly path v.lang v.bytes (known_tree v) rules found all shown whole apart bares c.in_ok-bares.ensures up in
    let T : FileView → List Reported → Type 0 = λ w rs. AreTraced (HasTrace traced (named_leaf w.known) rules w.lang w.bytes w.tree) bares rs in
    if_reported (T c.judge_all.new.view) (IsExactly reported_cmp (IsTracedIn (named_leaf v.known) traced rules path v.lang v.bytes v.tree)) c.with_traces.result
    (λ rs are. let Q : FileView → Type 0 = λ w. T w rs in traced_exactly v.lang v.bytes (known_tree v) rules path traced apart bares rs exact (subst Q (c.judge_all.ensures.kept ∙ c.of-file.ensures) are)) c.with_traces.ensures.traced

pub returns-clause-notices : goal.returns-clause-notices
returns-clause-notices g c =
    let v = c.args.view.now in
    let path = c.args.path.now in
    let rules = c.args.running.now in
    let found = c.as_slice-found.result.now in
    let all = found_all path v.lang v.bytes (known_tree v) rules c.in_ok-judged.judged.items found c.as_slice-found.ensures.value (subst (Found path rules c.in_ok-judged.judged.items) c.of-file.ensures c.in_ok-judged.ensures.judged) in
    let old = c.args.notices.now.items in
    let new = c.note_judged.new.notices.items in
    on_ok (Adds old new (IsNotedIn (named_leaf v.known) rules path v.lang v.bytes v.tree)) c.with_traces.result (appended old new (flat_map (judged_notices path rules) found) (IsNotedIn (named_leaf v.known) rules path v.lang v.bytes v.tree) c.in_ok-note_judged.ensures (noted_exactly path v.lang v.bytes (known_tree v) rules found all))

pub returns-clause-asked : goal.returns-clause-asked
returns-clause-asked g c =
    let v = c.args.view.now in
    let path = c.args.path.now in
    let rules = c.args.running.now in
    let found = c.as_slice-found.result.now in
    let shown = c.as_slice-shown.result.now in
    let all = found_all path v.lang v.bytes (known_tree v) rules c.in_ok-judged.judged.items found c.as_slice-found.ensures.value (subst (Found path rules c.in_ok-judged.judged.items) c.of-file.ensures c.in_ok-judged.ensures.judged) in
    let whole = shown_all rules found c.in_ok-unsorted.unsorted.items c.in_ok-rows.rows.items shown c.as_slice-shown.ensures.value c.in_ok-rows.ensures.same c.in_ok-unsorted.ensures in
    let A : FileView → Type 0 = λ w. AsksFor g.S.FileSearch.asks (IsAskedFor path w.lang rules) c.args.search.now c.args.steps.now c.judge_all.new.search c.judge_all.new.steps in
    let B : FileView → Type 0 = λ w. AsksAmong g.S.FileSearch.asks (WantedAsk w.lang rules (IsWanted shown)) c.judge_all.new.search c.judge_all.new.steps c.with_traces.new.search c.with_traces.new.steps in
    on_ok_map c.with_traces.result
    (λ more. asks_again g.S.FileSearch.asks (IsAskedFor path v.lang rules) (WantedAsk v.lang rules (IsWanted shown)) c.args.search.now c.judge_all.new.search c.with_traces.new.search c.args.steps.now c.judge_all.new.steps c.with_traces.new.steps
    (subst A c.of-file.ensures c.in_ok-judged.ensures.asked) (subst B (c.judge_all.ensures.kept ∙ c.of-file.ensures) more) (wanted_asks path v.lang v.bytes (known_tree v) rules found all shown whole)) c.with_traces.ensures.asked
