use Rattle.std.proofs.Common.{◌≡◌, List, [], ◌∷◌, map, refl, sym, ap, ◌∙◌, subst}
use Rattle.rule_form.specs.declared.rule.Rule.{Rule}
use Rattle.running_rules.specs.Running.{AreApart}
use Rattle.file_map.specs.Seen.{lent}
use Rattle.scan_session.specs.Quieted.{grammars_of}
use Rattle.scan_session.specs.Scans.{Scans}
use Rattle.scan_session.specs.Shown.{File}
use Rattle.seen_files.specs.Findings.{seen_of}
use Rattle.seen_files.specs.Fresh.{SpendsOn}
use Rattle.seen_files.specs.Seen.{IsSeen}
use Rattle.seen_files.proofs.Fresh.{fresh_none}
use Rattle.seen_files.proofs.Walking.{in_path_order}
use Rattle.session.proofs.Adding.{in_manner, own_scan}
use Rattle.session.proofs.Once.{sees_more, sees_all}
use Rattle.session.proofs.Walks.{scans_none, scans_more, scans_all}
use Rattle.session.proofs.one_fix.scan_all.Goals as goal

pub loop-path-init : goal.loop-path-init
loop-path-init g c =
    let grammars = grammars_of (g.R.TreeReader.spells c.args.reader.now) (g.R.TreeReader.knows c.args.reader.now) (g.R.CommentReader.comments c.args.reader.now) c.args.traced in
    record { scanned = scans_none grammars c.args.scanner.now; sees = fresh_none grammars c.args.scanner.now.running.items c.args.steps.now; same_rules = refl; same_reader = refl; same_traced = refl }

pub loop-path-preserved : goal.loop-path-preserved
loop-path-preserved g c =
    let by = λ (m : _ × _). grammars_of (g.R.TreeReader.spells m.0) (g.R.TreeReader.knows m.0) (g.R.CommentReader.comments m.0) m.1 in
    let rules = c.args.scanner.now.running.items in
    let now = c.loop-path.scanner in
    let is = c.loop-path.invariant in
    let files_are = ap (map lent) c.as_slice-path-items.ensures ∙ c.in_ok-entries.ensures.files in
    let up = in_path_order c.args.files.now c.in_ok-entries.ensures.ordered in
    let items = c.as_slice-path-items.result.now in
    let x = c.loop-path-item.result in
    let f = c.in_ok-found.found in
    let ran : c.running-running.result.now ≡ rules = c.running-running.ensures ∙ is.same_rules in
    let apart : AreApart c.running-running.result.now = (let P : List Rule → Type 0 = AreApart in subst P (sym ran) c.requires.apart) in
    let S : List Rule → Type 0 = λ rs. IsSeen (by (c.args.reader.now, c.args.traced)) rs (seen_of f) in
    let N : List Rule → Type 0 = λ rs. SpendsOn rs (seen_of f) c.loop-path.steps c.find_fresh.new.steps in
    let seen = subst S ran (c.in_ok-found.ensures.seen apart) in
    let reader_is : now.reader.now ≡ c.args.reader.now = is.same_reader ∙ c.requires.reader in
    let traced_is : now.traced ≡ c.args.traced = is.same_traced ∙ c.requires.traced in
    let still = in_manner now c.args.reader.now c.args.traced reader_is traced_is in
    let Q : File → Type 0 = λ file. Scans (by (c.args.reader.now, c.args.traced)) (file ∷ []) now c.add.new.self in
    let said = c.into_said-results.ensures in
    record {
      scanned = scans_more (by (c.args.reader.now, c.args.traced)) lent items c.loop-path.path-index x _ c.loop-path-test.true c.loop-path-item.is c.args.scanner.now now c.add.new.self is.scanned x.0.now x.1.now.value refl
          (subst Q c.in_ok-found.ensures.file (own_scan by (c.args.reader.now, c.args.traced) now c.add.new.self still rules is.same_rules (seen_of f) seen c.into_said-results.result.0 c.into_said-results.result.1 (ap (λ p. p.0) said) (ap (λ p. p.1) said) c.in_ok-add.ensures.added));
      sees = sees_more lent items c.args.files.now files_are up c.loop-path.path-index x _ c.loop-path-test.true c.loop-path-item.is x.0.now x.1.now.value refl (by (c.args.reader.now, c.args.traced)) rules (seen_of f) c.in_ok-found.ensures.file seen c.args.steps.now c.loop-path.steps c.find_fresh.new.steps is.sees (subst N ran c.in_ok-found.ensures.spent);
      same_rules = c.add.ensures.same_rules ∙ is.same_rules;
      same_reader = c.add.ensures.same_reader ∙ is.same_reader;
      same_traced = c.add.ensures.same_traced ∙ is.same_traced;
    }

pub returns-clause-scanned : goal.returns-clause-scanned
returns-clause-scanned g c =
    scans_all _ lent c.as_slice-path-items.result.now c.loop-path.path-index c.args.files.now c.args.scanner.now c.loop-path.scanner c.loop-path-test.false (ap (map lent) c.as_slice-path-items.ensures ∙ c.in_ok-entries.ensures.files) c.loop-path.invariant.scanned

pub returns-clause-sees : goal.returns-clause-sees
returns-clause-sees g c =
    sees_all lent c.as_slice-path-items.result.now c.args.files.now (ap (map lent) c.as_slice-path-items.ensures ∙ c.in_ok-entries.ensures.files) (in_path_order c.args.files.now c.in_ok-entries.ensures.ordered) _ c.args.scanner.now.running.items c.loop-path.path-index c.loop-path-test.false c.args.steps.now c.loop-path.steps c.loop-path.invariant.sees

pub returns-clause-ordered : goal.returns-clause-ordered
returns-clause-ordered g c = in_path_order c.args.files.now c.in_ok-entries.ensures.ordered
