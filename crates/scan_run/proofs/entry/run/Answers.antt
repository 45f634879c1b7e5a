use Rattle.std.proofs.Common.{◌≡◌, ℕ, List, map, string_bytes, subst, inl, inr, refl}
use Rattle.wire_words.specs.declared.command.Command.{Command}
use Rattle.wire_words.specs.Commands.{Task, Request, Matching, Checking, Scanning, Fixing, Serving, Drilling, request, task_of}
use Rattle.run_status.specs.declared.status.Status.{Status}
use Rattle.run_status.specs.declared.status.Status.TheVariants as statuses
use Rattle.scan_run.specs.Status.{IsOfInput}
use Rattle.folder_files.proofs.Told.{keeps_self}
use Rattle.decided_texts.specs.Refused.{gained}
use Rattle.scan_run.specs.Run.{Asks, TakesFor}
use Rattle.scan_run.specs.Asking.{GivesFor}
use Rattle.scan_run.proofs.Requests.{ends_usage, only_usage, only_by, ends_match, front_match, some_match, ends_check, front_check, ends_scan, front_scan, ends_fix, front_fix, ends_session, front_session, some_session, commands_session, ends_drill, front_drill, as_asked, fix_asked, scans_something, no_match_in_check, no_match_in_scan, no_read_in_scan, no_match_in_fix, no_read_in_fix, no_session_in_fix, no_match_in_session, no_read_in_session, no_fix_in_session, no_fix_in_match, no_session_in_match, no_fix_in_check, no_session_in_check, no_fix_in_scan, no_session_in_scan, no_match_in_drill, no_read_in_drill, no_fix_in_drill, no_session_in_drill}
use Rattle.scan_run.proofs.Leaving.{kept_unless_written, cut_by_memory}
use Rattle.folder_run.specs.Written.{Wrote, Leaves}
use Rattle.scan_run.specs.Serving.{setting}
use Rattle.scan_run.proofs.entry.run.Goals as goal

-- what is said of the command that was read holds of its request
asks : (words : List (List ℕ)) (a b : Command) → a ≡ b → Asks words (request a) → Asks words (request b)
asks words a b e h = subst (λ (k : Command). Asks words (request k)) e h

only_asks : (words : List (List ℕ)) (a b : Command) → a ≡ b → ((r : Request) → Asks words r → request a ≡ r) → (r : Request) → Asks words r → request b ≡ r
only_asks words a b e h r is = subst (λ (k : Command). request k ≡ r) e (h r is)

input_at : (s t : Status) → IsOfInput s → s ≡ t → IsOfInput t
input_at s t h e = subst (λ (x : Status). IsOfInput x) e h

pub returns-in-None-clause-ends : goal.returns-in-None-clause-ends
returns-in-None-clause-ends g c a = ends_usage (map string_bytes c.args.words.now.items) (g.S.Source.left c.args.input.now) (g.T.Tree.files c.args.tree.now) _ (g.K.Sink.written c.args.out.now) c.in-None.ensures.only

pub returns-in-None-clause-only : goal.returns-in-None-clause-only
returns-in-None-clause-only g c a told = only_usage (map string_bytes c.args.words.now.items) (g.S.Source.left c.args.input.now) (g.T.Tree.files c.args.tree.now) _ (g.K.Sink.written c.args.out.now) c.in-None.ensures.only

pub returns-in-None-clause-files_kept : goal.returns-in-None-clause-files_kept
returns-in-None-clause-files_kept g c nay = keeps_self (g.T.Tree.files c.args.tree.now)

pub returns-in-None-clause-work : goal.returns-in-None-clause-work
returns-in-None-clause-work g c (lang, text, is) = absurd (c.in-None.ensures.only _ is)

pub returns-in-None-clause-session_work : goal.returns-in-None-clause-session_work
returns-in-None-clause-session_work g c a r is = absurd (c.in-None.ensures.only r is)

pub returns-in-None-clause-texts_asked : goal.returns-in-None-clause-texts_asked
returns-in-None-clause-texts_asked g c a r is = absurd (c.in-None.ensures.only r is)

pub returns-in-None-clause-nothing_written : goal.returns-in-None-clause-nothing_written
returns-in-None-clause-nothing_written g c nay e = refl

pub returns-in-Some-Match-clause-ends : goal.returns-in-Some-Match-clause-ends
returns-in-Some-Match-clause-ends g c a =
    let is = asks (map string_bytes c.args.words.now.items) _ _ c.in-Some-Match.field-0-is c.in-Some-Match.ensures.read in
    ends_match (map string_bytes c.args.words.now.items) (g.S.Source.left c.args.input.now) (g.T.Tree.files c.args.tree.now) _ (g.K.Sink.written c.args.out.now) (g.K.Sink.written c.run_match.new.out) c.in-Some-Match.lang c.in-Some-Match.text.now is c.run_match.result (c.run_match.ensures.ends a)

pub returns-in-Some-Match-clause-only : goal.returns-in-Some-Match-clause-only
returns-in-Some-Match-clause-only g c a told =
    let words = map string_bytes c.args.words.now.items in
    let is = asks words _ _ c.in-Some-Match.field-0-is c.in-Some-Match.ensures.read in
    only_by words (g.S.Source.left c.args.input.now) (g.T.Tree.files c.args.tree.now) _ (Matching c.in-Some-Match.lang c.in-Some-Match.text.now) is (only_asks words _ _ c.in-Some-Match.field-0-is c.in-Some-Match.ensures.only) (g.K.Sink.written c.args.out.now) (g.K.Sink.written c.run_match.new.out) c.run_match.result told (c.run_match.ensures.only a)

pub returns-in-Some-Match-clause-read_to_its_end : goal.returns-in-Some-Match-clause-read_to_its_end
returns-in-Some-Match-clause-read_to_its_end g c ask = c.run_match.ensures.read_to_its_end

pub returns-in-Some-Match-clause-files_kept : goal.returns-in-Some-Match-clause-files_kept
returns-in-Some-Match-clause-files_kept g c nay = keeps_self (g.T.Tree.files c.args.tree.now)

pub returns-in-Some-Match-clause-tree_fault : goal.returns-in-Some-Match-clause-tree_fault
returns-in-Some-Match-clause-tree_fault g c e = absurd (input_at c.run_match.result statuses.TreeFault c.run_match.ensures.cause e)

pub returns-in-Some-Match-clause-absent : goal.returns-in-Some-Match-clause-absent
returns-in-Some-Match-clause-absent g c e = absurd (input_at c.run_match.result statuses.NoSuchPath c.run_match.ensures.cause e)

pub returns-in-Some-Match-clause-nothing_written : goal.returns-in-Some-Match-clause-nothing_written
returns-in-Some-Match-clause-nothing_written g c nay h =
    elim h [ inl e ↦ c.run_match.ensures.nothing_written e | inr e ↦ absurd (input_at c.run_match.result statuses.TreeFault c.run_match.ensures.cause e) ]

pub returns-in-Some-Match-clause-front_written : goal.returns-in-Some-Match-clause-front_written
returns-in-Some-Match-clause-front_written g c e =
    let is = asks (map string_bytes c.args.words.now.items) _ _ c.in-Some-Match.field-0-is c.in-Some-Match.ensures.read in
    front_match (map string_bytes c.args.words.now.items) (g.S.Source.left c.args.input.now) (g.T.Tree.files c.args.tree.now) _ (g.K.Sink.written c.args.out.now) (g.K.Sink.written c.run_match.new.out) c.in-Some-Match.lang c.in-Some-Match.text.now is (c.run_match.ensures.front_written e)

pub returns-in-Some-Match-clause-whole_lines : goal.returns-in-Some-Match-clause-whole_lines
returns-in-Some-Match-clause-whole_lines g c e =
    let is = asks (map string_bytes c.args.words.now.items) _ _ c.in-Some-Match.field-0-is c.in-Some-Match.ensures.read in
    some_match (map string_bytes c.args.words.now.items) (g.S.Source.left c.args.input.now) (g.T.Tree.files c.args.tree.now) _ (g.K.Sink.written c.args.out.now) (g.K.Sink.written c.run_match.new.out) c.in-Some-Match.lang c.in-Some-Match.text.now is (c.run_match.ensures.whole_lines e)

pub returns-in-Some-Match-clause-work : goal.returns-in-Some-Match-clause-work
returns-in-Some-Match-clause-work g c asked = c.run_match.ensures.work

pub returns-in-Some-Match-clause-session_work : goal.returns-in-Some-Match-clause-session_work
returns-in-Some-Match-clause-session_work g c a =
    let is = asks (map string_bytes c.args.words.now.items) _ _ c.in-Some-Match.field-0-is c.in-Some-Match.ensures.read in
    as_asked (map string_bytes c.args.words.now.items) (Matching c.in-Some-Match.lang c.in-Some-Match.text.now) (only_asks (map string_bytes c.args.words.now.items) _ _ c.in-Some-Match.field-0-is c.in-Some-Match.ensures.only) is
    (λ (r : Request). TakesFor r (g.S.Source.left c.args.input.now) (g.T.Tree.files c.args.tree.now) (gained (g.P.Patterns.refusals c.args.patterns.now) (g.P.Patterns.refusals c.args.patterns.now)) (g.K.Sink.written c.args.out.now) (g.K.Sink.written c.run_match.new.out) c.run_match.result c.args.steps.now c.run_match.new.steps)
    tt

pub returns-in-Some-Match-clause-texts_asked : goal.returns-in-Some-Match-clause-texts_asked
returns-in-Some-Match-clause-texts_asked g c a =
    let is = asks (map string_bytes c.args.words.now.items) _ _ c.in-Some-Match.field-0-is c.in-Some-Match.ensures.read in
    as_asked (map string_bytes c.args.words.now.items) (Matching c.in-Some-Match.lang c.in-Some-Match.text.now) (only_asks (map string_bytes c.args.words.now.items) _ _ c.in-Some-Match.field-0-is c.in-Some-Match.ensures.only) is
    (λ (r : Request). GivesFor r (g.S.Source.left c.args.input.now) (g.T.Tree.files c.args.tree.now) (gained (g.P.Patterns.refusals c.args.patterns.now) (g.P.Patterns.refusals c.args.patterns.now)) (g.K.Sink.written c.args.out.now) (g.K.Sink.written c.run_match.new.out) c.run_match.result (g.P.Patterns.asked c.args.patterns.now) (g.P.Patterns.asked c.args.patterns.now))
    tt

pub returns-in-Some-Match-clause-no_work : goal.returns-in-Some-Match-clause-no_work
returns-in-Some-Match-clause-no_work g c nay =
    let is = asks (map string_bytes c.args.words.now.items) _ _ c.in-Some-Match.field-0-is c.in-Some-Match.ensures.read in
    absurd (nay.1 (c.in-Some-Match.lang, c.in-Some-Match.text.now, is))

pub returns-in-Some-Check-clause-ends : goal.returns-in-Some-Check-clause-ends
returns-in-Some-Check-clause-ends g c a =
    let is = asks (map string_bytes c.args.words.now.items) _ _ c.in-Some-Check.field-0-is c.in-Some-Check.ensures.read in
    ends_check (map string_bytes c.args.words.now.items) (g.S.Source.left c.args.input.now) (g.T.Tree.files c.args.tree.now) _ (g.K.Sink.written c.args.out.now) (g.K.Sink.written c.run_check.new.out) is c.run_check.result (c.run_check.ensures.ends a)

pub returns-in-Some-Check-clause-only : goal.returns-in-Some-Check-clause-only
returns-in-Some-Check-clause-only g c a told =
    let words = map string_bytes c.args.words.now.items in
    let is = asks words _ _ c.in-Some-Check.field-0-is c.in-Some-Check.ensures.read in
    only_by words (g.S.Source.left c.args.input.now) (g.T.Tree.files c.args.tree.now) _ Checking is (only_asks words _ _ c.in-Some-Check.field-0-is c.in-Some-Check.ensures.only) (g.K.Sink.written c.args.out.now) (g.K.Sink.written c.run_check.new.out) c.run_check.result told (c.run_check.ensures.only a)

pub returns-in-Some-Check-clause-read_to_its_end : goal.returns-in-Some-Check-clause-read_to_its_end
returns-in-Some-Check-clause-read_to_its_end g c ask = c.run_check.ensures.read_to_its_end

pub returns-in-Some-Check-clause-files_kept : goal.returns-in-Some-Check-clause-files_kept
returns-in-Some-Check-clause-files_kept g c nay = keeps_self (g.T.Tree.files c.args.tree.now)

pub returns-in-Some-Check-clause-tree_fault : goal.returns-in-Some-Check-clause-tree_fault
returns-in-Some-Check-clause-tree_fault g c e = absurd (input_at c.run_check.result statuses.TreeFault c.run_check.ensures.cause e)

pub returns-in-Some-Check-clause-absent : goal.returns-in-Some-Check-clause-absent
returns-in-Some-Check-clause-absent g c e = absurd (input_at c.run_check.result statuses.NoSuchPath c.run_check.ensures.cause e)

pub returns-in-Some-Check-clause-nothing_written : goal.returns-in-Some-Check-clause-nothing_written
returns-in-Some-Check-clause-nothing_written g c nay h =
    elim h [ inl e ↦ c.run_check.ensures.nothing_written e | inr e ↦ absurd (input_at c.run_check.result statuses.TreeFault c.run_check.ensures.cause e) ]

pub returns-in-Some-Check-clause-front_written : goal.returns-in-Some-Check-clause-front_written
returns-in-Some-Check-clause-front_written g c e =
    let is = asks (map string_bytes c.args.words.now.items) _ _ c.in-Some-Check.field-0-is c.in-Some-Check.ensures.read in
    front_check (map string_bytes c.args.words.now.items) (g.S.Source.left c.args.input.now) (g.T.Tree.files c.args.tree.now) _ (g.K.Sink.written c.args.out.now) (g.K.Sink.written c.run_check.new.out) is (c.run_check.ensures.front_written e)

pub returns-in-Some-Check-clause-whole_lines : goal.returns-in-Some-Check-clause-whole_lines
returns-in-Some-Check-clause-whole_lines g c e = inl (c.run_check.ensures.unwritten e)

pub returns-in-Some-Check-clause-work : goal.returns-in-Some-Check-clause-work
returns-in-Some-Check-clause-work g c asked =
    let words = map string_bytes c.args.words.now.items in
    absurd (no_match_in_check words (only_asks words _ _ c.in-Some-Check.field-0-is c.in-Some-Check.ensures.only) asked)

pub returns-in-Some-Check-clause-session_work : goal.returns-in-Some-Check-clause-session_work
returns-in-Some-Check-clause-session_work g c a =
    let is = asks (map string_bytes c.args.words.now.items) _ _ c.in-Some-Check.field-0-is c.in-Some-Check.ensures.read in
    as_asked (map string_bytes c.args.words.now.items) (Checking) (only_asks (map string_bytes c.args.words.now.items) _ _ c.in-Some-Check.field-0-is c.in-Some-Check.ensures.only) is
    (λ (r : Request). TakesFor r (g.S.Source.left c.args.input.now) (g.T.Tree.files c.args.tree.now) (gained (g.P.Patterns.refusals c.args.patterns.now) (g.P.Patterns.refusals c.args.patterns.now)) (g.K.Sink.written c.args.out.now) (g.K.Sink.written c.run_check.new.out) c.run_check.result c.args.steps.now c.args.steps.now)
    tt

pub returns-in-Some-Check-clause-texts_asked : goal.returns-in-Some-Check-clause-texts_asked
returns-in-Some-Check-clause-texts_asked g c a =
    let is = asks (map string_bytes c.args.words.now.items) _ _ c.in-Some-Check.field-0-is c.in-Some-Check.ensures.read in
    as_asked (map string_bytes c.args.words.now.items) (Checking) (only_asks (map string_bytes c.args.words.now.items) _ _ c.in-Some-Check.field-0-is c.in-Some-Check.ensures.only) is
    (λ (r : Request). GivesFor r (g.S.Source.left c.args.input.now) (g.T.Tree.files c.args.tree.now) (gained (g.P.Patterns.refusals c.args.patterns.now) (g.P.Patterns.refusals c.args.patterns.now)) (g.K.Sink.written c.args.out.now) (g.K.Sink.written c.run_check.new.out) c.run_check.result (g.P.Patterns.asked c.args.patterns.now) (g.P.Patterns.asked c.args.patterns.now))
    tt

pub returns-in-Some-Check-clause-no_work : goal.returns-in-Some-Check-clause-no_work
returns-in-Some-Check-clause-no_work g c nay = refl

pub returns-in-Some-Scan-clause-ends : goal.returns-in-Some-Scan-clause-ends
returns-in-Some-Scan-clause-ends g c a =
    let is = asks (map string_bytes c.args.words.now.items) _ _ c.in-Some-Scan.field-0-is c.in-Some-Scan.ensures.read in
    ends_scan (map string_bytes c.args.words.now.items) (g.S.Source.left c.args.input.now) (g.T.Tree.files c.args.tree.now) _ (g.K.Sink.written c.args.out.now) (g.K.Sink.written c.run_scan.new.out) (task_of c.in-Some-Scan.job) is c.run_scan.result (c.run_scan.ensures.ends a)

pub returns-in-Some-Scan-clause-only : goal.returns-in-Some-Scan-clause-only
returns-in-Some-Scan-clause-only g c a told =
    let words = map string_bytes c.args.words.now.items in
    let is = asks words _ _ c.in-Some-Scan.field-0-is c.in-Some-Scan.ensures.read in
    only_by words (g.S.Source.left c.args.input.now) (g.T.Tree.files c.args.tree.now) _ (Scanning (task_of c.in-Some-Scan.job)) is (only_asks words _ _ c.in-Some-Scan.field-0-is c.in-Some-Scan.ensures.only) (g.K.Sink.written c.args.out.now) (g.K.Sink.written c.run_scan.new.out) c.run_scan.result told (c.run_scan.ensures.only a)

pub returns-in-Some-Scan-clause-read_to_its_end : goal.returns-in-Some-Scan-clause-read_to_its_end
returns-in-Some-Scan-clause-read_to_its_end g c ask =
    let words = map string_bytes c.args.words.now.items in
    absurd (no_read_in_scan words (task_of c.in-Some-Scan.job) (only_asks words _ _ c.in-Some-Scan.field-0-is c.in-Some-Scan.ensures.only) ask)

pub returns-in-Some-Scan-clause-input_fault : goal.returns-in-Some-Scan-clause-input_fault
returns-in-Some-Scan-clause-input_fault g c e = absurd (c.run_scan.ensures.no_input e)

pub returns-in-Some-Scan-clause-nothing_written : goal.returns-in-Some-Scan-clause-nothing_written
returns-in-Some-Scan-clause-nothing_written g c nay h = elim h [ inl e ↦ absurd (c.run_scan.ensures.no_input e) | inr e ↦ c.run_scan.ensures.nothing_written e ]

pub returns-in-Some-Scan-clause-front_written : goal.returns-in-Some-Scan-clause-front_written
returns-in-Some-Scan-clause-front_written g c e =
    let is = asks (map string_bytes c.args.words.now.items) _ _ c.in-Some-Scan.field-0-is c.in-Some-Scan.ensures.read in
    front_scan (map string_bytes c.args.words.now.items) (g.S.Source.left c.args.input.now) (g.T.Tree.files c.args.tree.now) _ (g.K.Sink.written c.args.out.now) (g.K.Sink.written c.run_scan.new.out) (task_of c.in-Some-Scan.job) is (c.run_scan.ensures.front_written e)

pub returns-in-Some-Scan-clause-whole_lines : goal.returns-in-Some-Scan-clause-whole_lines
returns-in-Some-Scan-clause-whole_lines g c e = inl (c.run_scan.ensures.unwritten e)

pub returns-in-Some-Scan-clause-work : goal.returns-in-Some-Scan-clause-work
returns-in-Some-Scan-clause-work g c asked =
    let words = map string_bytes c.args.words.now.items in
    absurd (no_match_in_scan words (task_of c.in-Some-Scan.job) (only_asks words _ _ c.in-Some-Scan.field-0-is c.in-Some-Scan.ensures.only) asked)

pub returns-in-Some-Scan-clause-session_work : goal.returns-in-Some-Scan-clause-session_work
returns-in-Some-Scan-clause-session_work g c a =
    let is = asks (map string_bytes c.args.words.now.items) _ _ c.in-Some-Scan.field-0-is c.in-Some-Scan.ensures.read in
    as_asked (map string_bytes c.args.words.now.items) (Scanning (task_of c.in-Some-Scan.job)) (only_asks (map string_bytes c.args.words.now.items) _ _ c.in-Some-Scan.field-0-is c.in-Some-Scan.ensures.only) is
    (λ (r : Request). TakesFor r (g.S.Source.left c.args.input.now) (g.T.Tree.files c.args.tree.now) (gained (g.P.Patterns.refusals c.args.patterns.now) (g.P.Patterns.refusals c.run_scan.new.patterns)) (g.K.Sink.written c.args.out.now) (g.K.Sink.written c.run_scan.new.out) c.run_scan.result c.args.steps.now c.run_scan.new.steps)
    (c.run_scan.ensures.work a)

pub returns-in-Some-Scan-clause-texts_asked : goal.returns-in-Some-Scan-clause-texts_asked
returns-in-Some-Scan-clause-texts_asked g c a =
    let is = asks (map string_bytes c.args.words.now.items) _ _ c.in-Some-Scan.field-0-is c.in-Some-Scan.ensures.read in
    as_asked (map string_bytes c.args.words.now.items) (Scanning (task_of c.in-Some-Scan.job)) (only_asks (map string_bytes c.args.words.now.items) _ _ c.in-Some-Scan.field-0-is c.in-Some-Scan.ensures.only) is
    (λ (r : Request). GivesFor r (g.S.Source.left c.args.input.now) (g.T.Tree.files c.args.tree.now) (gained (g.P.Patterns.refusals c.args.patterns.now) (g.P.Patterns.refusals c.run_scan.new.patterns)) (g.K.Sink.written c.args.out.now) (g.K.Sink.written c.run_scan.new.out) c.run_scan.result (g.P.Patterns.asked c.args.patterns.now) (g.P.Patterns.asked c.run_scan.new.patterns))
    (c.run_scan.ensures.asked a)

pub returns-in-Some-Scan-clause-no_work : goal.returns-in-Some-Scan-clause-no_work
returns-in-Some-Scan-clause-no_work g c nay =
    let is = asks (map string_bytes c.args.words.now.items) _ _ c.in-Some-Scan.field-0-is c.in-Some-Scan.ensures.read in
    absurd (scans_something (map string_bytes c.args.words.now.items) (Scanning (task_of c.in-Some-Scan.job)) (only_asks (map string_bytes c.args.words.now.items) _ _ c.in-Some-Scan.field-0-is c.in-Some-Scan.ensures.only) is (λ x. x) nay.0)

pub returns-in-Some-Scan-clause-patterns_kept : goal.returns-in-Some-Scan-clause-patterns_kept
returns-in-Some-Scan-clause-patterns_kept g c nay =
    let is = asks (map string_bytes c.args.words.now.items) _ _ c.in-Some-Scan.field-0-is c.in-Some-Scan.ensures.read in
    absurd (scans_something (map string_bytes c.args.words.now.items) (Scanning (task_of c.in-Some-Scan.job)) (only_asks (map string_bytes c.args.words.now.items) _ _ c.in-Some-Scan.field-0-is c.in-Some-Scan.ensures.only) is (λ x. x) nay)

pub returns-in-Some-Scan-clause-none_asked : goal.returns-in-Some-Scan-clause-none_asked
returns-in-Some-Scan-clause-none_asked g c nay =
    let is = asks (map string_bytes c.args.words.now.items) _ _ c.in-Some-Scan.field-0-is c.in-Some-Scan.ensures.read in
    absurd (scans_something (map string_bytes c.args.words.now.items) (Scanning (task_of c.in-Some-Scan.job)) (only_asks (map string_bytes c.args.words.now.items) _ _ c.in-Some-Scan.field-0-is c.in-Some-Scan.ensures.only) is (λ x. x) nay)

pub returns-in-Some-Match-clause-files_fixed : goal.returns-in-Some-Match-clause-files_fixed
returns-in-Some-Match-clause-files_fixed g c a task is = absurd (no_fix_in_match (map string_bytes c.args.words.now.items) c.in-Some-Match.lang c.in-Some-Match.text.now (only_asks (map string_bytes c.args.words.now.items) _ _ c.in-Some-Match.field-0-is c.in-Some-Match.ensures.only) task is)

pub returns-in-Some-Match-clause-files_left : goal.returns-in-Some-Match-clause-files_left
returns-in-Some-Match-clause-files_left g c task is = absurd (no_fix_in_match (map string_bytes c.args.words.now.items) c.in-Some-Match.lang c.in-Some-Match.text.now (only_asks (map string_bytes c.args.words.now.items) _ _ c.in-Some-Match.field-0-is c.in-Some-Match.ensures.only) task is)

pub returns-in-Some-Match-clause-commands_written : goal.returns-in-Some-Match-clause-commands_written
returns-in-Some-Match-clause-commands_written g c ask cut = absurd (no_session_in_match (map string_bytes c.args.words.now.items) c.in-Some-Match.lang c.in-Some-Match.text.now (only_asks (map string_bytes c.args.words.now.items) _ _ c.in-Some-Match.field-0-is c.in-Some-Match.ensures.only) ask)

pub returns-in-Some-Check-clause-files_fixed : goal.returns-in-Some-Check-clause-files_fixed
returns-in-Some-Check-clause-files_fixed g c a task is = absurd (no_fix_in_check (map string_bytes c.args.words.now.items) (only_asks (map string_bytes c.args.words.now.items) _ _ c.in-Some-Check.field-0-is c.in-Some-Check.ensures.only) task is)

pub returns-in-Some-Check-clause-files_left : goal.returns-in-Some-Check-clause-files_left
returns-in-Some-Check-clause-files_left g c task is = absurd (no_fix_in_check (map string_bytes c.args.words.now.items) (only_asks (map string_bytes c.args.words.now.items) _ _ c.in-Some-Check.field-0-is c.in-Some-Check.ensures.only) task is)

pub returns-in-Some-Check-clause-commands_written : goal.returns-in-Some-Check-clause-commands_written
returns-in-Some-Check-clause-commands_written g c ask cut = absurd (no_session_in_check (map string_bytes c.args.words.now.items) (only_asks (map string_bytes c.args.words.now.items) _ _ c.in-Some-Check.field-0-is c.in-Some-Check.ensures.only) ask)

pub returns-in-Some-Scan-clause-files_fixed : goal.returns-in-Some-Scan-clause-files_fixed
returns-in-Some-Scan-clause-files_fixed g c a task is = absurd (no_fix_in_scan (map string_bytes c.args.words.now.items) (task_of c.in-Some-Scan.job) (only_asks (map string_bytes c.args.words.now.items) _ _ c.in-Some-Scan.field-0-is c.in-Some-Scan.ensures.only) task is)

pub returns-in-Some-Scan-clause-files_left : goal.returns-in-Some-Scan-clause-files_left
returns-in-Some-Scan-clause-files_left g c task is = absurd (no_fix_in_scan (map string_bytes c.args.words.now.items) (task_of c.in-Some-Scan.job) (only_asks (map string_bytes c.args.words.now.items) _ _ c.in-Some-Scan.field-0-is c.in-Some-Scan.ensures.only) task is)

pub returns-in-Some-Scan-clause-commands_written : goal.returns-in-Some-Scan-clause-commands_written
returns-in-Some-Scan-clause-commands_written g c ask cut = absurd (no_session_in_scan (map string_bytes c.args.words.now.items) (task_of c.in-Some-Scan.job) (only_asks (map string_bytes c.args.words.now.items) _ _ c.in-Some-Scan.field-0-is c.in-Some-Scan.ensures.only) ask)

pub returns-in-None-clause-files_fixed : goal.returns-in-None-clause-files_fixed
returns-in-None-clause-files_fixed g c a task is = absurd (c.in-None.ensures.only _ is)

pub returns-in-None-clause-files_left : goal.returns-in-None-clause-files_left
returns-in-None-clause-files_left g c task is = absurd (c.in-None.ensures.only _ is)

pub returns-in-None-clause-commands_written : goal.returns-in-None-clause-commands_written
returns-in-None-clause-commands_written g c (most, trace, is) cut = absurd (c.in-None.ensures.only _ is)

pub returns-in-Some-Fix-clause-ends : goal.returns-in-Some-Fix-clause-ends
returns-in-Some-Fix-clause-ends g c a =
    let is = asks (map string_bytes c.args.words.now.items) _ _ c.in-Some-Fix.field-0-is c.in-Some-Fix.ensures.read in
    ends_fix (map string_bytes c.args.words.now.items) (g.S.Source.left c.args.input.now) (g.T.Tree.files c.args.tree.now) _ (g.K.Sink.written c.args.out.now) (g.K.Sink.written c.run_fix.new.out) (task_of c.in-Some-Fix.job) is c.run_fix.result (c.run_fix.ensures.ends a)

pub returns-in-Some-Fix-clause-only : goal.returns-in-Some-Fix-clause-only
returns-in-Some-Fix-clause-only g c a told =
    let words = map string_bytes c.args.words.now.items in
    let is = asks words _ _ c.in-Some-Fix.field-0-is c.in-Some-Fix.ensures.read in
    only_by words (g.S.Source.left c.args.input.now) (g.T.Tree.files c.args.tree.now) _ (Fixing (task_of c.in-Some-Fix.job)) is (only_asks words _ _ c.in-Some-Fix.field-0-is c.in-Some-Fix.ensures.only) (g.K.Sink.written c.args.out.now) (g.K.Sink.written c.run_fix.new.out) c.run_fix.result told (c.run_fix.ensures.only a)

pub returns-in-Some-Fix-clause-read_to_its_end : goal.returns-in-Some-Fix-clause-read_to_its_end
returns-in-Some-Fix-clause-read_to_its_end g c ask =
    absurd (no_read_in_fix (map string_bytes c.args.words.now.items) (task_of c.in-Some-Fix.job) (only_asks (map string_bytes c.args.words.now.items) _ _ c.in-Some-Fix.field-0-is c.in-Some-Fix.ensures.only) ask)

pub returns-in-Some-Fix-clause-files_kept : goal.returns-in-Some-Fix-clause-files_kept
returns-in-Some-Fix-clause-files_kept g c nay =
    let is = asks (map string_bytes c.args.words.now.items) _ _ c.in-Some-Fix.field-0-is c.in-Some-Fix.ensures.read in
    kept_unless_written (setting (task_of c.in-Some-Fix.job).most (task_of c.in-Some-Fix.job).trace (g.T.Tree.files c.args.tree.now) _) (task_of c.in-Some-Fix.job) _ (λ e. nay (task_of c.in-Some-Fix.job, is, e)) c.run_fix.ensures.left

pub returns-in-Some-Fix-clause-files_fixed : goal.returns-in-Some-Fix-clause-files_fixed
returns-in-Some-Fix-clause-files_fixed g c a =
    fix_asked (map string_bytes c.args.words.now.items) (task_of c.in-Some-Fix.job) (only_asks (map string_bytes c.args.words.now.items) _ _ c.in-Some-Fix.field-0-is c.in-Some-Fix.ensures.only) (λ (t : Task). Wrote (setting t.most t.trace (g.T.Tree.files c.args.tree.now) _) t _ c.run_fix.result) (c.run_fix.ensures.wrote a)

pub returns-in-Some-Fix-clause-files_left : goal.returns-in-Some-Fix-clause-files_left
returns-in-Some-Fix-clause-files_left g c =
    fix_asked (map string_bytes c.args.words.now.items) (task_of c.in-Some-Fix.job) (only_asks (map string_bytes c.args.words.now.items) _ _ c.in-Some-Fix.field-0-is c.in-Some-Fix.ensures.only) (λ (t : Task). Leaves (setting t.most t.trace (g.T.Tree.files c.args.tree.now) _) t _) c.run_fix.ensures.left

pub returns-in-Some-Fix-clause-input_fault : goal.returns-in-Some-Fix-clause-input_fault
returns-in-Some-Fix-clause-input_fault g c e =
    absurd (c.run_fix.ensures.no_input e)

pub returns-in-Some-Fix-clause-nothing_written : goal.returns-in-Some-Fix-clause-nothing_written
returns-in-Some-Fix-clause-nothing_written g c nay h =
    elim h [ inl e ↦ absurd (c.run_fix.ensures.no_input e) | inr e ↦ c.run_fix.ensures.nothing_written e ]

pub returns-in-Some-Fix-clause-commands_written : goal.returns-in-Some-Fix-clause-commands_written
returns-in-Some-Fix-clause-commands_written g c ask cut =
    absurd (no_session_in_fix (map string_bytes c.args.words.now.items) (task_of c.in-Some-Fix.job) (only_asks (map string_bytes c.args.words.now.items) _ _ c.in-Some-Fix.field-0-is c.in-Some-Fix.ensures.only) ask)

pub returns-in-Some-Fix-clause-front_written : goal.returns-in-Some-Fix-clause-front_written
returns-in-Some-Fix-clause-front_written g c e =
    let is = asks (map string_bytes c.args.words.now.items) _ _ c.in-Some-Fix.field-0-is c.in-Some-Fix.ensures.read in
    front_fix (map string_bytes c.args.words.now.items) (g.S.Source.left c.args.input.now) (g.T.Tree.files c.args.tree.now) _ (g.K.Sink.written c.args.out.now) (g.K.Sink.written c.run_fix.new.out) (task_of c.in-Some-Fix.job) is (c.run_fix.ensures.front_written e)

pub returns-in-Some-Fix-clause-whole_lines : goal.returns-in-Some-Fix-clause-whole_lines
returns-in-Some-Fix-clause-whole_lines g c e =
    inl (c.run_fix.ensures.unwritten e)

pub returns-in-Some-Fix-clause-work : goal.returns-in-Some-Fix-clause-work
returns-in-Some-Fix-clause-work g c asked =
    absurd (no_match_in_fix (map string_bytes c.args.words.now.items) (task_of c.in-Some-Fix.job) (only_asks (map string_bytes c.args.words.now.items) _ _ c.in-Some-Fix.field-0-is c.in-Some-Fix.ensures.only) asked)

pub returns-in-Some-Fix-clause-session_work : goal.returns-in-Some-Fix-clause-session_work
returns-in-Some-Fix-clause-session_work g c a =
    let is = asks (map string_bytes c.args.words.now.items) _ _ c.in-Some-Fix.field-0-is c.in-Some-Fix.ensures.read in
    as_asked (map string_bytes c.args.words.now.items) (Fixing (task_of c.in-Some-Fix.job)) (only_asks (map string_bytes c.args.words.now.items) _ _ c.in-Some-Fix.field-0-is c.in-Some-Fix.ensures.only) is
    (λ (r : Request). TakesFor r (g.S.Source.left c.args.input.now) (g.T.Tree.files c.args.tree.now) (gained (g.P.Patterns.refusals c.args.patterns.now) (g.P.Patterns.refusals c.run_fix.new.patterns)) (g.K.Sink.written c.args.out.now) (g.K.Sink.written c.run_fix.new.out) c.run_fix.result c.args.steps.now c.run_fix.new.steps)
    (c.run_fix.ensures.work a)

pub returns-in-Some-Fix-clause-texts_asked : goal.returns-in-Some-Fix-clause-texts_asked
returns-in-Some-Fix-clause-texts_asked g c a =
    let is = asks (map string_bytes c.args.words.now.items) _ _ c.in-Some-Fix.field-0-is c.in-Some-Fix.ensures.read in
    as_asked (map string_bytes c.args.words.now.items) (Fixing (task_of c.in-Some-Fix.job)) (only_asks (map string_bytes c.args.words.now.items) _ _ c.in-Some-Fix.field-0-is c.in-Some-Fix.ensures.only) is
    (λ (r : Request). GivesFor r (g.S.Source.left c.args.input.now) (g.T.Tree.files c.args.tree.now) (gained (g.P.Patterns.refusals c.args.patterns.now) (g.P.Patterns.refusals c.run_fix.new.patterns)) (g.K.Sink.written c.args.out.now) (g.K.Sink.written c.run_fix.new.out) c.run_fix.result (g.P.Patterns.asked c.args.patterns.now) (g.P.Patterns.asked c.run_fix.new.patterns))
    (c.run_fix.ensures.asked a)

pub returns-in-Some-Fix-clause-no_work : goal.returns-in-Some-Fix-clause-no_work
returns-in-Some-Fix-clause-no_work g c nay =
    let is = asks (map string_bytes c.args.words.now.items) _ _ c.in-Some-Fix.field-0-is c.in-Some-Fix.ensures.read in
    absurd (scans_something (map string_bytes c.args.words.now.items) (Fixing (task_of c.in-Some-Fix.job)) (only_asks (map string_bytes c.args.words.now.items) _ _ c.in-Some-Fix.field-0-is c.in-Some-Fix.ensures.only) is (λ x. x) nay.0)

pub returns-in-Some-Fix-clause-patterns_kept : goal.returns-in-Some-Fix-clause-patterns_kept
returns-in-Some-Fix-clause-patterns_kept g c nay =
    let is = asks (map string_bytes c.args.words.now.items) _ _ c.in-Some-Fix.field-0-is c.in-Some-Fix.ensures.read in
    absurd (scans_something (map string_bytes c.args.words.now.items) (Fixing (task_of c.in-Some-Fix.job)) (only_asks (map string_bytes c.args.words.now.items) _ _ c.in-Some-Fix.field-0-is c.in-Some-Fix.ensures.only) is (λ x. x) nay)

pub returns-in-Some-Fix-clause-none_asked : goal.returns-in-Some-Fix-clause-none_asked
returns-in-Some-Fix-clause-none_asked g c nay =
    let is = asks (map string_bytes c.args.words.now.items) _ _ c.in-Some-Fix.field-0-is c.in-Some-Fix.ensures.read in
    absurd (scans_something (map string_bytes c.args.words.now.items) (Fixing (task_of c.in-Some-Fix.job)) (only_asks (map string_bytes c.args.words.now.items) _ _ c.in-Some-Fix.field-0-is c.in-Some-Fix.ensures.only) is (λ x. x) nay)

pub returns-in-Some-Session-clause-ends : goal.returns-in-Some-Session-clause-ends
returns-in-Some-Session-clause-ends g c a =
    let is = asks (map string_bytes c.args.words.now.items) _ _ c.in-Some-Session.field-0-is c.in-Some-Session.ensures.read in
    ends_session (map string_bytes c.args.words.now.items) (g.S.Source.left c.args.input.now) (g.T.Tree.files c.args.tree.now) _ (g.K.Sink.written c.args.out.now) (g.K.Sink.written c.run_session.new.out) c.in-Some-Session.most c.in-Some-Session.trace is c.run_session.result (c.run_session.ensures.ends a)

pub returns-in-Some-Session-clause-only : goal.returns-in-Some-Session-clause-only
returns-in-Some-Session-clause-only g c a told =
    let words = map string_bytes c.args.words.now.items in
    let is = asks words _ _ c.in-Some-Session.field-0-is c.in-Some-Session.ensures.read in
    only_by words (g.S.Source.left c.args.input.now) (g.T.Tree.files c.args.tree.now) _ (Serving c.in-Some-Session.most c.in-Some-Session.trace) is (only_asks words _ _ c.in-Some-Session.field-0-is c.in-Some-Session.ensures.only) (g.K.Sink.written c.args.out.now) (g.K.Sink.written c.run_session.new.out) c.run_session.result told (λ both. c.run_session.ensures.only a both.0 both.1)

pub returns-in-Some-Session-clause-read_to_its_end : goal.returns-in-Some-Session-clause-read_to_its_end
returns-in-Some-Session-clause-read_to_its_end g c ask =
    absurd (no_read_in_session (map string_bytes c.args.words.now.items) c.in-Some-Session.most c.in-Some-Session.trace (only_asks (map string_bytes c.args.words.now.items) _ _ c.in-Some-Session.field-0-is c.in-Some-Session.ensures.only) ask)

pub returns-in-Some-Session-clause-files_fixed : goal.returns-in-Some-Session-clause-files_fixed
returns-in-Some-Session-clause-files_fixed g c a task is =
    absurd (no_fix_in_session (map string_bytes c.args.words.now.items) c.in-Some-Session.most c.in-Some-Session.trace (only_asks (map string_bytes c.args.words.now.items) _ _ c.in-Some-Session.field-0-is c.in-Some-Session.ensures.only) task is)

pub returns-in-Some-Session-clause-files_left : goal.returns-in-Some-Session-clause-files_left
returns-in-Some-Session-clause-files_left g c task is =
    absurd (no_fix_in_session (map string_bytes c.args.words.now.items) c.in-Some-Session.most c.in-Some-Session.trace (only_asks (map string_bytes c.args.words.now.items) _ _ c.in-Some-Session.field-0-is c.in-Some-Session.ensures.only) task is)

pub returns-in-Some-Session-clause-nothing_written : goal.returns-in-Some-Session-clause-nothing_written
returns-in-Some-Session-clause-nothing_written g c nay h =
    let is = asks (map string_bytes c.args.words.now.items) _ _ c.in-Some-Session.field-0-is c.in-Some-Session.ensures.read in
    absurd (nay (c.in-Some-Session.most, c.in-Some-Session.trace, is))

pub returns-in-Some-Session-clause-commands_written : goal.returns-in-Some-Session-clause-commands_written
returns-in-Some-Session-clause-commands_written g c ask cut =
    let is = asks (map string_bytes c.args.words.now.items) _ _ c.in-Some-Session.field-0-is c.in-Some-Session.ensures.read in
    commands_session (map string_bytes c.args.words.now.items) (g.S.Source.left c.args.input.now) (g.T.Tree.files c.args.tree.now) _ (g.K.Sink.written c.args.out.now) (g.K.Sink.written c.run_session.new.out) c.in-Some-Session.most c.in-Some-Session.trace is (c.run_session.ensures.commands_written cut)

pub returns-in-Some-Session-clause-front_written : goal.returns-in-Some-Session-clause-front_written
returns-in-Some-Session-clause-front_written g c e =
    let is = asks (map string_bytes c.args.words.now.items) _ _ c.in-Some-Session.field-0-is c.in-Some-Session.ensures.read in
    front_session (map string_bytes c.args.words.now.items) (g.S.Source.left c.args.input.now) (g.T.Tree.files c.args.tree.now) _ (g.K.Sink.written c.args.out.now) (g.K.Sink.written c.run_session.new.out) c.in-Some-Session.most c.in-Some-Session.trace is (c.run_session.ensures.front_written e)

pub returns-in-Some-Session-clause-whole_lines : goal.returns-in-Some-Session-clause-whole_lines
returns-in-Some-Session-clause-whole_lines g c e =
    let is = asks (map string_bytes c.args.words.now.items) _ _ c.in-Some-Session.field-0-is c.in-Some-Session.ensures.read in
    inr (some_session (map string_bytes c.args.words.now.items) (g.S.Source.left c.args.input.now) (g.T.Tree.files c.args.tree.now) _ (g.K.Sink.written c.args.out.now) (g.K.Sink.written c.run_session.new.out) c.in-Some-Session.most c.in-Some-Session.trace is (c.run_session.ensures.commands_written (cut_by_memory c.run_session.result e)))

pub returns-in-Some-Session-clause-absent : goal.returns-in-Some-Session-clause-absent
returns-in-Some-Session-clause-absent g c e =
    absurd (c.run_session.ensures.there e)

pub returns-in-Some-Session-clause-work : goal.returns-in-Some-Session-clause-work
returns-in-Some-Session-clause-work g c asked =
    absurd (no_match_in_session (map string_bytes c.args.words.now.items) c.in-Some-Session.most c.in-Some-Session.trace (only_asks (map string_bytes c.args.words.now.items) _ _ c.in-Some-Session.field-0-is c.in-Some-Session.ensures.only) asked)

pub returns-in-Some-Session-clause-session_work : goal.returns-in-Some-Session-clause-session_work
returns-in-Some-Session-clause-session_work g c a =
    let is = asks (map string_bytes c.args.words.now.items) _ _ c.in-Some-Session.field-0-is c.in-Some-Session.ensures.read in
    as_asked (map string_bytes c.args.words.now.items) (Serving c.in-Some-Session.most c.in-Some-Session.trace) (only_asks (map string_bytes c.args.words.now.items) _ _ c.in-Some-Session.field-0-is c.in-Some-Session.ensures.only) is
    (λ (r : Request). TakesFor r (g.S.Source.left c.args.input.now) (g.T.Tree.files c.args.tree.now) (gained (g.P.Patterns.refusals c.args.patterns.now) (g.P.Patterns.refusals c.run_session.new.patterns)) (g.K.Sink.written c.args.out.now) (g.K.Sink.written c.run_session.new.out) c.run_session.result c.args.steps.now c.run_session.new.steps)
    (c.run_session.ensures.work a)

pub returns-in-Some-Session-clause-texts_asked : goal.returns-in-Some-Session-clause-texts_asked
returns-in-Some-Session-clause-texts_asked g c a =
    let is = asks (map string_bytes c.args.words.now.items) _ _ c.in-Some-Session.field-0-is c.in-Some-Session.ensures.read in
    as_asked (map string_bytes c.args.words.now.items) (Serving c.in-Some-Session.most c.in-Some-Session.trace) (only_asks (map string_bytes c.args.words.now.items) _ _ c.in-Some-Session.field-0-is c.in-Some-Session.ensures.only) is
    (λ (r : Request). GivesFor r (g.S.Source.left c.args.input.now) (g.T.Tree.files c.args.tree.now) (gained (g.P.Patterns.refusals c.args.patterns.now) (g.P.Patterns.refusals c.run_session.new.patterns)) (g.K.Sink.written c.args.out.now) (g.K.Sink.written c.run_session.new.out) c.run_session.result (g.P.Patterns.asked c.args.patterns.now) (g.P.Patterns.asked c.run_session.new.patterns))
    (c.run_session.ensures.asked a)

pub returns-in-Some-Session-clause-no_work : goal.returns-in-Some-Session-clause-no_work
returns-in-Some-Session-clause-no_work g c nay =
    let is = asks (map string_bytes c.args.words.now.items) _ _ c.in-Some-Session.field-0-is c.in-Some-Session.ensures.read in
    absurd (scans_something (map string_bytes c.args.words.now.items) (Serving c.in-Some-Session.most c.in-Some-Session.trace) (only_asks (map string_bytes c.args.words.now.items) _ _ c.in-Some-Session.field-0-is c.in-Some-Session.ensures.only) is (λ x. x) nay.0)

pub returns-in-Some-Session-clause-patterns_kept : goal.returns-in-Some-Session-clause-patterns_kept
returns-in-Some-Session-clause-patterns_kept g c nay =
    let is = asks (map string_bytes c.args.words.now.items) _ _ c.in-Some-Session.field-0-is c.in-Some-Session.ensures.read in
    absurd (scans_something (map string_bytes c.args.words.now.items) (Serving c.in-Some-Session.most c.in-Some-Session.trace) (only_asks (map string_bytes c.args.words.now.items) _ _ c.in-Some-Session.field-0-is c.in-Some-Session.ensures.only) is (λ x. x) nay)

pub returns-in-Some-Session-clause-none_asked : goal.returns-in-Some-Session-clause-none_asked
returns-in-Some-Session-clause-none_asked g c nay =
    let is = asks (map string_bytes c.args.words.now.items) _ _ c.in-Some-Session.field-0-is c.in-Some-Session.ensures.read in
    absurd (scans_something (map string_bytes c.args.words.now.items) (Serving c.in-Some-Session.most c.in-Some-Session.trace) (only_asks (map string_bytes c.args.words.now.items) _ _ c.in-Some-Session.field-0-is c.in-Some-Session.ensures.only) is (λ x. x) nay)

pub returns-in-Some-Drill-clause-ends : goal.returns-in-Some-Drill-clause-ends
returns-in-Some-Drill-clause-ends g c a =
    let is = asks (map string_bytes c.args.words.now.items) _ _ c.in-Some-Drill.field-0-is c.in-Some-Drill.ensures.read in
    ends_drill (map string_bytes c.args.words.now.items) (g.S.Source.left c.args.input.now) (g.T.Tree.files c.args.tree.now) _ (g.K.Sink.written c.args.out.now) (g.K.Sink.written c.run_drill.new.out) c.in-Some-Drill.count is c.run_drill.result (c.run_drill.ensures.ends a)

pub returns-in-Some-Drill-clause-only : goal.returns-in-Some-Drill-clause-only
returns-in-Some-Drill-clause-only g c a told =
    let words = map string_bytes c.args.words.now.items in
    let is = asks words _ _ c.in-Some-Drill.field-0-is c.in-Some-Drill.ensures.read in
    only_by words (g.S.Source.left c.args.input.now) (g.T.Tree.files c.args.tree.now) _ (Drilling c.in-Some-Drill.count) is (only_asks words _ _ c.in-Some-Drill.field-0-is c.in-Some-Drill.ensures.only) (g.K.Sink.written c.args.out.now) (g.K.Sink.written c.run_drill.new.out) c.run_drill.result told (λ _. c.run_drill.ensures.only a)

pub returns-in-Some-Drill-clause-read_to_its_end : goal.returns-in-Some-Drill-clause-read_to_its_end
returns-in-Some-Drill-clause-read_to_its_end g c ask =
    absurd (no_read_in_drill (map string_bytes c.args.words.now.items) c.in-Some-Drill.count (only_asks (map string_bytes c.args.words.now.items) _ _ c.in-Some-Drill.field-0-is c.in-Some-Drill.ensures.only) ask)

pub returns-in-Some-Drill-clause-files_fixed : goal.returns-in-Some-Drill-clause-files_fixed
returns-in-Some-Drill-clause-files_fixed g c a task is =
    absurd (no_fix_in_drill (map string_bytes c.args.words.now.items) c.in-Some-Drill.count (only_asks (map string_bytes c.args.words.now.items) _ _ c.in-Some-Drill.field-0-is c.in-Some-Drill.ensures.only) task is)

pub returns-in-Some-Drill-clause-files_left : goal.returns-in-Some-Drill-clause-files_left
returns-in-Some-Drill-clause-files_left g c task is =
    absurd (no_fix_in_drill (map string_bytes c.args.words.now.items) c.in-Some-Drill.count (only_asks (map string_bytes c.args.words.now.items) _ _ c.in-Some-Drill.field-0-is c.in-Some-Drill.ensures.only) task is)

pub returns-in-Some-Drill-clause-input_fault : goal.returns-in-Some-Drill-clause-input_fault
returns-in-Some-Drill-clause-input_fault g c e =
    absurd (c.run_drill.ensures.no_input e)

pub returns-in-Some-Drill-clause-nothing_written : goal.returns-in-Some-Drill-clause-nothing_written
returns-in-Some-Drill-clause-nothing_written g c nay h =
    elim h [ inl e ↦ absurd (c.run_drill.ensures.no_input e) | inr e ↦ c.run_drill.ensures.nothing_written e ]

pub returns-in-Some-Drill-clause-commands_written : goal.returns-in-Some-Drill-clause-commands_written
returns-in-Some-Drill-clause-commands_written g c ask cut =
    absurd (no_session_in_drill (map string_bytes c.args.words.now.items) c.in-Some-Drill.count (only_asks (map string_bytes c.args.words.now.items) _ _ c.in-Some-Drill.field-0-is c.in-Some-Drill.ensures.only) ask)

pub returns-in-Some-Drill-clause-front_written : goal.returns-in-Some-Drill-clause-front_written
returns-in-Some-Drill-clause-front_written g c e =
    let is = asks (map string_bytes c.args.words.now.items) _ _ c.in-Some-Drill.field-0-is c.in-Some-Drill.ensures.read in
    front_drill (map string_bytes c.args.words.now.items) (g.S.Source.left c.args.input.now) (g.T.Tree.files c.args.tree.now) _ (g.K.Sink.written c.args.out.now) (g.K.Sink.written c.run_drill.new.out) c.in-Some-Drill.count is (c.run_drill.ensures.front_written e)

pub returns-in-Some-Drill-clause-whole_lines : goal.returns-in-Some-Drill-clause-whole_lines
returns-in-Some-Drill-clause-whole_lines g c e =
    inl (c.run_drill.ensures.unwritten e)

pub returns-in-Some-Drill-clause-absent : goal.returns-in-Some-Drill-clause-absent
returns-in-Some-Drill-clause-absent g c e =
    absurd (c.run_drill.ensures.there e)

pub returns-in-Some-Drill-clause-work : goal.returns-in-Some-Drill-clause-work
returns-in-Some-Drill-clause-work g c asked =
    absurd (no_match_in_drill (map string_bytes c.args.words.now.items) c.in-Some-Drill.count (only_asks (map string_bytes c.args.words.now.items) _ _ c.in-Some-Drill.field-0-is c.in-Some-Drill.ensures.only) asked)

pub returns-in-Some-Drill-clause-session_work : goal.returns-in-Some-Drill-clause-session_work
returns-in-Some-Drill-clause-session_work g c a =
    let is = asks (map string_bytes c.args.words.now.items) _ _ c.in-Some-Drill.field-0-is c.in-Some-Drill.ensures.read in
    as_asked (map string_bytes c.args.words.now.items) (Drilling c.in-Some-Drill.count) (only_asks (map string_bytes c.args.words.now.items) _ _ c.in-Some-Drill.field-0-is c.in-Some-Drill.ensures.only) is
    (λ (r : Request). TakesFor r (g.S.Source.left c.args.input.now) (g.T.Tree.files c.args.tree.now) (gained (g.P.Patterns.refusals c.args.patterns.now) (g.P.Patterns.refusals c.run_drill.new.patterns)) (g.K.Sink.written c.args.out.now) (g.K.Sink.written c.run_drill.new.out) c.run_drill.result c.args.steps.now c.run_drill.new.steps)
    (c.run_drill.ensures.work a)

pub returns-in-Some-Drill-clause-texts_asked : goal.returns-in-Some-Drill-clause-texts_asked
returns-in-Some-Drill-clause-texts_asked g c a =
    let is = asks (map string_bytes c.args.words.now.items) _ _ c.in-Some-Drill.field-0-is c.in-Some-Drill.ensures.read in
    as_asked (map string_bytes c.args.words.now.items) (Drilling c.in-Some-Drill.count) (only_asks (map string_bytes c.args.words.now.items) _ _ c.in-Some-Drill.field-0-is c.in-Some-Drill.ensures.only) is
    (λ (r : Request). GivesFor r (g.S.Source.left c.args.input.now) (g.T.Tree.files c.args.tree.now) (gained (g.P.Patterns.refusals c.args.patterns.now) (g.P.Patterns.refusals c.run_drill.new.patterns)) (g.K.Sink.written c.args.out.now) (g.K.Sink.written c.run_drill.new.out) c.run_drill.result (g.P.Patterns.asked c.args.patterns.now) (g.P.Patterns.asked c.run_drill.new.patterns))
    (c.run_drill.ensures.asked a)

pub returns-in-Some-Drill-clause-no_work : goal.returns-in-Some-Drill-clause-no_work
returns-in-Some-Drill-clause-no_work g c nay =
    let is = asks (map string_bytes c.args.words.now.items) _ _ c.in-Some-Drill.field-0-is c.in-Some-Drill.ensures.read in
    absurd (scans_something (map string_bytes c.args.words.now.items) (Drilling c.in-Some-Drill.count) (only_asks (map string_bytes c.args.words.now.items) _ _ c.in-Some-Drill.field-0-is c.in-Some-Drill.ensures.only) is (λ x. x) nay.0)

pub returns-in-Some-Drill-clause-patterns_kept : goal.returns-in-Some-Drill-clause-patterns_kept
returns-in-Some-Drill-clause-patterns_kept g c nay =
    let is = asks (map string_bytes c.args.words.now.items) _ _ c.in-Some-Drill.field-0-is c.in-Some-Drill.ensures.read in
    absurd (scans_something (map string_bytes c.args.words.now.items) (Drilling c.in-Some-Drill.count) (only_asks (map string_bytes c.args.words.now.items) _ _ c.in-Some-Drill.field-0-is c.in-Some-Drill.ensures.only) is (λ x. x) nay)

pub returns-in-Some-Drill-clause-none_asked : goal.returns-in-Some-Drill-clause-none_asked
returns-in-Some-Drill-clause-none_asked g c nay =
    let is = asks (map string_bytes c.args.words.now.items) _ _ c.in-Some-Drill.field-0-is c.in-Some-Drill.ensures.read in
    absurd (scans_something (map string_bytes c.args.words.now.items) (Drilling c.in-Some-Drill.count) (only_asks (map string_bytes c.args.words.now.items) _ _ c.in-Some-Drill.field-0-is c.in-Some-Drill.ensures.only) is (λ x. x) nay)

pub returns-in-None-clause-input_alone : goal.returns-in-None-clause-input_alone
returns-in-None-clause-input_alone g c read serve = refl

pub returns-in-None-clause-tree_alone : goal.returns-in-None-clause-tree_alone
returns-in-None-clause-tree_alone g c nay = refl

pub returns-in-Some-Match-clause-input_alone : goal.returns-in-Some-Match-clause-input_alone
returns-in-Some-Match-clause-input_alone g c read serve =
    let is = asks (map string_bytes c.args.words.now.items) _ _ c.in-Some-Match.field-0-is c.in-Some-Match.ensures.read in
    absurd (read (inl (c.in-Some-Match.lang, c.in-Some-Match.text.now, is)))

pub returns-in-Some-Match-clause-tree_alone : goal.returns-in-Some-Match-clause-tree_alone
returns-in-Some-Match-clause-tree_alone g c nay = refl

pub returns-in-Some-Check-clause-input_alone : goal.returns-in-Some-Check-clause-input_alone
returns-in-Some-Check-clause-input_alone g c read serve =
    let is = asks (map string_bytes c.args.words.now.items) _ _ c.in-Some-Check.field-0-is c.in-Some-Check.ensures.read in
    absurd (read (inr is))

pub returns-in-Some-Check-clause-tree_alone : goal.returns-in-Some-Check-clause-tree_alone
returns-in-Some-Check-clause-tree_alone g c nay = refl

pub returns-in-Some-Scan-clause-input_alone : goal.returns-in-Some-Scan-clause-input_alone
returns-in-Some-Scan-clause-input_alone g c read serve = refl

pub returns-in-Some-Fix-clause-input_alone : goal.returns-in-Some-Fix-clause-input_alone
returns-in-Some-Fix-clause-input_alone g c read serve = refl

pub returns-in-Some-Drill-clause-input_alone : goal.returns-in-Some-Drill-clause-input_alone
returns-in-Some-Drill-clause-input_alone g c read serve = refl

pub returns-in-Some-Scan-clause-tree_alone : goal.returns-in-Some-Scan-clause-tree_alone
returns-in-Some-Scan-clause-tree_alone g c nay =
    let is = asks (map string_bytes c.args.words.now.items) _ _ c.in-Some-Scan.field-0-is c.in-Some-Scan.ensures.read in
    absurd (scans_something (map string_bytes c.args.words.now.items) (Scanning (task_of c.in-Some-Scan.job)) (only_asks (map string_bytes c.args.words.now.items) _ _ c.in-Some-Scan.field-0-is c.in-Some-Scan.ensures.only) is (λ x. x) nay)

pub returns-in-Some-Fix-clause-tree_alone : goal.returns-in-Some-Fix-clause-tree_alone
returns-in-Some-Fix-clause-tree_alone g c nay =
    let is = asks (map string_bytes c.args.words.now.items) _ _ c.in-Some-Fix.field-0-is c.in-Some-Fix.ensures.read in
    absurd (scans_something (map string_bytes c.args.words.now.items) (Fixing (task_of c.in-Some-Fix.job)) (only_asks (map string_bytes c.args.words.now.items) _ _ c.in-Some-Fix.field-0-is c.in-Some-Fix.ensures.only) is (λ x. x) nay)

pub returns-in-Some-Session-clause-tree_alone : goal.returns-in-Some-Session-clause-tree_alone
returns-in-Some-Session-clause-tree_alone g c nay =
    let is = asks (map string_bytes c.args.words.now.items) _ _ c.in-Some-Session.field-0-is c.in-Some-Session.ensures.read in
    absurd (scans_something (map string_bytes c.args.words.now.items) (Serving c.in-Some-Session.most c.in-Some-Session.trace) (only_asks (map string_bytes c.args.words.now.items) _ _ c.in-Some-Session.field-0-is c.in-Some-Session.ensures.only) is (λ x. x) nay)

pub returns-in-Some-Drill-clause-tree_alone : goal.returns-in-Some-Drill-clause-tree_alone
returns-in-Some-Drill-clause-tree_alone g c nay =
    let is = asks (map string_bytes c.args.words.now.items) _ _ c.in-Some-Drill.field-0-is c.in-Some-Drill.ensures.read in
    absurd (scans_something (map string_bytes c.args.words.now.items) (Drilling c.in-Some-Drill.count) (only_asks (map string_bytes c.args.words.now.items) _ _ c.in-Some-Drill.field-0-is c.in-Some-Drill.ensures.only) is (λ x. x) nay)

pub returns-in-Some-Session-clause-input_alone : goal.returns-in-Some-Session-clause-input_alone
returns-in-Some-Session-clause-input_alone g c read serve =
    let is = asks (map string_bytes c.args.words.now.items) _ _ c.in-Some-Session.field-0-is c.in-Some-Session.ensures.read in
    absurd (serve (c.in-Some-Session.most, c.in-Some-Session.trace, is))

pub returns-in-Some-Match-clause-all_read_written : goal.returns-in-Some-Match-clause-all_read_written
returns-in-Some-Match-clause-all_read_written g c ask fault = absurd (no_session_in_match (map string_bytes c.args.words.now.items) c.in-Some-Match.lang c.in-Some-Match.text.now (only_asks (map string_bytes c.args.words.now.items) _ _ c.in-Some-Match.field-0-is c.in-Some-Match.ensures.only) ask)

pub returns-in-Some-Check-clause-all_read_written : goal.returns-in-Some-Check-clause-all_read_written
returns-in-Some-Check-clause-all_read_written g c ask fault = absurd (no_session_in_check (map string_bytes c.args.words.now.items) (only_asks (map string_bytes c.args.words.now.items) _ _ c.in-Some-Check.field-0-is c.in-Some-Check.ensures.only) ask)

pub returns-in-Some-Scan-clause-all_read_written : goal.returns-in-Some-Scan-clause-all_read_written
returns-in-Some-Scan-clause-all_read_written g c ask fault = absurd (no_session_in_scan (map string_bytes c.args.words.now.items) (task_of c.in-Some-Scan.job) (only_asks (map string_bytes c.args.words.now.items) _ _ c.in-Some-Scan.field-0-is c.in-Some-Scan.ensures.only) ask)

pub returns-in-None-clause-all_read_written : goal.returns-in-None-clause-all_read_written
returns-in-None-clause-all_read_written g c (most, trace, is) fault = absurd (c.in-None.ensures.only _ is)

pub returns-in-Some-Fix-clause-all_read_written : goal.returns-in-Some-Fix-clause-all_read_written
returns-in-Some-Fix-clause-all_read_written g c ask fault =
    absurd (no_session_in_fix (map string_bytes c.args.words.now.items) (task_of c.in-Some-Fix.job) (only_asks (map string_bytes c.args.words.now.items) _ _ c.in-Some-Fix.field-0-is c.in-Some-Fix.ensures.only) ask)

pub returns-in-Some-Drill-clause-all_read_written : goal.returns-in-Some-Drill-clause-all_read_written
returns-in-Some-Drill-clause-all_read_written g c ask fault =
    absurd (no_session_in_drill (map string_bytes c.args.words.now.items) c.in-Some-Drill.count (only_asks (map string_bytes c.args.words.now.items) _ _ c.in-Some-Drill.field-0-is c.in-Some-Drill.ensures.only) ask)

pub returns-in-Some-Session-clause-all_read_written : goal.returns-in-Some-Session-clause-all_read_written
returns-in-Some-Session-clause-all_read_written g c ask fault =
    let is = asks (map string_bytes c.args.words.now.items) _ _ c.in-Some-Session.field-0-is c.in-Some-Session.ensures.read in
    (c.in-Some-Session.most, c.in-Some-Session.trace, is, c.run_session.ensures.all_read_written fault)

pub returns-in-Some-Match-clause-before_sync_written : goal.returns-in-Some-Match-clause-before_sync_written
returns-in-Some-Match-clause-before_sync_written g c ask fault = absurd (no_session_in_match (map string_bytes c.args.words.now.items) c.in-Some-Match.lang c.in-Some-Match.text.now (only_asks (map string_bytes c.args.words.now.items) _ _ c.in-Some-Match.field-0-is c.in-Some-Match.ensures.only) ask)

pub returns-in-Some-Match-clause-texts_to_fault : goal.returns-in-Some-Match-clause-texts_to_fault
returns-in-Some-Match-clause-texts_to_fault g c ask fault got = absurd (no_session_in_match (map string_bytes c.args.words.now.items) c.in-Some-Match.lang c.in-Some-Match.text.now (only_asks (map string_bytes c.args.words.now.items) _ _ c.in-Some-Match.field-0-is c.in-Some-Match.ensures.only) ask)

pub returns-in-Some-Check-clause-before_sync_written : goal.returns-in-Some-Check-clause-before_sync_written
returns-in-Some-Check-clause-before_sync_written g c ask fault = absurd (no_session_in_check (map string_bytes c.args.words.now.items) (only_asks (map string_bytes c.args.words.now.items) _ _ c.in-Some-Check.field-0-is c.in-Some-Check.ensures.only) ask)

pub returns-in-Some-Check-clause-texts_to_fault : goal.returns-in-Some-Check-clause-texts_to_fault
returns-in-Some-Check-clause-texts_to_fault g c ask fault got = absurd (no_session_in_check (map string_bytes c.args.words.now.items) (only_asks (map string_bytes c.args.words.now.items) _ _ c.in-Some-Check.field-0-is c.in-Some-Check.ensures.only) ask)

pub returns-in-Some-Scan-clause-before_sync_written : goal.returns-in-Some-Scan-clause-before_sync_written
returns-in-Some-Scan-clause-before_sync_written g c ask fault = absurd (no_session_in_scan (map string_bytes c.args.words.now.items) (task_of c.in-Some-Scan.job) (only_asks (map string_bytes c.args.words.now.items) _ _ c.in-Some-Scan.field-0-is c.in-Some-Scan.ensures.only) ask)

pub returns-in-Some-Scan-clause-texts_to_fault : goal.returns-in-Some-Scan-clause-texts_to_fault
returns-in-Some-Scan-clause-texts_to_fault g c ask fault got = absurd (no_session_in_scan (map string_bytes c.args.words.now.items) (task_of c.in-Some-Scan.job) (only_asks (map string_bytes c.args.words.now.items) _ _ c.in-Some-Scan.field-0-is c.in-Some-Scan.ensures.only) ask)

pub returns-in-None-clause-before_sync_written : goal.returns-in-None-clause-before_sync_written
returns-in-None-clause-before_sync_written g c (most, trace, is) fault = absurd (c.in-None.ensures.only _ is)

pub returns-in-None-clause-texts_to_fault : goal.returns-in-None-clause-texts_to_fault
returns-in-None-clause-texts_to_fault g c (most, trace, is) fault got = absurd (c.in-None.ensures.only _ is)

pub returns-in-Some-Fix-clause-before_sync_written : goal.returns-in-Some-Fix-clause-before_sync_written
returns-in-Some-Fix-clause-before_sync_written g c ask fault =
    absurd (no_session_in_fix (map string_bytes c.args.words.now.items) (task_of c.in-Some-Fix.job) (only_asks (map string_bytes c.args.words.now.items) _ _ c.in-Some-Fix.field-0-is c.in-Some-Fix.ensures.only) ask)

pub returns-in-Some-Fix-clause-texts_to_fault : goal.returns-in-Some-Fix-clause-texts_to_fault
returns-in-Some-Fix-clause-texts_to_fault g c ask fault got =
    absurd (no_session_in_fix (map string_bytes c.args.words.now.items) (task_of c.in-Some-Fix.job) (only_asks (map string_bytes c.args.words.now.items) _ _ c.in-Some-Fix.field-0-is c.in-Some-Fix.ensures.only) ask)

pub returns-in-Some-Drill-clause-before_sync_written : goal.returns-in-Some-Drill-clause-before_sync_written
returns-in-Some-Drill-clause-before_sync_written g c ask fault =
    absurd (no_session_in_drill (map string_bytes c.args.words.now.items) c.in-Some-Drill.count (only_asks (map string_bytes c.args.words.now.items) _ _ c.in-Some-Drill.field-0-is c.in-Some-Drill.ensures.only) ask)

pub returns-in-Some-Drill-clause-texts_to_fault : goal.returns-in-Some-Drill-clause-texts_to_fault
returns-in-Some-Drill-clause-texts_to_fault g c ask fault got =
    absurd (no_session_in_drill (map string_bytes c.args.words.now.items) c.in-Some-Drill.count (only_asks (map string_bytes c.args.words.now.items) _ _ c.in-Some-Drill.field-0-is c.in-Some-Drill.ensures.only) ask)

pub returns-in-Some-Session-clause-before_sync_written : goal.returns-in-Some-Session-clause-before_sync_written
returns-in-Some-Session-clause-before_sync_written g c ask fault =
    let is = asks (map string_bytes c.args.words.now.items) _ _ c.in-Some-Session.field-0-is c.in-Some-Session.ensures.read in
    (c.in-Some-Session.most, c.in-Some-Session.trace, is, c.run_session.ensures.before_sync_written fault)

pub returns-in-Some-Session-clause-texts_to_fault : goal.returns-in-Some-Session-clause-texts_to_fault
returns-in-Some-Session-clause-texts_to_fault g c ask fault got =
    let is = asks (map string_bytes c.args.words.now.items) _ _ c.in-Some-Session.field-0-is c.in-Some-Session.ensures.read in
    (c.in-Some-Session.most, c.in-Some-Session.trace, is, c.run_session.ensures.asked_to_fault fault got)
