use Rattle.std.proofs.Common.{ℕ, List, sym, subst}
use Rattle.pattern_read.proofs.Laws.{refused}
use Rattle.file_open.specs.declared.opened.Opened.{Opened}
use Rattle.file_open.specs.declared.opened.Opened.TheVariants as opened
use Rattle.file_open.specs.Opening.{IsOpened, HasOnlyTree}
use Rattle.languages.specs.Trees.{IsTree}
use Rattle.run_status.specs.declared.status.Status.{Status}
use Rattle.run_status.specs.declared.status.Status.TheVariants.{BadPattern, BadTarget, OverLimit}
use Rattle.file_map.specs.declared.limit.LimitKind.TheVariants.{Target}
use Rattle.run_status.specs.Ways.{Printed, IsOnlyEnd}
use Rattle.scan_run.specs.Matching.{Matches}
use Rattle.scan_run.proofs.Matches.{unprinted, only_unprinted, ends_bad_pattern, ends_bad_target, ends_over_limit, input_steps, none_opened, file_read, only_read, serves_read, ends_by_search, only_search, front_of_search, some_of_search, of_search, search_steps}
use Rattle.scan_run.proofs.Inputs.{input_kept, of_input}
use Rattle.scan_run.proofs.matching.run_match.Goals as goal

pub returns-in_default-clause-ends : goal.returns-in_default-clause-ends
returns-in_default-clause-ends g c a =
    unprinted _ _ _ _ _ (ends_bad_pattern c.args.lang c.args.text.now _ (refused c.args.lang c.args.text.now _ c.in_default.not-Memory c.in-Err.ensures.only))

pub returns-in_default-clause-only : goal.returns-in_default-clause-only
returns-in_default-clause-only g c a some =
    only_unprinted c.args.lang c.args.text.now (g.S.Source.left c.args.input.now) _ BadPattern (λ h. h) (ends_bad_pattern c.args.lang c.args.text.now _ (refused c.args.lang c.args.text.now _ c.in_default.not-Memory c.in-Err.ensures.only)) some

pub returns-in-Err-read_target-clause-ends : goal.returns-in-Err-read_target-clause-ends
returns-in-Err-read_target-clause-ends g c a =
    let left = g.S.Source.left c.args.input.now in
    let w = g.K.Sink.written c.args.out.now in
    let t = c.in-Err-read_target.ensures.too_long a in
    let P : Status → Type 0 = λ s. Printed (Matches c.args.lang c.args.text.now left) w w s in
    subst P (sym t.0) (unprinted _ _ _ _ _ (ends_over_limit c.args.lang c.args.text.now c.in-Ok.pattern left c.in-Ok.ensures.pattern t.1))

pub returns-in-Err-read_target-clause-only : goal.returns-in-Err-read_target-clause-only
returns-in-Err-read_target-clause-only g c a some =
    let left = g.S.Source.left c.args.input.now in
    let w = g.K.Sink.written c.args.out.now in
    let t = c.in-Err-read_target.ensures.too_long a in
    let P : Status → Type 0 = λ s. IsOnlyEnd (Matches c.args.lang c.args.text.now left) w w s in
    subst P (sym t.0) (only_unprinted c.args.lang c.args.text.now left w (OverLimit Target 1000001) (λ h. h) (ends_over_limit c.args.lang c.args.text.now c.in-Ok.pattern left c.in-Ok.ensures.pattern t.1) some)

pub returns-in-Err-read_target-clause-input_kept : goal.returns-in-Err-read_target-clause-input_kept
returns-in-Err-read_target-clause-input_kept g c a = input_kept _ _ c.in-Err-read_target.status c.in-Err-read_target.ensures.cause a

pub returns-in-Err-read_target-clause-cause : goal.returns-in-Err-read_target-clause-cause
returns-in-Err-read_target-clause-cause g c = of_input _ _ c.in-Err-read_target.status c.in-Err-read_target.ensures.cause

pub returns-in-Err-read_target-clause-work : goal.returns-in-Err-read_target-clause-work
returns-in-Err-read_target-clause-work g c = input_steps _ _ c.in-Err-read_target.status c.args.steps.now c.in-Err-read_target.ensures.cause

pub returns-in_default-opened-clause-ends : goal.returns-in_default-opened-clause-ends
returns-in_default-opened-clause-ends g c a =
    let bytes = c.in-Ok-read_target.bytes.items in
    let target = c.in-Ok-read_target.ensures.target in
    let is = subst (λ (l : List ℕ). IsOpened IsTree c.args.lang l c.in-Ok-open_file.opened) c.from_vec.ensures c.in-Ok-open_file.ensures.opened in
    unprinted _ _ _ _ _ (ends_bad_target c.args.lang c.args.text.now c.in-Ok.pattern c.in-Ok.ensures.pattern _ bytes target
    (none_opened c.args.lang bytes c.in-Ok-open_file.opened c.in_default-opened.not-Read target.short is))

pub returns-in_default-opened-clause-only : goal.returns-in_default-opened-clause-only
returns-in_default-opened-clause-only g c a some =
    let bytes = c.in-Ok-read_target.bytes.items in
    let target = c.in-Ok-read_target.ensures.target in
    let is = subst (λ (l : List ℕ). IsOpened IsTree c.args.lang l c.in-Ok-open_file.opened) c.from_vec.ensures c.in-Ok-open_file.ensures.opened in
    only_unprinted c.args.lang c.args.text.now (g.S.Source.left c.args.input.now) _ BadTarget (λ h. h) (ends_bad_target c.args.lang c.args.text.now c.in-Ok.pattern c.in-Ok.ensures.pattern _ bytes target
    (none_opened c.args.lang bytes c.in-Ok-open_file.opened c.in_default-opened.not-Read target.short is)) some

pub returns-clause-ends : goal.returns-clause-ends
returns-clause-ends g c a =
    let bytes = c.in-Ok-read_target.bytes.items in
    let f = c.in-Ok-named_for.named in
    let is = subst (λ (l : List ℕ). IsOpened IsTree c.args.lang l (opened.Read c.in-Read.file)) c.from_vec.ensures (subst (λ (x : Opened). IsOpened IsTree c.args.lang c.from_vec.result x) c.in-Read.is c.in-Ok-open_file.ensures.opened) in
    ends_by_search c.args.lang c.args.text.now c.in-Ok.pattern c.in-Ok.ensures.pattern _ bytes c.in-Ok-read_target.ensures.target f.tree (file_read c.args.lang bytes c.in-Read.file f.tree is c.in-Ok-named_for.ensures.same) f.known (serves_read c.args.lang bytes c.in-Read.file f.tree f.known c.in-Ok.pattern is c.in-Ok-named_for.ensures.same c.in-Ok-named_for.ensures.serves) _ _ _ (c.print_members.ensures.ends a)

pub returns-clause-only : goal.returns-clause-only
returns-clause-only g c a some =
    let bytes = c.in-Ok-read_target.bytes.items in
    let f = c.in-Ok-named_for.named in
    let is = subst (λ (l : List ℕ). IsOpened IsTree c.args.lang l (opened.Read c.in-Read.file)) c.from_vec.ensures (subst (λ (x : Opened). IsOpened IsTree c.args.lang c.from_vec.result x) c.in-Read.is c.in-Ok-open_file.ensures.opened) in
    let one = subst (λ (l : List ℕ). HasOnlyTree IsTree c.args.lang l (opened.Read c.in-Read.file)) c.from_vec.ensures (subst (λ (x : Opened). HasOnlyTree IsTree c.args.lang c.from_vec.result x) c.in-Read.is c.in-Ok-open_file.ensures.only) in
    only_search c.args.lang c.args.text.now c.in-Ok.pattern c.in-Ok.ensures.pattern _ bytes c.in-Ok-read_target.ensures.target f.tree (file_read c.args.lang bytes c.in-Read.file f.tree is c.in-Ok-named_for.ensures.same) f.known (serves_read c.args.lang bytes c.in-Read.file f.tree f.known c.in-Ok.pattern is c.in-Ok-named_for.ensures.same c.in-Ok-named_for.ensures.serves) _ _ _
    c.in-Ok.ensures.only (only_read c.args.lang bytes c.in-Read.file f.tree one c.in-Ok-named_for.ensures.same) (c.print_members.ensures.ends a) some

pub returns-clause-front_written : goal.returns-clause-front_written
returns-clause-front_written g c e =
    let bytes = c.in-Ok-read_target.bytes.items in
    let f = c.in-Ok-named_for.named in
    let is = subst (λ (l : List ℕ). IsOpened IsTree c.args.lang l (opened.Read c.in-Read.file)) c.from_vec.ensures (subst (λ (x : Opened). IsOpened IsTree c.args.lang c.from_vec.result x) c.in-Read.is c.in-Ok-open_file.ensures.opened) in
    front_of_search c.args.lang c.args.text.now c.in-Ok.pattern c.in-Ok.ensures.pattern _ bytes c.in-Ok-read_target.ensures.target f.tree (file_read c.args.lang bytes c.in-Read.file f.tree is c.in-Ok-named_for.ensures.same) f.known (serves_read c.args.lang bytes c.in-Read.file f.tree f.known c.in-Ok.pattern is c.in-Ok-named_for.ensures.same c.in-Ok-named_for.ensures.serves) _ _ (c.print_members.ensures.front_written e)

pub returns-clause-whole_lines : goal.returns-clause-whole_lines
returns-clause-whole_lines g c e =
    let bytes = c.in-Ok-read_target.bytes.items in
    let f = c.in-Ok-named_for.named in
    let is = subst (λ (l : List ℕ). IsOpened IsTree c.args.lang l (opened.Read c.in-Read.file)) c.from_vec.ensures (subst (λ (x : Opened). IsOpened IsTree c.args.lang c.from_vec.result x) c.in-Read.is c.in-Ok-open_file.ensures.opened) in
    some_of_search c.args.lang c.args.text.now c.in-Ok.pattern c.in-Ok.ensures.pattern _ bytes c.in-Ok-read_target.ensures.target f.tree (file_read c.args.lang bytes c.in-Read.file f.tree is c.in-Ok-named_for.ensures.same) f.known (serves_read c.args.lang bytes c.in-Read.file f.tree f.known c.in-Ok.pattern is c.in-Ok-named_for.ensures.same c.in-Ok-named_for.ensures.serves) _ _ (c.print_members.ensures.whole_lines e)

pub returns-clause-cause : goal.returns-clause-cause
returns-clause-cause g c = of_search c.print_members.result c.print_members.ensures.cause

pub returns-clause-work : goal.returns-clause-work
returns-clause-work g c = search_steps c.print_members.result c.args.steps.now c.open_file.new.steps c.print_members.new.steps c.print_members.ensures.cause c.in-Ok-open_file.ensures.one_step c.print_members.ensures.one_step
