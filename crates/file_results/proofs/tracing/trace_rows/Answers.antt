use Rattle.std.proofs.Common.{◌≡◌, ◌<◌, ◌+◌, true, List, length, reverse, drop, refl, sym, ap, ◌∙◌, subst, arith, rules}
use Rattle.std.specs.Prelude.{Option, IsSome, Some, slice_get}
use Rattle.std.proofs.lemmas.List.{drop_all, reverse-reverse}
use Rattle.std.proofs.lemmas.Option.{slice_get_read, slice_get_within}
use Rattle.meta_bind.specs.declared.finding.Finding.{Finding}
use Rattle.meta_bind.proofs.Lookups.{opened}
use Rattle.node_match.proofs.Sets.{among_at}
use Rattle.report_form.specs.declared.report.Reported.{Reported}
use Rattle.rule_form.specs.declared.rule.Rule.{Rule}
use Rattle.tree_match.specs.Members.{known_tree}
use Rattle.running_rules.proofs.Members.{one_there}
use Rattle.file_results.specs.declared.tracing.Followed.{Followed}
use Rattle.file_results.specs.Followed.{AreOfHits, AreFollowedParts, RuleHas}
use Rattle.file_results.specs.Looking.{named_leaf}
use Rattle.file_results.specs.Tracing.{HasTrace}
use Rattle.file_results.proofs.Traces.{trace_start, trace_on, trace_end}
use Rattle.file_results.proofs.Followed.{turned_first, next_of, some_left, none_of, trace_by_rule}
use Rattle.file_results.proofs.tracing.trace_rows.Goals as goal

pub loop-row-init : goal.loop-row-init
loop-row-init c =
    let v = c.args.file.now in
    let rules = c.args.running.now in
    let hs = c.args.rows.now in
    let e : reverse c.reverse.new.self ≡ c.args.bares = ap (λ (xs : List Reported). reverse xs) c.reverse.ensures ∙ reverse-reverse c.args.bares in
    let P : List Reported → Type 0 = λ rs. AreOfHits rules hs rs in
    (subst P (sym e) c.requires.bares, trace_start (HasTrace true (named_leaf v.known) rules v.lang v.bytes v.tree) c.args.bares (reverse c.reverse.new.self) c.new-traced.result c.new-traced.ensures e)

pub unreachable-requires : goal.unreachable-requires
unreachable-requires c =
    let hs = c.args.rows.now in
    let i = c.loop-row.row-index in
    let h = c.row-item.result in
    some_left c.args.running.now h (drop (i + 1) hs) (drop i hs) (reverse c.loop-row.bares) c.loop-row.invariant.0 (opened hs i h c.loop-row-test.true c.row-item.is) (ap (λ (xs : List Reported). reverse xs) c.in_default.ensures.0)

pub bounds-running-number : goal.bounds-running-number
bounds-running-number c =
    let hs = c.args.rows.now in
    let f = c.requires.found c.row-item.result (among_at hs c.loop-row.row-index c.row-item.result c.loop-row-test.true c.row-item.is) in
    let lt = slice_get_within c.args.running.now c.row-item.result.number f.0 f.1 in
    let e = c.number-number.ensures in
    omega (arith, lt, e)

pub offset_bounds-running-number : goal.offset_bounds-running-number
offset_bounds-running-number c =
    let hs = c.args.rows.now in
    let f = c.requires.found c.row-item.result (among_at hs c.loop-row.row-index c.row-item.result c.loop-row-test.true c.row-item.is) in
    let lt = slice_get_within c.args.running.now c.row-item.result.number f.0 f.1 in
    let e = c.number-number.ensures in
    let within : c.number-number.result < length c.args.running.now = omega (arith, lt, e) in
    search rules

pub bounds-followed-number : goal.bounds-followed-number
bounds-followed-number c =
    let hs = c.args.rows.now in
    let f = c.requires.found c.row-item.result (among_at hs c.loop-row.row-index c.row-item.result c.loop-row-test.true c.row-item.is) in
    let lt = slice_get_within c.args.running.now c.row-item.result.number f.0 f.1 in
    let e = c.number-number.ensures in
    let many = c.requires.followed.many in
    omega (arith, lt, e, many)

pub offset_bounds-followed-number : goal.offset_bounds-followed-number
offset_bounds-followed-number c =
    let hs = c.args.rows.now in
    let f = c.requires.found c.row-item.result (among_at hs c.loop-row.row-index c.row-item.result c.loop-row-test.true c.row-item.is) in
    let lt = slice_get_within c.args.running.now c.row-item.result.number f.0 f.1 in
    let e = c.number-number.ensures in
    let many = c.requires.followed.many in
    let within : c.number-number.result < length c.args.followed.now = omega (arith, lt, e, many) in
    search rules

pub with_trace-requires-clause-parts : goal.with_trace-requires-clause-parts
with_trace-requires-clause-parts c = λ comes.
    let v = c.args.file.now in
    let rules = c.args.running.now in
    let hs = c.args.rows.now in
    let fs = c.args.followed.now in
    let i = c.loop-row.row-index in
    let h = c.row-item.result in
    let r = c.index-running-number.result in
    let parts = c.index-followed-number.result in
    let among = among_at hs i h c.loop-row-test.true c.row-item.is in
    let f = c.requires.found h among in
    let lt = slice_get_within rules h.number f.0 f.1 in
    let e = c.number-number.ensures in
    let many = c.requires.followed.many in
    let at : slice_get rules h.number ≡ Some r = ap (slice_get rules) (sym e) ∙ slice_get_read rules (length rules) c.number-number.result r refl (omega (arith, lt, e)) c.index-running-number.is in
    let there : slice_get fs h.number ≡ Some parts = ap (slice_get fs) (sym e) ∙ slice_get_read fs (length fs) c.number-number.result parts refl (omega (arith, lt, e, many)) c.index-followed-number.is in
    let n = next_of rules h (drop (i + 1) hs) (drop i hs) (reverse c.loop-row.bares) (reverse c.pop.new.self) c.in-Some.bare c.loop-row.invariant.0 (opened hs i h c.loop-row-test.true c.row-item.is) (turned_first c.loop-row.bares c.pop.new.self c.in-Some.bare c.in-Some.ensures) in
    let S : Finding → Type 0 = λ x. IsSome x.source in
    let P : List (Option Followed) → Type 0 = λ xs. AreFollowedParts v.lang r.texts v.bytes (known_tree v) r.parts xs in
    subst P (sym c.as_slice-parts.ensures) (c.requires.followed.each h.number r parts at there (h, among, refl, subst S n.3 comes))

pub with_trace-requires-clause-found : goal.with_trace-requires-clause-found
with_trace-requires-clause-found c = λ comes.
    let v = c.args.file.now in
    let rules = c.args.running.now in
    let hs = c.args.rows.now in
    let i = c.loop-row.row-index in
    let h = c.row-item.result in
    let r = c.index-running-number.result in
    let among = among_at hs i h c.loop-row-test.true c.row-item.is in
    let f = c.requires.found h among in
    let lt = slice_get_within rules h.number f.0 f.1 in
    let e = c.number-number.ensures in
    let at : slice_get rules h.number ≡ Some r = ap (slice_get rules) (sym e) ∙ slice_get_read rules (length rules) c.number-number.result r refl (omega (arith, lt, e)) c.index-running-number.is in
    let n = next_of rules h (drop (i + 1) hs) (drop i hs) (reverse c.loop-row.bares) (reverse c.pop.new.self) c.in-Some.bare c.loop-row.invariant.0 (opened hs i h c.loop-row-test.true c.row-item.is) (turned_first c.loop-row.bares c.pop.new.self c.in-Some.bare c.in-Some.ensures) in
    let R : Rule → Type 0 = λ x. RuleHas v.lang v.bytes (known_tree v) x h.finding in
    let F : Finding → Type 0 = λ x. RuleHas v.lang v.bytes (known_tree v) r x in
    subst F (sym n.3) (subst R (one_there rules h.number h.number f.0 r f.1 at refl) f.2)

pub loop-row-preserved : goal.loop-row-preserved
loop-row-preserved c =
    let v = c.args.file.now in
    let rules = c.args.running.now in
    let hs = c.args.rows.now in
    let i = c.loop-row.row-index in
    let h = c.row-item.result in
    let r = c.index-running-number.result in
    let bare = c.in-Some.bare in
    let among = among_at hs i h c.loop-row-test.true c.row-item.is in
    let f = c.requires.found h among in
    let lt = slice_get_within rules h.number f.0 f.1 in
    let e = c.number-number.ensures in
    let at : slice_get rules h.number ≡ Some r = ap (slice_get rules) (sym e) ∙ slice_get_read rules (length rules) c.number-number.result r refl (omega (arith, lt, e)) c.index-running-number.is in
    let first = turned_first c.loop-row.bares c.pop.new.self bare c.in-Some.ensures in
    let n = next_of rules h (drop (i + 1) hs) (drop i hs) (reverse c.loop-row.bares) (reverse c.pop.new.self) bare c.loop-row.invariant.0 (opened hs i h c.loop-row-test.true c.row-item.is) first in
    let id : bare.id ≡ r.id = n.2 ∙ ap (λ (x : Rule). x.id) (one_there rules h.number h.number n.0 r n.1 at refl) in (
      n.4,
      trace_on (HasTrace true (named_leaf v.known) rules v.lang v.bytes v.tree) c.args.bares c.loop-row.traced c.push.new.self (reverse c.loop-row.bares) (reverse c.pop.new.self) bare c.in_ok-with_trace.field-0 c.loop-row.invariant.1 first
          (trace_by_rule v.lang v.bytes (known_tree v) rules h.number r bare c.in_ok-with_trace.field-0 at id c.in_ok-with_trace.ensures) c.in_ok-push.ensures.ok,
    )

pub returns : goal.returns
returns c =
    let v = c.args.file.now in
    let rules = c.args.running.now in
    let hs = c.args.rows.now in
    let i = c.loop-row.row-index in
    let left = reverse c.loop-row.bares in
    trace_end (HasTrace true (named_leaf v.known) rules v.lang v.bytes v.tree) c.args.bares c.loop-row.traced left c.loop-row.invariant.1 (none_of rules (drop i hs) left c.loop-row.invariant.0 (drop_all i hs c.loop-row-test.false))
