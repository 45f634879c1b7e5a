use Rattle.std.proofs.Common.{◌≡◌, List, [], sym, ap, ◌∙◌, subst}
use Rattle.std.specs.Prelude.{reverse, Option, None, Some, MatchOption, IfSome}
use Rattle.std.proofs.lemmas.List.{reverse-reverse}
use Rattle.report_form.specs.declared.report.Reported.{Reported}
use Rattle.file_results.specs.HitOrder.{reported_total}
use Rattle.file_results.specs.Reports.{reported_cmp}
use Rattle.seen_files.specs.Merging.{Merges}
use Rattle.seen_files.proofs.Merges.{all_merged, merging_none, merging_on, merging_end}
use Rattle.seen_files.proofs.merging.merged.Goals as goal

if_none : {X : Type 0} (o : Option X) (A : Type 0) (B : X → Type 0) → o ≡ None → MatchOption o A B → A
if_none None A B e h = h
if_none (Some x) A B e h = absurd cc

if_some : {X : Type 0} (o : Option X) (x : X) (A : Type 0) (B : X → Type 0) → o ≡ Some x → MatchOption o A B → B x
if_some {X} o x A B e h = let P : Option X → Type 0 = λ p. MatchOption p A B in subst P e h

some_of : {X : Type 0} (o : Option X) (x : X) (B : Type 0) → o ≡ Some x → IfSome o (λ y. B) → B
some_of {X} o x B e h = let P : Option X → Type 0 = λ p. IfSome p (λ y. B) in subst P e h

pub loop-all-init : goal.loop-all-init
loop-all-init c = merging_none reported_cmp c.reverse.new.self c.reverse-2.new.self c.new-all.result c.new-all.ensures

pub loop-all-preserved : goal.loop-all-preserved
loop-all-preserved c =
    merging_on reported_cmp (reverse c.reverse.new.self) (reverse c.reverse-2.new.self) c.loop-all.all c.loop-all.first c.loop-all.second c.take_first.new.first c.take_first.new.second c.push.new.self c.in-Some.one c.loop-all.invariant c.in_ok-push.ensures.ok
    (if_some c.in_ok-one.field-0 c.in-Some.one _ _ c.in-Some.is c.in_ok-one.ensures.taken)

pub loop-all-smaller : goal.loop-all-smaller
loop-all-smaller c = some_of c.in_ok-one.field-0 c.in-Some.one _ c.in-Some.is c.in_ok-one.ensures.shorter

pub returns : goal.returns
returns c able =
    let none = if_none c.in_ok-one.field-0 _ _ c.in_default.is c.in_ok-one.ensures.taken in
    let m = merging_end reported_cmp (reverse c.reverse.new.self) (reverse c.reverse-2.new.self) c.loop-all.all c.loop-all.first c.loop-all.second c.loop-all.invariant none.0 none.1 in
    let first : reverse c.reverse.new.self ≡ c.args.first = ap reverse c.reverse.ensures ∙ reverse-reverse c.args.first in
    let second : reverse c.reverse-2.new.self ≡ c.args.second = ap reverse c.reverse-2.ensures ∙ reverse-reverse c.args.second in
    let P : List Reported → Type 0 = λ xs. Merges reported_cmp xs (reverse c.reverse-2.new.self) c.loop-all.all in
    let Q : List Reported → Type 0 = λ ys. Merges reported_cmp c.args.first ys c.loop-all.all in
    all_merged reported_cmp reported_total c.args.first c.args.second c.loop-all.all (subst Q second (subst P first m)) able
