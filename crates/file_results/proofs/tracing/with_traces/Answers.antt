use Rattle.std.proofs.Common.{◌≡◌, Bool, true, false, List, refl, sym, subst}
use Rattle.std.specs.Prelude.{Option}
use Rattle.std.specs.BTreeSet.{contains}
use Rattle.std.specs.Ordering.{nat_cmp}
use Rattle.node_tree.specs.declared.view.FileView.{FileView}
use Rattle.tree_match.specs.Members.{known_tree}
use Rattle.file_results.specs.declared.tracing.Followed.{Followed}
use Rattle.file_results.specs.Followed.{AreTraced, AreFoundHits, AreFollowedRules, IsWanted}
use Rattle.file_results.specs.Looking.{named_leaf}
use Rattle.file_results.specs.Tracing.{HasTrace}
use Rattle.file_results.proofs.Traces.{all_traced}
use Rattle.file_results.proofs.Followed.{wanted_as, none_wanted, untraced}
use Rattle.file_results.proofs.tracing.with_traces.Goals as goal

pub returns-then-not-traced-clause-traced : goal.returns-then-not-traced-clause-traced
returns-then-not-traced-clause-traced g c =
    let v = c.args.file.now in
    let T : Bool → Type 0 = λ t. AreTraced (HasTrace t (named_leaf v.known) c.args.running.now v.lang v.bytes v.tree) c.args.bares c.args.bares in
    subst T (sym c.if-not-traced.true) (all_traced (HasTrace false (named_leaf v.known) c.args.running.now v.lang v.bytes v.tree) c.args.bares (λ b a. refl))

pub returns-then-is_empty-clause-traced : goal.returns-then-is_empty-clause-traced
returns-then-is_empty-clause-traced g c =
    let v = c.args.file.now in
    let rules = c.args.running.now in
    let hs = c.args.rows.now in
    let T : Bool → Type 0 = λ t. AreTraced (HasTrace t (named_leaf v.known) rules v.lang v.bytes v.tree) c.args.bares c.args.bares in
    let none = none_wanted rules hs c.in_ok-wanted.wanted (c.if-is_empty.ensures.0 refl) c.in_ok-wanted.ensures in
    subst T (sym c.if-not-traced.false) (untraced (named_leaf v.known) v.lang v.bytes v.tree rules hs c.args.bares c.requires.bares none)

pub trace_rows-requires-clause-followed : goal.trace_rows-requires-clause-followed
trace_rows-requires-clause-followed g c =
    let v = c.args.file.now in
    let rules = c.args.running.now in
    let hs = c.args.rows.now in
    let P : List (List (Option Followed)) → Type 0 = λ fs. AreFollowedRules v.lang v.bytes (known_tree v) rules (IsWanted hs) fs in
    let K : FileView → Type 0 = λ w. AreFollowedRules w.lang w.bytes (known_tree w) rules (IsWanted hs) c.as_slice-parts.result.now in
    subst K (sym c.follow_rules.ensures.kept) (subst P (sym c.as_slice-parts.ensures) (wanted_as v.lang v.bytes (known_tree v) rules (λ n. contains nat_cmp c.in_ok-wanted.wanted n ≡ true) (IsWanted hs) c.in_ok-followed.followed c.in_ok-followed.ensures.followed (λ n w. (c.in_ok-wanted.ensures n).1 w)))

pub trace_rows-requires-in-None-clause-followed : goal.trace_rows-requires-in-None-clause-followed
trace_rows-requires-in-None-clause-followed g c =
    let v = c.args.file.now in
    let rules = c.args.running.now in
    let hs = c.args.rows.now in
    let P : List (List (Option Followed)) → Type 0 = λ fs. AreFollowedRules v.lang v.bytes (known_tree v) rules (IsWanted hs) fs in
    let K : FileView → Type 0 = λ w. AreFollowedRules w.lang w.bytes (known_tree w) rules (IsWanted hs) c.as_slice-parts.result.now in
    subst K (sym c.follow_rules.ensures.kept) (subst P (sym c.as_slice-parts.ensures) (wanted_as v.lang v.bytes (known_tree v) rules (λ n. contains nat_cmp c.in_ok-wanted.wanted n ≡ true) (IsWanted hs) c.in_ok-followed.followed c.in_ok-followed.ensures.followed (λ n w. (c.in_ok-wanted.ensures n).1 w)))

pub trace_rows-requires-clause-found : goal.trace_rows-requires-clause-found
trace_rows-requires-clause-found g c =
    let K : FileView → Type 0 = λ w. AreFoundHits w.lang w.bytes (known_tree w) c.args.running.now c.args.rows.now in
    subst K (sym c.follow_rules.ensures.kept) c.requires.found

pub trace_rows-requires-in-None-clause-found : goal.trace_rows-requires-in-None-clause-found
trace_rows-requires-in-None-clause-found g c =
    let K : FileView → Type 0 = λ w. AreFoundHits w.lang w.bytes (known_tree w) c.args.running.now c.args.rows.now in
    subst K (sym c.follow_rules.ensures.kept) c.requires.found
