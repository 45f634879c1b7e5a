use Rattle.std.proofs.Common.{ℕ, List, length, sym, subst}
use Rattle.flow_reach.specs.Reached.{Tells}
use Rattle.taint_plan.specs.declared.goal.Goal.{Goal}
use Rattle.taint_flow.specs.Found.{AreNamed, AreOwn, ByNames}
use Rattle.taint_flow.specs.Lowest.{Lowers}
use Rattle.taint_flow.specs.Still.{BySources, KeepsFacts}
use Rattle.taint_flow.proofs.GoalsApart.{apart_done}
use Rattle.taint_flow.proofs.search.search_plan.Goals as goal

pub returns : goal.returns
returns c =
    let graph = c.args.graph.now in
    let plan = c.args.plan.now in
    let sources = c.args.sources.now in
    let split = c.in_ok-split.split in
    let own = c.in_ok-own.own.items in
    let named = c.in_ok-named.named.items in
    let old = c.args.least.now.sources.items in
    let mid = c.note_reached.new.least.sources.items in
    let new = c.search_names.new.least.sources.items in
    let e = c.in_ok-split.ensures.sources_are in
    let K : ℕ → Type 0 = λ k. KeepsFacts graph plan k in
    let O : List Goal → Type 0 = λ gs. AreOwn split.sources gs own in
    let N : List Goal → Type 0 = λ gs. AreNamed split.sources gs named in
    let F : List Goal → Type 0 = λ gs. Lowers (BySources (λ point. Tells split.reached point 0) sources gs) old mid in
    let S : List Goal → Type 0 = λ gs. Lowers (ByNames graph plan split.sources gs sources (length sources)) mid new in
    apart_done graph plan split.sources (subst K (sym e) c.requires.keeps) split.reached c.in_ok-split.ensures.reached sources (sym e) own named (subst O c.as_slice.ensures c.in_ok-own.ensures) (subst N c.as_slice-2.ensures c.in_ok-named.ensures) c.requires.goals old mid new
    (subst F c.deref.ensures.value c.note_reached.ensures) (subst S c.deref-2.ensures.value c.in_ok-search_names.ensures)
