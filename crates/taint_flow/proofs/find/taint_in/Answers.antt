use Rattle.std.proofs.Common.{◌∙◌, Err, length, ap, refl, sym}
use Rattle.std.proofs.lemmas.Option.{slice_get_read}
use Rattle.taint_flow.proofs.Hits.{one_list}
use Rattle.taint_flow.proofs.Scoped.{so_far_more, scope_is, all_hits, none_large, first_large}
use Rattle.taint_flow.proofs.find.taint_in.Goals as goal

pub loop-scope-preserved : goal.loop-scope-preserved
loop-scope-preserved c =
    let root = c.args.root.now in
    let sets = c.args.sets.now in
    let scopes = c.args.scopes.now in
    let i = c.loop-scope.scope-index in
    let scope = c.scope-item.result in
    let at = slice_get_read scopes (length scopes) i scope refl c.loop-scope-test.true c.scope-item.is in
    let is = scope_is root sets scopes c.requires.scopes c.args.tree.now i scope c.requires.tree at in
    so_far_more root sets scopes i scope c.loop-scope.least.sources.items c.search_unit.new.least.sources.items at c.loop-scope.invariant (c.in_ok-search_unit.ensures.notes root is) (c.in_ok-search_unit.ensures.fits root is)

pub returns-in_err-search_unit-clause-large : goal.returns-in_err-search_unit-clause-large
returns-in_err-search_unit-clause-large c at e =
    let root = c.args.root.now in
    let sets = c.args.sets.now in
    let scopes = c.args.scopes.now in
    let i = c.loop-scope.scope-index in
    let scope = c.scope-item.result in
    let there = slice_get_read scopes (length scopes) i scope refl c.loop-scope-test.true c.scope-item.is in
    let is = scope_is root sets scopes c.requires.scopes c.args.tree.now i scope c.requires.tree there in
    let q = rw e at c.from_residual-in_err-search_unit.ensures.1 in
    let large = c.search_unit.ensures.large at root (c.in_err-search_unit.was ∙ ap Err (sym q)) is in
    first_large root sets scopes c.requires.scopes i scope c.loop-scope.least.sources.items at there c.loop-scope.invariant large.0 large.1

pub returns-clause-hits : goal.returns-clause-hits
returns-clause-hits c = all_hits c.args.root.now c.args.sets.now c.args.scopes.now c.requires.scopes c.loop-scope.scope-index c.loop-scope.least.sources.items c.in_ok-hits.hits c.loop-scope-test.false c.loop-scope.invariant c.in_ok-hits.ensures

pub returns-clause-only : goal.returns-clause-only
returns-clause-only c hits is = one_list c.args.root.now c.args.sets.now hits c.in_ok-hits.hits is (returns-clause-hits c)

pub returns-clause-fits : goal.returns-clause-fits
returns-clause-fits c = none_large c.args.root.now c.args.sets.now c.args.scopes.now c.requires.scopes c.loop-scope.scope-index c.loop-scope.least.sources.items c.loop-scope-test.false c.loop-scope.invariant
