use Rattle.std.proofs.Common.{◌<◌, ◌≤◌, ◌∙◌, List, Err, ap, arith, subst, sym}
use Rattle.graph_form.specs.declared.graph.Point.{Point}
use Rattle.taint_tables.specs.Censuses.{IsCensus}
use Rattle.taint_flow.proofs.Scoped.{size_by_points, size_by_census, nothing_hit}
use Rattle.taint_flow.proofs.find.counted.Goals as goal

pub returns-in_err-check_size-clause-large : goal.returns-in_err-check_size-clause-large
returns-in_err-check_size-clause-large c at root e is =
    let q = rw e at c.from_residual.ensures.1 in
    let was = c.in_err-check_size.was ∙ ap Err (sym q) in
    let size = size_by_points root c.args.tree.now c.args.scope.now c.args.rule.now.sets.now c.as_slice-points.result.now c.as_slice-points.ensures (omega (arith, c.len.ensures, c.if-len-eq0.true)) is in
    (subst (λ n. 50000000 < n) (sym size) (c.check_size.ensures.large at was), c.check_size.ensures.start at root was is.nodes_are)

pub returns-then-len-eq0-clause-fits : goal.returns-then-len-eq0-clause-fits
returns-then-len-eq0-clause-fits c root is =
    let size = size_by_points root c.args.tree.now c.args.scope.now c.args.rule.now.sets.now c.as_slice-points.result.now c.as_slice-points.ensures (omega (arith, c.len.ensures, c.if-len-eq0.true)) is in
    subst (λ n. n ≤ 50000000) (sym size) c.in_ok-check_size.ensures.fits

pub returns-in_err-check_size-2-clause-large : goal.returns-in_err-check_size-2-clause-large
returns-in_err-check_size-2-clause-large c at root e is =
    let q = rw e at c.from_residual-in_err-check_size-2.ensures.1 in
    let was = c.in_err-check_size-2.was ∙ ap Err (sym q) in
    let size = size_by_census root c.args.tree.now c.args.scope.now c.args.rule.now.sets.now c.as_slice-points.result.now c.in_ok-census.census c.len-names.result c.len-sources.result (record { points_are = c.as_slice-points.ensures; census_is = c.in_ok-census.ensures _ c.requires.sources; name_count = c.len-names.ensures; source_count = c.len-sources.ensures }) is in
    (subst (λ n. 50000000 < n) (sym size) (c.check_size-2.ensures.large at was), c.check_size-2.ensures.start at root was is.nodes_are)

pub returns-then-len-eq0-2-clause-fits : goal.returns-then-len-eq0-2-clause-fits
returns-then-len-eq0-2-clause-fits c root is =
    let size = size_by_census root c.args.tree.now c.args.scope.now c.args.rule.now.sets.now c.as_slice-points.result.now c.in_ok-census.census c.len-names.result c.len-sources.result (record { points_are = c.as_slice-points.ensures; census_is = c.in_ok-census.ensures _ c.requires.sources; name_count = c.len-names.ensures; source_count = c.len-sources.ensures }) is in
    subst (λ n. n ≤ 50000000) (sym size) c.in_ok-check_size-2.ensures.fits

pub returns-then-sources-eq0-clause-census : goal.returns-then-sources-eq0-clause-census
returns-then-sources-eq0-clause-census c root sink source is = nothing_hit root c.args.tree.now c.args.scope.now c.args.rule.now.sets.now c.as_slice-points.result.now c.in_ok-census.census c.len-names.result c.len-sources.result (record { points_are = c.as_slice-points.ensures; census_is = c.in_ok-census.ensures _ c.requires.sources; name_count = c.len-names.ensures; source_count = c.len-sources.ensures }) is c.if-sources-eq0.true sink source

pub returns-then-sources-eq0-clause-fits : goal.returns-then-sources-eq0-clause-fits
returns-then-sources-eq0-clause-fits c root is =
    let size = size_by_census root c.args.tree.now c.args.scope.now c.args.rule.now.sets.now c.as_slice-points.result.now c.in_ok-census.census c.len-names.result c.len-sources.result (record { points_are = c.as_slice-points.ensures; census_is = c.in_ok-census.ensures _ c.requires.sources; name_count = c.len-names.ensures; source_count = c.len-sources.ensures }) is in
    subst (λ n. n ≤ 50000000) (sym size) c.in_ok-check_size-2.ensures.fits

pub returns-clause-census : goal.returns-clause-census
returns-clause-census c =
    let C : List Point → Type 0 = λ ps. IsCensus c.args.tree.now c.args.scope.now.unit ps c.args.rule.now.sets.now.sources c.in_ok-census.census in
    subst C c.as_slice-points.ensures (c.in_ok-census.ensures _ c.requires.sources)

pub returns-clause-fits : goal.returns-clause-fits
returns-clause-fits c root is =
    let size = size_by_census root c.args.tree.now c.args.scope.now c.args.rule.now.sets.now c.as_slice-points.result.now c.in_ok-census.census c.len-names.result c.len-sources.result (record { points_are = c.as_slice-points.ensures; census_is = c.in_ok-census.ensures _ c.requires.sources; name_count = c.len-names.ensures; source_count = c.len-sources.ensures }) is in
    subst (λ n. n ≤ 50000000) (sym size) c.in_ok-check_size-2.ensures.fits
