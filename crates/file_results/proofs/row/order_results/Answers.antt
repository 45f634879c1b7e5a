use Rattle.std.proofs.Common.{◌≡◌, ℕ, List, refl, sym, ap, ◌∙◌}
use Rattle.std.specs.Ordering.{ordering_then, nat_cmp}
use Rattle.std.specs.declared.cmp.Ordering.{Ordering}
use Rattle.std.specs.declared.cmp.Ordering.TheVariants.{Less, Equal, Greater}
use Rattle.std.proofs.lemmas.Cmp.{nat_cmp_total, tied_itself}
use Rattle.node_tree.specs.Span.{span_cmp}
use Rattle.meta_bind.specs.Bounds.{name_cmp}
use Rattle.report_form.specs.declared.report.Reported.{Reported}
use Rattle.file_results.specs.Hits.{Hit, hit_cmp}
use Rattle.file_results.specs.Reports.{bound_cmp, reported_cmp}
use Rattle.file_results.proofs.row.order_results.Goals as goal

then_equal : (a : Ordering) → ordering_then a Equal ≡ a
then_equal Less = refl
then_equal Equal = refl
then_equal Greater = refl

abbrev hit_of : Reported → Hit
hit_of r = record { number = 0; id = r.id; finding = r.finding }

-- of one path it is the order of the findings of rules with those ids
by_hits : (a b : Reported) (g h : Hit) → g ≡ hit_of a → h ≡ hit_of b → Equal ≡ name_cmp a.path b.path → hit_cmp g h ≡ reported_cmp a b
by_hits a b g h e f path =
    let s = span_cmp a.finding.span b.finding.span in
    let i = name_cmp a.id b.id in
    let c = bound_cmp a.finding b.finding in
    ap (λ (x : Hit). hit_cmp x h) e ∙ ap (hit_cmp (hit_of a)) f
    ∙ ap (λ (o : Ordering). ordering_then s (ordering_then i (ordering_then c o))) (tied_itself nat_cmp_total 0)
    ∙ ap (λ (o : Ordering). ordering_then s (ordering_then i o)) (then_equal c)
    ∙ ap (λ (o : Ordering). ordering_then o (ordering_then s (ordering_then i c))) path

pub returns : goal.returns
returns c =
    let named : Reported → List ℕ → Hit = λ r id. record { number = 0; id = id; finding = r.finding } in
    c.order.ensures ∙ by_hits c.args.a.now c.args.b.now _ _ (c.in_ok-one.ensures ∙ ap (named c.args.a.now) c.as_str-3.ensures) (c.in_ok-other.ensures ∙ ap (named c.args.b.now) c.as_str-4.ensures)
    (sym c.in-Equal.is ∙ c.cmp.ensures ∙ ap (λ (p : List ℕ). name_cmp p c.as_str-2.result.now) c.as_str.ensures ∙ ap (name_cmp c.args.a.now.path) c.as_str-2.ensures)
