-- The orders of findings and of results, and that the first tells findings apart.
use Rattle.std.proofs.Common.{◌≡◌, ℕ, List, refl, ap, ◌∙◌}
use Rattle.std.specs.Prelude.{Option, None, Some}
use Rattle.std.specs.Option.{option_cmp}
use Rattle.std.specs.Cmp.Lexicographic.{options_total}
use Rattle.std.specs.declared.cmp.Ordering.TheVariants.{Equal}
use Rattle.std.specs.Ordering.{ordering_then, nat_cmp}
use Rattle.std.specs.Cmp.{IsTotalOrder}
use Rattle.std.proofs.lemmas.Cmp.{nat_cmp_total, on_total, then_total}
use Rattle.node_tree.specs.declared.span.Span.{Span}
use Rattle.node_tree.specs.Span.{span_cmp}
use Rattle.node_tree.proofs.Orders.{nat_order, span_order, then_first, then_second}
use Rattle.meta_bind.specs.declared.bound.Bound.{Bound}
use Rattle.meta_bind.specs.declared.finding.Finding.{Finding}
use Rattle.meta_bind.specs.Bounds.{name_cmp, binding_cmp}
use Rattle.meta_bind.proofs.BindingOrder.{binding_order}
use Rattle.meta_bind.proofs.Chains.{span_chains, binding_chains}
use Rattle.sorted_sets.specs.Orders.{total_of}
use Rattle.report_form.specs.declared.report.Reported.{Reported}
use Rattle.file_results.specs.Reports.{bound_cmp, reported_cmp}
use Rattle.file_results.specs.Hits.{Hit, hit_cmp}
use Rattle.running_rules.specs.NoteOrder.{name_total, name_same}

span_total : IsTotalOrder span_cmp
span_total = total_of span_cmp span_order span_chains

binding_total : IsTotalOrder binding_cmp
binding_total = total_of binding_cmp binding_order binding_chains

bound_total : IsTotalOrder bound_cmp
bound_total = then_total (on_total (λ (f : Finding). f.binding) binding_total) (on_total (λ (f : Finding). f.source) (options_total span_total))

pub reported_total : IsTotalOrder reported_cmp
reported_total =
    then_total (on_total (λ (r : Reported). r.path) name_total) (then_total (on_total (λ (r : Reported). r.finding.span) span_total)
    (then_total (on_total (λ (r : Reported). r.id) name_total) (on_total (λ (r : Reported). r.finding) bound_total)))

pub hit_total : IsTotalOrder hit_cmp
hit_total =
    then_total (on_total (λ (h : Hit). h.finding.span) span_total) (then_total (on_total (λ (h : Hit). h.id) name_total)
    (then_total (on_total (λ (h : Hit). h.finding) bound_total) (on_total (λ (h : Hit). h.number) nat_cmp_total)))

source_same : (a b : Option Span) → option_cmp span_cmp a b ≡ Equal → a ≡ b
source_same None None e = refl
source_same None (Some b) e = absurd cc
source_same (Some a) None e = absurd cc
source_same (Some a) (Some b) e = ap (λ (s : Span). Some s) (span_order.same a b e)

finding_same : (f g : Finding) → f.span ≡ g.span → bound_cmp f g ≡ Equal → f ≡ g
finding_same f g spans e =
    let a = binding_cmp f.binding g.binding in
    let b = option_cmp span_cmp f.source g.source in
    let f1 : Span → Finding = λ x. record { span = x; binding = f.binding; source = f.source } in
    let f2 : List Bound → Finding = λ x. record { span = g.span; binding = x; source = f.source } in
    let f3 : Option Span → Finding = λ x. record { span = g.span; binding = g.binding; source = x } in
    ap f1 spans ∙ ap f2 (binding_order.same f.binding g.binding (then_first a b e)) ∙ ap f3 (source_same f.source g.source (then_second a b e))

pub hit_apart : (g h : Hit) → hit_cmp g h ≡ Equal → g ≡ h
hit_apart g h e =
    let a = span_cmp g.finding.span h.finding.span in
    let b = name_cmp g.id h.id in
    let c = bound_cmp g.finding h.finding in
    let d = nat_cmp g.number h.number in
    let e1 = then_second a (ordering_then b (ordering_then c d)) e in
    let e2 = then_second b (ordering_then c d) e1 in
    let spans = span_order.same g.finding.span h.finding.span (then_first a (ordering_then b (ordering_then c d)) e) in
    let id = name_same g.id h.id (then_first b (ordering_then c d) e1) in
    let finding = finding_same g.finding h.finding spans (then_first c d e2) in
    let number = nat_order.same g.number h.number (then_second c d e2) in
    let f1 : ℕ → Hit = λ x. record { number = x; id = g.id; finding = g.finding } in
    let f2 : List ℕ → Hit = λ x. record { number = h.number; id = x; finding = g.finding } in
    let f3 : Finding → Hit = λ x. record { number = h.number; id = h.id; finding = x } in
    ap f1 number ∙ ap f2 id ∙ ap f3 finding
