-- The results of a report are in the order in which fixes are chosen.
use Rattle.std.proofs.Common.{◌≡◌, ℕ, zero, suc, ◌<◌, false, List, [], ◌∷◌, length, get_or, refl, sym, ap, ◌∙◌, subst, arith, add-one}
use Rattle.std.specs.declared.cmp.Ordering.{Ordering}
use Rattle.std.specs.declared.cmp.Ordering.TheVariants.{Less, Equal, Greater}
use Rattle.std.specs.Ordering.{is_lt, ordering_then, ordering_reverse}
use Rattle.std.specs.Cmp.{IsTotalOrder}
use Rattle.std.proofs.lemmas.Cmp.{on_total, then_total}
use Rattle.node_tree.specs.Span.{span_cmp}
use Rattle.node_tree.proofs.Orders.{span_order}
use Rattle.meta_bind.specs.Bounds.{name_cmp}
use Rattle.meta_bind.proofs.Chains.{span_chains}
use Rattle.sorted_sets.specs.Orders.{total_of}
use Rattle.tree_match.specs.Ascending.{IsAscending}
use Rattle.report_form.specs.declared.report.Reported.{Reported}
use Rattle.fix_apply.specs.Order.{place_cmp, AreInOrder}
use Rattle.file_results.specs.Reports.{bound_cmp, reported_cmp}
use Rattle.running_rules.specs.NoteOrder.{name_total}

place_total : IsTotalOrder place_cmp
place_total = then_total (on_total (λ (r : Reported). r.path) name_total) (on_total (λ (r : Reported). r.finding.span) (total_of span_cmp span_order span_chains))

-- a result that comes before another by all comes before it by path and range, or stands with it there
not_behind : (r s : Reported) → reported_cmp r s ≡ Less → is_lt (place_cmp s r) ≡ false
not_behind r s e = ap is_lt (place_total.antisymm s r) ∙ turned (name_cmp r.path s.path) (span_cmp r.finding.span s.finding.span) (ordering_then (name_cmp r.id s.id) (bound_cmp r.finding s.finding)) e
  where
    turned : (path range rest : Ordering) → ordering_then path (ordering_then range rest) ≡ Less → is_lt (ordering_reverse (ordering_then path range)) ≡ false
    turned Less range rest e = refl
    turned Equal Less rest e = refl
    turned Equal Equal rest e = refl
    turned Equal Greater rest e = absurd cc
    turned Greater range rest e = absurd cc

adjacent : {X : Type 0} (R : X → X → Ordering) (xs : List X) (k : ℕ) (d : X) → IsAscending R xs → suc k < length xs → R (get_or xs k d) (get_or xs (suc k) d) ≡ Less
adjacent R [] k d up lt = absurd (omega arith)
adjacent R (x ∷ []) k d up lt = absurd (omega arith)
adjacent R (x ∷ y ∷ ys) zero d up lt = up.0
adjacent R (x ∷ y ∷ ys) (suc k) d up lt = adjacent R (y ∷ ys) k d up.1 (omega arith)

pub in_order : (results : List Reported) → IsAscending reported_cmp results → AreInOrder results
in_order results up k d low high =
    let P : ℕ → Type 0 = λ j. is_lt (place_cmp (get_or results j d) (get_or results k d)) ≡ false in
    subst P (sym (add-one k)) (not_behind (get_or results k d) (get_or results (suc k) d) (adjacent reported_cmp results k d up (omega arith)))
