-- Findings of one file before they are put in order.
use Rattle.std.specs.Prelude.{ℕ, List, refl}
use Rattle.std.specs.Coded.{Coded, code_by, coded×, coded_ℕ, coded_list}
use Rattle.std.specs.declared.cmp.Ordering.{Ordering}
use Rattle.std.specs.Ordering.{ordering_then, nat_cmp}
use Rattle.node_tree.specs.Span.{span_cmp}
use Rattle.meta_bind.specs.declared.finding.Finding.{Finding}
use Rattle.meta_bind.specs.contracts.finding.Finding as findings
use Rattle.meta_bind.specs.Bounds.{name_cmp}
use Rattle.file_results.specs.Reports.{bound_cmp}

-- a finding, and the id and the number of its rule among those that run
pub record Hit : Type 0 where
  pub number : ℕ
  pub id : List ℕ
  pub finding : Finding

abbrev pub hit_code : Coded Hit
hit_code =
    code_by (ℕ × (List ℕ × Finding)) (coded× coded_ℕ (coded× (coded_list coded_ℕ) findings.the_row.coded)) (λ h. (h.number, (h.id, h.finding))) (λ p. record { number = p.0; id = p.1.0; finding = p.1.1 }) (λ _. refl)

-- by range, then rule, then binding, then source; the number tells the rest apart
abbrev pub hit_cmp : Hit → Hit → Ordering
hit_cmp g h =
    ordering_then (span_cmp g.finding.span h.finding.span) (ordering_then (name_cmp g.id h.id) (ordering_then (bound_cmp g.finding h.finding) (nat_cmp g.number h.number)))
