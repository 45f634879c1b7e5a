-- Patterns, comparisons and regular expressions, as they are found.
use Rattle.std.proofs.Common.{◌≡◌, inl, inr, ℕ, List, refl, sym, ap, ◌∙◌, subst, Ok, Err}
use Rattle.std.specs.Prelude.{Result}
use Rattle.node_tree.specs.declared.view.Pattern.{Pattern}
use Rattle.code_reader.specs.Patterns.{GivesPattern}
use Rattle.code_reader.specs.declared.fault.PatternFault.{PatternFault}
use Rattle.code_reader.specs.declared.fault.PatternFault.TheVariants as faults
use Rattle.rule_form.specs.declared.comparison.Comparison.{Comparison}
use Rattle.rule_form.specs.declared.formula.Formula.{Formula}
use Rattle.meta_filter.specs.Comparisons.{IsComparisonOf}
use Rattle.rule_keys.specs.declared.fault.RuleFaultKind.TheVariants.{BadPattern, BadComparison}
use Rattle.rule_entries.specs.declared.found.Found.{Found}
use Rattle.rule_entries.specs.declared.found.Setting.{Setting}
use Rattle.rule_keys.specs.declared.stop.Stop.{Stop}
use Rattle.rule_keys.specs.declared.stop.Stop.TheVariants.{Memory, Bad}
use Rattle.rule_keys.specs.Misfits.{here}
use Rattle.rule_entries.specs.Readings.{Outcome, Only, Reads}
use Rattle.rule_entries.specs.Finds.{Writes, IsNextLeaf, IsLeaf, IsCompared, IsUnwritten}

module _ (writes : Writes) (setting : Setting) (text : List ℕ) (s : Found) where
  module _ (p : Pattern) (is : writes setting.lang text p) (one : (q : Pattern) → writes setting.lang text q → p ≡ q) where
    only_leaf : (o : Outcome Formula) → Only (IsNextLeaf setting p s) o → Only (IsLeaf writes setting text s) o
    only_leaf o h = record { is = inl (p, is, h.is); one = ones }
      where
        ones : (x : Outcome Formula) → IsLeaf writes setting text s x → x ≡ o
        ones x (inl (q, q-is, e)) = h.one x (subst (λ (z : Pattern). IsNextLeaf setting z s x) (sym (one q q-is)) e)
        ones x (inr (none, e)) = absurd (none p is)

    pub written : (r : Result Formula Stop) (t : Found) → Reads (IsNextLeaf setting p) s r t → Reads (IsLeaf writes setting text) s r t
    written (Ok f) t h = only_leaf (Ok (f, t)) h
    written (Err Memory) t h = tt
    written (Err (Bad m)) t h = only_leaf (Err m) h

  bad : ((p : Pattern) → writes setting.lang text p → ⊥) → Only (IsLeaf writes setting text s) (Err (here BadPattern))
  bad none = record { is = inr (none, refl); one = ones }
    where
      ones : (x : Outcome Formula) → IsLeaf writes setting text s x → x ≡ Err (here BadPattern)
      ones x (inl (p, is, e)) = absurd (none p is)
      ones x (inr (other, e)) = e

  stopped : (stop : Stop) (t : Found) → ((p : Pattern) → writes setting.lang text p → ⊥) → stop ≡ Bad (here BadPattern) → Reads (IsLeaf writes setting text) s (Err stop) t
  stopped stop t none e = subst (λ (z : Stop). Reads (IsLeaf writes setting text) s (Err z) t) (sym e) (bad none)

  pub unwritten : (fault : PatternFault) (stop : Stop) (t : Found) → ((p : Pattern) → writes setting.lang text p → GivesPattern p (Err fault)) → IsUnwritten fault stop → Reads (IsLeaf writes setting text) s (Err stop) t
  unwritten faults.Memory stop t only e = subst (λ (z : Stop). Reads (IsLeaf writes setting text) s (Err z) t) (sym e) tt
  unwritten faults.NoPattern stop t only e = stopped stop t only e
  unwritten faults.OnlyDots stop t only e = stopped stop t only e
  unwritten faults.DotsPlace stop t only e = stopped stop t only e

module _ (text : List ℕ) (s : Found) where
  pub compared : (c : Comparison) → IsComparisonOf text c → ((d : Comparison) → IsComparisonOf text d → c ≡ d) → Only (IsCompared text s) (Ok (c, s))
  compared c is one = record { is = inl (c, is, refl); one = ones }
    where
      ones : (x : Outcome Comparison) → IsCompared text s x → x ≡ Ok (c, s)
      ones x (inl (d, d-is, e)) = e ∙ ap (λ (z : Comparison). Ok (z, s)) (sym (one d d-is))
      ones x (inr (none, e)) = absurd (none c is)

  not_compared : ((c : Comparison) → IsComparisonOf text c → ⊥) → Only (IsCompared text s) (Err (here BadComparison))
  not_compared none = record { is = inr (none, refl); one = ones }
    where
      ones : (x : Outcome Comparison) → IsCompared text s x → x ≡ Err (here BadComparison)
      ones x (inl (c, is, e)) = absurd (none c is)
      ones x (inr (other, e)) = e

  pub uncompared : (stop : Stop) (t : Found) → ((c : Comparison) → IsComparisonOf text c → ⊥) → stop ≡ Bad (here BadComparison) → Reads (IsCompared text) s (Err stop) t
  uncompared stop t none e = subst (λ (z : Stop). Reads (IsCompared text) s (Err z) t) (sym e) (not_compared none)
