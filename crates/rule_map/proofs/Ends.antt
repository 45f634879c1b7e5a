-- How a put of a rule file ends.
use Rattle.std.proofs.Common.{◌≡◌, ℕ, ◌<◌, ◌≤◌, Bool, true, false, List, length, refl, ap, ◌∙◌, sym, subst, arith}
use Rattle.std.specs.Prelude.{Option, None, Some, nat_lt, if◌then◌else◌}
use Rattle.std.proofs.lemmas.Bool.Decides.{nat_tests}
use Rattle.scan_world.specs.Files.{Files}
use Rattle.rule_entries.specs.Finds.{Writes}
use Rattle.rule_files.specs.declared.rule_file.RuleFile.{RuleFile}
use Rattle.file_map.specs.declared.limit.LimitKind.{LimitKind}
use Rattle.file_map.specs.declared.limit.LimitKind.TheVariants as kinds
use Rattle.file_map.specs.FileMap.{File, with_file}
use Rattle.rule_map.specs.RuleMap.{PutRuleEnds, PassesFirst, count_of, size_over, entries_over}
use Rattle.rule_map.specs.Kept.{AreOnly}
use Rattle.rule_map.proofs.Keeping.{they_are, no_others}

abbrev size_if : Bool → Bool → ℕ → Option (LimitKind × ℕ)
size_if many large n = if many then Some (kinds.RuleFiles, n) else (if large then Some (kinds.RuleBytes, 262145) else None)

abbrev entries_if : Bool → ℕ → Option (LimitKind × ℕ)
entries_if many n = if many then Some (kinds.Rules, n) else None

pub too_many : (fs : Files) (f : File) (n : ℕ) → length (with_file fs f) ≡ n → 100 < n → size_over fs f ≡ Some (kinds.RuleFiles, n)
too_many fs f n e l =
    let many : nat_lt 100 (length (with_file fs f)) ≡ true = grind (arith, nat_tests, e) in
    ap (λ (b : Bool). size_if b (nat_lt 262144 (length f.1)) (length (with_file fs f))) many ∙ ap (λ (k : ℕ). Some (kinds.RuleFiles, k)) e

pub too_large : (fs : Files) (f : File) → length (with_file fs f) ≤ 100 → 262144 < length f.1 → size_over fs f ≡ Some (kinds.RuleBytes, 262145)
too_large fs f l h =
    let few : nat_lt 100 (length (with_file fs f)) ≡ false = grind (arith, nat_tests) in
    let large : nat_lt 262144 (length f.1) ≡ true = grind (arith, nat_tests) in
    ap (λ (b : Bool). size_if b (nat_lt 262144 (length f.1)) (length (with_file fs f))) few ∙ ap (λ (b : Bool). size_if false b (length (with_file fs f))) large

pub fits : (fs : Files) (f : File) → length (with_file fs f) ≤ 100 → length f.1 ≤ 262144 → size_over fs f ≡ None
fits fs f l h =
    let few : nat_lt 100 (length (with_file fs f)) ≡ false = grind (arith, nat_tests) in
    let small : nat_lt 262144 (length f.1) ≡ false = grind (arith, nat_tests) in
    ap (λ (b : Bool). size_if b (nat_lt 262144 (length f.1)) (length (with_file fs f))) few ∙ ap (λ (b : Bool). size_if false b (length (with_file fs f))) small

few_by : (many large : Bool) (n : ℕ) → size_if many large n ≡ None → many ≡ false
few_by true large n e = absurd cc
few_by false large n e = refl

pub few_files : (fs : Files) (f : File) → size_over fs f ≡ None → length (with_file fs f) ≤ 100
few_files fs f e =
    let few : nat_lt 100 (length (with_file fs f)) ≡ false = few_by (nat_lt 100 (length (with_file fs f))) (nat_lt 262144 (length f.1)) (length (with_file fs f)) e in
    grind (arith, nat_tests, few)

pub many_entries : (cs : List RuleFile) (n : ℕ) → n ≡ count_of cs → 1000 < n → Some (kinds.Rules, n) ≡ entries_over cs
many_entries cs n e l =
    let many : nat_lt 1000 (count_of cs) ≡ true = grind (arith, nat_tests, e) in
    ap (λ (k : ℕ). Some (kinds.Rules, k)) e ∙ sym (ap (λ (b : Bool). entries_if b (count_of cs)) many)

pub few_entries : (cs : List RuleFile) (n : ℕ) → n ≡ count_of cs → n ≤ 1000 → None ≡ entries_over cs
few_entries cs n e l =
    let few : nat_lt 1000 (count_of cs) ≡ false = grind (arith, nat_tests, e) in
    sym (ap (λ (b : Bool). entries_if b (count_of cs)) few)

module _ (writes : Writes) (fs : Files) (f : File) where
  pub size_ends : (over : LimitKind × ℕ) → size_over fs f ≡ Some over → PutRuleEnds writes fs f (Some over)
  size_ends over e = subst (λ s. PassesFirst writes (with_file fs f) s (Some over)) (sym e) refl

  pub size_only : (over : LimitKind × ℕ) (told : Option (LimitKind × ℕ)) → size_over fs f ≡ Some over → PutRuleEnds writes fs f told → Some over ≡ told
  size_only over told e h = sym (subst (λ s. PassesFirst writes (with_file fs f) s told) e h)

  pub entries_end : (cs : List RuleFile) (over : Option (LimitKind × ℕ)) → size_over fs f ≡ None → AreOnly writes (with_file fs f) cs → over ≡ entries_over cs → PutRuleEnds writes fs f over
  entries_end cs over e a h = subst (λ s. PassesFirst writes (with_file fs f) s over) (sym e) (cs, they_are writes (with_file fs f) cs a, h)

  pub entries_only : (cs : List RuleFile) (over told : Option (LimitKind × ℕ)) → size_over fs f ≡ None → AreOnly writes (with_file fs f) cs → over ≡ entries_over cs → PutRuleEnds writes fs f told → over ≡ told
  entries_only cs over told e a h p =
      let r = subst (λ s. PassesFirst writes (with_file fs f) s told) e p in
      h ∙ sym (r.2 ∙ ap entries_over (no_others writes (with_file fs f) cs r.0 a r.1))
