-- The bytes of a rule file say one thing.
use Rattle.std.proofs.Common.{◌≡◌, ℕ, List, refl, sym, ap, ◌∙◌, subst, Ok}
use Rattle.std.specs.Prelude.{Result, Err, IfOk, None}
use Rattle.node_tree.specs.declared.memory.Memory.{Memory}
use Rattle.yaml_lines.specs.declared.fault.Feature.{Feature}
use Rattle.yaml_lines.specs.declared.fault.YFault.{YFault}
use Rattle.yaml_lines.specs.declared.fault.YFault.TheVariants as faults
use Rattle.yaml_lines.specs.Lines.{lines_of}
use Rattle.yaml_cells.specs.declared.value.YValue.{YValue}
use Rattle.yaml_read.specs.Value.{IsValueOf}
use Rattle.rule_entries.specs.declared.outcome.RuleOutcome.{RuleOutcome}
use Rattle.rule_entries.specs.Finds.{Writes}
use Rattle.rule_entries.specs.Rules.{IsRulesOf, entries_in}
use Rattle.rule_files.specs.declared.rule_file.RuleContent.{RuleContent}
use Rattle.rule_files.specs.declared.rule_file.RuleContent.TheVariants.{Rules, NotUtf8, OutsideProfile, NoValue, NoRules}
use Rattle.rule_files.specs.declared.rule_file.RuleFile.{RuleFile}
use Rattle.rule_files.specs.RuleFiles.{HasNoValue, IsContentOf, IsContent, IsRuleFile}

-- ---- from the value

pub rules_only : (writes : Writes) (value : YValue) (outcomes : List RuleOutcome) → ((os : List RuleOutcome) → IsRulesOf writes value os → outcomes ≡ os) → (entries_in value ≡ None → ⊥) → (c : RuleContent) → IsContentOf writes value c → Rules outcomes ≡ c
rules_only writes value outcomes only some (Rules os) is = ap Rules (only os is)
rules_only writes value outcomes only some NoRules none = absurd (some none)
rules_only writes value outcomes only some NotUtf8 h = absurd h
rules_only writes value outcomes only some (OutsideProfile feature line) h = absurd h
rules_only writes value outcomes only some NoValue h = absurd h

pub none_only : (writes : Writes) (value : YValue) → ((os : List RuleOutcome) → IsRulesOf writes value os → ⊥) → (c : RuleContent) → IsContentOf writes value c → NoRules ≡ c
none_only writes value never (Rules os) is = absurd (never os is)
none_only writes value never NoRules none = refl
none_only writes value never NotUtf8 h = absurd h
none_only writes value never (OutsideProfile feature line) h = absurd h
none_only writes value never NoValue h = absurd h

-- ---- from the bytes

module _ (writes : Writes) (bytes : List ℕ) (value : YValue) (is : IsValueOf bytes value) where
  with_value : (c : RuleContent) → IsContentOf writes value c → IsContent writes bytes c
  with_value (Rules os) h = (value, is, h)
  with_value NoRules h = (value, is, h)
  with_value NotUtf8 h = absurd h
  with_value (OutsideProfile feature line) h = absurd h
  with_value NoValue h = absurd h

  pub if_value : (r : Result RuleContent Memory) → IfOk r (IsContentOf writes value) → IfOk r (IsContent writes bytes)
  if_value (Ok c) h = with_value c h
  if_value (Err e) h = tt

  module _ (one : (v : YValue) → IsValueOf bytes v → v ≡ value) (well : (fault : YFault) → lines_of bytes ≡ Err fault → ⊥) where
    of_value : (c : RuleContent) → IsContent writes bytes c → IsContentOf writes value c
    of_value (Rules os) (v, v-is, h) = let P : YValue → Type 0 = λ w. IsRulesOf writes w os in subst P (one v v-is) h
    of_value NoRules (v, v-is, h) = let P : YValue → Type 0 = λ w. entries_in w ≡ None in subst P (one v v-is) h
    of_value NotUtf8 e = absurd (well faults.NotUtf8 e)
    of_value (OutsideProfile feature line) e = absurd (well (faults.OutsideProfile feature line) e)
    of_value NoValue h = absurd (h.none value is)

    pub value_only : (r : Result RuleContent Memory) → ((c : RuleContent) → IsContentOf writes value c → IfOk r (λ found. found ≡ c)) → (c : RuleContent) → IsContent writes bytes c → IfOk r (λ found. found ≡ c)
    value_only r only c h = only c (of_value c h)

module _ (writes : Writes) (bytes : List ℕ) (never : (value : YValue) → IsValueOf bytes value → ⊥) where
  pub utf8_only : lines_of bytes ≡ Err faults.NotUtf8 → (c : RuleContent) → IsContent writes bytes c → NotUtf8 ≡ c
  utf8_only e (Rules os) h = absurd (never h.0 h.1)
  utf8_only e NoRules h = absurd (never h.0 h.1)
  utf8_only e NotUtf8 h = refl
  utf8_only e (OutsideProfile feature line) h = absurd (let f = sym e ∙ h in cc)
  utf8_only e NoValue h = absurd (h.utf8 e)

  pub outside_only : (feature : Feature) (line : ℕ) → lines_of bytes ≡ Err (faults.OutsideProfile feature line) → (c : RuleContent) → IsContent writes bytes c → OutsideProfile feature line ≡ c
  outside_only feature line e (Rules os) h = absurd (never h.0 h.1)
  outside_only feature line e NoRules h = absurd (never h.0 h.1)
  outside_only feature line e NotUtf8 h = absurd (let f = sym e ∙ h in cc)
  outside_only feature line e (OutsideProfile other at) h = let f = sym e ∙ h in cc
  outside_only feature line e NoValue h = absurd (h.inside feature line e)

  pub no_value_only : ((fault : YFault) → lines_of bytes ≡ Err fault → fault ≡ faults.NoValue) → (c : RuleContent) → IsContent writes bytes c → NoValue ≡ c
  no_value_only well (Rules os) h = absurd (never h.0 h.1)
  no_value_only well NoRules h = absurd (never h.0 h.1)
  no_value_only well NotUtf8 h = absurd (let f = well faults.NotUtf8 h in cc)
  no_value_only well (OutsideProfile feature line) h = absurd (let f = well (faults.OutsideProfile feature line) h in cc)
  no_value_only well NoValue h = refl

  pub no_value : ((fault : YFault) → lines_of bytes ≡ Err fault → fault ≡ faults.NoValue) → HasNoValue bytes
  no_value well = record {
    utf8 = λ e. absurd (let f = well faults.NotUtf8 e in cc);
    inside = λ feature line e. absurd (let f = well (faults.OutsideProfile feature line) e in cc);
    none = never;
  }

-- ---- the file

pub file_only : (writes : Writes) (name bytes : List ℕ) (content : RuleContent) (f : RuleFile) → IsRuleFile writes name bytes f → content ≡ f.content → record { name = name; content = content } ≡ f
file_only writes name bytes content f is e =
    let g : List ℕ → RuleFile = λ x. record { name = x; content = content } in
    let h : RuleContent → RuleFile = λ x. record { name = f.name; content = x } in
    ap g (sym is.name_is) ∙ ap h e
