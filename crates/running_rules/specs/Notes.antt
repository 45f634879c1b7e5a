-- Notices, and their order.
use Rattle.std.specs.Prelude.{ℕ, List, codes}
use Rattle.std.specs.declared.cmp.Ordering.{Ordering}
use Rattle.std.specs.Ordering.{ordering_then}
use Rattle.yaml_lines.specs.declared.fault.Feature.{Feature}
use Rattle.yaml_lines.specs.declared.fault.Feature.TheVariants as features
use Rattle.meta_bind.specs.Bounds.{name_cmp}
use Rattle.rule_keys.specs.declared.fault.RuleFaultKind.{RuleFaultKind}
use Rattle.rule_keys.specs.declared.fault.RuleFaultKind.TheVariants as faults
use Rattle.report_form.specs.declared.notice.Notice.{Notice}
use Rattle.report_form.specs.declared.notice.NoticeKind.{NoticeKind}
use Rattle.report_form.specs.declared.notice.NoticeKind.TheVariants as kinds
use Rattle.report_form.specs.Notice.{kind_word}

abbrev pub notice : List ℕ → List ℕ → NoticeKind → List ℕ → Notice
notice path rule_id kind detail = record { path = path; rule_id = rule_id; kind = kind; detail = detail }

-- by path, then rule, then the kind's word, then detail
abbrev pub notice_cmp : Notice → Notice → Ordering
notice_cmp m n =
    ordering_then (name_cmp m.path n.path) (ordering_then (name_cmp m.rule_id n.rule_id) (ordering_then (name_cmp (kind_word m.kind) (kind_word n.kind)) (name_cmp m.detail n.detail)))

-- the kind of a fault's notice has the fault's name
abbrev pub kind_of : RuleFaultKind → NoticeKind
kind_of faults.MissingKey = kinds.MissingKey
kind_of faults.UnknownKey = kinds.UnknownKey
kind_of faults.WrongShape = kinds.WrongShape
kind_of faults.BadPattern = kinds.BadPattern
kind_of faults.BadComparison = kinds.BadComparison
kind_of faults.OutsideProfile = kinds.OutsideProfile
kind_of faults.DuplicateId = kinds.DuplicateId

-- the word of a feature of YAML is its name
abbrev pub feature_word : Feature → List ℕ
feature_word features.Tab = codes "Tab"
feature_word features.Directive = codes "Directive"
feature_word features.Document = codes "Document"
feature_word features.ComplexKey = codes "ComplexKey"
feature_word features.Anchor = codes "Anchor"
feature_word features.Alias = codes "Alias"
feature_word features.Tag = codes "Tag"
feature_word features.FlowMap = codes "FlowMap"
feature_word features.IndentDigit = codes "IndentDigit"
