-- The order of notices is one, and tells them apart.
use Rattle.std.proofs.Common.{◌≡◌, ℕ, List, [], ◌∷◌, refl, sym, ap, ◌∙◌}
use Rattle.std.specs.Prelude.{if◌then◌else◌}
use Rattle.std.specs.Str.{bytes_eq}
use Rattle.std.specs.declared.cmp.Ordering.TheVariants.{Equal}
use Rattle.std.specs.Ordering.{ordering_then, nat_cmp}
use Rattle.std.specs.Cmp.{IsTotalOrder}
use Rattle.std.proofs.lemmas.Cmp.{nat_list_cmp_total, on_total, then_total}
use Rattle.node_tree.proofs.Orders.{nat_order, lists_order, then_first, then_second}
use Rattle.meta_bind.specs.Bounds.{name_cmp}
use Rattle.report_form.specs.declared.notice.Notice.{Notice}
use Rattle.report_form.specs.declared.notice.NoticeKind.{NoticeKind}
use Rattle.report_form.specs.declared.notice.NoticeKind.TheVariants.{NotUtf8, TooLarge, NoTree, Crowded, FlowTooLarge, MissingKey, UnknownKey, WrongShape, BadPattern, BadComparison, OutsideProfile, DuplicateId, YamlProfile, YamlNoValue, NoRules, OptionUnread, Regex}
use Rattle.report_form.specs.Notice.{kind_word}
use Rattle.running_rules.specs.Notes.{notice, notice_cmp}

pub name_total : IsTotalOrder name_cmp
name_total = nat_list_cmp_total

pub name_same : (a b : List ℕ) → name_cmp a b ≡ Equal → a ≡ b
name_same = (lists_order nat_cmp nat_order).same

pub notice_total : IsTotalOrder notice_cmp
notice_total =
    then_total (on_total (λ (n : Notice). n.path) name_total) (then_total (on_total (λ (n : Notice). n.rule_id) name_total)
    (then_total (on_total (λ (n : Notice). kind_word n.kind) name_total) (on_total (λ (n : Notice). n.detail) name_total)))

-- ---- words tell kinds apart

abbrev all_kinds : List NoticeKind
all_kinds =
    NotUtf8 ∷ TooLarge ∷ NoTree ∷ Crowded ∷ FlowTooLarge ∷ MissingKey ∷ UnknownKey ∷ WrongShape ∷ BadPattern ∷ BadComparison ∷ OutsideProfile ∷ DuplicateId ∷ YamlProfile
    ∷ YamlNoValue ∷ NoRules ∷ OptionUnread ∷ Regex ∷ []

-- the first of the kinds that has the word
abbrev named : List NoticeKind → List ℕ → NoticeKind
named [] word = Regex
named (k ∷ ks) word = if bytes_eq (kind_word k) word then k else named ks word

back : (k : NoticeKind) → named all_kinds (kind_word k) ≡ k
back NotUtf8 = refl
back TooLarge = refl
back NoTree = refl
back Crowded = refl
back FlowTooLarge = refl
back MissingKey = refl
back UnknownKey = refl
back WrongShape = refl
back BadPattern = refl
back BadComparison = refl
back OutsideProfile = refl
back DuplicateId = refl
back YamlProfile = refl
back YamlNoValue = refl
back NoRules = refl
back OptionUnread = refl
back Regex = refl

kind_same : (j k : NoticeKind) → kind_word j ≡ kind_word k → j ≡ k
kind_same j k e = sym (back j) ∙ ap (named all_kinds) e ∙ back k

pub notice_apart : (m n : Notice) → notice_cmp m n ≡ Equal → m ≡ n
notice_apart m n e =
    let a = name_cmp m.path n.path in
    let b = name_cmp m.rule_id n.rule_id in
    let c = name_cmp (kind_word m.kind) (kind_word n.kind) in
    let d = name_cmp m.detail n.detail in
    let e1 = then_second a (ordering_then b (ordering_then c d)) e in
    let e2 = then_second b (ordering_then c d) e1 in
    let path = name_same m.path n.path (then_first a (ordering_then b (ordering_then c d)) e) in
    let id = name_same m.rule_id n.rule_id (then_first b (ordering_then c d) e1) in
    let kind = kind_same m.kind n.kind (name_same (kind_word m.kind) (kind_word n.kind) (then_first c d e2)) in
    let detail = name_same m.detail n.detail (then_second c d e2) in
    ap (λ (x : List ℕ). notice x m.rule_id m.kind m.detail) path
    ∙ ap (λ (x : List ℕ). notice n.path x m.kind m.detail) id
    ∙ ap (λ (x : NoticeKind). notice n.path n.rule_id x m.detail) kind
    ∙ ap (λ (x : List ℕ). notice n.path n.rule_id n.kind x) detail
