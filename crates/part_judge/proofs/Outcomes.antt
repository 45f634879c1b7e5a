-- What a part finds is one outcome, and stands at places of the file's text.
use Rattle.std.proofs.Common.{◌≡◌, ◌<◌, ℕ, List, [], length, get_or, map, sym, ap, ◌∙◌, subst}
use Rattle.std.specs.Prelude.{All, slice_get, Option, None, Some, Result, Ok, Err, IfOk}
use Rattle.std.proofs.lemmas.Option.{slice_get-get_or}
use Rattle.std.proofs.lemmas.List.Elements.{All-nil, All-map, All-weaker}
use Rattle.node_tree.specs.declared.node.Node.{Node}
use Rattle.meta_bind.specs.declared.finding.Finding.{Finding}
use Rattle.rule_form.specs.declared.formula.Formula.{Formula}
use Rattle.rule_form.specs.declared.rule.Body.{Body}
use Rattle.rule_form.specs.declared.rule.Body.TheVariants as bodies
use Rattle.rule_form.specs.declared.rule.Part.{Part}
use Rattle.rule_form.specs.declared.rule.TaintRule.{TaintRule}
use Rattle.tree_match.specs.declared.leaf.Leaf.{Leaf}
use Rattle.tree_match.specs.Members.{Member}
use Rattle.tree_match.specs.Placed.{IsPlaced}
use Rattle.tree_match.proofs.Exclusion.{whole_once}
use Rattle.range_algebra.specs.Trees.{tree_of}
use Rattle.range_algebra.specs.Meets.{Meets}
use Rattle.range_algebra.proofs.Once.{over_one}
use Rattle.taint_judge.specs.declared.list.RuleList.{RuleList}
use Rattle.taint_judge.specs.Lists.{list_word}
use Rattle.taint_judge.specs.Placed.{IsFindingPlaced}
use Rattle.taint_judge.proofs.Once.{rule_one, followed_one, large_one, followed_or_large, followed_or_crowded, large_or_crowded}
use Rattle.part_judge.specs.declared.outcome.Outcome.{Outcome}
use Rattle.part_judge.specs.declared.outcome.Outcome.TheVariants.{Findings, Crowded, FlowTooLarge}
use Rattle.part_judge.specs.Findings.{dotted, named, finding_of, SearchFinds, TaintFinds, BodyFinds, PartFinds, findings_of}

module _ (leaves : List Leaf) (texts : List (List ℕ)) (bytes : List ℕ) where
  -- ---- one outcome

  search_one : (formula : Formula) (o p : Outcome) → SearchFinds leaves texts bytes formula o → SearchFinds leaves texts bytes formula p → o ≡ p
  search_one formula (Findings found) (Findings other) (few, members, whole, e) (few', members', whole', e') =
      let Set : Member → Type 0 = Meets leaves texts bytes (tree_of formula) None in
      ap Findings (e ∙ ap (map finding_of) (whole_once Set members members' whole whole') ∙ sym e')
  search_one formula (Findings found) (Crowded text) (few, members, whole, e) (numbers, over, e') = absurd (let f = over_one leaves texts bytes (tree_of formula) None (Some numbers) few over in cc)
  search_one formula (Crowded text) (Findings found) (numbers, over, e) (few, members, whole, e') = absurd (let f = over_one leaves texts bytes (tree_of formula) (Some numbers) None over few in cc)
  search_one formula (Crowded text) (Crowded other) (numbers, over, e) (numbers', over', e') =
      let f : numbers ≡ numbers' = (let g = over_one leaves texts bytes (tree_of formula) (Some numbers) (Some numbers') over over' in cc) in
      ap Crowded (e ∙ ap dotted f ∙ sym e')
  search_one formula (FlowTooLarge at) p h k = elim h [ ]
  search_one formula (Findings found) (FlowTooLarge at) h k = elim k [ ]
  search_one formula (Crowded text) (FlowTooLarge at) h k = elim k [ ]

  taint_one : (root : Node) (rule : TaintRule) (o p : Outcome) → TaintFinds leaves texts bytes root rule o → TaintFinds leaves texts bytes root rule p → o ≡ p
  taint_one root rule (Findings found) (Findings other) h k = ap Findings (followed_one leaves texts bytes root rule found other h k)
  taint_one root rule (Findings found) (Crowded text) h (list, numbers, over, e) = absurd (followed_or_crowded leaves texts bytes root rule found (list, numbers) h over)
  taint_one root rule (Findings found) (FlowTooLarge at) h k = absurd (followed_or_large leaves texts bytes root rule found at h k)
  taint_one root rule (Crowded text) (Findings found) (list, numbers, over, e) k = absurd (followed_or_crowded leaves texts bytes root rule found (list, numbers) k over)
  taint_one root rule (Crowded text) (Crowded other) (list, numbers, over, e) (list', numbers', over', e') =
      let same = rule_one leaves texts bytes rule (Some (list, numbers)) (Some (list', numbers')) over over' in
      let pairs : (list, numbers) ≡ (list', numbers') = cc in
      let f : list ≡ list' = ap (λ (p : RuleList × List ℕ). p.0) pairs in
      let g : numbers ≡ numbers' = ap (λ (p : RuleList × List ℕ). p.1) pairs in
      ap Crowded (e ∙ ap (λ (l : RuleList). named (list_word l) numbers) f ∙ ap (named (list_word list')) g ∙ sym e')
  taint_one root rule (Crowded text) (FlowTooLarge at) (list, numbers, over, e) k = absurd (large_or_crowded leaves texts bytes root rule at (list, numbers) k over)
  taint_one root rule (FlowTooLarge at) (Findings found) h k = absurd (followed_or_large leaves texts bytes root rule found at k h)
  taint_one root rule (FlowTooLarge at) (Crowded text) h (list, numbers, over, e) = absurd (large_or_crowded leaves texts bytes root rule at (list, numbers) h over)
  taint_one root rule (FlowTooLarge at) (FlowTooLarge other) h k = ap FlowTooLarge (large_one leaves texts bytes root rule at other h k)

  body_one : (root : Node) (body : Body) (o p : Outcome) → BodyFinds leaves texts bytes root body o → BodyFinds leaves texts bytes root body p → o ≡ p
  body_one root (bodies.Search formula) o p h k = search_one formula o p h k
  body_one root (bodies.Taint rule) o p h k = taint_one root rule o p h k

  part_one : (root : Node) (part : Option Part) (o p : Outcome) → PartFinds leaves texts bytes root part o → PartFinds leaves texts bytes root part p → o ≡ p
  part_one root None o p h k = elim h [ ]
  part_one root (Some part) o p h k = body_one root part.body o p h k

  pub finds_one : {E : Type 0} (root : Node) (part : Option Part) (r : Result Outcome E) → IfOk r (λ found. PartFinds leaves texts bytes root part found) → IfOk r (λ found. (o : Outcome) → PartFinds leaves texts bytes root part o → o ≡ found)
  finds_one root part (Ok found) h = λ o k. part_one root part o found k h
  finds_one root part (Err e) h = tt

-- findings of members that stand at places of the text do so too
pub findings_placed : (bytes : List ℕ) (members : List Member) (findings : List Finding) → findings ≡ map finding_of members → All (λ m. IsPlaced bytes m) members → All (λ finding. IsFindingPlaced bytes finding) findings
findings_placed bytes members findings e all =
    let Placed : Finding → Type 0 = λ finding. IsFindingPlaced bytes finding in
    let P : List Finding → Type 0 = All Placed in
    let WithSource : Member → Type 0 = λ m. Placed (finding_of m) in
    subst P (sym e) (All-map Placed finding_of members (All-weaker (λ m. IsPlaced bytes m) WithSource (λ m h. (h, tt)) members all))

pub outcome_placed : (bytes : List ℕ) (o : Outcome) (findings : List Finding) → o ≡ Findings findings → All (λ finding. IsFindingPlaced bytes finding) findings → All (λ finding. IsFindingPlaced bytes finding) (findings_of o)
outcome_placed bytes o findings e all = let P : Outcome → Type 0 = λ x. All (λ finding. IsFindingPlaced bytes finding) (findings_of x) in subst P (sym e) all

-- where there is a notice there are none
pub notice_placed : (bytes : List ℕ) (o n : Outcome) → o ≡ n → findings_of n ≡ [] → All (λ finding. IsFindingPlaced bytes finding) (findings_of o)
notice_placed bytes o n e none =
    let P : List Finding → Type 0 = All (λ finding. IsFindingPlaced bytes finding) in
    subst P (sym (ap findings_of e ∙ none)) (All-nil (λ finding. IsFindingPlaced bytes finding))

-- what the body of the part at a place finds is what the part there does
pub finds_at : {E : Type 0} (leaves : List Leaf) (texts : List (List ℕ)) (bytes : List ℕ) (root : Node) (parts items : List Part) (i : ℕ) (d : Part) (r : Result Outcome E) → items ≡ parts → i < length parts
    → IfOk r (λ found. BodyFinds leaves texts bytes root (get_or items i d).body found) → IfOk r (λ found. PartFinds leaves texts bytes root (slice_get parts i) found)
finds_at leaves texts bytes root parts items i d (Ok found) e lt h =
    let P : Option Part → Type 0 = λ x. PartFinds leaves texts bytes root x found in
    let Q : List Part → Type 0 = λ l. BodyFinds leaves texts bytes root (get_or l i d).body found in
    subst P (sym (slice_get-get_or parts i d lt)) (subst Q e h)
finds_at leaves texts bytes root parts items i d (Err e') e lt h = tt
