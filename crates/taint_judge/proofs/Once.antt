-- What a rule that follows data finds is one thing.
use Rattle.std.proofs.Common.{◌≡◌, inl, inr, ℕ, suc, List, [], ◌∷◌, map, refl, sym, ap, ◌∙◌, subst}
use Rattle.std.specs.Prelude.{Option, None, Some}
use Rattle.std.specs.List.{flat_map}
use Rattle.node_tree.specs.declared.node.Node.{Node}
use Rattle.node_tree.specs.declared.span.Span.{Span}
use Rattle.meta_bind.specs.declared.finding.Finding.{Finding}
use Rattle.rule_form.specs.declared.formula.Formula.{Formula}
use Rattle.rule_form.specs.declared.rule.Propagator.{Propagator}
use Rattle.rule_form.specs.declared.rule.TaintRule.{TaintRule}
use Rattle.tree_match.specs.declared.leaf.Leaf.{Leaf}
use Rattle.tree_match.specs.Members.{Member}
use Rattle.tree_match.proofs.Exclusion.{whole_once}
use Rattle.member_join.specs.Choices.{range_of}
use Rattle.member_join.specs.Limits.{Search, Nothing, Then}
use Rattle.range_algebra.specs.Trees.{Trees, no_trees, tree_then, tree_of, trees_of}
use Rattle.range_algebra.specs.Meets.{Meets, MeetsSome}
use Rattle.range_algebra.specs.Crowds.{InChild, Over, OverTrees}
use Rattle.range_algebra.proofs.Once.{over_one}
use Rattle.taint_tables.specs.declared.sets.Carry.{Carry}
use Rattle.taint_tables.specs.declared.sets.TaintSets.{TaintSets}
use Rattle.taint_judge.specs.declared.list.RuleList.{RuleList}
use Rattle.taint_judge.specs.declared.list.RuleList.TheVariants.{Sources, Sinks, Sanitizers, Propagators}
use Rattle.taint_judge.specs.Lists.{formula_of, formulas_in, together, RuleSearch, InList, AndThen, AreEach, OverFormulas, OverList, OverRule}
use Rattle.taint_judge.specs.Carries.{carries_in}
use Rattle.taint_judge.specs.Sets.{AreRanges, AreCarries, AreSets}
use Rattle.taint_judge.specs.Follows.{finding_of, AreFollowed, IsTooLarge}
use Rattle.taint_flow.specs.Taint.{AreHits}
use Rattle.taint_flow.specs.Sizes.{NoneLarge, FirstLarge}
use Rattle.taint_judge.proofs.Hits.{hits_one, none_or_first, first_one_place}

-- ---- searches

-- whatever the search finds is one thing
abbrev FindsOne : {A : Type 0} → (Option A → Type 0) → Type 0
FindsOne {A} Found = (o p : Option A) → Found o → Found p → o ≡ p

nothing_one : FindsOne Nothing
nothing_one o p e f = e ∙ sym f

then_one : (First Next : Search) → FindsOne First → FindsOne Next → FindsOne (Then First Next)
then_one First Next first next None None s t = refl
then_one First Next first next None (Some p) s (inl t) = first None (Some p) s.0 t
then_one First Next first next None (Some p) s (inr t) = next None (Some p) s.1 t.1
then_one First Next first next (Some o) None (inl s) t = first (Some o) None s t.0
then_one First Next first next (Some o) None (inr s) t = next (Some o) None s.1 t.1
then_one First Next first next (Some o) (Some p) (inl s) (inl t) = first (Some o) (Some p) s t
then_one First Next first next (Some o) (Some p) (inl s) (inr t) = absurd (let e = first (Some o) None s t.0 in cc)
then_one First Next first next (Some o) (Some p) (inr s) (inl t) = absurd (let e = first (Some p) None t s.0 in cc)
then_one First Next first next (Some o) (Some p) (inr s) (inr t) = next (Some o) (Some p) s.1 t.1

child_one : (i : ℕ) (Inner : Search) → FindsOne Inner → FindsOne (InChild i Inner)
child_one i Inner inner None None s t = refl
child_one i Inner inner None (Some []) s t = elim t [ ]
child_one i Inner inner None (Some (k ∷ q)) s t = absurd (let e = inner None (Some q) s t.1 in cc)
child_one i Inner inner (Some []) p s t = elim s [ ]
child_one i Inner inner (Some (j ∷ o)) None s t = absurd (let e = inner (Some o) None s.1 t in cc)
child_one i Inner inner (Some (j ∷ o)) (Some []) s t = elim t [ ]
child_one i Inner inner (Some (j ∷ o)) (Some (k ∷ q)) s t =
    let e : o ≡ q = (let f = inner (Some o) (Some q) s.1 t.1 in cc) in
    ap (λ (n : ℕ). Some (n ∷ o)) (s.0 ∙ sym t.0) ∙ ap (λ (l : List ℕ). Some (k ∷ l)) e

and_then_one : (First Next : RuleSearch) → FindsOne First → FindsOne Next → FindsOne (AndThen First Next)
and_then_one First Next first next None None s t = refl
and_then_one First Next first next None (Some p) s (inl t) = first None (Some p) s.0 t
and_then_one First Next first next None (Some p) s (inr t) = next None (Some p) s.1 t.1
and_then_one First Next first next (Some o) None (inl s) t = first (Some o) None s t.0
and_then_one First Next first next (Some o) None (inr s) t = next (Some o) None s.1 t.1
and_then_one First Next first next (Some o) (Some p) (inl s) (inl t) = first (Some o) (Some p) s t
and_then_one First Next first next (Some o) (Some p) (inl s) (inr t) = absurd (let e = first (Some o) None s t.0 in cc)
and_then_one First Next first next (Some o) (Some p) (inr s) (inl t) = absurd (let e = first (Some p) None t s.0 in cc)
and_then_one First Next first next (Some o) (Some p) (inr s) (inr t) = next (Some o) (Some p) s.1 t.1

list_one : (list : RuleList) (Found : Search) → FindsOne Found → FindsOne (InList list Found)
list_one list Found found None None s t = refl
list_one list Found found None (Some p) s t = absurd (let e = found None (Some p.1) s t.1 in cc)
list_one list Found found (Some o) None s t = absurd (let e = found (Some o.1) None s.1 t in cc)
list_one list Found found (Some o) (Some p) s t =
    let e : o.1 ≡ p.1 = (let f = found (Some o.1) (Some p.1) s.1 t.1 in cc) in
    ap (λ (l : RuleList). Some (l, o.1)) (s.0 ∙ sym t.0) ∙ ap (λ (ns : List ℕ). Some (p.0, ns)) e

module _ (leaves : List Leaf) (texts : List (List ℕ)) (bytes : List ℕ) where
  trees_one : (ts : Trees) (i : ℕ) → FindsOne (OverTrees leaves texts bytes i ts)
  trees_one no_trees i = nothing_one
  trees_one (tree_then t ts) i =
      then_one (InChild i (Over leaves texts bytes t)) (OverTrees leaves texts bytes (suc i) ts) (child_one i (Over leaves texts bytes t) (over_one leaves texts bytes t)) (trees_one ts (suc i))

  over_list_one : (rule : TaintRule) (list : RuleList) → FindsOne (OverList leaves texts bytes rule list)
  over_list_one rule list = list_one list (OverFormulas leaves texts bytes (formulas_in list rule)) (trees_one (trees_of (map tree_of (formulas_in list rule))) 0)

  pub rule_one : (rule : TaintRule) (o p : Option (RuleList × List ℕ)) → OverRule leaves texts bytes rule o → OverRule leaves texts bytes rule p → o ≡ p
  rule_one rule =
      let A : RuleSearch = OverList leaves texts bytes rule Sources in
      let B : RuleSearch = OverList leaves texts bytes rule Sinks in
      let C : RuleSearch = OverList leaves texts bytes rule Sanitizers in
      let D : RuleSearch = OverList leaves texts bytes rule Propagators in
      and_then_one A (AndThen B (AndThen C D)) (over_list_one rule Sources) (and_then_one B (AndThen C D) (over_list_one rule Sinks) (and_then_one C D (over_list_one rule Sanitizers) (over_list_one rule Propagators)))

  -- ---- sets

  pub each_one : (fs : List Formula) (each others : List (List Member)) → AreEach leaves texts bytes fs each → AreEach leaves texts bytes fs others → each ≡ others
  each_one [] each others h k = h ∙ sym k
  each_one (f ∷ fs) [] others h k = elim h [ ]
  each_one (f ∷ fs) (x ∷ xs) [] h k = elim k [ ]
  each_one (f ∷ fs) (x ∷ xs) (y ∷ ys) h k =
      ap (λ (m : List Member). m ∷ xs) (whole_once (Meets leaves texts bytes (tree_of f) None) x y h.0 k.0) ∙ ap (λ (ms : List (List Member)). y ∷ ms) (each_one fs xs ys h.1 k.1)

  ranges_one : (fs : List Formula) (xs ys : List Span) → AreRanges leaves texts bytes fs xs → AreRanges leaves texts bytes fs ys → xs ≡ ys
  ranges_one fs xs ys (each, h, e) (others, k, f) = e ∙ ap (λ (ms : List (List Member)). map range_of (together ms)) (each_one fs each others h k) ∙ sym f

  carries_one : (ps : List Propagator) (xs ys : List Carry) → AreCarries leaves texts bytes ps xs → AreCarries leaves texts bytes ps ys → xs ≡ ys
  carries_one ps xs ys (each, h, e) (others, k, f) = e ∙ ap (carries_in ps) (each_one (map formula_of ps) each others h k) ∙ sym f

  module _ (rule : TaintRule) (sinks others : List Member) (a b : TaintSets) (h : AreSets leaves texts bytes rule sinks a) (k : AreSets leaves texts bytes rule others b) where
    pub sinks_one : sinks ≡ others
    sinks_one = whole_once (MeetsSome leaves texts bytes (trees_of (map tree_of rule.sinks))) sinks others h.members k.members

    pub sets_one : a ≡ b
    sets_one =
        let f1 : List Span → TaintSets = λ x. record { sources = x; sinks = a.sinks; sanitizers = a.sanitizers; carries = a.carries } in
        let f2 : List Span → TaintSets = λ x. record { sources = b.sources; sinks = x; sanitizers = a.sanitizers; carries = a.carries } in
        let f3 : List Span → TaintSets = λ x. record { sources = b.sources; sinks = b.sinks; sanitizers = x; carries = a.carries } in
        let f4 : List Carry → TaintSets = λ x. record { sources = b.sources; sinks = b.sinks; sanitizers = b.sanitizers; carries = x } in
        ap f1 (ranges_one rule.sources a.sources b.sources h.sources k.sources)
        ∙ ap f2 (h.places ∙ ap (map range_of) sinks_one ∙ sym k.places)
        ∙ ap f3 (ranges_one rule.sanitizers a.sanitizers b.sanitizers h.sanitizers k.sanitizers)
        ∙ ap f4 (carries_one rule.propagators a.carries b.carries h.carries k.carries)

  -- ---- findings

  module _ (root : Node) (rule : TaintRule) where
    pub followed_one : (findings others : List Finding) → AreFollowed leaves texts bytes root rule findings → AreFollowed leaves texts bytes root rule others → findings ≡ others
    followed_one findings others h k =
        let e = sets_one rule h.sinks k.sinks h.sets k.sets h.read.sets_are k.read.sets_are in
        let P : TaintSets → Type 0 = λ s. AreHits root s h.hits in
        let same = hits_one root k.sets h.hits k.hits (subst P e h.hits_are) k.hits_are in
        h.findings_are ∙ ap (λ (ms : List Member). flat_map (finding_of ms) h.hits) (sinks_one rule h.sinks k.sinks h.sets k.sets h.read.sets_are k.read.sets_are) ∙ ap (flat_map (finding_of k.sinks)) same ∙ sym k.findings_are

    pub followed_or_large : (findings : List Finding) (at : ℕ) → AreFollowed leaves texts bytes root rule findings → IsTooLarge leaves texts bytes root rule at → ⊥
    followed_or_large findings at h k =
        let P : TaintSets → Type 0 = NoneLarge root in
        none_or_first root k.sets at (subst P (sets_one rule h.sinks k.sinks h.sets k.sets h.read.sets_are k.read.sets_are) h.none_large) k.large

    pub large_one : (at other : ℕ) → IsTooLarge leaves texts bytes root rule at → IsTooLarge leaves texts bytes root rule other → at ≡ other
    large_one at other h k =
        let P : TaintSets → Type 0 = λ s. FirstLarge root s at in
        first_one_place root k.sets at other (subst P (sets_one rule h.sinks k.sinks h.sets k.sets h.read.sets_are k.read.sets_are) h.large) k.large

    pub followed_or_crowded : (findings : List Finding) (p : RuleList × List ℕ) → AreFollowed leaves texts bytes root rule findings → OverRule leaves texts bytes rule (Some p) → ⊥
    followed_or_crowded findings p h k = let e = rule_one rule None (Some p) h.read.few k in absurd cc

    pub large_or_crowded : (at : ℕ) (p : RuleList × List ℕ) → IsTooLarge leaves texts bytes root rule at → OverRule leaves texts bytes rule (Some p) → ⊥
    large_or_crowded at p h k = let e = rule_one rule None (Some p) h.read.few k in absurd cc
