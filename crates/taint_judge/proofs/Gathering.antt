-- Lists that loops gather, and what is known of gathered members.
use Rattle.std.proofs.Common.{◌≡◌, ◌↔◌, ◌⊎◌, inl, inr, ℕ, suc, ◌+◌, List, [], ◌∷◌, ◌++◌, length, take, map, refl, sym, ap, ◌∙◌, subst, append_assoc, append-nil}
use Rattle.std.specs.Prelude.{All, Option, None, Some, Result, Ok, Err, IfErr, OnOk, slice_get}
use Rattle.std.specs.Option.{option_copied}
use Rattle.std.specs.Borrow.{Bor}
use Rattle.std.specs.List.{flat_map}
use Rattle.std.proofs.lemmas.List.{take_more, map-append}
use Rattle.std.proofs.lemmas.Grind.{flat_map-append}
use Rattle.std.proofs.lemmas.Option.{slice_get_within, get_or_from_slice_get}
use Rattle.std.proofs.lemmas.List.Elements.{All-nil, All-cons, All-head, All-tail, All-append, All-map, All-weaker, All-get_or}
use Rattle.node_tree.specs.declared.node.Node.{Node}
use Rattle.node_tree.specs.declared.span.Span.{Span}
use Rattle.meta_bind.specs.declared.bound.Bound.{Bound}
use Rattle.meta_bind.specs.declared.finding.Finding.{Finding}
use Rattle.meta_bind.specs.Places.{EndsLieIn}
use Rattle.rule_form.specs.declared.formula.Formula.{Formula}
use Rattle.rule_form.specs.declared.rule.TaintRule.{TaintRule}
use Rattle.node_match.specs.Sets.{Among}
use Rattle.tree_match.specs.declared.leaf.Leaf.{Leaf}
use Rattle.tree_match.specs.Members.{Member}
use Rattle.tree_match.specs.Placed.{IsPlaced}
use Rattle.tree_match.proofs.Placed.{all_among, among_all}
use Rattle.member_join.specs.Choices.{range_of}
use Rattle.range_algebra.specs.Trees.{tree_of, trees_of}
use Rattle.range_algebra.specs.Meets.{MeetsSome}
use Rattle.graph_form.specs.Sets.{Among as IsListed}
use Rattle.taint_flow.specs.declared.hit.TaintHit.{TaintHit}
use Rattle.taint_tables.specs.declared.sets.TaintSets.{TaintSets}
use Rattle.taint_flow.specs.Taint.{AreHits}
use Rattle.taint_judge.specs.declared.fault.FollowFault.{FollowFault}
use Rattle.taint_judge.specs.declared.fault.FollowFault.TheVariants as faults
use Rattle.taint_judge.specs.declared.sets.Gathered.{Gathered}
use Rattle.taint_judge.specs.Lists.{together, RuleSearch, AndThen, IsCrowdedBy, AreEach}
use Rattle.taint_judge.specs.Sets.{AreSets}
use Rattle.taint_judge.specs.Gathered.{AreGathered, IsUnion, AreRangesOf}
use Rattle.taint_judge.specs.Follows.{finding_at, finding_of}
use Rattle.taint_judge.specs.Placed.{IsFindingPlaced}

-- ---- one item more

module _ {X : Type 0} (xs : List X) (i : ℕ) (x : X) (there : slice_get xs i ≡ Some x) where
  one_taken : take i xs ++ x ∷ [] ≡ take (i + 1) xs
  one_taken = ap (λ (y : X). take i xs ++ y ∷ []) (sym (get_or_from_slice_get xs i x x there)) ∙ sym (take_more xs i x (slice_get_within xs i x there))

  pub take_grown : (start old new : List X) → old ≡ start ++ take i xs → new ≡ old ++ x ∷ [] → new ≡ start ++ take (i + 1) xs
  take_grown start old new e f = f ∙ ap (λ (l : List X). l ++ x ∷ []) e ∙ append_assoc start (take i xs) (x ∷ []) ∙ ap (λ (l : List X). start ++ l) one_taken

  module _ {Y : Type 0} where
    pub map_grown : (f : X → Y) (start old new : List Y) → old ≡ start ++ map f (take i xs) → new ≡ old ++ f x ∷ [] → new ≡ start ++ map f (take (i + 1) xs)
    map_grown f start old new e g =
        g ∙ ap (λ (l : List Y). l ++ f x ∷ []) e ∙ append_assoc start (map f (take i xs)) (f x ∷ []) ∙ ap (λ (l : List Y). start ++ l) (sym (map-append f (take i xs) (x ∷ [])) ∙ ap (map f) one_taken)

    pub flat_grown : (f : X → List Y) (start old new : List Y) → old ≡ start ++ flat_map f (take i xs) → new ≡ old ++ f x → new ≡ start ++ flat_map f (take (i + 1) xs)
    flat_grown f start old new e g =
        let one : flat_map f (take i xs) ++ f x ≡ flat_map f (take (i + 1) xs) =
        ap (λ (l : List Y). flat_map f (take i xs) ++ l) (sym (append-nil (f x))) ∙ sym (flat_map-append f (take i xs) (x ∷ [])) ∙ ap (flat_map f) one_taken in
        g ∙ ap (λ (l : List Y). l ++ f x) e ∙ append_assoc start (flat_map f (take i xs)) (f x) ∙ ap (λ (l : List Y). start ++ l) one

-- ---- faults

pub crowded_out : {A : Type 0} (Found : RuleSearch) (r : Result A FollowFault) (d e : FollowFault) → r ≡ Err d → d ≡ e → IsCrowdedBy Found e → IfErr r (IsCrowdedBy Found)
crowded_out {A} Found r d e is same h =
    let P : FollowFault → Type 0 = IsCrowdedBy Found in
    let Q : Result A FollowFault → Type 0 = λ q. IfErr q (IsCrowdedBy Found) in
    subst Q (sym is) (subst P (sym same) h)

pub crowded_next : (First Next : RuleSearch) (e : FollowFault) → First None → IsCrowdedBy Next e → IsCrowdedBy (AndThen First Next) e
crowded_next First Next faults.Memory none h = tt
crowded_next First Next (faults.Crowded list numbers) none h = inr (none, h)
crowded_next First Next (faults.TooLarge at) none h = elim h [ ]

pub crowded_first : (First Next : RuleSearch) (e : FollowFault) → IsCrowdedBy First e → IsCrowdedBy (AndThen First Next) e
crowded_first First Next faults.Memory h = tt
crowded_first First Next (faults.Crowded list numbers) h = inl h
crowded_first First Next (faults.TooLarge at) h = elim h [ ]

-- ---- sets

among_left : {X : Type 0} (xs ys : List X) (x : X) → Among xs x → Among (xs ++ ys) x
among_left [] ys x h = absurd h
among_left (z ∷ zs) ys x (inl e) = inl e
among_left (z ∷ zs) ys x (inr h) = inr (among_left zs ys x h)

among_right : {X : Type 0} (xs ys : List X) (x : X) → Among ys x → Among (xs ++ ys) x
among_right [] ys x h = h
among_right (z ∷ zs) ys x h = inr (among_right zs ys x h)

among_either : {X : Type 0} (xs ys : List X) (x : X) → Among (xs ++ ys) x → Among xs x ⊎ Among ys x
among_either [] ys x h = inr h
among_either (z ∷ zs) ys x (inl e) = inl (inl e)
among_either (z ∷ zs) ys x (inr h) = elim (among_either zs ys x h) [ inl a ↦ inl (inr a) | inr b ↦ inr b ]

module _ (leaves : List Leaf) (texts : List (List ℕ)) (bytes : List ℕ) where
  pub each_length : (fs : List Formula) (each : List (List Member)) → AreEach leaves texts bytes fs each → length each ≡ length fs
  each_length [] each h = ap length h
  each_length (f ∷ fs) [] h = elim h [ ]
  each_length (f ∷ fs) (members ∷ each) h = ap (λ (n : ℕ). suc n) (each_length fs each h.1)

  in_some : (fs : List Formula) (each : List (List Member)) → AreEach leaves texts bytes fs each → (m : Member) → Among (together each) m ↔ MeetsSome leaves texts bytes (trees_of (map tree_of fs)) m
  in_some [] each h m =
      let P : List (List Member) → Type 0 = λ ms. Among (together ms) m in
      (λ k. absurd (subst P h k), λ k. elim k [ ])
  in_some (f ∷ fs) [] h m = elim h [ ]
  in_some (f ∷ fs) (members ∷ each) h m =
      let rest = in_some fs each h.1 m in (
        λ k. elim (among_either members (together each) m k) [ inl a ↦ inl ((h.0.exact m).0 a) | inr b ↦ inr (rest.0 b) ],
        λ k. elim k [ inl a ↦ among_left members (together each) m ((h.0.exact m).1 a) | inr b ↦ among_right members (together each) m (rest.1 b) ],
      )

  pub sets_are : (rule : TaintRule) (g : Gathered) (sinks : List Member) (sets : TaintSets) → AreGathered leaves texts bytes rule g → IsUnion g.sinks.items sinks → AreRangesOf rule g sinks sets → AreSets leaves texts bytes rule sinks sets
  sets_are rule g sinks sets are union ranges = record {
    sources = (g.sources.items, are.sources, ranges.sources);
    members = record {
      exact = λ m. let some = in_some rule.sinks g.sinks.items are.sinks m in (λ h. some.0 ((union.exact m).0 h), λ h. (union.exact m).1 (some.1 h));
      ordered = union.ordered;
    };
    places = ranges.places;
    sanitizers = (g.sanitizers.items, are.sanitizers, ranges.sanitizers);
    carries = (g.carriers.items, are.carriers, ranges.carries);
  }

-- ---- places

module _ (P : Member → Type 0) where
  pub together_all : (each : List (List Member)) → All (All P) each → All P (together each)
  together_all [] all = All-nil P
  together_all (members ∷ each) all = All-append P members (together each) (All-head (All P) members each all) (together_all each (All-tail (All P) members each all))

  pub union_all : (each : List (List Member)) (members : List Member) → IsUnion each members → All (All P) each → All P members
  union_all each members union all = among_all P members (λ m h. all_among P (together each) m (together_all each all) ((union.exact m).0 h))

pub ranges_lie : (bytes : List ℕ) (each : List (List Member)) (ranges : List Span) → ranges ≡ map range_of (together each) → All (All (λ m. IsPlaced bytes m)) each → All (EndsLieIn bytes) ranges
ranges_lie bytes each ranges e all =
    let P : Member → Type 0 = λ m. IsPlaced bytes m in
    let Q : Member → Type 0 = λ m. EndsLieIn bytes (range_of m) in
    let R : List Span → Type 0 = All (EndsLieIn bytes) in
    subst R (sym e) (All-map (EndsLieIn bytes) range_of (together each) (All-weaker P Q (λ m h. h.0) (together each) (together_all P each all)))

-- ---- findings

listed_all : {X : Type 0} (P : X → Type 0) (xs : List X) (x : X) → All P xs → IsListed xs x → P x
listed_all P [] x all h = elim h [ ]
listed_all P (y ∷ ys) x all (inl e) = subst P e (All-head P y ys all)
listed_all P (y ∷ ys) x all (inr h) = listed_all P ys x (All-tail P y ys all) h

got_all : {X : Type 0} (P : X → Type 0) (xs : List X) (i : ℕ) (x : X) → All P xs → slice_get xs i ≡ Some x → P x
got_all P xs i x all e = subst P (get_or_from_slice_get xs i x x e) (All-get_or P xs i x (slice_get_within xs i x e) all)

module _ (bytes : List ℕ) (root : Node) (sets : TaintSets) (sinks : List Member) (placed : All (λ m. IsPlaced bytes m) sinks) (lie : All (EndsLieIn bytes) sets.sources) where
  finding_placed : (hit : TaintHit) (o : Option Member) → slice_get sinks hit.sink ≡ o → IsListed sets.sources hit.source → All (IsFindingPlaced bytes) (finding_at hit o)
  finding_placed hit None e listed = All-nil (IsFindingPlaced bytes)
  finding_placed hit (Some m) e listed =
      All-cons (IsFindingPlaced bytes) _ [] (got_all (λ (x : Member). IsPlaced bytes x) sinks hit.sink m placed e, listed_all (EndsLieIn bytes) sets.sources hit.source lie listed) (All-nil (IsFindingPlaced bytes))

  these_placed : (hits : List TaintHit) → ((hit : TaintHit) → IsListed hits hit → IsListed sets.sources hit.source) → All (IsFindingPlaced bytes) (flat_map (finding_of sinks) hits)
  these_placed [] each = All-nil (IsFindingPlaced bytes)
  these_placed (hit ∷ hits) each =
      All-append (IsFindingPlaced bytes) (finding_of sinks hit) (flat_map (finding_of sinks) hits) (finding_placed hit (slice_get sinks hit.sink) refl (each hit (inl refl))) (these_placed hits (λ h k. each h (inr k)))

  pub findings_placed : (hits : List TaintHit) (findings : List Finding) → AreHits root sets hits → findings ≡ flat_map (finding_of sinks) hits → All (IsFindingPlaced bytes) findings
  findings_placed hits findings are e =
      let P : List Finding → Type 0 = All (IsFindingPlaced bytes) in
      subst P (sym e) (these_placed hits (λ h k. (are.each h k).2.hits.listed))

-- a sink that isn't there gives no finding
pub no_finding : (sinks : List Member) (hit : TaintHit) (o : Option (Bor Member)) (old : List Finding) → option_copied o ≡ slice_get sinks hit.sink → ((b : Bor Member) → o ≡ Some b → ⊥) → old ≡ old ++ finding_of sinks hit
no_finding sinks hit None old e none = sym (ap (λ (x : Option Member). old ++ finding_at hit x) (sym e) ∙ append-nil old)
no_finding sinks hit (Some b) old e none = absurd (none b refl)

-- one that is there gives its finding
pub found_finding : {A E : Type 0} (sinks : List Member) (hit : TaintHit) (m : Member) → slice_get sinks hit.sink ≡ Some m → (binding : List Bound) → binding ≡ m.1 → (old new : List Finding) (r : Result A E) → OnOk r (new ≡ old ++ record { span = m.0; binding = binding; source = Some hit.source } ∷ []) → OnOk r (new ≡ old ++ finding_of sinks hit)
found_finding sinks hit m there binding same old new (Ok u) e =
    e ∙ ap (λ (b : List Bound). old ++ record { span = m.0; binding = b; source = Some hit.source } ∷ []) same ∙ ap (λ (o : Option Member). old ++ finding_at hit o) (sym there)
found_finding sinks hit m there binding same old new (Err f) e = tt
