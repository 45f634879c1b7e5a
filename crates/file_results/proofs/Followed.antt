-- Parts that follow data, and their findings.
use Rattle.std.proofs.Common.{◌≡◌, ◌⊎◌, inl, inr, ◌↔◌, ℕ, zero, suc, ◌+◌, ◌<◌, ◌≤◌, Bool, true, false, cond, List, [], ◌∷◌, ◌++◌, length, map, take, drop, reverse, refl, sym, ap, ◌∙◌, subst, arith}
use Rattle.std.specs.Prelude.{Option, None, Some, IsSome, IsTrue, MatchOption, ◌==◌, slice_get}
use Rattle.std.specs.List.{list_any}
use Rattle.std.specs.declared.cmp.Ordering.{Ordering}
use Rattle.std.specs.declared.cmp.Ordering.TheVariants.{Less, Equal, Greater}
use Rattle.std.specs.Ordering.{is_eq, nat_cmp, ordering_index}
use Rattle.std.specs.BTreeSet.{BTreeSet, contains}
use Rattle.std.proofs.lemmas.Bool.{eqb-true}
use Rattle.std.proofs.lemmas.Cmp.{nat_cmp_total, tied_itself}
use Rattle.node_tree.proofs.Orders.{nat_order}
use Rattle.node_match.proofs.Sets.{gathered}
use Rattle.std.proofs.lemmas.List.{reverse-append}
use Rattle.std.proofs.lemmas.Option.{slice_get_within}
use Rattle.node_tree.specs.declared.node.Node.{Node}
use Rattle.node_tree.specs.declared.span.Span.{Span}
use Rattle.node_tree.specs.declared.view.Lang.{Lang}
use Rattle.node_tree.specs.declared.view.Pattern.{Pattern}
use Rattle.node_tree.specs.Tree.{pre_of}
use Rattle.graph_form.specs.declared.graph.Point.{Point}
use Rattle.graph_form.specs.declared.graph.Role.{Role}
use Rattle.meta_bind.specs.declared.finding.Finding.{Finding}
use Rattle.rule_form.specs.declared.rule.Body.{Body}
use Rattle.rule_form.specs.declared.rule.Body.TheVariants as bodies
use Rattle.rule_form.specs.declared.rule.Part.{Part}
use Rattle.rule_form.specs.declared.rule.Rule.{Rule}
use Rattle.rule_form.specs.declared.rule.TaintRule.{TaintRule}
use Rattle.node_match.specs.Sets.{Among}
use Rattle.tree_match.specs.declared.leaf.Leaf.{Leaf}
use Rattle.tree_match.specs.Members.{Member, KnownTree}
use Rattle.part_judge.specs.declared.outcome.Outcome.{Outcome}
use Rattle.part_judge.specs.declared.outcome.Outcome.TheVariants.{Findings, Crowded, FlowTooLarge}
use Rattle.part_judge.specs.Findings.{finding_of, BodyFinds, TaintFinds, findings_of}
use Rattle.report_form.specs.declared.report.Reported.{Reported}
use Rattle.running_rules.proofs.Members.{get_among, among_get, one_there}
use Rattle.taint_judge.specs.declared.sets.RuleSets.{RuleSets}
use Rattle.taint_judge.specs.Follows.{IsRead}
use Rattle.taint_judge.specs.Lists.{OverRule}
use Rattle.taint_trace.specs.Findings.{IsFollowed, IsFoundBy, IsTraceOf}
use Rattle.file_results.specs.declared.looking.Judged.{Judged}
use Rattle.file_results.specs.declared.tracing.Followed.{Followed}
use Rattle.file_results.specs.Asking.{IsAskedFor, WantedAsk}
use Rattle.file_results.specs.Following.{Follows}
use Rattle.file_results.specs.Hits.{Hit, hit_cmp}
use Rattle.file_results.specs.HitOrder.{hit_total, hit_apart}
use Rattle.file_results.specs.Judging.{IsJudged, IsHit, AreReported}
use Rattle.file_results.specs.Looking.{Allows, LeafOf, named_leaf}
use Rattle.file_results.specs.Reports.{reported}
use Rattle.file_results.specs.Tracing.{stops_of, with_stops, HasTrace}
use Rattle.file_results.specs.Followed.{stops_among, IsFollowedBy, IsFollowedPart, AreFollowedParts, AreFollowedRules, AreTraced, LooksAndHas, HasStops, RuleHas, HasRuleStops, HasTraceBy, AreFoundHits, IsWanted, AreOfHits}
use Rattle.file_results.proofs.Judged.{leaves_one}
use Rattle.file_results.proofs.Traces.{none_some, all_traced}

-- ---- places in lists

module _ {X : Type 0} where
  cut_at : (xs : List X) (i : ℕ) (x : X) → slice_get xs i ≡ Some x → xs ≡ take i xs ++ x ∷ drop (suc i) xs
  cut_at [] i x e = absurd cc
  cut_at (y ∷ ys) zero x e = let same : y ≡ x = cc in ap (λ (z : X). z ∷ ys) same
  cut_at (y ∷ ys) (suc i) x e = ap (λ (zs : List X). y ∷ zs) (cut_at ys i x e)

  among_front : (xs : List X) (i : ℕ) (x : X) → Among (take i xs) x → (j : ℕ) × (j < i) × (slice_get xs j ≡ Some x)
  among_front [] zero x h = absurd h
  among_front [] (suc i) x h = absurd h
  among_front (y ∷ ys) zero x h = absurd h
  among_front (y ∷ ys) (suc i) x (inl e) = (0, omega arith, ap (λ (z : X). Some z) e)
  among_front (y ∷ ys) (suc i) x (inr h) = let r = among_front ys i x h in let lt = r.1 in (suc r.0, omega (arith, lt), r.2)

  got_either : (xs : List X) (x y : X) (i : ℕ) → slice_get (xs ++ x ∷ []) i ≡ Some y → (slice_get xs i ≡ Some y) ⊎ ((i ≡ length xs) × (x ≡ y))
  got_either [] x y zero e = inr (refl, let q : Some x ≡ Some y = e in cc)
  got_either [] x y (suc i) e = absurd cc
  got_either (z ∷ zs) x y zero e = inl e
  got_either (z ∷ zs) x y (suc i) e = elim (got_either zs x y i e) [ inl a ↦ inl a | inr (p, q) ↦ inr (ap suc p, q) ]

-- items of two lists at the same place
module _ {X Y : Type 0} (R : ℕ → X → Y → Type 0) (xs : List X) where
  abbrev pub Pairs : List Y → Type 0
  Pairs ys = (i : ℕ) (x : X) (y : Y) → slice_get xs i ≡ Some x → slice_get ys i ≡ Some y → R i x y

  pub pairs_start : (ys : List Y) → ys ≡ [] → Pairs ys
  pairs_start ys e i x y at there = let f : slice_get [] i ≡ Some y = ap (λ (zs : List Y). slice_get zs i) (sym e) ∙ there in absurd cc

  pub pairs_on : (old new : List Y) (y : Y) (i : ℕ) (x : X) → Pairs old → new ≡ old ++ y ∷ [] → length old ≡ i → slice_get xs i ≡ Some x → R i x y → Pairs new
  pairs_on old new y i x far new-is many at has j w z at' there =
      elim (got_either old y z j (ap (λ (zs : List Y). slice_get zs j) (sym new-is) ∙ there)) [
        | inl a ↦ far j w z at' a
        | inr b ↦ (
            let places : i ≡ j = sym (b.0 ∙ many) in
            let items = one_there xs i j x w at at' places in
            let P : ℕ → Type 0 = λ n. R n x y in
            let Q : X → Type 0 = λ v. R j v y in
            let S : Y → Type 0 = λ v. R j w v in
            subst S b.1 (subst Q items (subst P places has))
            )
      ]

pub one_more : {X : Type 0} (old new : List X) (x : X) (n : ℕ) → new ≡ old ++ x ∷ [] → length old ≡ n → length new ≡ n + 1
one_more {X} old new x n e f = ap (λ (xs : List X). length xs) e ∙ at old ∙ ap (λ (m : ℕ). m + 1) f
  where
    at : (xs : List X) → length (xs ++ x ∷ []) ≡ length xs + 1
    at [] = omega arith
    at (y ∷ ys) = let r = at ys in omega (arith, r)

-- ---- findings that are the same

is_first : (o : Ordering) → (ordering_index o == 1) ≡ true → o ≡ Equal
is_first Less e = let f : false ≡ true = e in cc
is_first Equal e = refl
is_first Greater e = let f : false ≡ true = e in cc

-- findings are the same where they stand at the same place of the order
pub same_finding : (b : Bool) (o : Ordering) (g h : Hit) (n : ℕ) (id : List ℕ) (f e : Finding) → b ≡ (ordering_index o == 1) → o ≡ hit_cmp g h → g ≡ record { number = n; id = id; finding = f } → h ≡ record { number = n; id = id; finding = e } → IsTrue b ↔ (f ≡ e)
same_finding b o g h n id f e b-is o-is g-is h-is = (
  λ t.
      let tied : hit_cmp g h ≡ Equal = sym o-is ∙ is_first o (sym b-is ∙ t) in
      ap (λ (x : Hit). x.finding) (sym g-is ∙ hit_apart g h tied ∙ h-is),
  λ same.
      let F : Finding → Hit = λ x. record { number = n; id = id; finding = x } in
      let one : h ≡ g = h-is ∙ ap F (sym same) ∙ sym g-is in
      let tied : o ≡ Equal = o-is ∙ ap (hit_cmp g) one ∙ tied_itself hit_total g in
      b-is ∙ ap (λ (x : Ordering). ordering_index x == 1) tied,
)

-- ---- numbers of rules

module _ (all : List Hit) where
  -- with those that are left, the numbers of the set are those of all
  abbrev pub WantedLeads : BTreeSet ℕ → List Hit → Type 0
  WantedLeads set left = (n : ℕ) → ((contains nat_cmp set n ≡ true) ⊎ IsWanted left n) ↔ IsWanted all n

  next_wanted : (h : Hit) (hs left : List Hit) (n : ℕ) → left ≡ h ∷ hs → IsWanted left n ↔ (((h.number ≡ n) × IsSome h.finding.source) ⊎ IsWanted hs n)
  next_wanted h hs left n e =
      let P : List Hit → Type 0 = λ xs. IsWanted xs n ↔ (((h.number ≡ n) × IsSome h.finding.source) ⊎ IsWanted hs n) in
      subst P (sym e) (
        λ k. elim k.1 [
          | inl same ↦ (let Q : Hit → Type 0 = λ x. (x.number ≡ n) × IsSome x.finding.source in inl (subst Q (sym same) (k.2, k.3)))
          | inr a ↦ inr (k.0, a, k.2, k.3)
        ],
        λ k. elim k [ inl x ↦ (h, inl refl, x.0, x.1) | inr y ↦ (y.0, inr y.1, y.2, y.3) ],
      )

  same_number : (m n : ℕ) (b : Bool) → is_eq (nat_cmp m n) ≡ b → (o : Bool) → (cond b true o ≡ true) ↔ ((o ≡ true) ⊎ (m ≡ n))
  same_number m n true e o = (λ h. inr (nat_order.same m n (tied (nat_cmp m n) e)), λ h. refl)
    where
      tied : (x : Ordering) → is_eq x ≡ true → x ≡ Equal
      tied Less f = absurd cc
      tied Equal f = refl
      tied Greater f = absurd cc
  same_number m n false e o = (
    λ h. inl h,
    λ h. elim h [ inl t ↦ t | inr same ↦ absurd (let f : true ≡ false = sym (ap is_eq (ap (nat_cmp m) (sym same) ∙ tied_itself nat_cmp_total m)) ∙ e in cc) ],
  )

  pub wanted_on : (old new : BTreeSet ℕ) (left hs : List Hit) (h : Hit) → WantedLeads old left → left ≡ h ∷ hs → IsSome h.finding.source → ((q : ℕ) → contains nat_cmp new q ≡ cond (is_eq (nat_cmp h.number q)) true (contains nat_cmp old q)) → WantedLeads new hs
  wanted_on old new left hs h far e comes updates n =
      let more = same_number h.number n (is_eq (nat_cmp h.number n)) refl (contains nat_cmp old n) in
      gathered (contains nat_cmp old n ≡ true) (contains nat_cmp new n ≡ true) ((h.number ≡ n) × IsSome h.finding.source) (IsWanted left n) (IsWanted hs n) (IsWanted all n)
      (λ t. elim (more.0 (sym (updates n) ∙ t)) [ inl o ↦ inl o | inr same ↦ inr (same, comes) ], λ k. updates n ∙ more.1 (elim k [ inl o ↦ inl o | inr x ↦ inr x.0 ]))
      (next_wanted h hs left n e) (far n)

  pub wanted_past : (old : BTreeSet ℕ) (left hs : List Hit) (h : Hit) → WantedLeads old left → left ≡ h ∷ hs → (IsSome h.finding.source → ⊥) → WantedLeads old hs
  wanted_past old left hs h far e none n = (
    λ k. (far n).0 (elim k [ inl o ↦ inl o | inr y ↦ inr ((next_wanted h hs left n e).1 (inr y)) ]),
    λ k. elim ((far n).1 k) [ inl o ↦ inl o | inr y ↦ elim ((next_wanted h hs left n e).0 y) [ inl x ↦ absurd (none x.1) | inr z ↦ inr z ] ],
  )

  pub wanted_end : (set : BTreeSet ℕ) (left : List Hit) → WantedLeads set left → left ≡ [] → (n : ℕ) → (contains nat_cmp set n ≡ true) ↔ IsWanted all n
  wanted_end set left far e n = (
    λ t. (far n).0 (inl t),
    λ k. elim ((far n).1 k) [ inl o ↦ o | inr y ↦ (let P : List Hit → Type 0 = λ xs. Among xs y.0 in absurd (subst P e y.1)) ],
  )

empty_has : (set : BTreeSet ℕ) (n : ℕ) → set.keys ≡ [] → contains nat_cmp set n ≡ true → ⊥
empty_has set n e h = let f : false ≡ true = sym (ap (λ (ks : List ℕ). list_any (λ k. is_eq (nat_cmp n k)) ks) e) ∙ h in absurd cc

pub wanted_start : (all left : List Hit) (set : BTreeSet ℕ) → set.keys ≡ [] → left ≡ all → WantedLeads all set left
wanted_start all left set e f n = let P : List Hit → Type 0 = λ hs. IsWanted hs n in (λ k. elim k [ inl t ↦ absurd (empty_has set n e t) | inr w ↦ subst P f w ], λ w. inr (subst P (sym f) w))

no_keys : (ks : List ℕ) → length ks ≡ 0 → ks ≡ []
no_keys [] e = refl
no_keys (k ∷ ks) e = absurd (omega (arith, e))

-- where no number is wanted no finding comes from a source
pub none_wanted : (rules : List Rule) (hits : List Hit) (set : BTreeSet ℕ) → length set.keys ≡ 0 → ((n : ℕ) → (contains nat_cmp set n ≡ true) ↔ IsWanted hits n) → (h : Hit) → Among hits h → IsSome h.finding.source → ⊥
none_wanted rules hits set e same h k comes = empty_has set h.number (no_keys set.keys e) ((same h.number).1 (h, k, refl, comes))

-- ---- parts of rules in turn

abbrev pub FollowedAt : Lang → List (List ℕ) → List ℕ → KnownTree → ℕ → Part → Option Followed → Type 0
FollowedAt lang texts text tree i part f = IsFollowedPart lang texts text tree part f

abbrev pub RuleAt : Lang → List ℕ → KnownTree → (ℕ → Type 0) → ℕ → Rule → List (Option Followed) → Type 0
RuleAt lang text tree Wanted n rule parts = Wanted n → AreFollowedParts lang rule.texts text tree rule.parts parts

pub wanted_as : (lang : Lang) (text : List ℕ) (tree : KnownTree) (rules : List Rule) (P Q : ℕ → Type 0) (fs : List (List (Option Followed))) → AreFollowedRules lang text tree rules P fs → ((n : ℕ) → Q n → P n) → AreFollowedRules lang text tree rules Q fs
wanted_as lang text tree rules P Q fs h same = record { many = h.many; each = λ n rule parts at there w. h.each n rule parts at there (same n w) }

-- ---- one part

module _ (lang : Lang) (texts : List (List ℕ)) (text : List ℕ) (tree : KnownTree) (finding : Finding) where
  from_nowhere : (members : List Member) → Among (map finding_of members) finding → IsSome finding.source → ⊥
  from_nowhere [] h comes = absurd h
  from_nowhere (m ∷ ms) (inl e) comes = none_some finding.source (ap (λ (f : Finding). f.source) (sym e)) comes
  from_nowhere (m ∷ ms) (inr h) comes = from_nowhere ms h comes

  search_finds : (leaves : List Leaf) (body : Body) (outcome : Outcome) → (Follows body → ⊥) → BodyFinds leaves texts text tree.tree body outcome → Among (findings_of outcome) finding → IsSome finding.source → ⊥
  search_finds leaves (bodies.Search formula) (Findings fs) other finds h comes = let P : List Finding → Type 0 = λ xs. Among xs finding in from_nowhere finds.1 (subst P finds.3 h) comes
  search_finds leaves (bodies.Search formula) (Crowded numbers) other finds h comes = absurd h
  search_finds leaves (bodies.Search formula) (FlowTooLarge at) other finds h comes = absurd h
  search_finds leaves (bodies.Taint rule) outcome other finds h comes = absurd (other tt)

  -- a part that doesn't follow data has no finding that comes from a source
  pub unfollowed : (part : Part) → IsFollowedPart lang texts text tree part None → IsSome finding.source → LooksAndHas lang texts text tree part finding → ⊥
  unfollowed part other comes h = search_finds h.1.1.0 part.body h.1.0 (λ f. other (f, h.0)) h.1.1.2 h.1.2 comes

  taint_finds : (leaves : List Leaf) (rule : TaintRule) (outcome : Outcome) → TaintFinds leaves texts text tree.tree rule outcome → Among (findings_of outcome) finding → IsFollowed leaves texts text tree.tree rule finding
  taint_finds leaves rule (Findings fs) finds h = (fs, finds, h)
  taint_finds leaves rule (Crowded numbers) finds h = absurd h
  taint_finds leaves rule (FlowTooLarge at) finds h = absurd h

  module _ (part : Part) (f : Followed) (is : IsFollowedBy lang texts text tree part f) where
    pub not_found : (Among (findings_of f.found) finding → ⊥) → LooksAndHas lang texts text tree part finding → ⊥
    not_found none h = let P : Outcome → Type 0 = λ o. Among (findings_of o) finding in none (subst P (is.judges.only h.1.0 h.1.1) h.1.2)

    pub is_followed : Among (findings_of f.found) finding → IsFollowed is.leaves texts text tree.tree is.rule finding
    is_followed h =
        let finds = is.judges.finds in
        let P : List Leaf → Type 0 = λ ls. BodyFinds ls texts text tree.tree part.body f.found in
        let Q : Body → Type 0 = λ b. BodyFinds is.leaves texts text tree.tree b f.found in
        taint_finds is.leaves is.rule f.found (subst Q is.follows (subst P (leaves_one lang tree part.patterns finds.0 is.leaves finds.1 is.are) finds.2)) h

    read_here : (sets : RuleSets) → f.sets ≡ Some sets → IsRead is.leaves texts text tree.tree is.rule sets.sinks sets.ranges
    read_here sets e = let M : Option RuleSets → Type 0 = λ o. MatchOption o (findings_of f.found ≡ []) (λ s. IsRead is.leaves texts text tree.tree is.rule s.sinks s.ranges) in subst M e is.read

    -- where it finds something the sets are there
    pub some_sets : Among (findings_of f.found) finding → f.sets ≡ None → ⊥
    some_sets h e =
        let M : Option RuleSets → Type 0 = λ o. MatchOption o (findings_of f.found ≡ []) (λ s. IsRead is.leaves texts text tree.tree is.rule s.sinks s.ranges) in
        let P : List Finding → Type 0 = λ xs. Among xs finding in
        absurd (subst P (subst M e is.read) h)

    pub found_here : Among (findings_of f.found) finding → (sets : RuleSets) → f.sets ≡ Some sets → IsFoundBy tree.tree sets.sinks sets.ranges finding
    found_here h sets e = record { leaves = is.leaves; texts = texts; bytes = text; rule = is.rule; read = read_here sets e; followed = is_followed h }

    pub traced_here : (root : Node) (sets : RuleSets) (path : List Point) → f.sets ≡ Some sets → root ≡ tree.tree
        → ((leaves : List Leaf) (ts : List (List ℕ)) (bytes : List ℕ) (rule : TaintRule) → IsRead leaves ts bytes root rule sets.sinks sets.ranges → IsTraceOf leaves ts bytes root rule finding path) → IsTraceOf is.leaves texts text tree.tree is.rule finding path
    traced_here root sets path e same exact =
        let R : Node → Type 0 = λ r. IsRead is.leaves texts text r is.rule sets.sinks sets.ranges in
        let T : Node → Type 0 = λ r. IsTraceOf is.leaves texts text r is.rule finding path in
        subst T same (exact is.leaves texts text is.rule (subst R (sym same) (read_here sets e)))

    pub has_stops : (path : List Point) (stops : List (ℕ × Role)) → Among (findings_of f.found) finding → IsTraceOf is.leaves texts text tree.tree is.rule finding path → stops ≡ stops_among (pre_of tree.tree) path → HasStops lang texts text tree part finding stops
    has_stops path stops h trace e =
        ((is.looks, (f.found, is.judges.finds, h)), (path, record { leaves = is.leaves; are = is.are; rule = is.rule; follows = is.follows; trace = trace }, e ∙ same path))
      where
        same : (ps : List Point) → stops_among (pre_of tree.tree) ps ≡ stops_of tree.tree ps
        same [] = refl
        same (p ∷ ps) = refl

pub no_items : {X : Type 0} (xs ys : List X) (b : Bool) → xs ≡ ys → b ≡ (length xs == 0) → b ≡ true → ys ≡ []
no_items [] ys b e is t = sym e
no_items (x ∷ xs) ys b e is t = let many = eqb-true (length (x ∷ xs)) 0 (sym is ∙ t) in absurd (omega (arith, many))

pub is_none : {X : Type 0} (xs ys : List X) (b : Bool) → xs ≡ ys → b ≡ (length xs == 0) → ys ≡ [] → b ≡ true
is_none {X} xs ys b e is none = is ∙ ap (λ (zs : List X). length zs == 0) (e ∙ none)

-- what follows data has few members in its sets, if it finds something
pub few_or_none : (leaves : List Leaf) (texts : List (List ℕ)) (text : List ℕ) (root : Node) (rule : TaintRule) (body : Body) (outcome : Outcome) → body ≡ bodies.Taint rule → BodyFinds leaves texts text root body outcome → (findings_of outcome ≡ []) ⊎ OverRule leaves texts text rule None
few_or_none leaves texts text root rule body outcome e finds = let P : Body → Type 0 = λ b. BodyFinds leaves texts text root b outcome in few outcome (subst P e finds)
  where
    few : (o : Outcome) → TaintFinds leaves texts text root rule o → (findings_of o ≡ []) ⊎ OverRule leaves texts text rule None
    few (Findings fs) h = inr h.read.few
    few (Crowded numbers) h = inl refl
    few (FlowTooLarge at) h = inl refl

-- ---- one rule

module _ (lang : Lang) (text : List ℕ) (tree : KnownTree) where
  -- none of the parts before that place has the finding
  abbrev pub NoneBefore : Rule → Finding → ℕ → Type 0
  NoneBefore rule finding i = (j : ℕ) (part : Part) → j < i → slice_get rule.parts j ≡ Some part → LooksAndHas lang rule.texts text tree part finding → ⊥

  pub none_on : (rule : Rule) (finding : Finding) (i : ℕ) (part : Part) → NoneBefore rule finding i → slice_get rule.parts i ≡ Some part → (LooksAndHas lang rule.texts text tree part finding → ⊥) → NoneBefore rule finding (i + 1)
  none_on rule finding i part none at here j other lt there has =
      elim (nearer j i lt) [
        | inl less ↦ none j other less there has
        | inr same ↦ (let P : Part → Type 0 = λ p. LooksAndHas lang rule.texts text tree p finding in here (subst P (one_there rule.parts j i other part there at same) has))
      ]
    where
      nearer : (m n : ℕ) → m < n + 1 → (m < n) ⊎ (m ≡ n)
      nearer m n less = grind arith

  pub rule_stops : (rule : Rule) (finding : Finding) (i : ℕ) (part : Part) (stops : List (ℕ × Role)) → NoneBefore rule finding i → slice_get rule.parts i ≡ Some part → HasStops lang rule.texts text tree part finding stops → HasRuleStops lang text tree rule finding stops
  rule_stops rule finding i part stops none at h = (
    h.1.0,
    record {
      before = take i rule.parts;
      part = part;
      after = drop (suc i) rule.parts;
      parts_are = cut_at rule.parts i part at;
      looks = h.0.0;
      has = h.0.1;
      first = λ other among looks has. let f = among_front rule.parts i other among in none f.0 other f.1 f.2 (looks, has);
      trace = h.1.1;
    },
    h.1.2,
  )

  pub none_has : (rule : Rule) (finding : Finding) (i : ℕ) → NoneBefore rule finding i → length rule.parts ≤ i → RuleHas lang text tree rule finding → ⊥
  none_has rule finding i none le h =
      let g = among_get rule.parts h.0 h.1 in
      let lt = slice_get_within rule.parts g.0 h.0 g.1 in
      none g.0 h.0 (omega (arith, lt, le)) g.1 h.2

  -- ---- findings as they are reported

  pub trace_by_rule : (rules : List Rule) (n : ℕ) (rule : Rule) (bare r : Reported) → slice_get rules n ≡ Some rule → bare.id ≡ rule.id → HasTraceBy lang text tree rule bare r → HasTrace true (named_leaf tree.known) rules lang text tree.tree bare r
  trace_by_rule rules n rule bare r at id h = elim h [
    | inl none ↦ inl none
    | inr k ↦ inr (record {
      comes = k.0;
      rule = rule;
      runs = get_among rules n rule at;
      id_is = sym id;
      path = k.1.1.0;
      by_rule = k.1.1.1;
      is = k.1.2 ∙ ap (λ (stops : List (ℕ × Role)). with_stops bare stops) k.1.1.2;
    })
  ]

-- ---- the findings of a file

pub of_hits : (path text : List ℕ) (rules : List Rule) (hs : List Hit) (rs : List Reported) → AreReported path text rules hs rs → AreOfHits rules hs rs
of_hits path text rules [] rs e = e
of_hits path text rules (h ∷ hs) rs (rule, at, (rest, are, e)) = (rule, at, (reported path text rule h.finding, refl, refl, (rest, of_hits path text rules hs rest are, e)))

module _ (path : List ℕ) (lang : Lang) (text : List ℕ) (tree : KnownTree) (rules : List Rule) (judged : List Judged) (all : (x : Judged) → Among judged x ↔ IsJudged path lang text tree rules x)
    (hits : List Hit) (whole : (h : Hit) → Among hits h ↔ IsHit rules judged h) where
  pub hits_found : AreFoundHits lang text tree rules hits
  hits_found h k =
      let is = (whole h).0 k in
      let j = (all is.from).0 is.is_judged in
      (j.rule, ap (slice_get rules) is.number_is ∙ j.at, (j.finds.part, j.finds.has, (j.finds.looks, (is.from.found, j.finds.finds, is.found))))

  pub wanted_asks : (p : Pattern) → WantedAsk lang rules (IsWanted hits) p → IsAskedFor path lang rules p
  wanted_asks p (n, rule, at, (h, k, number, comes), asks) =
      let is = (whole h).0 k in
      let j = (all is.from).0 is.is_judged in
      let same = one_there rules is.from.number n j.rule rule j.at at (sym is.number_is ∙ number) in
      let P : Rule → Type 0 = λ r. Allows r path in
      (rule, get_among rules n rule at, (subst P same j.finds.allows, asks))

-- ---- results in turn

-- the last of these is the first of the others turned round
pub turned_first : (old new : List Reported) (last : Reported) → old ≡ new ++ last ∷ [] → reverse old ≡ last ∷ reverse new
turned_first old new last e = ap (λ (xs : List Reported). reverse xs) e ∙ reverse-append new (last ∷ [])

module _ (rules : List Rule) where
  -- a hit has its result
  pub next_of : (h : Hit) (hs left : List Hit) (rs rest : List Reported) (r : Reported) → AreOfHits rules left rs → left ≡ h ∷ hs → rs ≡ r ∷ rest → (rule : Rule) × (slice_get rules h.number ≡ Some rule) × (r.id ≡ rule.id) × (r.finding ≡ h.finding) × AreOfHits rules hs rest
  next_of h hs left rs rest r are left-is rs-is =
      let P : List Hit → Type 0 = λ xs. AreOfHits rules xs rs in
      let a = subst P left-is are in
      let e : r ∷ rest ≡ a.2.0 ∷ a.2.3.0 = sym rs-is ∙ a.2.3.2 in
      let head : a.2.0 ≡ r = cc in
      let tail : a.2.3.0 ≡ rest = cc in
      let Q : List Reported → Type 0 = λ xs. AreOfHits rules hs xs in
      (a.0, a.1, ap (λ (x : Reported). x.id) (sym head) ∙ a.2.1, ap (λ (x : Reported). x.finding) (sym head) ∙ a.2.2, subst Q tail a.2.3.1)

  pub some_left : (h : Hit) (hs left : List Hit) (rs : List Reported) → AreOfHits rules left rs → left ≡ h ∷ hs → rs ≡ [] → ⊥
  some_left h hs left rs are left-is rs-is =
      let P : List Hit → Type 0 = λ xs. AreOfHits rules xs rs in
      let a = subst P left-is are in
      let e : [] ≡ a.2.0 ∷ a.2.3.0 = sym rs-is ∙ a.2.3.2 in
      absurd cc

  pub none_of : (left : List Hit) (rs : List Reported) → AreOfHits rules left rs → left ≡ [] → rs ≡ []
  none_of left rs are left-is = let P : List Hit → Type 0 = λ xs. AreOfHits rules xs rs in subst P left-is are

-- findings none of which comes from a source are as they are traced
pub untraced : (leaf_of : LeafOf) (lang : Lang) (text : List ℕ) (tree : Node) (rules : List Rule) (hits : List Hit) (bares : List Reported) → AreOfHits rules hits bares → ((h : Hit) → Among hits h → IsSome h.finding.source → ⊥) → AreTraced (HasTrace true leaf_of rules lang text tree) bares bares
untraced leaf_of lang text tree rules hits bares are none = all_traced (HasTrace true leaf_of rules lang text tree) bares (λ b k. inl (no_source b (of_hit hits bares b are k), refl))
  where
    of_hit : (hs : List Hit) (rs : List Reported) (r : Reported) → AreOfHits rules hs rs → Among rs r → (h : Hit) × Among hs h × (r.finding ≡ h.finding)
    of_hit [] rs r e k = let P : List Reported → Type 0 = λ xs. Among xs r in absurd (subst P e k)
    of_hit (h ∷ hs) rs r (rule, at, (x, id, finding, (rest, more, e))) k =
        let P : List Reported → Type 0 = λ xs. Among xs r in
        elim (subst P e k) [ inl same ↦ (h, inl refl, ap (λ (y : Reported). y.finding) (sym same) ∙ finding) | inr a ↦ (let f = of_hit hs rest r more a in (f.0, inr f.1, f.2)) ]

    empty : (o : Option Span) → (IsSome o → ⊥) → o ≡ None
    empty None h = refl
    empty (Some x) h = absurd (h refl)

    no_source : (r : Reported) → (h : Hit) × Among hits h × (r.finding ≡ h.finding) → r.finding.source ≡ None
    no_source r k = ap (λ (f : Finding). f.source) k.2 ∙ empty k.0.finding.source (none k.0 k.1)
