-- A finding has one trace, and lists of findings with their traces.
use Rattle.std.proofs.Common.{◌≡◌, inl, inr, ℕ, Bool, true, false, List, [], ◌∷◌, ◌++◌, refl, sym, ap, ◌∙◌, subst, append_assoc, append-nil}
use Rattle.std.specs.Prelude.{Option, None, Some, IsSome}
use Rattle.std.specs.declared.cmp.Ordering.TheVariants.{Less}
use Rattle.node_tree.specs.declared.node.Node.{Node}
use Rattle.node_tree.specs.declared.view.Lang.{Lang}
use Rattle.graph_form.specs.declared.graph.Point.{Point}
use Rattle.graph_form.specs.declared.graph.Role.{Role}
use Rattle.meta_bind.specs.declared.finding.Finding.{Finding}
use Rattle.rule_form.specs.declared.rule.Body.TheVariants.{Taint}
use Rattle.rule_form.specs.declared.rule.Part.{Part}
use Rattle.rule_form.specs.declared.rule.Rule.{Rule}
use Rattle.rule_form.specs.declared.rule.TaintRule.{TaintRule}
use Rattle.node_match.specs.Sets.{Among}
use Rattle.tree_match.specs.declared.leaf.Leaf.{Leaf}
use Rattle.tree_match.specs.Ascending.{IsAscending}
use Rattle.tree_match.specs.Members.{KnownTree}
use Rattle.report_form.specs.declared.report.Reported.{Reported}
use Rattle.running_rules.specs.Running.{AreApart}
use Rattle.running_rules.proofs.Members.{among_get, one_there}
use Rattle.taint_trace.specs.Findings.{IsTraceOf}
use Rattle.taint_trace.proofs.Once.{trace_once}
use Rattle.file_results.specs.Sets.{IsExactly}
use Rattle.file_results.specs.Reports.{reported_cmp}
use Rattle.file_results.specs.Looking.{LeafOf, LooksAt, named_leaf}
use Rattle.file_results.specs.Shown.{IsFoundIn}
use Rattle.file_results.specs.Tracing.{stops_of, with_stops, PartHas, IsPartTrace, IsRuleTrace, IsTraced, HasTrace}
use Rattle.file_results.specs.Followed.{AreTraced, IsTracedIn}
use Rattle.file_results.proofs.Judged.{leaves_one}

-- ---- the first such item of a list

module _ {X : Type 0} (P : X → Type 0) where
  -- it is one, however the list is cut before it
  pub first_one : (b c : List X) (x y : X) (d e : List X) → b ++ x ∷ d ≡ c ++ y ∷ e → P x → P y → ((z : X) → Among b z → P z → ⊥) → ((z : X) → Among c z → P z → ⊥) → x ≡ y
  first_one [] [] x y d e same px py before after = let h : x ∷ d ≡ y ∷ e = same in cc
  first_one [] (z ∷ c) x y d e same px py before after =
      let h : x ∷ d ≡ z ∷ (c ++ y ∷ e) = same in
      let head : x ≡ z = cc in
      absurd (after z (inl refl) (subst P head px))
  first_one (z ∷ b) [] x y d e same px py before after =
      let h : z ∷ (b ++ x ∷ d) ≡ y ∷ e = same in
      let head : y ≡ z = cc in
      absurd (before z (inl refl) (subst P head py))
  first_one (z ∷ b) (w ∷ c) x y d e same px py before after =
      let h : z ∷ (b ++ x ∷ d) ≡ w ∷ (c ++ y ∷ e) = same in
      let tail : b ++ x ∷ d ≡ c ++ y ∷ e = cc in
      first_one b c x y d e tail px py (λ v a. before v (inr a)) (λ v a. after v (inr a))

-- ---- a finding has one trace

pub none_some : {X : Type 0} (o : Option X) → o ≡ None → IsSome o → ⊥
none_some None e h = let f : false ≡ true = h in cc
none_some (Some x) e h = absurd cc

module _ (lang : Lang) (text : List ℕ) (tree : KnownTree) (finding : Finding) where
  part_trace_once : (texts : List (List ℕ)) (part : Part) (p q : List Point) → IsPartTrace (named_leaf tree.known lang) texts text tree.tree part finding p → IsPartTrace (named_leaf tree.known lang) texts text tree.tree part finding q → p ≡ q
  part_trace_once texts part p q h k =
      let leaves : h.leaves ≡ k.leaves = leaves_one lang tree part.patterns h.leaves k.leaves h.are k.are in
      let rules : h.rule ≡ k.rule = (let e : Taint h.rule ≡ Taint k.rule = sym h.follows ∙ k.follows in cc) in
      let P : List Leaf → Type 0 = λ ls. IsTraceOf ls texts text tree.tree h.rule finding p in
      let Q : TaintRule → Type 0 = λ r. IsTraceOf k.leaves texts text tree.tree r finding p in
      trace_once k.leaves texts text tree.tree k.rule finding p q (subst Q rules (subst P leaves h.trace)) k.trace

  rule_trace_once : (rule : Rule) (p q : List Point) → IsRuleTrace (named_leaf tree.known) lang text tree.tree rule finding p → IsRuleTrace (named_leaf tree.known) lang text tree.tree rule finding q → p ≡ q
  rule_trace_once rule p q h k =
      let Has : Part → Type 0 = λ part. LooksAt part lang × PartHas (named_leaf tree.known lang) rule.texts text tree.tree part finding in
      let parts = first_one Has h.before k.before h.part k.part h.after k.after (sym h.parts_are ∙ k.parts_are) (h.looks, h.has) (k.looks, k.has) (λ z a x. h.first z a x.0 x.1) (λ z a x. k.first z a x.0 x.1) in
      let P : Part → Type 0 = λ part. IsPartTrace (named_leaf tree.known lang) rule.texts text tree.tree part finding p in
      part_trace_once rule.texts k.part p q (subst P parts h.trace) k.trace

module _ (lang : Lang) (text : List ℕ) (tree : KnownTree) (rules : List Rule) (apart : AreApart rules) where
  same_rule : (r s : Rule) → Among rules r → Among rules s → r.id ≡ s.id → r ≡ s
  same_rule r s h k ids =
      let i = among_get rules r h in
      let j = among_get rules s k in
      one_there rules i.0 j.0 r s i.1 j.1 (apart i.0 j.0 r s i.1 j.1 ids)

  traced_once : (bare r s : Reported) → IsTraced (named_leaf tree.known) rules lang text tree.tree bare r → IsTraced (named_leaf tree.known) rules lang text tree.tree bare s → r ≡ s
  traced_once bare r s h k =
      let same = same_rule h.rule k.rule h.runs k.runs (h.id_is ∙ sym k.id_is) in
      let P : Rule → Type 0 = λ x. IsRuleTrace (named_leaf tree.known) lang text tree.tree x bare.finding h.path in
      let paths = rule_trace_once lang text tree bare.finding k.rule h.path k.path (subst P same h.by_rule) k.by_rule in
      h.is ∙ ap (λ (p : List Point). with_stops bare (stops_of tree.tree p)) paths ∙ sym k.is

  has_trace_once : (traced : Bool) (bare r s : Reported) → HasTrace traced (named_leaf tree.known) rules lang text tree.tree bare r → HasTrace traced (named_leaf tree.known) rules lang text tree.tree bare s → r ≡ s
  has_trace_once false bare r s h k = h ∙ sym k
  has_trace_once true bare r s (inl h) (inl k) = h.1 ∙ sym k.1
  has_trace_once true bare r s (inl h) (inr k) = absurd (none_some bare.finding.source h.0 k.comes)
  has_trace_once true bare r s (inr h) (inl k) = absurd (none_some bare.finding.source k.0 h.comes)
  has_trace_once true bare r s (inr h) (inr k) = traced_once bare r s h k

-- ---- a trace changes nothing else

module _ (leaf_of : LeafOf) (rules : List Rule) (lang : Lang) (text : List ℕ) (tree : Node) where
  pub same_but_stops : (traced : Bool) (bare r : Reported) → HasTrace traced leaf_of rules lang text tree bare r → (stops : List (ℕ × Role)) × (r ≡ with_stops bare stops)
  same_but_stops false bare r h = (bare.trace, h)
  same_but_stops true bare r (inl h) = (bare.trace, h.1)
  same_but_stops true bare r (inr h) = (stops_of tree h.path, h.is)

  pub same_path : (traced : Bool) (path : List ℕ) (bare r : Reported) → IsFoundIn leaf_of rules path lang text tree bare → HasTrace traced leaf_of rules lang text tree bare r → r.path ≡ path
  same_path traced path bare r found has = let s = same_but_stops traced bare r has in ap (λ (x : Reported). x.path) s.1 ∙ ap (λ (x : Reported). x.path) found.is

  -- traces make no difference to the order
  module _ (traced : Bool) where
    abbrev Has : Reported → Reported → Type 0
    Has bare r = HasTrace traced leaf_of rules lang text tree bare r

    still_less : (b c r s : Reported) → Has b r → Has c s → reported_cmp b c ≡ Less → reported_cmp r s ≡ Less
    still_less b c r s h k less =
        let x = same_but_stops traced b r h in
        let y = same_but_stops traced c s k in
        let P : Reported → Type 0 = λ z. reported_cmp z s ≡ Less in
        let Q : Reported → Type 0 = λ z. reported_cmp (with_stops b x.0) z ≡ Less in
        subst P (sym x.1) (subst Q (sym y.1) less)

    still_ordered : (bs rs : List Reported) → AreTraced Has bs rs → IsAscending reported_cmp bs → IsAscending reported_cmp rs
    still_ordered [] rs e up = let P : List Reported → Type 0 = λ xs. IsAscending reported_cmp xs in subst P (sym e) tt
    still_ordered (b ∷ []) rs (r, has, (rest, are, e)) up =
        let P : List Reported → Type 0 = λ xs. IsAscending reported_cmp xs in
        let Q : List Reported → Type 0 = λ xs. IsAscending reported_cmp (r ∷ xs) in
        subst P (sym e) (subst Q (sym are) tt)
    still_ordered (b ∷ c ∷ bs) rs (r, has, (rest, (s, has', (rest', are, e')), e)) up =
        let P : List Reported → Type 0 = λ xs. IsAscending reported_cmp xs in
        let Q : List Reported → Type 0 = λ xs. IsAscending reported_cmp (r ∷ xs) in
        let tail : IsAscending reported_cmp rest = still_ordered (c ∷ bs) rest (s, has', (rest', are, e')) up.1 in
        subst P (sym e) (subst Q (sym e') (still_less b c r s has has' up.0, subst P e' tail))

-- ---- the findings of a list

module _ (Has : Reported → Reported → Type 0) where
  traced_from : (bs rs : List Reported) (r : Reported) → AreTraced Has bs rs → Among rs r → (b : Reported) × Among bs b × Has b r
  traced_from [] rs r e k = let P : List Reported → Type 0 = λ xs. Among xs r in absurd (subst P e k)
  traced_from (b ∷ bs) rs r (x, has, (rest, are, e)) k =
      let P : List Reported → Type 0 = λ xs. Among xs r in
      let Q : Reported → Type 0 = λ y. Has b y in
      elim (subst P e k) [ inl same ↦ (b, inl refl, subst Q same has) | inr a ↦ (let f = traced_from bs rest r are a in (f.0, inr f.1, f.2)) ]

  traced_to : (bs rs : List Reported) (b : Reported) → AreTraced Has bs rs → Among bs b → (r : Reported) × Among rs r × Has b r
  traced_to [] rs b e k = absurd k
  traced_to (c ∷ bs) rs b (x, has, (rest, are, e)) k =
      let P : List Reported → Type 0 = λ xs. Among xs x in
      let Q : Reported → Type 0 = λ y. Has y x in
      elim k [
        | inl same ↦ (x, subst P (sym e) (inl refl), subst Q same has)
        | inr a ↦ (let f = traced_to bs rest b are a in let R : List Reported → Type 0 = λ xs. Among xs f.0 in (f.0, subst R (sym e) (inr f.1), f.2))
      ]

  -- each is its own
  pub all_traced : (bs : List Reported) → ((b : Reported) → Among bs b → Has b b) → AreTraced Has bs bs
  all_traced [] has = refl
  all_traced (b ∷ bs) has = (b, has b (inl refl), (bs, all_traced bs (λ c a. has c (inr a)), refl))

  -- those that are left with their traces, behind these, are all with theirs
  abbrev pub TraceLeads : List Reported → List Reported → List Reported → Type 0
  TraceLeads all traced left = (rest : List Reported) → AreTraced Has left rest → AreTraced Has all (traced ++ rest)

-- all findings, each with its trace
pub traced_exactly : (lang : Lang) (text : List ℕ) (tree : KnownTree) (rules : List Rule) (path : List ℕ) (traced : Bool) → AreApart rules → (bares rs : List Reported) → IsExactly reported_cmp (IsFoundIn (named_leaf tree.known) rules path lang text tree.tree) bares
    → AreTraced (HasTrace traced (named_leaf tree.known) rules lang text tree.tree) bares rs → IsExactly reported_cmp (IsTracedIn (named_leaf tree.known) traced rules path lang text tree.tree) rs
traced_exactly lang text tree rules path traced apart bares rs found are =
    let Has : Reported → Reported → Type 0 = HasTrace traced (named_leaf tree.known) rules lang text tree.tree in
    record {
      exact = λ r. (
        λ k. let f = traced_from Has bares rs r are k in record { bare = f.0; is_found = (found.exact f.0).0 f.1; trace = f.2 },
        λ k.
            let f = traced_to Has bares rs k.bare are ((found.exact k.bare).1 k.is_found) in
            let P : Reported → Type 0 = λ x. Among rs x in
            subst P (has_trace_once lang text tree rules apart traced k.bare f.0 r f.2 k.trace) f.1,
      );
      ordered = still_ordered (named_leaf tree.known) rules lang text tree.tree traced bares rs are found.ordered;
    }

module _ (Has : Reported → Reported → Type 0) where
  pub trace_start : (all left traced : List Reported) → traced ≡ [] → left ≡ all → TraceLeads Has all traced left
  trace_start all left traced e f rest are =
      let P : List Reported → Type 0 = λ bs. AreTraced Has bs rest in
      let Q : List Reported → Type 0 = λ rs. AreTraced Has all (rs ++ rest) in
      subst Q (sym e) (subst P f are)

  pub trace_on : (all old new left bs : List Reported) (b r : Reported) → TraceLeads Has all old left → left ≡ b ∷ bs → Has b r → new ≡ old ++ r ∷ [] → TraceLeads Has all new bs
  trace_on all old new left bs b r far left-is has new-is rest are =
      let P : List Reported → Type 0 = λ xs. AreTraced Has xs (r ∷ rest) in
      let Q : List Reported → Type 0 = λ xs. AreTraced Has all xs in
      let R : List Reported → Type 0 = λ xs. AreTraced Has all (xs ++ rest) in
      subst R (sym new-is) (subst Q (sym (append_assoc old (r ∷ []) rest)) (far (r ∷ rest) (subst P (sym left-is) (r, has, (rest, are, refl)))))

  pub trace_end : (all traced left : List Reported) → TraceLeads Has all traced left → left ≡ [] → AreTraced Has all traced
  trace_end all traced left far left-is =
      let P : List Reported → Type 0 = λ xs. AreTraced Has xs [] in
      let Q : List Reported → Type 0 = λ xs. AreTraced Has all xs in
      subst Q (append-nil traced) (far [] (subst P (sym left-is) refl))
