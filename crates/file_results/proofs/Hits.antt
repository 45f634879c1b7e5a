-- Findings of one file, and their results.
use Rattle.std.proofs.Common.{◌≡◌, ◌⊎◌, inl, inr, ◌↔◌, ℕ, List, [], ◌∷◌, ◌++◌, refl, sym, ap, ◌∙◌, subst, Some, Ok, append_assoc, append-nil}
use Rattle.std.specs.Prelude.{Option, Result, Err, IfOk, slice_get}
use Rattle.std.specs.List.{flat_map}
use Rattle.std.specs.declared.cmp.Ordering.{Ordering}
use Rattle.std.specs.declared.cmp.Ordering.TheVariants.{Less, Equal}
use Rattle.std.specs.Ordering.{ordering_then, nat_cmp}
use Rattle.std.proofs.lemmas.Cmp.{nat_cmp_total, tied_itself}
use Rattle.node_tree.specs.declared.memory.Memory.{Memory}
use Rattle.node_tree.specs.declared.view.Lang.{Lang}
use Rattle.node_tree.specs.Span.{span_cmp}
use Rattle.meta_bind.specs.declared.finding.Finding.{Finding}
use Rattle.meta_bind.specs.Bounds.{name_cmp}
use Rattle.rule_form.specs.declared.rule.Rule.{Rule}
use Rattle.node_match.specs.Sets.{Among, Adds}
use Rattle.tree_match.specs.Ascending.{IsAscending}
use Rattle.node_match.proofs.Sets.{gathered, pushed}
use Rattle.tree_match.proofs.Placed.{all_among}
use Rattle.taint_judge.specs.Placed.{IsFindingPlaced}
use Rattle.part_judge.specs.Findings.{findings_of}
use Rattle.report_form.specs.declared.notice.Notice.{Notice}
use Rattle.report_form.specs.declared.report.Reported.{Reported}
use Rattle.tree_match.specs.Members.{KnownTree}
use Rattle.file_results.specs.declared.looking.Judged.{Judged}
use Rattle.file_results.specs.Sets.{IsExactly}
use Rattle.file_results.specs.Reports.{reported, reported_cmp, bound_cmp}
use Rattle.file_results.specs.Hits.{Hit, hit_cmp}
use Rattle.running_rules.specs.NoteOrder.{name_total, name_same}
use Rattle.running_rules.specs.Running.{AreApart}
use Rattle.file_results.specs.Judging.{IsJudged, IsHit, IsHitOf, AreAllPlaced, AreNumbered, AreNumberedHits, ArePlacedHits, AreReported, judged_notices, notices_by}
use Rattle.file_results.specs.Looking.{named_leaf}
use Rattle.file_results.specs.Shown.{IsFoundIn, IsNotedIn}
use Rattle.running_rules.proofs.Members.{get_among, among_get, one_there, among_flat, flat_among}
use Rattle.file_results.proofs.Orders.{last_unneeded}

-- ---- the findings of one rule

module _ (number : ℕ) (id : List ℕ) where
  abbrev pub HitsGather : List Hit → List Hit → List Finding → List Finding → Type 0
  HitsGather before now all left = (h : Hit) → (Among now h ⊎ IsHitOf number id left h) ↔ (Among before h ⊎ IsHitOf number id all h)

  next_finding : (f : Finding) (all fs : List Finding) (y h : Hit) → all ≡ f ∷ fs → y ≡ record { number = number; id = id; finding = f } → IsHitOf number id all h ↔ ((y ≡ h) ⊎ IsHitOf number id fs h)
  next_finding f all fs y h e y-is =
      let P : List Finding → Type 0 = λ gs. IsHitOf number id gs h ↔ ((y ≡ h) ⊎ IsHitOf number id fs h) in
      let g1 : ℕ → Hit = λ n. record { number = n; id = id; finding = f } in
      let g2 : List ℕ → Hit = λ i. record { number = h.number; id = i; finding = f } in
      let g3 : Finding → Hit = λ x. record { number = h.number; id = h.id; finding = x } in
      subst P (sym e) (
        λ k. elim k.found [
          | inl same ↦ inl (y-is ∙ ap g1 (sym k.number_is) ∙ ap g2 (sym k.id_is) ∙ ap g3 same)
          | inr a ↦ inr (record { number_is = k.number_is; id_is = k.id_is; found = a })
        ],
        λ k. elim k [
          | inl same ↦ (let is : record { number = number; id = id; finding = f } ≡ h = sym y-is ∙ same in record {
            number_is = sym (ap (λ (x : Hit). x.number) is);
            id_is = sym (ap (λ (x : Hit). x.id) is);
            found = inl (ap (λ (x : Hit). x.finding) is);
          })
          | inr r ↦ record { number_is = r.number_is; id_is = r.id_is; found = inr r.found }
        ],
      )

  pub hits_start : (now : List Hit) (all left : List Finding) → left ≡ all → HitsGather now now all left
  hits_start now all left e h = let P : List Finding → Type 0 = λ fs. IsHitOf number id fs h in (λ k. elim k [ inl a ↦ inl a | inr r ↦ inr (subst P e r) ], λ k. elim k [ inl a ↦ inl a | inr r ↦ inr (subst P (sym e) r) ])

  pub hits_on : (before old new : List Hit) (all left fs : List Finding) (f : Finding) (y : Hit) → HitsGather before old all left → left ≡ f ∷ fs → new ≡ old ++ y ∷ [] → y ≡ record { number = number; id = id; finding = f } → HitsGather before new all fs
  hits_on before old new all left fs f y far left-is new-is y-is h =
      gathered (Among old h) (Among new h) (y ≡ h) (IsHitOf number id left h) (IsHitOf number id fs h) (Among before h ⊎ IsHitOf number id all h) (pushed old new y new-is h) (next_finding f left fs y h left-is y-is) (far h)

  pub hits_end : (before now : List Hit) (all left : List Finding) → HitsGather before now all left → left ≡ [] → Adds before now (IsHitOf number id all)
  hits_end before now all left far left-is h = (
    λ a. (far h).0 (inl a),
    λ a. elim ((far h).1 a) [ inl k ↦ k | inr l ↦ (let P : List Finding → Type 0 = λ fs. Among fs h.finding in absurd (subst P left-is l.found)) ],
  )

-- ---- the findings of all rules

module _ (rules : List Rule) where
  abbrev pub AllGather : List Hit → List Judged → List Judged → Type 0
  AllGather now all left = (h : Hit) → (Among now h ⊎ IsHit rules left h) ↔ IsHit rules all h

  next_judged : (x : Judged) (rule : Rule) (all xs : List Judged) (h : Hit) → all ≡ x ∷ xs → slice_get rules x.number ≡ Some rule → IsHit rules all h ↔ (IsHitOf x.number rule.id (findings_of x.found) h ⊎ IsHit rules xs h)
  next_judged x rule all xs h e at =
      let P : List Judged → Type 0 = λ ys. IsHit rules ys h ↔ (IsHitOf x.number rule.id (findings_of x.found) h ⊎ IsHit rules xs h) in
      subst P (sym e) (
        λ k. elim k.is_judged [
          | inl same ↦ (
              let n : x.number ≡ k.from.number = ap (λ (j : Judged). j.number) same in
              let Q : Judged → Type 0 = λ j. Among (findings_of j.found) h.finding in
              inl (record {
                number_is = k.number_is ∙ sym n;
                id_is = k.id_is ∙ ap (λ (r : Rule). r.id) (one_there rules k.from.number x.number k.rule rule k.at at (sym n));
                found = subst Q (sym same) k.found;
              })
              )
          | inr a ↦ inr (record { from = k.from; is_judged = a; number_is = k.number_is; rule = k.rule; at = k.at; id_is = k.id_is; found = k.found })
        ],
        λ k. elim k [
          | inl r ↦ record { from = x; is_judged = inl refl; number_is = r.number_is; rule = rule; at = at; id_is = r.id_is; found = r.found }
          | inr r ↦ record { from = r.from; is_judged = inr r.is_judged; number_is = r.number_is; rule = r.rule; at = r.at; id_is = r.id_is; found = r.found }
        ],
      )

  pub all_on : (old new : List Hit) (all left xs : List Judged) (x : Judged) (rule : Rule) (id : List ℕ) (findings : List Finding)
      → AllGather old all left → left ≡ x ∷ xs → slice_get rules x.number ≡ Some rule → id ≡ rule.id → findings ≡ findings_of x.found → Adds old new (IsHitOf x.number id findings) → AllGather new all xs
  all_on old new all left xs x rule id findings far left-is at id-is findings-is adds h =
      let P : List ℕ → Type 0 = λ i. Among new h ↔ (Among old h ⊎ IsHitOf x.number i findings h) in
      let Q : List Finding → Type 0 = λ fs. Among new h ↔ (Among old h ⊎ IsHitOf x.number rule.id fs h) in
      gathered (Among old h) (Among new h) (IsHitOf x.number rule.id (findings_of x.found) h) (IsHit rules left h) (IsHit rules xs h) (IsHit rules all h) (subst Q findings-is (subst P id-is (adds h))) (next_judged x rule left xs h left-is at) (far h)

  pub all_start : (now : List Hit) (all left : List Judged) → now ≡ [] → left ≡ all → AllGather now all left
  all_start now all left e f h =
      let P : List Hit → Type 0 = λ xs. Among xs h in
      let Q : List Judged → Type 0 = λ xs. IsHit rules xs h in
      (λ k. elim k [ inl a ↦ absurd (subst P e a) | inr j ↦ subst Q f j ], λ j. inr (subst Q (sym f) j))

  pub all_end : (now : List Hit) (all left : List Judged) → AllGather now all left → left ≡ [] → (h : Hit) → Among now h ↔ IsHit rules all h
  all_end now all left far left-is h = (
    λ a. (far h).0 (inl a),
    λ k. elim ((far h).1 k) [ inl a ↦ a | inr l ↦ (let P : List Judged → Type 0 = λ xs. Among xs l.from in absurd (subst P left-is l.is_judged)) ],
  )

-- ---- what holds of findings that were judged

module _ (path : List ℕ) (lang : Lang) (text : List ℕ) (tree : KnownTree) (rules : List Rule) (judged : List Judged) (all : (x : Judged) → Among judged x ↔ IsJudged path lang text tree rules x) where
  pub numbered : AreNumbered rules judged
  numbered x h = let j = (all x).0 h in (j.rule, j.at)

  module _ (hits : List Hit) (whole : (h : Hit) → Among hits h ↔ IsHit rules judged h) where
    pub hits_numbered : AreNumberedHits rules hits
    hits_numbered h k = let is = (whole h).0 k in (is.rule, ap (slice_get rules) is.number_is ∙ is.at)

    pub hits_placed : AreAllPlaced text judged → ArePlacedHits text hits
    hits_placed placed h k = let is = (whole h).0 k in all_among (λ finding. IsFindingPlaced text finding) (findings_of is.from.found) h.finding (placed is.from is.is_judged) is.found

    -- the id of a finding is that of its rule
    hit_id : (h : Hit) (rule : Rule) → Among hits h → slice_get rules h.number ≡ Some rule → h.id ≡ rule.id
    hit_id h rule k at = let is = (whole h).0 k in is.id_is ∙ ap (λ (r : Rule). r.id) (one_there rules is.from.number h.number is.rule rule is.at at (sym is.number_is))

    -- ---- their results

    reported_from : (hs : List Hit) (rs : List Reported) (r : Reported) → AreReported path text rules hs rs → Among rs r → (h : Hit) × Among hs h × ((rule : Rule) × (slice_get rules h.number ≡ Some rule) × (r ≡ reported path text rule h.finding))
    reported_from [] rs r e k = let P : List Reported → Type 0 = λ xs. Among xs r in absurd (subst P e k)
    reported_from (h ∷ hs) rs r (rule, at, (rest, are, e)) k =
        let P : List Reported → Type 0 = λ xs. Among xs r in
        elim (subst P e k) [ inl same ↦ (h, inl refl, (rule, at, sym same)) | inr a ↦ (let f = reported_from hs rest r are a in (f.0, inr f.1, f.2)) ]

    is_reported : (hs : List Hit) (rs : List Reported) (h : Hit) (rule : Rule) → AreReported path text rules hs rs → Among hs h → slice_get rules h.number ≡ Some rule → Among rs (reported path text rule h.finding)
    is_reported [] rs h rule e k at = absurd k
    is_reported (g ∷ hs) rs h rule (rule', at', (rest, are, e)) k at =
        let P : List Reported → Type 0 = λ xs. Among xs (reported path text rule h.finding) in
        subst P (sym e) (elim k [
          | inl same ↦ (
              let is = one_there rules g.number h.number rule' rule at' at (ap (λ (x : Hit). x.number) same) in
              inl (ap (λ (r : Rule). reported path text r g.finding) is ∙ ap (λ (x : Hit). reported path text rule x.finding) same)
              )
          | inr a ↦ inr (is_reported hs rest h rule are a at)
        ])

    found_exactly : (rs : List Reported) → AreReported path text rules hits rs → (r : Reported) → Among rs r ↔ IsFoundIn (named_leaf tree.known) rules path lang text tree.tree r
    found_exactly rs are r = (
      λ k.
          let f = reported_from hits rs r are k in
          let is = (whole f.0).0 f.1 in
          let j = (all is.from).0 is.is_judged in
          let rule = f.2.0 in
          let same = one_there rules is.from.number f.0.number j.rule rule j.at f.2.1 (sym is.number_is) in record {
            rule = j.rule;
            runs = get_among rules is.from.number j.rule j.at;
            outcome = is.from.found;
            finds = j.finds;
            finding = f.0.finding;
            found = is.found;
            is = f.2.2 ∙ ap (λ (x : Rule). reported path text x f.0.finding) (sym same);
          },
      λ k.
          let i = among_get rules k.rule k.runs in
          let x : Judged = record { number = i.0; found = k.outcome } in
          let h : Hit = record { number = i.0; id = k.rule.id; finding = k.finding } in
          let there = (all x).1 (record { rule = k.rule; at = i.1; finds = k.finds }) in
          let hit = (whole h).1 (record { from = x; is_judged = there; number_is = refl; rule = k.rule; at = i.1; id_is = refl; found = k.found }) in
          let P : Reported → Type 0 = λ y. Among rs y in
          subst P (sym k.is) (is_reported hits rs h k.rule are hit i.1),
    )

    module _ (apart : AreApart rules) where
      step_below : (g h : Hit) (r s : Rule) → Among hits g → Among hits h → slice_get rules g.number ≡ Some r → slice_get rules h.number ≡ Some s → hit_cmp g h ≡ Less → reported_cmp (reported path text r g.finding) (reported path text s h.finding) ≡ Less
      step_below g h r s kg kh at at' less =
          let ids : name_cmp r.id s.id ≡ name_cmp g.id h.id = ap (λ (x : List ℕ). name_cmp x s.id) (sym (hit_id g r kg at)) ∙ ap (λ (x : List ℕ). name_cmp g.id x) (sym (hit_id h s kh at')) in
          let P : Ordering → Type 0 = λ b. ordering_then (span_cmp g.finding.span h.finding.span) (ordering_then b (ordering_then (bound_cmp g.finding h.finding) (nat_cmp g.number h.number))) ≡ Less in
          last_unneeded (name_cmp path path) (span_cmp g.finding.span h.finding.span) (name_cmp r.id s.id) (bound_cmp g.finding h.finding) (nat_cmp g.number h.number) (tied_itself name_total path) (subst P (sym ids) less)
          (λ e. let Q : ℕ → Type 0 = λ n. nat_cmp g.number n ≡ Equal in subst Q (apart g.number h.number r s at at' (name_same r.id s.id e)) (tied_itself nat_cmp_total g.number))

      ordered_from : (hs : List Hit) (rs : List Reported) → ((h : Hit) → Among hs h → Among hits h) → AreReported path text rules hs rs → IsAscending hit_cmp hs → IsAscending reported_cmp rs
      ordered_from [] rs within e up = let P : List Reported → Type 0 = λ xs. IsAscending reported_cmp xs in subst P (sym e) tt
      ordered_from (h ∷ []) rs within (rule, at, (rest, are, e)) up =
          let P : List Reported → Type 0 = λ xs. IsAscending reported_cmp xs in
          let Q : List Reported → Type 0 = λ xs. IsAscending reported_cmp (reported path text rule h.finding ∷ xs) in
          subst P (sym e) (subst Q (sym are) tt)
      ordered_from (g ∷ h ∷ hs) rs within (r, at, (rest, (s, at', (rest', are, e')), e)) up =
          let P : List Reported → Type 0 = λ xs. IsAscending reported_cmp xs in
          let Q : List Reported → Type 0 = λ xs. IsAscending reported_cmp (reported path text r g.finding ∷ xs) in
          let tail : IsAscending reported_cmp rest = ordered_from (h ∷ hs) rest (λ x k. within x (inr k)) (s, at', (rest', are, e')) up.1 in
          subst P (sym e) (subst Q (sym e') (step_below g h r s (within g (inl refl)) (within h (inr (inl refl))) at at' up.0, subst P e' tail))

      pub results_exactly : (rs : List Reported) → AreReported path text rules hits rs → IsAscending hit_cmp hits → IsExactly reported_cmp (IsFoundIn (named_leaf tree.known) rules path lang text tree.tree) rs
      results_exactly rs are up = record { exact = found_exactly rs are; ordered = ordered_from hits rs (λ h k. k) are up }

  -- ---- their notices

  pub noted_exactly : (n : Notice) → Among (flat_map (judged_notices path rules) judged) n ↔ IsNotedIn (named_leaf tree.known) rules path lang text tree.tree n
  noted_exactly n = (
    λ k.
        let f = among_flat (judged_notices path rules) judged n k in
        let j = (all f.0).0 f.1 in
        let P : Option Rule → Type 0 = λ o. Among (notices_by path f.0.found o) n in
        record { rule = j.rule; runs = get_among rules f.0.number j.rule j.at; outcome = f.0.found; finds = j.finds; told = subst P j.at f.2 },
    λ k.
        let i = among_get rules k.rule k.runs in
        let x : Judged = record { number = i.0; found = k.outcome } in
        let there = (all x).1 (record { rule = k.rule; at = i.1; finds = k.finds }) in
        let P : Option Rule → Type 0 = λ o. Among (notices_by path k.outcome o) n in
        flat_among (judged_notices path rules) judged x n there (subst P (sym i.1) k.told),
  )

-- ---- rows

-- the results of what is left, behind these, are those of all
abbrev pub ReportLeads : List ℕ → List ℕ → List Rule → List Hit → List Reported → List Hit → Type 0
ReportLeads path text rules all results left = (rest : List Reported) → AreReported path text rules left rest → AreReported path text rules all (results ++ rest)

pub reports_start : (path text : List ℕ) (rules : List Rule) (all left : List Hit) (results : List Reported) → results ≡ [] → left ≡ all → ReportLeads path text rules all results left
reports_start path text rules all left results e f rest are =
    let P : List Hit → Type 0 = λ hs. AreReported path text rules hs rest in
    let Q : List Reported → Type 0 = λ rs. AreReported path text rules all (rs ++ rest) in
    subst Q (sym e) (subst P f are)

pub reports_on : (path text : List ℕ) (rules : List Rule) (all : List Hit) (old new : List Reported) (left hs : List Hit) (h : Hit) (rule : Rule)
    → ReportLeads path text rules all old left → left ≡ h ∷ hs → slice_get rules h.number ≡ Some rule → new ≡ old ++ reported path text rule h.finding ∷ [] → ReportLeads path text rules all new hs
reports_on path text rules all old new left hs h rule far left-is at new-is rest are =
    let r = reported path text rule h.finding in
    let P : List Hit → Type 0 = λ xs. AreReported path text rules xs (r ∷ rest) in
    let Q : List Reported → Type 0 = λ xs. AreReported path text rules all xs in
    let R : List Reported → Type 0 = λ xs. AreReported path text rules all (xs ++ rest) in
    subst R (sym new-is) (subst Q (sym (append_assoc old (r ∷ []) rest)) (far (r ∷ rest) (subst P (sym left-is) (rule, at, (rest, are, refl)))))

pub reports_end : (path text : List ℕ) (rules : List Rule) (all : List Hit) (results : List Reported) (left : List Hit) → ReportLeads path text rules all results left → left ≡ [] → AreReported path text rules all results
reports_end path text rules all results left far left-is =
    let P : List Hit → Type 0 = λ xs. AreReported path text rules xs [] in
    let Q : List Reported → Type 0 = λ xs. AreReported path text rules all xs in
    subst Q (append-nil results) (far [] (subst P (sym left-is) refl))

-- ---- what the code makes of them

pub found_all : (path : List ℕ) (lang : Lang) (text : List ℕ) (tree : KnownTree) (rules : List Rule) (judged found : List Judged) → found ≡ judged → ((x : Judged) → Among judged x ↔ IsJudged path lang text tree rules x) → (x : Judged) → Among found x ↔ IsJudged path lang text tree rules x
found_all path lang text tree rules judged found e all x = let P : List Judged → Type 0 = λ js. Among js x ↔ IsJudged path lang text tree rules x in subst P (sym e) (all x)

pub shown_all : (rules : List Rule) (found : List Judged) (unsorted rows shown : List Hit) → shown ≡ rows → ((h : Hit) → Among rows h ↔ Among unsorted h) → ((h : Hit) → Among unsorted h ↔ IsHit rules found h) → (h : Hit) → Among shown h ↔ IsHit rules found h
shown_all rules found unsorted rows shown e same exact h =
    let P : List Hit → Type 0 = λ hs. Among hs h ↔ IsHit rules found h in
    subst P (sym e) (λ k. (exact h).0 ((same h).0 k), λ k. (same h).1 ((exact h).1 k))

pub if_reported : (P Q : List Reported → Type 0) (r : Result (List Reported) Memory) → ((rs : List Reported) → P rs → Q rs) → IfOk r P → IfOk r Q
if_reported P Q (Ok rs) f h = f rs h
if_reported P Q (Err e) f h = tt
