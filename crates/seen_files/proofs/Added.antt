-- What rules find that came to others, beside what these found before.
use Rattle.std.proofs.Common.{◌≡◌, ◌⊎◌, inl, inr, ◌↔◌, ℕ, Bool, true, false, List, [], ◌∷◌, ◌++◌, refl, sym, ap, ◌∙◌, subst}
use Rattle.std.specs.Prelude.{Result, Ok, Err, IfOk, Option, None, Some, IfSome}
use Rattle.std.specs.Ordering.{ordering_then}
use Rattle.std.specs.declared.cmp.Ordering.TheVariants.{Equal}
use Rattle.node_tree.specs.declared.known.Known.{Known}
use Rattle.node_tree.specs.declared.node.Node.{Node}
use Rattle.node_tree.specs.declared.view.FileView.{FileView}
use Rattle.node_tree.specs.declared.view.Lang.{Lang}
use Rattle.node_tree.specs.declared.view.Pattern.{Pattern}
use Rattle.node_tree.specs.Span.{span_cmp}
use Rattle.node_tree.proofs.Orders.{then_first, then_second}
use Rattle.meta_bind.specs.Bounds.{name_cmp}
use Rattle.node_match.specs.Sets.{Among, Adds}
use Rattle.node_match.proofs.Sets.{among_more}
use Rattle.rule_form.specs.declared.rule.Rule.{Rule}
use Rattle.file_open.specs.declared.opened.Opened.{Opened}
use Rattle.file_open.specs.declared.opened.Opened.TheVariants.{TooLarge, NotUtf8, NoTree, Read}
use Rattle.file_open.specs.Naming.{Knows}
use Rattle.file_open.specs.Opening.{IsOpened}
use Rattle.file_open.specs.Reading.{Spells}
use Rattle.kept_leaves.specs.Growth.{Grows, Meets}
use Rattle.kept_leaves.specs.Kept.{Map, IsKept}
use Rattle.kept_leaves.specs.Pairs.{Pair}
use Rattle.kept_leaves.proofs.Asking.{meets_old_ones}
use Rattle.kept_leaves.proofs.Growing.{meets_as, meets_then}
use Rattle.report_form.specs.declared.notice.Notice.{Notice}
use Rattle.report_form.specs.declared.report.Reported.{Reported}
use Rattle.running_rules.specs.NoteOrder.{name_same}
use Rattle.running_rules.specs.Running.{AreApart}
use Rattle.running_rules.proofs.Members.{among_get, one_there, among_left, among_right, among_either}
use Rattle.file_results.specs.Asking.{IsAskedFor}
use Rattle.file_results.specs.HitOrder.{reported_total}
use Rattle.file_results.specs.Looking.{LeafOf, named_leaf, own_leaf}
use Rattle.file_results.specs.Needing.{RulesUseNames, AreWanted, ServesRules}
use Rattle.file_results.specs.Quieted.{Comments, Grammars, grammars_of}
use Rattle.file_results.specs.Reports.{bound_cmp, reported_cmp}
use Rattle.file_results.specs.Sets.{IsExactly}
use Rattle.file_results.specs.Shown.{File, lang_at, Shows, opened_notices, IsFoundIn, IsShownIn, IsNotedIn, IsResultIn, IsNoticeIn}
use Rattle.file_results.specs.Tracing.{HasTrace}
use Rattle.file_results.proofs.Named.{wanted_serve, shown_served, noted_served}
use Rattle.file_results.proofs.OneFile.{seen_results, seen_notices}
use Rattle.file_results.proofs.Traces.{same_but_stops}
use Rattle.seen_files.specs.declared.seen.SeenFile.{SeenFile}
use Rattle.seen_files.specs.Merging.{AreMergeable, AreMerged}
use Rattle.seen_files.specs.More.{AreAdded, NamesSuffice}
use Rattle.seen_files.specs.Needs.{HasView, IsNeededIn, IsNeededAt}
use Rattle.seen_files.specs.Seen.{file_of, AreAlike, IsOpenedSo, IsNamedFor, IsSeen}
use Rattle.seen_files.proofs.Found.{bare_read, bare_plain}

-- ---- notices

-- one goes over from a list to another
pub moved_on : (old old' ns ns' : List Notice) (x : Notice) → old ≡ old' ++ x ∷ [] → ns' ≡ ns ++ x ∷ [] → (first second : List Notice) → ((n : Notice) → (Among old n ⊎ Among ns n) ↔ (Among first n ⊎ Among second n))
    → (n : Notice) → (Among old' n ⊎ Among ns' n) ↔ (Among first n ⊎ Among second n)
moved_on old old' ns ns' x e f first second far n =
    let P : List Notice → Type 0 = λ l. Among l n in
    let a = among_more old' x n in
    let b = among_more ns x n in (
      λ h. (far n).0 (elim h [
        | inl k ↦ inl (subst P (sym e) (a.1 (inl k)))
        | inr k ↦ elim (b.0 (subst P f k)) [ inl m ↦ inr m | inr m ↦ inl (subst P (sym e) (a.1 (inr m))) ]
      ]),
      λ h. elim ((far n).1 h) [
        | inl k ↦ elim (a.0 (subst P e k)) [ inl m ↦ inl m | inr m ↦ inr (subst P (sym f) (b.1 (inr m))) ]
        | inr k ↦ inr (subst P (sym f) (b.1 (inl k)))
      ],
    )

-- all did
pub moved_all : {E : Type 0} (old ns first second : List Notice) → old ≡ [] → ((n : Notice) → (Among old n ⊎ Among ns n) ↔ (Among first n ⊎ Among second n)) → (r : Result (List Notice) E) → IfOk r (λ l. (n : Notice) → Among l n ↔ Among ns n)
    → IfOk r (λ l. (n : Notice) → Among l n ↔ (Among first n ⊎ Among second n))
moved_all old ns first second none far (Ok l) same = λ n.
    let P : List Notice → Type 0 = λ xs. Among xs n in (
      λ h. (far n).0 (inr ((same n).0 h)),
      λ h. elim ((far n).1 h) [ inl k ↦ absurd (subst P none k) | inr k ↦ (same n).1 k ],
    )
moved_all old ns first second none far (Err e) same = tt

-- ---- rules by their ids

same_rule : (rules : List Rule) → AreApart rules → (r s : Rule) → Among rules r → Among rules s → r.id ≡ s.id → r ≡ s
same_rule rules apart r s h k ids =
    let i = among_get rules r h in
    let j = among_get rules s k in
    one_there rules i.0 j.0 r s i.1 j.1 (apart i.0 j.0 r s i.1 j.1 ids)

module _ (before running added : List Rule) (more : AreAdded before running added) where
  was : (r : Rule) → Among before r → Among running r
  was r a = (more.exact r).1 (inl a)

  came : (r : Rule) → Among added r → Among running r
  came r a = (more.exact r).1 (inr a)

  -- ---- names

  uses_more : (lang : Lang) (tree : Node) → RulesUseNames lang tree running → RulesUseNames lang tree before ⊎ RulesUseNames lang tree added
  uses_more lang tree (rule, runs, uses) = elim ((more.exact rule).0 runs) [ inl a ↦ inl (rule, a, uses) | inr a ↦ inr (rule, a, uses) ]

  -- names that were wanted and suffice are wanted still
  wanted_more : (knows : Knows) (lang : Lang) (tree : Node) (known : List Known) → (known ≡ [] → ⊥) ⊎ (RulesUseNames lang tree added → ⊥) → AreWanted knows lang tree before known → AreWanted knows lang tree running known
  wanted_more knows lang tree known suffice (inl ((rule, runs, uses), just)) = inl ((rule, was rule runs, uses), just)
  wanted_more knows lang tree known (inl some) (inr (none, e)) = absurd (some e)
  wanted_more knows lang tree known (inr free) (inr (none, e)) = inr ((λ u. elim (uses_more lang tree u) [ inl b ↦ none b | inr c ↦ free c ]), e)

  -- they serve those that came
  serve_added : (knows : Knows) (lang : Lang) (tree : Node) (known : List Known) → AreWanted knows lang tree running known → ServesRules knows lang tree known added
  serve_added knows lang tree known wanted = elim (wanted_serve knows lang tree running known wanted) [
    | inl just ↦ inl just
    | inr free ↦ inr (λ rule runs part has looks. free rule (came rule runs) part has looks)
  ]

  -- ---- what they find

  module _ (apart : AreApart running) (leaf_of : LeafOf) (path : List ℕ) (lang : Lang) (text : List ℕ) (tree : Node) where
    found_id : (some : List Rule) (r : Reported) (f : IsFoundIn leaf_of some path lang text tree r) → r.id ≡ f.rule.id
    found_id some r f = ap (λ (x : Reported). x.id) f.is

    -- a finding has its trace by the rules that it is of
    trace_among : (some : List Rule) → ((r : Rule) → Among some r → Among running r) → (traced : Bool) (bare r : Reported) → IsFoundIn leaf_of some path lang text tree bare
        → HasTrace traced leaf_of running lang text tree bare r ↔ HasTrace traced leaf_of some lang text tree bare r
    trace_among some within false bare r f = (λ h. h, λ h. h)
    trace_among some within true bare r f = (
      λ h. elim h [
        | inl none ↦ inl none
        | inr t ↦ (
            let same = same_rule running apart f.rule t.rule (within f.rule f.runs) t.runs (sym (found_id some bare f) ∙ sym t.id_is) in
            inr (record { comes = t.comes; rule = t.rule; runs = subst (Among some) same f.runs; id_is = t.id_is; path = t.path; by_rule = t.by_rule; is = t.is }))
      ],
      λ h. elim h [
        | inl none ↦ inl none
        | inr t ↦ inr (record { comes = t.comes; rule = t.rule; runs = within t.rule t.runs; id_is = t.id_is; path = t.path; by_rule = t.by_rule; is = t.is })
      ],
    )

    found_within : (some all : List Rule) → ((r : Rule) → Among some r → Among all r) → (r : Reported) → IsFoundIn leaf_of some path lang text tree r → IsFoundIn leaf_of all path lang text tree r
    found_within some all within r f = record { rule = f.rule; runs = within f.rule f.runs; outcome = f.outcome; finds = f.finds; finding = f.finding; found = f.found; is = f.is }

    shown_within : (some : List Rule) → ((r : Rule) → Among some r → Among running r) → (comments : Comments) (traced : Bool) (r : Reported) → IsShownIn leaf_of comments traced some path lang text tree r → IsShownIn leaf_of comments traced running path lang text tree r
    shown_within some within comments traced r s =
        record { bare = s.bare; is_found = found_within some running within s.bare s.is_found; not_quieted = s.not_quieted; trace = (trace_among some within traced s.bare r s.is_found).1 s.trace }

    shown_either : (comments : Comments) (traced : Bool) (r : Reported) → IsShownIn leaf_of comments traced running path lang text tree r → IsShownIn leaf_of comments traced before path lang text tree r ⊎ IsShownIn leaf_of comments traced added path lang text tree r
    shown_either comments traced r s =
        let f = s.is_found in
        elim ((more.exact f.rule).0 f.runs) [
          | inl a ↦ (
              let g : IsFoundIn leaf_of before path lang text tree s.bare = record { rule = f.rule; runs = a; outcome = f.outcome; finds = f.finds; finding = f.finding; found = f.found; is = f.is } in
              inl (record { bare = s.bare; is_found = g; not_quieted = s.not_quieted; trace = (trace_among before was traced s.bare r g).0 s.trace }))
          | inr a ↦ (
              let g : IsFoundIn leaf_of added path lang text tree s.bare = record { rule = f.rule; runs = a; outcome = f.outcome; finds = f.finds; finding = f.finding; found = f.found; is = f.is } in
              inr (record { bare = s.bare; is_found = g; not_quieted = s.not_quieted; trace = (trace_among added came traced s.bare r g).0 s.trace }))
        ]

    -- the rule of what is shown
    shown_rule : (some : List Rule) (comments : Comments) (traced : Bool) (r : Reported) → IsShownIn leaf_of comments traced some path lang text tree r → (rule : Rule) × Among some rule × (r.id ≡ rule.id)
    shown_rule some comments traced r s =
        let b = same_but_stops leaf_of some lang text tree traced s.bare r s.trace in
        (s.is_found.rule, s.is_found.runs, ap (λ (x : Reported). x.id) b.1 ∙ found_id some s.bare s.is_found)

    noted_either : (n : Notice) → IsNotedIn leaf_of running path lang text tree n → IsNotedIn leaf_of before path lang text tree n ⊎ IsNotedIn leaf_of added path lang text tree n
    noted_either n f = elim ((more.exact f.rule).0 f.runs) [
      | inl a ↦ inl (record { rule = f.rule; runs = a; outcome = f.outcome; finds = f.finds; told = f.told })
      | inr a ↦ inr (record { rule = f.rule; runs = a; outcome = f.outcome; finds = f.finds; told = f.told })
    ]

    noted_within : (some : List Rule) → ((r : Rule) → Among some r → Among running r) → (n : Notice) → IsNotedIn leaf_of some path lang text tree n → IsNotedIn leaf_of running path lang text tree n
    noted_within some within n f = record { rule = f.rule; runs = within f.rule f.runs; outcome = f.outcome; finds = f.finds; told = f.told }

  -- ---- the same of a file

  module _ (apart : AreApart running) (grammars : Grammars) (file : File) where
    results_more : (r : Reported) → IsResultIn grammars running file r ↔ (IsResultIn grammars before file r ⊎ IsResultIn grammars added file r)
    results_more r = (
      λ (o, is, (lang, tree, shows, s)). elim (shown_either apart grammars.leaf_of file.0 lang file.1 tree grammars.comments grammars.traced r s) [ inl a ↦ inl (o, is, (lang, tree, shows, a)) | inr a ↦ inr (o, is, (lang, tree, shows, a)) ],
      λ h. elim h [
        | inl (o, is, (lang, tree, shows, s)) ↦ (o, is, (lang, tree, shows, shown_within apart grammars.leaf_of file.0 lang file.1 tree before was grammars.comments grammars.traced r s))
        | inr (o, is, (lang, tree, shows, s)) ↦ (o, is, (lang, tree, shows, shown_within apart grammars.leaf_of file.0 lang file.1 tree added came grammars.comments grammars.traced r s))
      ],
    )

    result_rule : (some : List Rule) (r : Reported) → IsResultIn grammars some file r → (rule : Rule) × Among some rule × (r.id ≡ rule.id)
    result_rule some r (o, is, (lang, tree, shows, s)) = shown_rule apart grammars.leaf_of file.0 lang file.1 tree some grammars.comments grammars.traced r s

    notices_more : (n : Notice) → IsNoticeIn grammars running file n ↔ (IsNoticeIn grammars before file n ⊎ IsNoticeIn grammars added file n)
    notices_more n = (
      λ (o, is, h). elim h [
        | inl a ↦ inl (o, is, inl a)
        | inr (lang, tree, shows, f) ↦ elim (noted_either apart grammars.leaf_of file.0 lang file.1 tree n f) [ inl a ↦ inl (o, is, inr (lang, tree, shows, a)) | inr a ↦ inr (o, is, inr (lang, tree, shows, a)) ]
      ],
      λ h. elim h [
        | inl (o, is, k) ↦ (o, is, elim k [ inl a ↦ inl a | inr (lang, tree, shows, f) ↦ inr (lang, tree, shows, noted_within apart grammars.leaf_of file.0 lang file.1 tree before was n f) ])
        | inr (o, is, k) ↦ (o, is, elim k [ inl a ↦ inl a | inr (lang, tree, shows, f) ↦ inr (lang, tree, shows, noted_within apart grammars.leaf_of file.0 lang file.1 tree added came n f) ])
      ],
    )

    -- two results that tie are of one rule
    tied_ids : (x y : Reported) → reported_cmp x y ≡ Equal → x.id ≡ y.id
    tied_ids x y e =
        let rest = then_second (span_cmp x.finding.span y.finding.span) (ordering_then (name_cmp x.id y.id) (bound_cmp x.finding y.finding)) (then_second (name_cmp x.path y.path) (ordering_then (span_cmp x.finding.span y.finding.span) (ordering_then (name_cmp x.id y.id) (bound_cmp x.finding y.finding))) e) in
        name_same x.id y.id (then_first (name_cmp x.id y.id) (bound_cmp x.finding y.finding) rest)

    mergeable : (old new : List Reported) → IsExactly reported_cmp (IsResultIn grammars before file) old → IsExactly reported_cmp (IsResultIn grammars added file) new → AreMergeable reported_cmp old new
    mergeable old new a b = record {
      first = a.ordered;
      second = b.ordered;
      untied = λ x y h k e.
          let (r, runs, r_is) = result_rule before x ((a.exact x).0 h) in
          let (s, also, s_is) = result_rule added y ((b.exact y).0 k) in
          more.apart apart r s runs also (sym r_is ∙ tied_ids x y e ∙ s_is);
    }

    all_results : (old new all : List Reported) → IsExactly reported_cmp (IsResultIn grammars before file) old → IsExactly reported_cmp (IsResultIn grammars added file) new → AreMerged reported_cmp old new all
        → IsExactly reported_cmp (IsResultIn grammars running file) all
    all_results old new all a b m = record {
      exact = λ r. (
        λ h. elim ((m.exact r).0 h) [ inl k ↦ (results_more r).1 (inl ((a.exact r).0 k)) | inr k ↦ (results_more r).1 (inr ((b.exact r).0 k)) ],
        λ h. elim ((results_more r).0 h) [ inl k ↦ (m.exact r).1 (inl ((a.exact r).1 k)) | inr k ↦ (m.exact r).1 (inr ((b.exact r).1 k)) ],
      );
      ordered = m.ordered;
    }

-- ---- a file that can be looked at

-- it shows what it has a view of
alike_shows : (o bare : Opened) (view : FileView) → HasView o view → AreAlike bare o → Shows bare view.lang view.tree × ((l : Lang) (t : Node) → Shows bare l t → (view.lang ≡ l) × (view.tree ≡ t))
alike_shows TooLarge bare view has alike = absurd has
alike_shows NotUtf8 bare view has alike = absurd has
alike_shows (NoTree v) bare view has alike =
    let (b, e, same) = bare_plain bare v alike in
    let P : Opened → Type 0 = λ o. Shows o view.lang view.tree × ((l : Lang) (t : Node) → Shows o l t → (view.lang ≡ l) × (view.tree ≡ t)) in
    let lang : b.lang ≡ view.lang = sym same.lang ∙ ap (λ (w : FileView). w.lang) has in
    let tree : b.tree ≡ view.tree = sym same.tree ∙ ap (λ (w : FileView). w.tree) has in
    subst P (sym e) ((lang, tree), λ l t h. (sym lang ∙ h.0, sym tree ∙ h.1))
alike_shows (Read v) bare view has alike =
    let (b, e, same) = bare_read bare v alike in
    let P : Opened → Type 0 = λ o. Shows o view.lang view.tree × ((l : Lang) (t : Node) → Shows o l t → (view.lang ≡ l) × (view.tree ≡ t)) in
    let lang : b.lang ≡ view.lang = sym same.lang ∙ ap (λ (w : FileView). w.lang) has in
    let tree : b.tree ≡ view.tree = sym same.tree ∙ ap (λ (w : FileView). w.tree) has in
    subst P (sym e) ((lang, tree), λ l t h. (sym lang ∙ h.0, sym tree ∙ h.1))

one_view : (o : Opened) (v w : FileView) → HasView o v → HasView o w → v ≡ w
one_view TooLarge v w h k = absurd h
one_view NotUtf8 v w h k = absurd h
one_view (NoTree u) v w h k = sym h ∙ k
one_view (Read u) v w h k = sym h ∙ k

-- it has the text
alike_text : (spells : Spells) (lang : Lang) (bytes : List ℕ) (o bare : Opened) (view : FileView) → HasView o view → AreAlike bare o → IsOpened spells lang bytes bare → view.bytes ≡ bytes
alike_text spells lang bytes TooLarge bare view has alike is = absurd has
alike_text spells lang bytes NotUtf8 bare view has alike is = absurd has
alike_text spells lang bytes (NoTree v) bare view has alike is =
    let (b, e, same) = bare_plain bare v alike in
    let P : Opened → Type 0 = IsOpened spells lang bytes in
    let opened : IsOpened spells lang bytes (NoTree b) = subst P e is in
    sym (ap (λ (w : FileView). w.bytes) has) ∙ same.bytes ∙ opened.2.bytes_are
alike_text spells lang bytes (Read v) bare view has alike is =
    let (b, e, same) = bare_read bare v alike in
    let P : Opened → Type 0 = IsOpened spells lang bytes in
    let opened : IsOpened spells lang bytes (Read b) = subst P e is in
    sym (ap (λ (w : FileView). w.bytes) has) ∙ same.bytes ∙ opened.2.bytes_are

module _ (spells : Spells) (knows : Knows) (comments : Comments) (traced : Bool) (before running added : List Rule) (more : AreAdded before running added) (apart : AreApart running)
    (old : SeenFile) (seen : IsSeen (grammars_of spells knows comments traced) before old) (view : FileView) (has : HasView old.opened view) (suffice : NamesSuffice view added)
    (found : List Reported) (shown : IsExactly reported_cmp (IsShownIn (named_leaf view.known) comments traced added old.path view.lang view.bytes view.tree) found)
    (noted : List Notice) (notes : Adds [] noted (IsNotedIn (named_leaf view.known) added old.path view.lang view.bytes view.tree)) where
  abbrev grammars : Grammars
  grammars = grammars_of spells knows comments traced

  abbrev bytes : List ℕ
  bytes = old.bytes.value

  wanted : AreWanted knows view.lang view.tree running view.known
  wanted = wanted_more before running added more knows view.lang view.tree view.known suffice (seen.named view has)

  serves : ServesRules knows view.lang view.tree view.known added
  serves = serve_added before running added more knows view.lang view.tree view.known wanted

  abbrev bare : Opened
  bare = seen.opened.bare

  shows : Shows bare view.lang view.tree × ((l : Lang) (t : Node) → Shows bare l t → (view.lang ≡ l) × (view.tree ≡ t))
  shows = alike_shows old.opened bare view has seen.opened.alike

  text : view.bytes ≡ bytes
  text = alike_text spells (lang_at old.path) bytes old.opened bare view has seen.opened.alike seen.opened.is

  added_results : IsExactly reported_cmp (IsResultIn grammars added (old.path, bytes)) found
  added_results =
      seen_results grammars added old.path bytes bare seen.opened.is seen.opened.only view.lang view.bytes view.tree shows.0 shows.1 text found (shown_served knows view.lang view.tree view.known added serves comments traced old.path view.bytes found shown)

  own : Adds [] noted (IsNotedIn (own_leaf knows) added old.path view.lang view.bytes view.tree)
  own = noted_served knows view.lang view.tree view.known added serves old.path view.bytes [] noted notes

  abbrev first : List Notice
  first = opened_notices old.path bare

  added_notices : Adds [] (first ++ noted) (IsNoticeIn grammars added (old.path, bytes))
  added_notices =
      seen_notices grammars added old.path bytes bare seen.opened.is seen.opened.only view.lang view.bytes view.tree shows.0 shows.1 text [] first (first ++ noted) refl
      (λ n. (
        λ h. elim (among_either first noted n h) [ inl a ↦ inl a | inr b ↦ elim ((own n).0 b) [ inl a ↦ absurd a | inr p ↦ inr p ] ],
        λ h. elim h [ inl a ↦ among_left first noted n a | inr p ↦ among_right first noted n ((own n).1 (inr p)) ],
      ))

  module _ (now : SeenFile) (file_is : file_of now ≡ file_of old) (opened : now.opened ≡ old.opened) (merged : AreMergeable reported_cmp old.results found → AreMerged reported_cmp old.results found now.results)
      (told : (n : Notice) → Among now.notices n ↔ (Among old.notices n ⊎ Among noted n)) where
    all_found : IsExactly reported_cmp (IsResultIn grammars running (file_of old)) now.results
    all_found =
        all_results before running added more apart grammars (file_of old) old.results found now.results seen.results added_results
        (merged (mergeable before running added more apart grammars (file_of old) old.results found seen.results added_results))

    all_noted : (n : Notice) → Among now.notices n ↔ IsNoticeIn grammars running (file_of old) n
    all_noted n =
        let both = notices_more before running added more apart grammars (file_of old) n in (
          λ h. elim ((told n).0 h) [
            | inl a ↦ both.1 (inl ((seen.notices n).0 a))
            | inr b ↦ both.1 (inr (elim ((added_notices n).0 (among_right first noted n b)) [ inl a ↦ absurd a | inr p ↦ p ]))
          ],
          λ h. elim (both.0 h) [
            | inl p ↦ (told n).1 (inl ((seen.notices n).1 p))
            | inr p ↦ elim (among_either first noted n ((added_notices n).1 (inr p))) [ inl a ↦ (told n).1 (inl ((seen.notices n).1 (bare, seen.opened.is, inl a))) | inr b ↦ (told n).1 (inr b) ]
          ],
        )

    named : IsNamedFor knows running now.opened
    named v h =
        let P : Opened → Type 0 = λ o. HasView o v in
        let Q : FileView → Type 0 = λ w. AreWanted knows w.lang w.tree running w.known in
        subst Q (one_view old.opened view v has (subst P opened h)) wanted

    pub more_seen : IsSeen grammars running now
    more_seen =
        let O : Opened → Type 0 = IsOpenedSo spells (file_of old) in
        let P : File → Type 0 = λ f. IsOpenedSo spells f now.opened in
        let Q : File → Type 0 = λ f. IsExactly reported_cmp (IsResultIn grammars running f) now.results in
        let N : File → Type 0 = λ f. (n : Notice) → Among now.notices n ↔ IsNoticeIn grammars running f n in
        record { opened = subst P (sym file_is) (subst O (sym opened) seen.opened); named = named; results = subst Q (sym file_is) all_found; notices = subst N (sym file_is) all_noted }

-- the same of an answer
pub if_more_seen : {E : Type 0} (spells : Spells) (knows : Knows) (comments : Comments) (traced : Bool) (before running added : List Rule) → AreAdded before running added → AreApart running
    → (old : SeenFile) → IsSeen (grammars_of spells knows comments traced) before old → (view : FileView) → HasView old.opened view → NamesSuffice view added
    → (path : List ℕ) → old.path ≡ path → (found : List Reported) → IsExactly reported_cmp (IsShownIn (named_leaf view.known) comments traced added path view.lang view.bytes view.tree) found
    → (start noted : List Notice) → start ≡ [] → Adds start noted (IsNotedIn (named_leaf view.known) added path view.lang view.bytes view.tree)
    → (r : Result SeenFile E) → IfOk r (λ s. file_of s ≡ file_of old) → IfOk r (λ s. s.opened ≡ old.opened) → (AreMergeable reported_cmp old.results found → IfOk r (λ s. AreMerged reported_cmp old.results found s.results))
    → IfOk r (λ s. (n : Notice) → Among s.notices n ↔ (Among old.notices n ⊎ Among noted n)) → IfOk r (IsSeen (grammars_of spells knows comments traced) running)
if_more_seen spells knows comments traced before running added more apart old seen view has suffice path at found shown start noted none notes (Ok s) file opened merged told =
    let P : List ℕ → Type 0 = λ p. IsExactly reported_cmp (IsShownIn (named_leaf view.known) comments traced added p view.lang view.bytes view.tree) found in
    let Q : List ℕ → Type 0 = λ p. Adds [] noted (IsNotedIn (named_leaf view.known) added p view.lang view.bytes view.tree) in
    let S : List Notice → Type 0 = λ ns. Adds ns noted (IsNotedIn (named_leaf view.known) added path view.lang view.bytes view.tree) in
    more_seen spells knows comments traced before running added more apart old seen view has suffice found (subst P (sym at) shown) noted (subst Q (sym at) (subst S none notes)) s file opened merged told
if_more_seen spells knows comments traced before running added more apart old seen view has suffice path at found shown start noted none notes (Err e) file opened merged told = tt

-- ---- the pairs that they need

module _ (before running added : List Rule) (more : AreAdded before running added) (old : SeenFile) (view : FileView) (has : HasView old.opened view) where
  asked_more : (path : List ℕ) (lang : Lang) (p : Pattern) → IsAskedFor path lang running p → IsAskedFor path lang before p ⊎ IsAskedFor path lang added p
  asked_more path lang p (rule, runs, asks) = elim ((more.exact rule).0 runs) [ inl a ↦ inl (rule, a, asks) | inr a ↦ inr (rule, a, asks) ]

  needed_within : (some : List Rule) → ((r : Rule) → Among some r → Among running r) → (path : List ℕ) (v : FileView) (x : Pair) → IsNeededIn some path v x → IsNeededIn running path v x
  needed_within some within path v x n = let (rule, runs, asks) = n.asked in record { parts = n.parts; are = n.are; pattern = n.pattern; asked = (rule, within rule runs, asks); one = n.one }

  module _ (path : List ℕ) (at : old.path ≡ path) (now : SeenFile) (file_is : file_of now ≡ file_of old) (opened : now.opened ≡ old.opened) where
    same_path : now.path ≡ old.path
    same_path = ap (λ (f : File). f.0) file_is

    needed_more : (x : Pair) → (IsNeededAt before old x ⊎ IsNeededIn added path view x) ↔ IsNeededAt running now x
    needed_more x =
        let O : FileView → Opened → Type 0 = λ v o. HasView o v in
        let At : FileView → List ℕ → Type 0 = λ v p. IsNeededIn running p v x in (
          λ h. elim h [
            | inl (v, has_v, n) ↦ (v, subst (O v) (sym opened) has_v, subst (At v) (sym same_path) (needed_within before (was before running added more) old.path v x n))
            | inr n ↦ (view, subst (O view) (sym opened) has, subst (At view) (sym (same_path ∙ at)) (needed_within added (came before running added more) path view x n))
          ],
          λ (v, has_v, n).
              let m = subst (At v) same_path n in
              let there = subst (O v) opened has_v in
              elim (asked_more old.path v.lang m.pattern m.asked) [
                | inl a ↦ inl (v, there, record { parts = m.parts; are = m.are; pattern = m.pattern; asked = a; one = m.one })
                | inr a ↦ (
                    let P : FileView → Type 0 = λ w. IsNeededIn added old.path w x in
                    let Q : List ℕ → Type 0 = λ p. IsNeededIn added p view x in
                    let k : IsNeededIn added old.path v x = record { parts = m.parts; are = m.are; pattern = m.pattern; asked = a; one = m.one } in
                    inr (subst Q at (subst P (one_view old.opened v view there has) k)))
              ],
        )

    pub meets_more : (had mid has' : Map) (start end : ℕ) → ((x : Pair) → ((path ≡ x.path) × IsKept had x) ↔ IsNeededAt before old x) → Grows had mid (λ x. (path ≡ x.path) × IsKept had x) [] → Meets (IsNeededIn added path view) mid start has' end
        → Meets (IsNeededAt running now) had start has' end
    meets_more had mid has' start end pairs grows looked =
        let first = meets_as (λ x. (path ≡ x.path) × IsKept had x) (IsNeededAt before old) had start mid start pairs (meets_old_ones (λ x. (path ≡ x.path) × IsKept had x) had mid start grows) in
        meets_as (λ x. IsNeededAt before old x ⊎ IsNeededIn added path view x) (IsNeededAt running now) had start has' end needed_more
        (meets_then (IsNeededAt before old) (IsNeededIn added path view) had start mid start has' end first looked)

pub if_more_meets : {E : Type 0} (before running added : List Rule) → AreAdded before running added → (old : SeenFile) (view : FileView) → HasView old.opened view → (path : List ℕ) → old.path ≡ path
    → (r : Result SeenFile E) → IfOk r (λ s. file_of s ≡ file_of old) → IfOk r (λ s. s.opened ≡ old.opened) → (had mid has' : Map) (start end : ℕ) → ((x : Pair) → ((path ≡ x.path) × IsKept had x) ↔ IsNeededAt before old x)
    → Grows had mid (λ x. (path ≡ x.path) × IsKept had x) [] → Meets (IsNeededIn added path view) mid start has' end → IfOk r (λ s. Meets (IsNeededAt running s) had start has' end)
if_more_meets before running added more old view has path at (Ok s) file opened had mid has' start end pairs grows looked = meets_more before running added more old view has path at s file opened had mid has' start end pairs grows looked
if_more_meets before running added more old view has path at (Err e) file opened had mid has' start end pairs grows looked = tt

-- no rule came: nothing else is needed
pub meets_same : (before running added : List Rule) → AreAdded before running added → added ≡ [] → (old : SeenFile) (path : List ℕ) (had mid : Map) (start : ℕ) → ((x : Pair) → ((path ≡ x.path) × IsKept had x) ↔ IsNeededAt before old x)
    → Grows had mid (λ x. (path ≡ x.path) × IsKept had x) [] → Meets (IsNeededAt running old) had start mid start
meets_same before running added more none old path had mid start pairs grows =
    let R : List Rule → Type 0 = λ rs. Meets (IsNeededAt rs old) had start mid start in
    subst R (sym (more.none none)) (meets_as (λ x. (path ≡ x.path) × IsKept had x) (IsNeededAt before old) had start mid start pairs (meets_old_ones (λ x. (path ≡ x.path) × IsKept had x) had mid start grows))

-- what is said of a value that is there
pub some_found : {X : Type 0} (o : Option X) (x : X) (P : X → Type 0) → o ≡ Some x → IfSome o P → P x
some_found {X} o x P e h = let Q : Option X → Type 0 = λ p. IfSome p P in subst Q e h
