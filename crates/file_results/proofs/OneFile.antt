-- What a file shows that is opened so.
use Rattle.std.proofs.Common.{◌≡◌, ◌⊎◌, inl, inr, ◌↔◌, ℕ, List, [], ◌++◌, sym, subst}
use Rattle.node_tree.specs.declared.view.Lang.{Lang}
use Rattle.rule_form.specs.declared.rule.Rule.{Rule}
use Rattle.node_match.specs.Sets.{Among, Adds}
use Rattle.file_open.specs.declared.opened.Opened.{Opened}
use Rattle.file_open.specs.Reading.{Spells}
use Rattle.file_open.specs.Opening.{IsOpened, HasOnlyTree}
use Rattle.report_form.specs.declared.notice.Notice.{Notice}
use Rattle.report_form.specs.declared.report.Reported.{Reported}
use Rattle.node_tree.specs.declared.node.Node.{Node}
use Rattle.file_results.specs.Sets.{IsExactly}
use Rattle.file_results.specs.Reports.{reported_cmp}
use Rattle.file_results.specs.Quieted.{Grammars}
use Rattle.file_results.specs.Shown.{lang_at, Shows, InView, opened_notices, IsShownIn, IsNotedIn, IsResultIn, IsNoticeIn}
use Rattle.running_rules.proofs.Members.{appended, adds_both}
use Rattle.file_results.proofs.Views.{shows_one, notes_one}

-- ---- one file

pub opened_as : (spells : Spells) (path bytes : List ℕ) (lang : Lang) (o p : Opened) → lang ≡ lang_at path → o ≡ p → IsOpened spells lang bytes o → IsOpened spells (lang_at path) bytes p
opened_as spells path bytes lang o p e f h = let P : Lang → Type 0 = λ l. IsOpened spells l bytes p in let Q : Opened → Type 0 = λ x. IsOpened spells lang bytes x in subst P e (subst Q f h)

pub only_as : (spells : Spells) (path bytes : List ℕ) (lang : Lang) (o p : Opened) → lang ≡ lang_at path → o ≡ p → HasOnlyTree spells lang bytes o → HasOnlyTree spells (lang_at path) bytes p
only_as spells path bytes lang o p e f h = let P : Lang → Type 0 = λ l. HasOnlyTree spells l bytes p in let Q : Opened → Type 0 = λ x. HasOnlyTree spells lang bytes x in subst P e (subst Q f h)

module _ (grammars : Grammars) (rules : List Rule) (path bytes : List ℕ) (o : Opened) (is : IsOpened grammars.spells (lang_at path) bytes o) (only : HasOnlyTree grammars.spells (lang_at path) bytes o) where
  abbrev Results : Reported → Type 0
  Results r = InView o (λ lang tree. IsShownIn grammars.leaf_of grammars.comments grammars.traced rules path lang bytes tree r)

  abbrev Notices : Notice → Type 0
  Notices n = InView o (λ lang tree. IsNotedIn grammars.leaf_of rules path lang bytes tree n)

  result_in : (r : Reported) → IsResultIn grammars rules (path, bytes) r ↔ Results r
  result_in r = (λ h. (h.2.0, h.2.1, shows_one grammars.spells (lang_at path) bytes o h.0 is only h.1 h.2.0 h.2.1 h.2.2, h.2.3), λ v. (o, is, v))

  notice_in : (n : Notice) → IsNoticeIn grammars rules (path, bytes) n ↔ (Among (opened_notices path o) n ⊎ Notices n)
  notice_in n = (
    λ h. elim h.2 [
      | inl a ↦ (let P : List Notice → Type 0 = λ ns. Among ns n in inl (subst P (notes_one grammars.spells (lang_at path) bytes path o h.0 is h.1) a))
      | inr v ↦ inr (v.0, v.1, shows_one grammars.spells (lang_at path) bytes o h.0 is only h.1 v.0 v.1 v.2, v.3)
    ],
    λ h. (o, is, h),
  )

  -- a file that can't be looked at has no results
  pub no_results : ((l : Lang) (t : Node) → Shows o l t → ⊥) → (results : List Reported) → results ≡ [] → IsExactly reported_cmp (IsResultIn grammars rules (path, bytes)) results
  no_results hidden results e = let P : List Reported → Type 0 = λ rs. IsExactly reported_cmp (IsResultIn grammars rules (path, bytes)) rs in subst P (sym e) (record {
    exact = λ r. (λ k. absurd k, λ k. let v = (result_in r).0 k in absurd (hidden v.0 v.1 v.2));
    ordered = tt;
  })

  pub own_notices : ((l : Lang) (t : Node) → Shows o l t → ⊥) → (old new : List Notice) → new ≡ old ++ opened_notices path o → Adds old new (IsNoticeIn grammars rules (path, bytes))
  own_notices hidden old new e = appended old new (opened_notices path o) (IsNoticeIn grammars rules (path, bytes)) e (λ n. (λ a. (notice_in n).1 (inl a), λ k. elim ((notice_in n).0 k) [ inl a ↦ a | inr v ↦ absurd (hidden v.0 v.1 v.2) ]))

  -- what is shown is this
  module _ (lang : Lang) (text : List ℕ) (tree : Node) (shows : Shows o lang tree) (one : (l : Lang) (t : Node) → Shows o l t → (lang ≡ l) × (tree ≡ t)) (text-is : text ≡ bytes) where
    seen : (P : Lang → List ℕ → Node → Type 0) → InView o (λ l t. P l bytes t) ↔ P lang text tree
    seen P = (
      λ v.
          let e = one v.0 v.1 v.2 in
          let F : Lang → Type 0 = λ l. P l bytes v.1 in
          let G : Node → Type 0 = λ t. P lang bytes t in
          let H : List ℕ → Type 0 = λ x. P lang x tree in
          subst H (sym text-is) (subst G (sym e.1) (subst F (sym e.0) v.3)),
      λ p. let H : List ℕ → Type 0 = λ x. P lang x tree in (lang, tree, shows, subst H text-is p),
    )

    pub seen_results : (results : List Reported) → IsExactly reported_cmp (IsShownIn grammars.leaf_of grammars.comments grammars.traced rules path lang text tree) results → IsExactly reported_cmp (IsResultIn grammars rules (path, bytes)) results
    seen_results results h = record {
      exact = λ r.
          let s = seen (λ l x t. IsShownIn grammars.leaf_of grammars.comments grammars.traced rules path l x t r) in
          (λ k. (result_in r).1 (s.1 ((h.exact r).0 k)), λ k. (h.exact r).1 (s.0 ((result_in r).0 k)));
      ordered = h.ordered;
    }

    pub seen_notices : (old mid new : List Notice) → mid ≡ old ++ opened_notices path o → Adds mid new (IsNotedIn grammars.leaf_of rules path lang text tree) → Adds old new (IsNoticeIn grammars rules (path, bytes))
    seen_notices old mid new e adds =
        adds_both old mid new (Among (opened_notices path o)) (IsNotedIn grammars.leaf_of rules path lang text tree) (IsNoticeIn grammars rules (path, bytes)) (appended old mid (opened_notices path o) (Among (opened_notices path o)) e (λ n. (λ a. a, λ a. a))) adds
        (λ n.
        let s = seen (λ l x t. IsNotedIn grammars.leaf_of rules path l x t n) in
        (λ h. (notice_in n).1 (elim h [ inl a ↦ inl a | inr k ↦ inr (s.1 k) ]), λ h. elim ((notice_in n).0 h) [ inl a ↦ inl a | inr v ↦ inr (s.0 v) ]))
