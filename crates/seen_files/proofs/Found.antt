-- What is seen of one file.
use Rattle.std.proofs.Common.{◌≡◌, ◌↔◌, inl, inr, ℕ, Bool, List, [], ◌∷◌, refl, sym, ◌∙◌, subst}
use Rattle.std.specs.Prelude.{Result, Ok, Err, IfOk}
use Rattle.node_tree.specs.declared.node.Node.{Node}
use Rattle.node_tree.specs.declared.view.FileView.{FileView}
use Rattle.node_tree.specs.declared.view.Lang.{Lang}
use Rattle.node_match.specs.Sets.{Among, Adds}
use Rattle.rule_form.specs.declared.rule.Rule.{Rule}
use Rattle.file_open.specs.declared.opened.Opened.{Opened}
use Rattle.file_open.specs.declared.opened.Opened.TheVariants.{TooLarge, NotUtf8, NoTree, Read}
use Rattle.file_open.specs.Naming.{Knows}
use Rattle.file_open.specs.Reading.{Spells}
use Rattle.file_open.specs.Opening.{IsOpened, HasOnlyTree}
use Rattle.report_form.specs.declared.notice.Notice.{Notice}
use Rattle.report_form.specs.declared.notice.NoticeKind.TheVariants as kinds
use Rattle.report_form.specs.declared.report.Reported.{Reported}
use Rattle.packed_view.specs.Opened.{HasText}
use Rattle.running_rules.specs.Notes.{notice}
use Rattle.file_results.specs.Sets.{IsExactly}
use Rattle.file_results.specs.Reports.{reported_cmp}
use Rattle.file_results.specs.Looking.{named_leaf, own_leaf}
use Rattle.file_results.specs.Needing.{AreWanted, HasNoneOrAll}
use Rattle.file_results.specs.Quieted.{Comments, Grammars}
use Rattle.file_results.specs.Shown.{File, lang_at, Shows, opened_notices, IsShownIn, IsNotedIn, IsResultIn, IsNoticeIn}
use Rattle.file_results.proofs.Named.{wanted_serve, wanted_own, shown_served, noted_served}
use Rattle.file_results.proofs.OneFile.{no_results, own_notices, seen_results, seen_notices}
use Rattle.seen_files.specs.declared.found_file.FoundFile.{FoundFile}
use Rattle.seen_files.specs.declared.seen.SeenFile.{SeenFile}
use Rattle.seen_files.specs.Findings.{seen_of}
use Rattle.seen_files.specs.Needs.{HasView}
use Rattle.seen_files.specs.Seen.{file_of, IsSameFile, AreAlike, IsOpenedSo, IsNamedFor, HasOwnNames, IsSeen}

-- ---- answers

pub if_four : {A E : Type 0} (P Q R S T : A → Type 0) (r : Result A E) → ((a : A) → P a → Q a → R a → S a → T a) → IfOk r P → IfOk r Q → IfOk r R → IfOk r S → IfOk r T
if_four P Q R S T (Ok a) f p q r s = f a p q r s
if_four P Q R S T (Err e) f p q r s = tt

added_to_none : {X : Type 0} (old new : List X) (P : X → Type 0) → old ≡ [] → Adds old new P → (x : X) → Among new x ↔ P x
added_to_none {X} old new P e adds x =
    let Q : List X → Type 0 = λ xs. Among xs x in
    (λ h. elim ((adds x).0 h) [ inl a ↦ absurd (subst Q e a) | inr p ↦ p ], λ p. (adds x).1 (inr p))

-- ---- files that count as opened alike

same_then : (a b c : FileView) → IsSameFile a b → IsSameFile b c → IsSameFile a c
same_then a b c x y = record { lang = y.lang ∙ x.lang; bytes = y.bytes ∙ x.bytes; tree = y.tree ∙ x.tree }

pub same_itself : (a : FileView) → IsSameFile a a
same_itself a = record { lang = refl; bytes = refl; tree = refl }

pub alike_itself : (o : Opened) → AreAlike o o
alike_itself TooLarge = tt
alike_itself NotUtf8 = tt
alike_itself (NoTree v) = same_itself v
alike_itself (Read v) = same_itself v

-- what is opened is opened so
pub opened_so : (spells : Spells) (file : File) (o : Opened) → IsOpened spells (lang_at file.0) file.1 o → HasOnlyTree spells (lang_at file.0) file.1 o → IsOpenedSo spells file o
opened_so spells file o is only = record { bare = o; is = is; only = only; alike = alike_itself o }

-- it has its text
pub opened_text : (spells : Spells) (lang : Lang) (bytes : List ℕ) (o : Opened) → IsOpened spells lang bytes o → HasText bytes o
opened_text spells lang bytes TooLarge is = tt
opened_text spells lang bytes NotUtf8 is = tt
opened_text spells lang bytes (NoTree v) is = is.2.bytes_are
opened_text spells lang bytes (Read v) is = is.2.bytes_are

-- ---- names

-- what is opened has no names yet
pub opened_bare : (spells : Spells) (knows : Knows) (lang : Lang) (bytes : List ℕ) (o : Opened) → IsOpened spells lang bytes o → HasOwnNames knows o
opened_bare spells knows lang bytes TooLarge is view has = absurd has
opened_bare spells knows lang bytes NotUtf8 is view has = absurd has
opened_bare spells knows lang bytes (NoTree v) is view has = subst (HasNoneOrAll knows) has (inl is.2.nothing_known)
opened_bare spells knows lang bytes (Read v) is view has = subst (HasNoneOrAll knows) has (inl is.2.nothing_known)

-- what was seen has its own
pub seen_own : (grammars : Grammars) (rules : List Rule) (s : SeenFile) → IsSeen grammars rules s → HasOwnNames grammars.knows s.opened
seen_own grammars rules s seen view has = wanted_own grammars.knows rules view (seen.named view has)

-- the names of the same file
named_same : (knows : Knows) (rules : List Rule) (v w : FileView) → IsSameFile v w → AreWanted knows v.lang v.tree rules w.known → (view : FileView) → w ≡ view → AreWanted knows view.lang view.tree rules view.known
named_same knows rules v w same named view e =
    let P : FileView → Type 0 = λ x. AreWanted knows x.lang x.tree rules x.known in
    let L : Lang → Type 0 = λ l. AreWanted knows l w.tree rules w.known in
    let T : Node → Type 0 = λ t. AreWanted knows v.lang t rules w.known in
    subst P e (subst L (sym same.lang) (subst T (sym same.tree) named))

-- ---- a file that is seen so

pub seen_so : (grammars : Grammars) (rules : List Rule) (s : SeenFile) (file : File) → file_of s ≡ file → IsOpenedSo grammars.spells file s.opened → IsNamedFor grammars.knows rules s.opened → IsExactly reported_cmp (IsResultIn grammars rules file) s.results
    → ((n : Notice) → Among s.notices n ↔ IsNoticeIn grammars rules file n) → IsSeen grammars rules s
seen_so grammars rules s file e opened named results notices =
    let P : File → Type 0 = λ f. IsOpenedSo grammars.spells f s.opened in
    let Q : File → Type 0 = λ f. IsExactly reported_cmp (IsResultIn grammars rules f) s.results in
    let R : File → Type 0 = λ f. (n : Notice) → Among s.notices n ↔ IsNoticeIn grammars rules f n in
    record { opened = subst P (sym e) opened; named = named; results = subst Q (sym e) results; notices = subst R (sym e) notices }

-- by what is seen of the file as it was opened
module _ (grammars : Grammars) (rules : List Rule) (file : File) (s : SeenFile) (file_is : file_of s ≡ file) (o : Opened) (opened : s.opened ≡ o) (so : IsOpenedSo grammars.spells file o)
    (named : IsNamedFor grammars.knows rules o) (rs : List Reported) (results : s.results ≡ rs) (ns : List Notice) (notices : (n : Notice) → Among s.notices n ↔ Among ns n) where
  whole : IsExactly reported_cmp (IsResultIn grammars rules file) rs → ((n : Notice) → Among ns n ↔ IsNoticeIn grammars rules file n) → IsSeen grammars rules s
  whole found noted =
      let P : Opened → Type 0 = λ x. IsOpenedSo grammars.spells file x in
      let Q : List Reported → Type 0 = λ xs. IsExactly reported_cmp (IsResultIn grammars rules file) xs in
      seen_so grammars rules s file file_is (subst P (sym opened) so) (subst (IsNamedFor grammars.knows rules) (sym opened) named) (subst Q (sym results) found) (λ n. (λ h. (noted n).0 ((notices n).0 h), λ h. (notices n).1 ((noted n).1 h)))

-- ---- one that can't be looked at

pub too_large : (o : Opened) → AreAlike o TooLarge → o ≡ TooLarge
too_large TooLarge h = refl
too_large NotUtf8 h = absurd h
too_large (NoTree v) h = absurd h
too_large (Read v) h = absurd h

pub not_utf8 : (o : Opened) → AreAlike o NotUtf8 → o ≡ NotUtf8
not_utf8 TooLarge h = absurd h
not_utf8 NotUtf8 h = refl
not_utf8 (NoTree v) h = absurd h
not_utf8 (Read v) h = absurd h

module _ (grammars : Grammars) (rules : List Rule) (path bytes : List ℕ) (s : SeenFile) (file_is : file_of s ≡ (path, bytes)) (results : s.results ≡ []) where
  hidden_seen : (o bare : Opened) → s.opened ≡ o → (so : IsOpenedSo grammars.spells (path, bytes) o) → ((view : FileView) → HasView o view → ⊥) → so.bare ≡ bare → ((l : Lang) (t : Node) → Shows bare l t → ⊥)
      → ((n : Notice) → Among s.notices n ↔ Among (opened_notices path bare) n) → IsSeen grammars rules s
  hidden_seen o bare opened so unviewed e hidden notices =
      let P : Opened → Type 0 = λ x. IsOpened grammars.spells (lang_at path) bytes x in
      let Q : Opened → Type 0 = λ x. HasOnlyTree grammars.spells (lang_at path) bytes x in
      let is = subst P e so.is in
      let only = subst Q e so.only in
      whole grammars rules (path, bytes) s file_is o opened so (λ view has. absurd (unviewed view has)) [] results (opened_notices path bare) notices
      (no_results grammars rules path bytes bare is only hidden [] refl)
      (added_to_none [] (opened_notices path bare) (IsNoticeIn grammars rules (path, bytes)) refl (own_notices grammars rules path bytes bare is only hidden [] (opened_notices path bare) refl))

  pub large_seen : s.opened ≡ TooLarge → IsOpenedSo grammars.spells (path, bytes) TooLarge → ((n : Notice) → Among s.notices n ↔ Among (notice path [] kinds.TooLarge [] ∷ []) n) → IsSeen grammars rules s
  large_seen opened so notices = hidden_seen TooLarge TooLarge opened so (λ view has. has) (too_large so.bare so.alike) (λ l t h. absurd h) notices

  pub odd_seen : s.opened ≡ NotUtf8 → IsOpenedSo grammars.spells (path, bytes) NotUtf8 → ((n : Notice) → Among s.notices n ↔ Among (notice path [] kinds.NotUtf8 [] ∷ []) n) → IsSeen grammars rules s
  odd_seen opened so notices = hidden_seen NotUtf8 NotUtf8 opened so (λ view has. has) (not_utf8 so.bare so.alike) (λ l t h. absurd h) notices

-- ---- one that can be

-- the file as it was opened, of which this is the same with names
pub bare_read : (o : Opened) (v : FileView) → AreAlike o (Read v) → (b : FileView) × (o ≡ Read b) × IsSameFile b v
bare_read TooLarge v h = absurd h
bare_read NotUtf8 v h = absurd h
bare_read (NoTree b) v h = absurd h
bare_read (Read b) v h = (b, refl, h)

pub bare_plain : (o : Opened) (v : FileView) → AreAlike o (NoTree v) → (b : FileView) × (o ≡ NoTree b) × IsSameFile b v
bare_plain TooLarge v h = absurd h
bare_plain NotUtf8 v h = absurd h
bare_plain (NoTree b) v h = (b, refl, h)
bare_plain (Read b) v h = absurd h

module _ (grammars : Grammars) (rules : List Rule) (path bytes : List ℕ) (v w : FileView) (same : IsSameFile v w) (named : AreWanted grammars.knows v.lang v.tree rules w.known) (rs : List Reported)
    (found : IsExactly reported_cmp (IsShownIn grammars.leaf_of grammars.comments grammars.traced rules path v.lang v.bytes v.tree) rs) (mid new : List Notice) (noted : Adds mid new (IsNotedIn grammars.leaf_of rules path v.lang v.bytes v.tree))
    (s : SeenFile) (file_is : file_of s ≡ (path, bytes)) (results : s.results ≡ rs) (notices : (n : Notice) → Among s.notices n ↔ Among new n) where
  pub read_seen : mid ≡ [] → IsOpenedSo grammars.spells (path, bytes) (Read v) → s.opened ≡ Read w → IsSeen grammars rules s
  read_seen start so opened =
      let (b, e, alike) = bare_read so.bare v so.alike in
      let P : Opened → Type 0 = λ x. IsOpened grammars.spells (lang_at path) bytes x in
      let Q : Opened → Type 0 = λ x. HasOnlyTree grammars.spells (lang_at path) bytes x in
      let is : IsOpened grammars.spells (lang_at path) bytes (Read b) = subst P e so.is in
      let only : HasOnlyTree grammars.spells (lang_at path) bytes (Read b) = subst Q e so.only in
      let text : v.bytes ≡ bytes = alike.bytes ∙ is.2.bytes_are in
      let shows : Shows (Read b) v.lang v.tree = (sym alike.lang, sym alike.tree) in
      let one : (l : Lang) (t : Node) → Shows (Read b) l t → (v.lang ≡ l) × (v.tree ≡ t) = λ l t h. (alike.lang ∙ h.0, alike.tree ∙ h.1) in
      whole grammars rules (path, bytes) s file_is (Read w) opened (record { bare = Read b; is = is; only = only; alike = same_then b v w alike same }) (named_same grammars.knows rules v w same named) rs results new notices
      (seen_results grammars rules path bytes (Read b) is only v.lang v.bytes v.tree shows one text rs found)
      (added_to_none [] new (IsNoticeIn grammars rules (path, bytes)) refl (seen_notices grammars rules path bytes (Read b) is only v.lang v.bytes v.tree shows one text [] mid new start noted))

  pub plain_seen : mid ≡ notice path [] kinds.NoTree [] ∷ [] → IsOpenedSo grammars.spells (path, bytes) (NoTree v) → s.opened ≡ NoTree w → IsSeen grammars rules s
  plain_seen start so opened =
      let (b, e, alike) = bare_plain so.bare v so.alike in
      let P : Opened → Type 0 = λ x. IsOpened grammars.spells (lang_at path) bytes x in
      let Q : Opened → Type 0 = λ x. HasOnlyTree grammars.spells (lang_at path) bytes x in
      let is : IsOpened grammars.spells (lang_at path) bytes (NoTree b) = subst P e so.is in
      let only : HasOnlyTree grammars.spells (lang_at path) bytes (NoTree b) = subst Q e so.only in
      let text : v.bytes ≡ bytes = alike.bytes ∙ is.2.bytes_are in
      let shows : Shows (NoTree b) v.lang v.tree = (sym alike.lang, sym alike.tree) in
      let one : (l : Lang) (t : Node) → Shows (NoTree b) l t → (v.lang ≡ l) × (v.tree ≡ t) = λ l t h. (alike.lang ∙ h.0, alike.tree ∙ h.1) in
      whole grammars rules (path, bytes) s file_is (NoTree w) opened (record { bare = NoTree b; is = is; only = only; alike = same_then b v w alike same }) (named_same grammars.knows rules v w same named) rs results new notices
      (seen_results grammars rules path bytes (NoTree b) is only v.lang v.bytes v.tree shows one text rs found)
      (added_to_none [] new (IsNoticeIn grammars rules (path, bytes)) refl (seen_notices grammars rules path bytes (NoTree b) is only v.lang v.bytes v.tree shows one text [] mid new start noted))

-- ---- by the names that the rules want

module _ (knows : Knows) (rules : List Rule) (path : List ℕ) (v w : FileView) (same : IsSameFile v w) (wanted : AreWanted knows v.lang v.tree rules w.known) where
  pub shown_by : (comments : Comments) (traced : Bool) (rs : List Reported) → IsExactly reported_cmp (IsShownIn (named_leaf w.known) comments traced rules path w.lang w.bytes w.tree) rs → IsExactly reported_cmp (IsShownIn (own_leaf knows) comments traced rules path v.lang v.bytes v.tree) rs
  shown_by comments traced rs h =
      let L : Lang → Type 0 = λ l. IsExactly reported_cmp (IsShownIn (named_leaf w.known) comments traced rules path l w.bytes w.tree) rs in
      let B : List ℕ → Type 0 = λ b. IsExactly reported_cmp (IsShownIn (named_leaf w.known) comments traced rules path v.lang b w.tree) rs in
      let T : Node → Type 0 = λ t. IsExactly reported_cmp (IsShownIn (named_leaf w.known) comments traced rules path v.lang v.bytes t) rs in
      shown_served knows v.lang v.tree w.known rules (wanted_serve knows v.lang v.tree rules w.known wanted) comments traced path v.bytes rs (subst T same.tree (subst B same.bytes (subst L same.lang h)))

  pub noted_by : (old new : List Notice) → Adds old new (IsNotedIn (named_leaf w.known) rules path w.lang w.bytes w.tree) → Adds old new (IsNotedIn (own_leaf knows) rules path v.lang v.bytes v.tree)
  noted_by old new h =
      let L : Lang → Type 0 = λ l. Adds old new (IsNotedIn (named_leaf w.known) rules path l w.bytes w.tree) in
      let B : List ℕ → Type 0 = λ b. Adds old new (IsNotedIn (named_leaf w.known) rules path v.lang b w.tree) in
      let T : Node → Type 0 = λ t. Adds old new (IsNotedIn (named_leaf w.known) rules path v.lang v.bytes t) in
      noted_served knows v.lang v.tree w.known rules (wanted_serve knows v.lang v.tree rules w.known wanted) path v.bytes old new (subst T same.tree (subst B same.bytes (subst L same.lang h)))

-- ---- the same of answers

-- whatever an answer is, seen as a file so
module _ {X E : Type 0} (view : X → SeenFile) (grammars : Grammars) (rules : List Rule) (path bytes : List ℕ) (r : Result X E) (file_is : IfOk r (λ x. file_of (view x) ≡ (path, bytes))) where
  pub if_large : IfOk r (λ x. (view x).opened ≡ TooLarge) → IfOk r (λ x. (view x).results ≡ []) → IfOk r (λ x. (n : Notice) → Among (view x).notices n ↔ Among (notice path [] kinds.TooLarge [] ∷ []) n) → IsOpenedSo grammars.spells (path, bytes) TooLarge → IfOk r (λ x. IsSeen grammars rules (view x))
  if_large opened results notices so =
      if_four (λ x. file_of (view x) ≡ (path, bytes)) (λ x. (view x).opened ≡ TooLarge) (λ x. (view x).results ≡ []) (λ x. (n : Notice) → Among (view x).notices n ↔ Among (notice path [] kinds.TooLarge [] ∷ []) n) (λ x. IsSeen grammars rules (view x)) r
      (λ x f o e n. large_seen grammars rules path bytes (view x) f e o so n) file_is opened results notices

  pub if_odd : IfOk r (λ x. (view x).opened ≡ NotUtf8) → IfOk r (λ x. (view x).results ≡ []) → IfOk r (λ x. (n : Notice) → Among (view x).notices n ↔ Among (notice path [] kinds.NotUtf8 [] ∷ []) n) → IsOpenedSo grammars.spells (path, bytes) NotUtf8 → IfOk r (λ x. IsSeen grammars rules (view x))
  if_odd opened results notices so =
      if_four (λ x. file_of (view x) ≡ (path, bytes)) (λ x. (view x).opened ≡ NotUtf8) (λ x. (view x).results ≡ []) (λ x. (n : Notice) → Among (view x).notices n ↔ Among (notice path [] kinds.NotUtf8 [] ∷ []) n) (λ x. IsSeen grammars rules (view x)) r
      (λ x f o e n. odd_seen grammars rules path bytes (view x) f e o so n) file_is opened results notices

  module _ (v w : FileView) (same : IsSameFile v w) (named : AreWanted grammars.knows v.lang v.tree rules w.known) (rs : List Reported) (found : IsExactly reported_cmp (IsShownIn grammars.leaf_of grammars.comments grammars.traced rules path v.lang v.bytes v.tree) rs)
      (mid new : List Notice) (noted : Adds mid new (IsNotedIn grammars.leaf_of rules path v.lang v.bytes v.tree)) (results : IfOk r (λ x. (view x).results ≡ rs)) (notices : IfOk r (λ x. (n : Notice) → Among (view x).notices n ↔ Among new n)) where
    pub if_read : mid ≡ [] → IfOk r (λ x. (view x).opened ≡ Read w) → IsOpenedSo grammars.spells (path, bytes) (Read v) → IfOk r (λ x. IsSeen grammars rules (view x))
    if_read start opened so =
        if_four (λ x. file_of (view x) ≡ (path, bytes)) (λ x. (view x).opened ≡ Read w) (λ x. (view x).results ≡ rs) (λ x. (n : Notice) → Among (view x).notices n ↔ Among new n) (λ x. IsSeen grammars rules (view x)) r
        (λ x f o e n. read_seen grammars rules path bytes v w same named rs found mid new noted (view x) f e n start so o) file_is opened results notices

    pub if_plain : mid ≡ notice path [] kinds.NoTree [] ∷ [] → IfOk r (λ x. (view x).opened ≡ NoTree w) → IsOpenedSo grammars.spells (path, bytes) (NoTree v) → IfOk r (λ x. IsSeen grammars rules (view x))
    if_plain start opened so =
        if_four (λ x. file_of (view x) ≡ (path, bytes)) (λ x. (view x).opened ≡ NoTree w) (λ x. (view x).results ≡ rs) (λ x. (n : Notice) → Among (view x).notices n ↔ Among new n) (λ x. IsSeen grammars rules (view x)) r
        (λ x f o e n. plain_seen grammars rules path bytes v w same named rs found mid new noted (view x) f e n start so o) file_is opened results notices

-- what is said of what was found is said of it where its tree is bytes
pub if_packed : {E : Type 0} (f : FoundFile) (r : Result SeenFile E) → IfOk r (λ s. s ≡ seen_of f) → (P : SeenFile → Type 0) → P (seen_of f) → IfOk r P
if_packed f (Ok s) e P h = subst P (sym e) h
if_packed f (Err e) none P h = tt
