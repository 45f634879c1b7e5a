-- What it costs to see files again is one number.
use Rattle.std.proofs.Common.{◌≡◌, ◌⊎◌, inl, inr, ℕ, suc, ◌≤◌, List, [], ◌∷◌, ◌++◌, length, map, false, refl, sym, ap, ◌∙◌, subst, arith}
use Rattle.node_tree.specs.declared.node.Node.{Node}
use Rattle.node_tree.specs.declared.known.Known.{Known}
use Rattle.node_tree.specs.declared.view.FileView.{FileView}
use Rattle.node_tree.specs.declared.view.Lang.{Lang}
use Rattle.node_match.specs.Sets.{Among}
use Rattle.rule_form.specs.declared.rule.Rule.{Rule}
use Rattle.tree_match.specs.Members.{KnownTree, known_tree}
use Rattle.piece_form.specs.declared.piece.Placed.{Placed}
use Rattle.piece_form.specs.Cut.{pieces_of}
use Rattle.piece_match.specs.Pieces.{falls_apart}
use Rattle.import_names.specs.Resolved.{IsResolved, tree_in, known_in}
use Rattle.file_open.specs.declared.opened.Opened.{Opened}
use Rattle.file_open.specs.declared.opened.Opened.TheVariants.{TooLarge, NotUtf8, NoTree, Read}
use Rattle.file_open.specs.Reading.{Spells}
use Rattle.file_open.specs.Opening.{IsOpened, HasOnlyTree}
use Rattle.file_parts.specs.Parts.{SeenPart, ArePartsOf, AreFurther, ResolvesToItself, as_parts, parts_in, whole_part}
use Rattle.file_parts.specs.Seen.{resolved_tree}
use Rattle.file_parts.proofs.Resolving.{all_alike, whole_alike}
use Rattle.kept_leaves.specs.Pairs.{Pair, IsSamePair, IsOneOf, AreApart}
use Rattle.kept_leaves.proofs.Pairs.{same_itself, same_back, same_then}
use Rattle.running_rules.proofs.Members.{among_map}
use Rattle.file_results.specs.Asking.{IsAskedFor}
use Rattle.file_results.specs.Needing.{AreWanted}
use Rattle.file_results.specs.Quieted.{Grammars}
use Rattle.file_results.specs.Shown.{File, lang_at, Shows}
use Rattle.file_results.proofs.Named.{wanted_once}
use Rattle.file_results.proofs.Views.{shows_one}
use Rattle.seen_files.specs.declared.seen.SeenFile.{SeenFile}
use Rattle.seen_files.specs.declared.seen.SeenFiles.{SeenFiles}
use Rattle.seen_files.specs.Needs.{HasView, IsNeededIn, IsNeededAt, IsNeeded}
use Rattle.seen_files.specs.Once.{SeesAgain, IsOneCost}
use Rattle.seen_files.specs.Seen.{file_of, AreAlike, IsOpenedSo, IsSeen, HasSeen}
use Rattle.seen_files.specs.Spends.{Spends}
use Rattle.seen_files.proofs.Counting.{among_seen}
use Rattle.seen_files.proofs.Found.{too_large, not_utf8, bare_read, bare_plain}

-- ---- views that are alike have the same pairs

module _ (v w : FileView) (lang : v.lang ≡ w.lang) (bytes : v.bytes ≡ w.bytes) (tree : v.tree ≡ w.tree) (known : v.known ≡ w.known) where
  trees_alike : known_tree v ≡ known_tree w
  trees_alike =
      let make : Node → List Known → KnownTree = λ t ks. record { tree = t; known = ks } in
      ap (λ (t : Node). make t v.known) tree ∙ ap (make w.tree) known

  parts_alike : parts_in false v ≡ parts_in false w
  parts_alike =
      ap (λ (ps : List Placed). as_parts false (falls_apart v.tree) ps (whole_part v)) (all_alike v w lang bytes tree known)
      ∙ ap (as_parts false (falls_apart v.tree) (pieces_of w)) (whole_alike v w lang bytes tree known)
      ∙ ap (λ (t : Node). as_parts false (falls_apart t) (pieces_of w) (whole_part w)) tree

  resolves_alike : ResolvesToItself v → ResolvesToItself w
  resolves_alike itself =
      let P : KnownTree → Type 0 = λ t. resolved_tree v.lang t ≡ t in
      let L : Lang → Type 0 = λ l. resolved_tree l (known_tree w) ≡ known_tree w in
      subst L lang (subst P trees_alike itself)

  -- the one with names resolved
  resolved_alike : (r : FileView) → IsResolved w r → IsResolved v r
  resolved_alike r is =
      let T : KnownTree → Node = λ t. (resolved_tree v.lang t).tree in
      let K : KnownTree → List Known = λ t. (resolved_tree v.lang t).known in
      record {
        lang = is.lang ∙ sym lang;
        bytes = is.bytes ∙ sym bytes;
        tree = is.tree ∙ ap (λ (l : Lang). tree_in l w.tree) (sym lang) ∙ ap T (sym trees_alike);
        known = is.known ∙ ap (λ (l : Lang). known_in l w.tree w.known) (sym lang) ∙ ap K (sym trees_alike);
      }

  further_alike : (parts : List SeenPart) → AreFurther v parts → AreFurther w parts
  further_alike parts (inl (none, itself)) = inl (none, resolves_alike itself)
  further_alike parts (inr (python, each)) = inr (sym lang ∙ python, λ r is. each r (resolved_alike r is))

  all_parts_alike : (parts : List SeenPart) → ArePartsOf v parts → ArePartsOf w parts
  all_parts_alike parts are = record { further = are.further; are = are.are ∙ ap (λ (ps : List SeenPart). ps ++ are.further) parts_alike; resolved = further_alike are.further are.resolved }

  pub needed_alike : (rules : List Rule) (path : List ℕ) (x : Pair) → IsNeededIn rules path v x → IsNeededIn rules path w x
  needed_alike rules path x n =
      let P : Lang → Type 0 = λ l. IsAskedFor path l rules n.pattern in
      record { parts = n.parts; are = all_parts_alike n.parts n.are; pattern = n.pattern; asked = subst P lang n.asked; one = n.one }

-- ---- how a file was opened

-- what was opened has the language and the tree of the view that was seen
bare_shows : (o q : Opened) (v : FileView) → AreAlike o q → HasView q v → Shows o v.lang v.tree
bare_shows o TooLarge v alike has = absurd has
bare_shows o NotUtf8 v alike has = absurd has
bare_shows o (NoTree p) v alike has =
    let (b, e, same) = bare_plain o p alike in
    let P : Opened → Type 0 = λ x. Shows x v.lang v.tree in
    let is : Shows (NoTree b) v.lang v.tree = (sym same.lang ∙ ap (λ (u : FileView). u.lang) has, sym same.tree ∙ ap (λ (u : FileView). u.tree) has) in
    subst P (sym e) is
bare_shows o (Read p) v alike has =
    let (b, e, same) = bare_read o p alike in
    let P : Opened → Type 0 = λ x. Shows x v.lang v.tree in
    let is : Shows (Read b) v.lang v.tree = (sym same.lang ∙ ap (λ (u : FileView). u.lang) has, sym same.tree ∙ ap (λ (u : FileView). u.tree) has) in
    subst P (sym e) is

-- and the view that was seen those of what was opened
seen_view : (o q : Opened) (l : Lang) (t : Node) → AreAlike o q → Shows o l t → (w : FileView) × HasView q w × (l ≡ w.lang) × (t ≡ w.tree)
seen_view o TooLarge l t alike shows = let P : Opened → Type 0 = λ x. Shows x l t in absurd (subst P (too_large o alike) shows)
seen_view o NotUtf8 l t alike shows = let P : Opened → Type 0 = λ x. Shows x l t in absurd (subst P (not_utf8 o alike) shows)
seen_view o (NoTree p) l t alike shows =
    let (b, e, same) = bare_plain o p alike in
    let P : Opened → Type 0 = λ x. Shows x l t in
    let is : Shows (NoTree b) l t = subst P e shows in
    (p, refl, sym is.0 ∙ sym same.lang, sym is.1 ∙ sym same.tree)
seen_view o (Read p) l t alike shows =
    let (b, e, same) = bare_read o p alike in
    let P : Opened → Type 0 = λ x. Shows x l t in
    let is : Shows (Read b) l t = subst P e shows in
    (p, refl, sym is.0 ∙ sym same.lang, sym is.1 ∙ sym same.tree)

-- its bytes are those of the file
seen_bytes : (spells : Spells) (lang : Lang) (bytes : List ℕ) (o q : Opened) (v : FileView) → IsOpened spells lang bytes o → AreAlike o q → HasView q v → v.bytes ≡ bytes
seen_bytes spells lang bytes o TooLarge v is alike has = absurd has
seen_bytes spells lang bytes o NotUtf8 v is alike has = absurd has
seen_bytes spells lang bytes o (NoTree p) v is alike has =
    let (b, e, same) = bare_plain o p alike in
    let P : Opened → Type 0 = IsOpened spells lang bytes in
    let so : IsOpened spells lang bytes (NoTree b) = subst P e is in
    sym (ap (λ (u : FileView). u.bytes) has) ∙ same.bytes ∙ so.2.bytes_are
seen_bytes spells lang bytes o (Read p) v is alike has =
    let (b, e, same) = bare_read o p alike in
    let P : Opened → Type 0 = IsOpened spells lang bytes in
    let so : IsOpened spells lang bytes (Read b) = subst P e is in
    sym (ap (λ (u : FileView). u.bytes) has) ∙ same.bytes ∙ so.2.bytes_are

-- ---- a file that is seen by the same rules twice

module _ (grammars : Grammars) (rules : List Rule) (s t : SeenFile) (one : IsSeen grammars rules s) (other : IsSeen grammars rules t) (same : file_of t ≡ file_of s) where
  -- it needs the same pairs
  pub needed_again : (x : Pair) → IsNeededAt rules s x → IsNeededAt rules t x
  needed_again x (v, has, n) =
      let spells = grammars.spells in
      let F : File → Type 0 = λ f. IsOpened spells (lang_at f.0) f.1 other.opened.bare in
      let G : File → Type 0 = λ f. HasOnlyTree spells (lang_at f.0) f.1 other.opened.bare in
      let is = subst F same other.opened.is in
      let only = subst G same other.opened.only in
      let shows = bare_shows one.opened.bare s.opened v one.opened.alike has in
      let shown = shows_one spells (lang_at s.path) s.bytes.value other.opened.bare one.opened.bare is only one.opened.is v.lang v.tree shows in
      let (w, there, lang, tree) = seen_view other.opened.bare t.opened v.lang v.tree other.opened.alike shown in
      let bytes = seen_bytes spells (lang_at s.path) s.bytes.value one.opened.bare s.opened v one.opened.is one.opened.alike has
      ∙ sym (seen_bytes spells (lang_at s.path) s.bytes.value other.opened.bare t.opened w is other.opened.alike there) in
      let L : Lang → Type 0 = λ l. AreWanted grammars.knows l w.tree rules w.known in
      let T : Node → Type 0 = λ u. AreWanted grammars.knows v.lang u rules w.known in
      let wanted = subst T (sym tree) (subst L (sym lang) (other.named w there)) in
      let known = wanted_once grammars.knows v.lang v.tree rules w.known v.known wanted (one.named v has) in
      let P : List ℕ → Type 0 = λ p. IsNeededIn rules p w x in
      (w, there, subst P (sym (ap (λ (f : File). f.0) same)) (needed_alike v w lang bytes tree known rules s.path x n))

-- ---- files that are seen by the same rules twice

pub needed_in : (grammars : Grammars) (rules : List Rule) (files : List File) (a b : List SeenFile) → map file_of a ≡ files → map file_of b ≡ files → ((s : SeenFile) → Among a s → IsSeen grammars rules s) → ((s : SeenFile) → Among b s → IsSeen grammars rules s)
    → (x : Pair) → IsNeeded rules a x → IsNeeded rules b x
needed_in grammars rules files a b one other all every x (s, here, n) =
    let P : List File → Type 0 = λ fs. Among fs (file_of s) in
    let there : Among (map file_of b) (file_of s) = subst P (one ∙ sym other) (among_map file_of a s here) in
    let (t, among, same) = among_seen b (file_of s) there in
    (t, among, needed_again grammars rules s t (all s here) (every t among) same x n)

pub needed_once : (grammars : Grammars) (rules : List Rule) (files : List File) (a b : SeenFiles) → HasSeen grammars rules files a → HasSeen grammars rules files b → (x : Pair) → IsNeeded rules a.files x → IsNeeded rules b.files x
needed_once grammars rules files a b one other = needed_in grammars rules files a.files b.files one.files_are other.files_are one.all other.all

-- ---- how many pairs there are

-- a list without one of its pairs
without : (ys : List Pair) (y : Pair) → Among ys y → (rest : List Pair) × (length ys ≡ suc (length rest)) × ((z : Pair) → Among ys z → (y ≡ z) ⊎ Among rest z)
without [] y a = absurd a
without (p ∷ ps) y (inl e) = (ps, refl, λ z a. elim a [ inl f ↦ inl (sym e ∙ f) | inr b ↦ inr b ])
without (p ∷ ps) y (inr a) =
    let (rest, count, back) = without ps y a in
    let more : length (p ∷ ps) ≡ suc (length (p ∷ rest)) = omega (arith, count) in
    (p ∷ rest, more, λ z b. elim b [ inl f ↦ inr (inl f) | inr c ↦ elim (back z c) [ inl e ↦ inl e | inr d ↦ inr (inr d) ] ])

-- of pairs that are all of another list, no two of them one, there are at most as many
pub at_most : (xs ys : List Pair) → AreApart xs → ((x : Pair) → Among xs x → IsOneOf ys x) → length xs ≤ length ys
at_most [] ys apart within = omega arith
at_most (x ∷ xs) ys apart within =
    let (y, a, same) = within x (inl refl) in
    let (rest, count, back) = without ys y a in
    let into : (z u : Pair) → Among xs z → (y ≡ u) ⊎ Among rest u → IsSamePair u z → IsOneOf rest z =
    λ z u b h like. elim h [
      | inl e ↦ (let P : Pair → Type 0 = λ p. IsSamePair p z in absurd (apart.0 (z, b, same_then z y x (same_back y z (subst P (sym e) like)) same)))
      | inr d ↦ (u, d, like)
    ] in
    let less = at_most xs rest apart.1 (λ z b. let (u, c, like) = within z (inr b) in into z u b (back u c) like) in
    omega (arith, count, less)

-- ---- the cost

module _ (files_before files : List File) (Before Now Earlier Later : Pair → Type 0) (before after other : ℕ) where
  -- new pairs are new the other way too
  pub fewer : Spends files_before files Before Now before after → Spends files_before files Earlier Later before other → ((x : Pair) → Now x → Later x) → ((x : Pair) → Earlier x → Before x) → after ≤ other
  fewer one also now was =
      let most = at_most one.news also.news one.apart (λ x a.
      let is = (one.exact x).0 (x, a, same_itself x) in
      (also.exact x).1 (now x is.0, λ h. is.1 (was x h))) in
      omega (arith, one.cost, also.cost, most)

pub one_cost : (grammars : Grammars) → IsOneCost grammars
one_cost grammars rules_before rules files_before files before after other a b =
    let Old : SeenFiles → Pair → Type 0 = λ s. IsNeeded rules_before s.files in
    let New : SeenFiles → Pair → Type 0 = λ s. IsNeeded rules s.files in
    let up = fewer files_before files (Old a.old) (New a.new) (Old b.old) (New b.new) before after other a.spends b.spends (needed_once grammars rules files a.new b.new a.seen b.seen) (needed_once grammars rules_before files_before b.old a.old b.was a.was) in
    let down = fewer files_before files (Old b.old) (New b.new) (Old a.old) (New a.new) before other after b.spends a.spends (needed_once grammars rules files b.new a.new b.seen a.seen) (needed_once grammars rules_before files_before a.old b.old a.was b.was) in
    omega (arith, up, down)
