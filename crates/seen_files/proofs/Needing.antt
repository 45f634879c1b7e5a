-- The pairs that rules need in a file, and what a search of it makes of what is kept.
use Rattle.std.proofs.Common.{◌≡◌, ◌⊎◌, ◌↔◌, inl, inr, ℕ, List, [], ◌∷◌, ◌++◌, map, Bool, true, false, cond, refl, sym, ap, ◌∙◌, subst}
use Rattle.std.specs.Prelude.{Result, Ok, Err, IfOk}
use Rattle.node_tree.specs.declared.node.Node.{Node}
use Rattle.node_tree.specs.declared.view.FileView.{FileView}
use Rattle.node_tree.specs.declared.view.Pattern.{Pattern}
use Rattle.node_match.specs.Sets.{Among}
use Rattle.node_match.proofs.Sets.{among_more}
use Rattle.rule_form.specs.declared.rule.Rule.{Rule}
use Rattle.tree_match.specs.Members.{KnownTree, known_tree}
use Rattle.piece_form.specs.declared.piece.Placed.{Placed}
use Rattle.piece_form.specs.Cut.{pieces_of}
use Rattle.piece_match.specs.Pieces.{falls_apart}
use Rattle.import_names.specs.Resolved.{IsResolved}
use Rattle.file_open.specs.declared.opened.Opened.{Opened}
use Rattle.file_parts.specs.Parts.{SeenPart, ArePartsOf, AreFurther, ResolvesToItself, is_needed, needed_of, as_parts, parts_in, whole_part}
use Rattle.file_parts.proofs.Resolving.{python_resolved, tree_is, all_alike, whole_alike}
use Rattle.file_search.specs.Asked.{AsksFor}
use Rattle.kept_leaves.specs.declared.leaf.KeptPairs.{KeptPairs}
use Rattle.kept_leaves.specs.Asking.{Search, path_of, kept_by, AsksKept, IsNeededBy}
use Rattle.kept_leaves.specs.Growth.{Meets}
use Rattle.kept_leaves.specs.Kept.{Map, map_of}
use Rattle.kept_leaves.specs.Opened.{SeesSame}
use Rattle.kept_leaves.specs.Pairs.{Pair, IsOneOf}
use Rattle.kept_leaves.specs.Ready.{pair_of, pairs_of}
use Rattle.kept_leaves.proofs.Asking.{asks_for_meets}
use Rattle.kept_leaves.proofs.Growing.{meets_as, meets_between, meets_none}
use Rattle.kept_leaves.proofs.Pairs.{one_first, one_second, one_either}
use Rattle.file_results.specs.Asking.{IsAskedFor}
use Rattle.file_results.specs.Shown.{File}
use Rattle.seen_files.specs.declared.seen.SeenFile.{SeenFile}
use Rattle.seen_files.specs.Needs.{HasView, IsNeededIn, IsNeededAt, IsNeeded}
use Rattle.seen_files.specs.Seen.{file_of}

-- ---- parts

module _ (path : List ℕ) (pattern : Pattern) where
  kept_one : {Y : Type 0} (f : SeenPart → Y) (b : Bool) (x : SeenPart) (all xs : List SeenPart) (zs : List Y) → map f all ≡ map f xs ++ zs → map f (cond b (x ∷ all) all) ≡ map f (cond b (x ∷ xs) xs) ++ zs
  kept_one {Y} f true x all xs zs e = ap (λ (ys : List Y). f x ∷ ys) e
  kept_one f false x all xs zs e = e

  -- the pairs of two lists of parts
  pairs_both : (xs ys : List SeenPart) → pairs_of path pattern (xs ++ ys) ≡ pairs_of path pattern xs ++ pairs_of path pattern ys
  pairs_both [] ys = refl
  pairs_both (x ∷ xs) ys = kept_one (pair_of path pattern) (is_needed pattern x) x (needed_of pattern (xs ++ ys)) (needed_of pattern xs) (pairs_of path pattern ys) (pairs_both xs ys)

  either_one : {Y : Type 0} (f : SeenPart → Y) (b : Bool) (x y : SeenPart) (xs ys : List SeenPart) → f x ≡ f y → map f xs ≡ map f ys → map f (cond b (x ∷ xs) xs) ≡ map f (cond b (y ∷ ys) ys)
  either_one {Y} f true x y xs ys e h = ap (λ (z : Y). z ∷ map f xs) e ∙ ap (λ (zs : List Y). f y ∷ zs) h
  either_one f false x y xs ys e h = h

  -- whether names are resolved makes no difference to pairs
  pairs_resolved : (apart : Bool) (pieces : List Placed) (whole : Placed) → pairs_of path pattern (as_parts true apart pieces whole) ≡ pairs_of path pattern (as_parts false apart pieces whole)
  pairs_resolved apart [] whole =
      let x : SeenPart = record { placed = whole; whole = true; resolved = true; apart = apart } in
      let y : SeenPart = record { placed = whole; whole = true; resolved = false; apart = apart } in
      either_one (pair_of path pattern) (is_needed pattern x) x y [] [] refl refl
  pairs_resolved apart (p ∷ ps) whole =
      let x : SeenPart = record { placed = p; whole = false; resolved = true; apart = apart } in
      let y : SeenPart = record { placed = p; whole = false; resolved = false; apart = apart } in
      either_one (pair_of path pattern) (is_needed pattern x) x y (needed_of pattern (as_parts true apart ps whole)) (needed_of pattern (as_parts false apart ps whole)) refl (pairs_resolved apart ps whole)

  module _ (view : FileView) where
    -- a file that resolves to itself has the same pairs once more
    pairs_itself : (r : FileView) → IsResolved view r → ResolvesToItself view → pairs_of path pattern (parts_in true r) ≡ pairs_of path pattern (parts_in false view)
    pairs_itself r is itself =
        let known : known_tree r ≡ known_tree view = sym (tree_is view r is) ∙ itself in
        let tree : r.tree ≡ view.tree = ap (λ (t : KnownTree). t.tree) known in
        let names : r.known ≡ view.known = ap (λ (t : KnownTree). t.known) known in
        let pieces : pieces_of r ≡ pieces_of view = all_alike r view is.lang is.bytes tree names in
        let whole : whole_part r ≡ whole_part view = whole_alike r view is.lang is.bytes tree names in
        let F : List Placed → Placed → Bool → List Pair = λ ps w b. pairs_of path pattern (as_parts true b ps w) in
        ap (λ (ps : List Placed). F ps (whole_part r) (falls_apart r.tree)) pieces
        ∙ ap (λ (w : Placed). F (pieces_of view) w (falls_apart r.tree)) whole
        ∙ ap (λ (t : Node). F (pieces_of view) (whole_part view) (falls_apart t)) tree
        ∙ pairs_resolved (falls_apart view.tree) (pieces_of view) (whole_part view)

    -- the pairs of its further parts are among those of the others, whichever way these are cut
    further_within : (fs gs : List SeenPart) → AreFurther view fs → AreFurther view gs → (x : Pair) → IsOneOf (pairs_of path pattern fs) x → IsOneOf (pairs_of path pattern (parts_in false view)) x ⊎ IsOneOf (pairs_of path pattern gs) x
    further_within fs gs (inl (e, itself)) b x o = let P : List SeenPart → Type 0 = λ ps. IsOneOf (pairs_of path pattern ps) x in absurd (subst P e o).1
    further_within fs gs (inr (python, each)) (inl (f, itself)) x o =
        let (r, is) = python_resolved view python in
        let P : List Pair → Type 0 = λ ps. IsOneOf ps x in
        inl (subst P (ap (pairs_of path pattern) (each r is) ∙ pairs_itself r is itself) o)
    further_within fs gs (inr (python, each)) (inr (also, every)) x o =
        let (r, is) = python_resolved view python in
        let P : List SeenPart → Type 0 = λ ps. IsOneOf (pairs_of path pattern ps) x in
        inr (subst P (each r is ∙ sym (every r is)) o)

    both_pairs : (ps : List SeenPart) (a : ArePartsOf view ps) → pairs_of path pattern ps ≡ pairs_of path pattern (parts_in false view) ++ pairs_of path pattern a.further
    both_pairs ps a = ap (pairs_of path pattern) a.are ∙ pairs_both (parts_in false view) a.further

    -- whichever way a file is cut into parts, they have the same pairs
    pub parts_alike : (ps qs : List SeenPart) → ArePartsOf view ps → ArePartsOf view qs → (x : Pair) → IsOneOf (pairs_of path pattern ps) x → IsOneOf (pairs_of path pattern qs) x
    parts_alike ps qs a b x o =
        let P : List Pair → Type 0 = λ ys. IsOneOf ys x in
        let plain = pairs_of path pattern (parts_in false view) in
        let more = pairs_of path pattern b.further in
        let into : IsOneOf plain x ⊎ IsOneOf more x → IsOneOf (pairs_of path pattern qs) x =
        λ h. subst P (sym (both_pairs qs b)) (elim h [ inl k ↦ one_first plain more x k | inr k ↦ one_second plain more x k ]) in
        elim (one_either plain (pairs_of path pattern a.further) x (subst P (both_pairs ps a) o)) [ inl k ↦ into (inl k) | inr k ↦ into (further_within a.further b.further a.resolved b.resolved x k) ]

-- ---- what a search of the file makes of what is kept

module _ (rules : List Rule) (path : List ℕ) (view : FileView) where
  -- the pairs by parts of the file
  needed_by : (search : Search) → path_of search ≡ path → ArePartsOf view search.parts → (x : Pair) → IsNeededBy search (IsAskedFor path view.lang rules) x ↔ IsNeededIn rules path view x
  needed_by search e are x = (
    λ (p, asked, o). let P : List ℕ → Type 0 = λ a. IsOneOf (pairs_of a p search.parts) x in record { parts = search.parts; are = are; pattern = p; asked = asked; one = subst P e o },
    λ n. let P : List ℕ → Type 0 = λ a. IsOneOf (pairs_of a n.pattern search.parts) x in (n.pattern, n.asked, subst P (sym e) (parts_alike path n.pattern view n.parts search.parts n.are are x n.one)),
  )

  pub looked : (had now : KeptPairs) (old new : Search) (before after : ℕ) → SeesSame (map_of had) (kept_by old) → path_of old ≡ path → ArePartsOf view old.parts → SeesSame (kept_by new) (map_of now)
      → AsksFor AsksKept (IsAskedFor path view.lang rules) old before new after → Meets (IsNeededIn rules path view) (map_of had) before (map_of now) after
  looked had now old new before after into e are out asked =
      meets_between (IsNeededIn rules path view) (map_of had) (kept_by old) (kept_by new) (map_of now) before after into out
      (meets_as (IsNeededBy old (IsAskedFor path view.lang rules)) (IsNeededIn rules path view) (kept_by old) before (kept_by new) after (needed_by old e are)
      (asks_for_meets (IsAskedFor path view.lang rules) old before new after asked))

-- ---- the pairs of a file that was seen

among_pair : (path : List ℕ) (pattern : Pattern) (parts : List SeenPart) (y : Pair) → Among (map (pair_of path pattern) parts) y → y.path ≡ path
among_pair path pattern [] y a = absurd a
among_pair path pattern (p ∷ ps) y (inl e) = sym (ap (λ (z : Pair). z.path) e)
among_pair path pattern (p ∷ ps) y (inr a) = among_pair path pattern ps y a

-- they have its path
pub needed_path : (rules : List Rule) (s : SeenFile) (x : Pair) → IsNeededAt rules s x → s.path ≡ x.path
needed_path rules s x (view, has, n) =
    let (y, a, same) = n.one in
    sym (among_pair s.path n.pattern (needed_of n.pattern n.parts) y a) ∙ same.path

-- a file that can't be looked at has none
pub none_needed : (rules : List Rule) (s : SeenFile) (o : Opened) → s.opened ≡ o → ((view : FileView) → HasView o view → ⊥) → (x : Pair) → ⊥ ↔ IsNeededAt rules s x
none_needed rules s o e hidden x = (λ h. absurd h, λ (view, has, n). let P : Opened → Type 0 = λ p. HasView p view in hidden view (subst P e has))

-- one that can has those of what it was opened as
pub needed_there : (rules : List Rule) (s : SeenFile) (o : Opened) (w : FileView) (path : List ℕ) → s.opened ≡ o → s.path ≡ path → HasView o w → ((view : FileView) → HasView o view → w ≡ view)
    → (x : Pair) → IsNeededIn rules path w x ↔ IsNeededAt rules s x
needed_there rules s o w path e f has only x =
    let P : Opened → Type 0 = λ p. HasView p w in
    let Q : List ℕ → Type 0 = λ p. IsNeededIn rules p w x in (
      λ n. (w, subst P (sym e) has, subst Q (sym f) n),
      λ (view, h, n).
          let R : Opened → Type 0 = λ p. HasView p view in
          let V : FileView → Type 0 = λ v. IsNeededIn rules s.path v x in
          subst Q f (subst V (sym (only view (subst R e h))) n),
    )

-- one file more
pub needs_more : (rules : List Rule) (files : List SeenFile) (s : SeenFile) (x : Pair) → (IsNeeded rules files x ⊎ IsNeededAt rules s x) ↔ IsNeeded rules (files ++ s ∷ []) x
needs_more rules files s x = (
  λ h. elim h [ inl (t, a, n) ↦ (t, (among_more files s t).1 (inl a), n) | inr n ↦ (s, (among_more files s s).1 (inr refl), n) ],
  λ (t, a, n). elim ((among_more files s t).0 a) [ inl b ↦ inl (t, b, n) | inr e ↦ (let P : SeenFile → Type 0 = λ u. IsNeededAt rules u x in inr (subst P (sym e) n)) ],
)

-- files without a pair
pub needs_none : (rules : List Rule) (x : Pair) → ⊥ ↔ IsNeeded rules [] x
needs_none rules x = (λ h. absurd h, λ (s, a, n). absurd a)

-- ---- the same of answers

weaker : {A E : Type 0} (r : Result A E) (P Q : A → Type 0) → ((a : A) → P a → Q a) → IfOk r P → IfOk r Q
weaker (Ok a) P Q f p = f a p
weaker (Err e) P Q f p = tt

both : {A E : Type 0} (r : Result A E) (P Q R : A → Type 0) → ((a : A) → P a → Q a → R a) → IfOk r P → IfOk r Q → IfOk r R
both (Ok a) P Q R f p q = f a p q
both (Err e) P Q R f p q = tt

module _ {X E : Type 0} (view : X → SeenFile) (rules : List Rule) (o : Opened) (r : Result X E) (opened : IfOk r (λ x. (view x).opened ≡ o)) where
  -- a file that can't be looked at costs nothing
  pub if_hidden : ((v : FileView) → HasView o v → ⊥) → (map : Map) (steps : ℕ) → IfOk r (λ x. Meets (IsNeededAt rules (view x)) map steps map steps)
  if_hidden hidden map steps = weaker r (λ x. (view x).opened ≡ o) (λ x. Meets (IsNeededAt rules (view x)) map steps map steps) (λ x e. meets_as (λ p. ⊥) (IsNeededAt rules (view x)) map steps map steps (none_needed rules (view x) o e hidden) (meets_none map steps)) opened

  pub if_viewed : (w : FileView) (path bytes : List ℕ) → IfOk r (λ x. file_of (view x) ≡ (path, bytes)) → HasView o w → ((v : FileView) → HasView o v → w ≡ v) → (old : Map) (before : ℕ) (new : Map) (after : ℕ)
      → Meets (IsNeededIn rules path w) old before new after → IfOk r (λ x. Meets (IsNeededAt rules (view x)) old before new after)
  if_viewed w path bytes file_is has only old before new after m =
      both r (λ x. (view x).opened ≡ o) (λ x. file_of (view x) ≡ (path, bytes)) (λ x. Meets (IsNeededAt rules (view x)) old before new after)
      (λ x e f. meets_as (IsNeededIn rules path w) (IsNeededAt rules (view x)) old before new after (needed_there rules (view x) o w path e (ap (λ (g : File). g.0) f) has only) m) opened file_is
