-- The walk over the files that there are now and those that were seen before.
use Rattle.std.proofs.Common.{◌≡◌, ◌⊎◌, ◌↔◌, inl, inr, ℕ, ◌+◌, ◌<◌, ◌≤◌, List, [], ◌∷◌, ◌++◌, length, take, drop, get_or, map, Bool, true, false, refl, sym, ap, ◌∙◌, subst, arith}
use Rattle.std.specs.Prelude.{Option, None, Some, IfSome, Result, IfOk, if◌then◌else◌, reverse}
use Rattle.std.specs.Str.{bytes_eq}
use Rattle.std.specs.declared.cmp.Ordering.TheVariants.{Less}
use Rattle.std.specs.List.{list_any}
use Rattle.std.specs.Map.{keys_of}
use Rattle.std.specs.List.Sorted.{IsStrictlySortedBy}
use Rattle.std.proofs.lemmas.List.{map_push, map_more, map-append, drop_more, take_all, take-append-drop, reverse-reverse}
use Rattle.scan_world.specs.Files.{Files, path_cmp}
use Rattle.meta_bind.specs.Bounds.{name_cmp}
use Rattle.node_match.specs.Sets.{Among}
use Rattle.node_match.proofs.Sets.{among_more}
use Rattle.tree_match.specs.Ascending.{IsAscending}
use Rattle.rule_form.specs.declared.rule.Rule.{Rule}
use Rattle.kept_leaves.specs.declared.leaf.KeptPairs.{KeptPairs}
use Rattle.kept_leaves.specs.Growth.{Grows, Meets, Turns}
use Rattle.kept_leaves.specs.Kept.{Map, IsKept, IsNoneMet, map_of}
use Rattle.kept_leaves.specs.Pairs.{Pair}
use Rattle.kept_leaves.proofs.Asking.{new_pairs, needed_left, turned_unmet, empty_unmet}
use Rattle.kept_leaves.proofs.Growing.{meets_none, meets_as, meets_then}
use Rattle.running_rules.specs.Running.{AreApart}
use Rattle.running_rules.proofs.Members.{among_map}
use Rattle.file_results.specs.Quieted.{Grammars}
use Rattle.file_results.specs.Shown.{File, file_cmp}
use Rattle.file_results.proofs.Orders.{before_below}
use Rattle.seen_files.specs.declared.seen.SeenFile.{SeenFile}
use Rattle.seen_files.specs.declared.seen.SeenFiles.{SeenFiles}
use Rattle.seen_files.specs.Needs.{IsNeededAt, IsNeeded}
use Rattle.seen_files.specs.Seen.{file_of, IsSeen, HasSeen, HasSeenNone}
use Rattle.seen_files.specs.Spends.{is_same, changed, Spends}
use Rattle.seen_files.specs.Walk.{openings, Takes, turned, HasWalked, HasPassed}
use Rattle.seen_files.proofs.Needing.{needed_path, needs_more, needs_none}
use Rattle.seen_files.proofs.Stacks.{IsStack, not_itself, file_total, among_reverse, among_turned, finds_it, found_it, goes_on}
use Rattle.seen_files.proofs.Counting.{once, changed_more, opened_once}

if_some : {X : Type 0} (P : X → Type 0) (o : Option X) → ((x : X) → o ≡ Some x → P x) → IfSome o P
if_some P None h = tt
if_some P (Some x) h = h x refl

-- so many steps later
meets_later : (k : ℕ) (N : Pair → Type 0) (old : Map) (before : ℕ) (new : Map) (after : ℕ) → Meets N old before new after → Meets N old (before + k) new (after + k)
meets_later k N old before new after (ns, g, e) = let f : after + k ≡ before + k + length ns = omega (arith, e) in (ns, g, f)

pub turned_round : (grammars : Grammars) (rules : List Rule) (files : List File) (seen : SeenFiles) (stack : List SeenFile) (kept : KeptPairs) → stack ≡ reverse seen.files → kept ≡ seen.kept → HasSeen grammars rules files seen → HasSeen grammars rules files (turned stack kept)
turned_round grammars rules files seen stack kept e f h =
    let P : List SeenFile → Type 0 = λ fs. HasSeen grammars rules files (record { files = fs; kept = seen.kept }) in
    let Q : KeptPairs → Type 0 = λ k. HasSeen grammars rules files (turned stack k) in
    subst Q (sym f) (subst P (sym (ap reverse e ∙ reverse-reverse seen.files)) h)

-- ---- the first file

pub walk_start : (grammars : Grammars) (rules : List Rule) (old : List File) (had : Map) (before : ℕ) (seen : List SeenFile) → seen ≡ [] → HasWalked grammars rules old [] had before had before seen
walk_start grammars rules old had before seen e =
    let P : List SeenFile → Type 0 = λ fs. HasWalked grammars rules old [] had before had before fs in
    let none = meets_as (λ x. ⊥) (IsNeeded rules []) had before had before (needs_none rules) (meets_none had before) in
    let Q : ℕ → Type 0 = λ n. Meets (IsNeeded rules []) had n had before in
    let same : before ≡ before + 0 = omega arith in
    subst P (sym e) (record { files_are = refl; all = λ s a. absurd a; meets = subst Q same none })

pub passed_start : (stack left : List SeenFile) → left ≡ stack → HasPassed [] stack left
passed_start stack left e = record { gone = []; split = sym e ∙ sym (nothing_more left); passed = λ s a. absurd a }
  where
    nothing_more : (xs : List SeenFile) → xs ++ [] ≡ xs
    nothing_more [] = refl
    nothing_more (x ∷ xs) = ap (λ (ys : List SeenFile). x ∷ ys) (nothing_more xs)

-- ---- the next one

-- the files walked over stand before it
pub stand_before : (files done rest : List File) (path bytes : List ℕ) → IsAscending file_cmp files → files ≡ done ++ (path, bytes) ∷ rest → (f : File) → Among done f → name_cmp f.0 path ≡ Less
stand_before files done rest path bytes up e f a = let P : List File → Type 0 = IsAscending file_cmp in before_below file_cmp file_total done (path, bytes) rest f (subst P e up) a

module _ (grammars : Grammars) (rules known : List Rule) (old : List File) (stack : List SeenFile) (kept : KeptPairs) (seen_before : HasSeen grammars known old (turned stack kept))
    (done : List File) (path bytes : List ℕ) (next : (f : File) → Among done f → name_cmp f.0 path ≡ Less)
    (before : ℕ) (has : Map) (steps : ℕ) (seen left : List SeenFile) (w : HasWalked grammars rules old done (map_of kept) before has steps seen) (p : HasPassed done stack left)
    (taken : Option SeenFile) (new : List SeenFile) (t : Takes path left taken new) where
  stands : IsStack stack
  stands = let P : List File → Type 0 = IsAscending file_cmp in subst P (sym seen_before.files_are) seen_before.ordered

  finds : (s : SeenFile) → s.path ≡ path → Among stack s → taken ≡ Some s
  finds = finds_it path stack left p.gone new p.split stands done p.passed next taken t

  found : (s : SeenFile) → taken ≡ Some s → (s.path ≡ path) × Among stack s
  found = found_it path stack left p.gone new p.split stands done p.passed next taken t

  -- it was seen by the rules before
  pub taken_seen : IfSome taken (IsSeen grammars known)
  taken_seen = if_some (IsSeen grammars known) taken (λ s e. seen_before.all s (among_reverse stack s (found s e).1))

  -- the pairs that are kept at its path are those that it needed
  kept_needed : (s : SeenFile) → taken ≡ Some s → (x : Pair) → path ≡ x.path → IsKept has x → IsNeededAt known s x
  kept_needed s e x at k =
      let (news, g, cost) = w.meets in
      elim (g.only_kept x k) [
        | inl j ↦ by_old ((seen_before.kept x).0 j)
        | inr o ↦ elim (g.only_met x (g.gained x o)) [ inl j ↦ absurd (seen_before.unmet x j) | inr n ↦ absurd (by_new n) ]
      ]
    where
      by_old : IsNeeded known (reverse stack) x → IsNeededAt known s x
      by_old (u, a, n) =
          let f : taken ≡ Some u = finds u (needed_path known u x n ∙ sym at) (among_turned stack u a) in
          let g : Some u ≡ Some s = sym f ∙ e in
          let same : u ≡ s = cc in
          let P : SeenFile → Type 0 = λ v. IsNeededAt known v x in
          subst P same n

      by_new : IsNeeded rules seen x → ⊥
      by_new (u, a, n) =
          let P : List File → Type 0 = λ fs. Among fs (file_of u) in
          not_itself u.path path (needed_path rules u x n ∙ sym at) (next (file_of u) (subst P w.files_are (among_map file_of seen u a)))

  needed_kept : (s : SeenFile) → taken ≡ Some s → (x : Pair) → IsNeededAt known s x → (path ≡ x.path) × IsKept has x
  needed_kept s e x n =
      let (news, g, cost) = w.meets in
      let (leaf, met, k) = (seen_before.kept x).1 (s, among_reverse stack s (found s e).1, n) in
      let (now, j, f) = g.stays x leaf met k in
      (sym (found s e).0 ∙ needed_path known s x n, (leaf, now, j))

  pub taken_pairs : IfSome taken (λ s. (x : Pair) → ((path ≡ x.path) × IsKept has x) ↔ IsNeededAt known s x)
  taken_pairs = if_some (λ s. (x : Pair) → ((path ≡ x.path) × IsKept has x) ↔ IsNeededAt known s x) taken (λ s e x. (λ (at, k). kept_needed s e x at k, needed_kept s e x))

  module _ (s : SeenFile) (file_is : file_of s ≡ (path, bytes)) (is_seen : IsSeen grammars rules s) (has' : Map) (steps' : ℕ) (m : Meets (IsNeededAt rules s) has (steps + openings taken bytes) has' steps') where
    pub walk_on : HasWalked grammars rules old (done ++ (path, bytes) ∷ []) (map_of kept) before has' steps' (seen ++ s ∷ [])
    walk_on =
        let opened = openings taken bytes in
        let once_is : opened ≡ once (list_any (is_same (path, bytes)) old) =
        opened_once (reverse stack) old seen_before.files_are path bytes taken (λ u at a. finds u at (among_turned stack u a)) (λ u e. ((found u e).0, among_reverse stack u (found u e).1)) in
        let count = changed_more old done (path, bytes) in
        let start : ℕ = before + length (changed old done) in
        let both = meets_then (IsNeeded rules seen) (IsNeededAt rules s) (map_of kept) (start + opened) has (steps + opened) has' steps' (meets_later opened (IsNeeded rules seen) (map_of kept) start has steps w.meets) m in
        let all = meets_as (λ x. IsNeeded rules seen x ⊎ IsNeededAt rules s x) (IsNeeded rules (seen ++ s ∷ [])) (map_of kept) (start + opened) has' steps' (needs_more rules seen s) both in
        let F : File → Type 0 = λ f. map file_of seen ++ file_of s ∷ [] ≡ map file_of seen ++ f ∷ [] in
        let Q : ℕ → Type 0 = λ n. Meets (IsNeeded rules (seen ++ s ∷ [])) (map_of kept) n has' steps' in
        let same : start + opened ≡ before + length (changed old (done ++ (path, bytes) ∷ [])) = omega (arith, once_is, count) in
        record {
          files_are = map_push file_of seen s ∙ subst F file_is refl ∙ ap (λ (fs : List File). fs ++ (path, bytes) ∷ []) w.files_are;
          all = λ u a. elim ((among_more seen s u).0 a) [ inl b ↦ w.all u b | inr e ↦ (let P : SeenFile → Type 0 = IsSeen grammars rules in subst P e is_seen) ];
          meets = subst Q same all;
        }

  pub pass_on : HasPassed (done ++ (path, bytes) ∷ []) stack new
  pass_on =
      let (gone, split, passed) = goes_on path stack left p.gone new p.split stands done p.passed next taken t bytes in
      record { gone = gone; split = split; passed = passed }

-- ---- one step of the loop

module _ {X : Type 0} (f : X → File) (items : List X) (i : ℕ) (x d : X) (lt : i < length items) (is : x ≡ get_or items i d) where
  one_more : map f (take (i + 1) items) ≡ map f (take i items) ++ f x ∷ []
  one_more = map_more f items i d lt ∙ ap (λ (y : X). map f (take i items) ++ f y ∷ []) (sym is)

  split_there : map f items ≡ map f (take i items) ++ f x ∷ map f (drop (i + 1) items)
  split_there =
      ap (map f) (sym (take-append-drop i items) ∙ ap (λ (l : List X). take i items ++ l) (drop_more items i d lt))
      ∙ map-append f (take i items) (get_or items i d ∷ drop (i + 1) items)
      ∙ ap (λ (y : X). map f (take i items) ++ f y ∷ map f (drop (i + 1) items)) (sym is)

  module _ (grammars : Grammars) (rules known : List Rule) (old : List File) (stack : List SeenFile) (kept : KeptPairs) (seen_before : HasSeen grammars known old (turned stack kept))
      (files : List File) (all : map f items ≡ files) (up : IsAscending file_cmp files) (path bytes : List ℕ) (here : f x ≡ (path, bytes))
      (before : ℕ) (has : Map) (steps : ℕ) (seen left : List SeenFile) (w : HasWalked grammars rules old (map f (take i items)) (map_of kept) before has steps seen) (p : HasPassed (map f (take i items)) stack left)
      (taken : Option SeenFile) (new : List SeenFile) (t : Takes path left taken new) where
    next : (g : File) → Among (map f (take i items)) g → name_cmp g.0 path ≡ Less
    next =
        let e : map f items ≡ map f (take i items) ++ (path, bytes) ∷ map f (drop (i + 1) items) = split_there ∙ ap (λ (g : File). map f (take i items) ++ g ∷ map f (drop (i + 1) items)) here in
        stand_before files (map f (take i items)) (map f (drop (i + 1) items)) path bytes up (sym all ∙ e)

    done : map f (take i items) ++ (path, bytes) ∷ [] ≡ map f (take (i + 1) items)
    done = ap (λ (g : File). map f (take i items) ++ g ∷ []) (sym here) ∙ sym one_more

    module _ (Since : List Rule → Type 0) (since : Since known) (apart : AreApart rules) (s : SeenFile) (file_is : file_of s ≡ (path, bytes))
        (sees : (b : List Rule) → Since b → AreApart rules → IfSome taken (IsSeen grammars b) → IsSeen grammars rules s) (has' : Map) (steps' : ℕ)
        (meets : (b : List Rule) → Since b → IfSome taken (λ u. (y : Pair) → ((path ≡ y.path) × IsKept has y) ↔ IsNeededAt b u y) → Meets (IsNeededAt rules s) has (steps + openings taken bytes) has' steps')
        (seen' : List SeenFile) (pushed : seen' ≡ seen ++ s ∷ []) where
      pub steps_on : HasWalked grammars rules old (map f (take (i + 1) items)) (map_of kept) before has' steps' seen' × HasPassed (map f (take (i + 1) items)) stack new
      steps_on =
          let far = map f (take i items) in
          let is_seen = sees known since apart (taken_seen grammars rules known old stack kept seen_before far path bytes next before has steps seen left w p taken new t) in
          let m = meets known since (taken_pairs grammars rules known old stack kept seen_before far path bytes next before has steps seen left w p taken new t) in
          let walked = walk_on grammars rules known old stack kept seen_before far path bytes next before has steps seen left w p taken new t s file_is is_seen has' steps' m in
          let passed = pass_on grammars rules known old stack kept seen_before far path bytes next before has steps seen left w p taken new t in
          let P : List File → Type 0 = λ fs. HasWalked grammars rules old fs (map_of kept) before has' steps' (seen ++ s ∷ []) in
          let Q : List SeenFile → Type 0 = λ l. HasWalked grammars rules old (map f (take (i + 1) items)) (map_of kept) before has' steps' l in
          let R : List File → Type 0 = λ fs. HasPassed fs stack new in
          (subst Q (sym pushed) (subst P done walked), subst R done passed)

pub walk_end : {X : Type 0} (f : X → File) (items : List X) (i : ℕ) (files : List File) → length items ≤ i → map f items ≡ files → (grammars : Grammars) (rules : List Rule) (old : List File) (had : Map) (before : ℕ) (has : Map) (after : ℕ) (seen : List SeenFile)
    → HasWalked grammars rules old (map f (take i items)) had before has after seen → HasWalked grammars rules old files had before has after seen
walk_end f items i files end all grammars rules old had before has after seen w =
    let P : List File → Type 0 = λ fs. HasWalked grammars rules old fs had before has after seen in
    subst P (ap (map f) (take_all i items end) ∙ all) w

-- files whose paths ascend are in the order of a scan
pub in_path_order : (files : Files) → IsStrictlySortedBy path_cmp (keys_of files) → IsAscending file_cmp files
unfolding IsStrictlySortedBy
in_path_order [] h = tt
in_path_order (f ∷ []) h = tt
in_path_order (f ∷ g ∷ fs) h = (h.0.0, in_path_order (g ∷ fs) h.1)

-- ---- after the walk

module _ (grammars : Grammars) (rules : List Rule) (old now : List File) (had : Map) (before : ℕ) (has : Map) (after : ℕ) (new : SeenFiles) (w : HasWalked grammars rules old now had before has after new.files) where
  pub seen_all : IsAscending file_cmp now → IsNoneMet had → Turns has (map_of new.kept) → HasSeen grammars rules now new
  seen_all up unmet t =
      let (news, g, e) = w.meets in
      record {
        files_are = w.files_are;
        ordered = up;
        all = w.all;
        kept = needed_left had has (IsNeeded rules new.files) news g unmet (map_of new.kept) t;
        unmet = turned_unmet has (map_of new.kept) t;
      }

  pub spent_all : (Before : Pair → Type 0) → ((x : Pair) → IsKept had x ↔ Before x) → Spends old now Before (IsNeeded rules new.files) before after
  spent_all Before kept =
      let (news, g, e) = w.meets in
      record {
        news = news;
        exact = λ x.
            let p = new_pairs had has (IsNeeded rules new.files) news g x in
            (λ o. ((p.0 o).0, λ b. (p.0 o).1 ((kept x).1 b)), λ (n, out). p.1 (n, λ k. out ((kept x).0 k)));
        apart = g.once;
        cost = e;
      }

-- ---- where nothing was seen

pub nothing_seen : (grammars : Grammars) (rules : List Rule) (seen : SeenFiles) → HasSeenNone seen → HasSeen grammars rules [] seen
nothing_seen grammars rules seen h =
    let P : List SeenFile → Type 0 = λ fs. (s : SeenFile) → Among fs s → ⊥ in
    let none : (s : SeenFile) → Among seen.files s → ⊥ = subst P (sym h.files_are) (λ s a. a) in
    record {
      files_are = ap (map file_of) h.files_are;
      ordered = tt;
      all = λ s a. absurd (none s a);
      kept = λ x. (λ k. absurd (h.kept x k), λ (s, a, n). absurd (none s a));
      unmet = empty_unmet (map_of seen.kept) h.kept;
    }

-- ---- one file, seen again

module _ (rules : List Rule) (was : SeenFile) (bytes : List ℕ) (has : Map) (before : ℕ) where
  -- opened again
  pub opened_again : {E : Type 0} (r : Result SeenFile E) (has' : Map) (after : ℕ) → bytes_eq was.bytes.value bytes ≡ false → IfOk r (λ s. Meets (IsNeededAt rules s) has (before + 1) has' after)
      → IfOk r (λ s. Meets (IsNeededAt rules s) has (before + openings (Some was) bytes) has' after)
  opened_again r has' after e h =
      let P : Bool → Type 0 = λ b. IfOk r (λ s. Meets (IsNeededAt rules s) has (before + (if b then 0 else 1)) has' after) in
      subst P (sym e) h

  -- looked at again
  pub looked_again : {E : Type 0} (r : Result SeenFile E) (has' : Map) (after : ℕ) → bytes_eq was.bytes.value bytes ≡ true → IfOk r (λ s. Meets (IsNeededAt rules s) has before has' after)
      → IfOk r (λ s. Meets (IsNeededAt rules s) has (before + openings (Some was) bytes) has' after)
  looked_again r has' after e h =
      let P : Bool → Type 0 = λ b. IfOk r (λ s. Meets (IsNeededAt rules s) has (before + (if b then 0 else 1)) has' after) in
      let Q : ℕ → Type 0 = λ n. IfOk r (λ s. Meets (IsNeededAt rules s) has n has' after) in
      let same : before ≡ before + 0 = omega arith in
      subst P (sym e) (subst Q same h)
