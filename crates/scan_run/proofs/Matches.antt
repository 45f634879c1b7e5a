-- A match ends in one way.
use Rattle.std.proofs.Common.{◌≡◌, ◌⊎◌, inl, inr, ◌↔◌, ℕ, ◌+◌, ◌≤◌, List, [], length, map, refl, sym, ap, ◌∙◌, subst, arith}
use Rattle.std.specs.Prelude.{Option, Some, None, IsSome}
use Rattle.std.specs.List.{concat}
use Rattle.std.specs.Io.KnownBytes.{Appends}
use Rattle.node_tree.specs.declared.known.Known.{Known}
use Rattle.node_tree.specs.declared.node.Node.{Node}
use Rattle.node_tree.specs.declared.view.Pattern.{Pattern}
use Rattle.node_tree.specs.declared.view.FileView.{FileView}
use Rattle.node_tree.specs.declared.view.Lang.{Lang}
use Rattle.pattern_read.specs.Patterns.{IsPatternOf}
use Rattle.tree_match.specs.declared.leaf.Leaf.{Leaf}
use Rattle.tree_match.specs.declared.leaf.Leaf.TheVariants.{Full, Crowded}
use Rattle.tree_match.specs.Members.{Member, IsMember}
use Rattle.file_match.specs.Trees.{known_in}
use Rattle.tree_match.specs.Leaf.{IsLeaf}
use Rattle.tree_match.proofs.Exclusion.{whole_once, few_or_more}
use Rattle.file_open.specs.declared.opened.Opened.{Opened}
use Rattle.file_open.specs.declared.opened.Opened.TheVariants as opened
use Rattle.file_open.specs.Opening.{IsOpened, HasOnlyTree}
use Rattle.languages.specs.Trees.{IsTree}
use Rattle.run_status.specs.declared.status.Status.{Status}
use Rattle.run_status.specs.declared.status.Status.TheVariants.{OverLimit, BadTarget, BadPattern, TooMany, Done}
use Rattle.run_status.specs.declared.status.Status.TheVariants as statuses
use Rattle.file_map.specs.declared.limit.LimitKind.TheVariants.{Target}
use Rattle.scan_run.specs.Status.{HasInputCause, IsOfSearch, IsOfInput}
use Rattle.scan_run.specs.Steps.{TakesSteps}
use Rattle.scan_run.specs.Reading.{IsFileOf, IsOnlyFile, HasNoFile}
use Rattle.scan_run.specs.Lines.{line_of}
use Rattle.scan_run.specs.Streams.{Tells, IsTarget, IsTooLong}
use Rattle.run_status.specs.Ways.{Printed, PrintedFront, PrintedSome, IsOnlyEnd}
use Rattle.scan_run.specs.Matching.{HasNoPattern, Having, by_names, has_members, ServesPattern, SearchEnds, too_many, done, MatchEnds, bad_pattern, over_limit, bad_target, searched, Matches}
use Rattle.scan_run.proofs.Streaming.{nothing_written}
use Rattle.scan_run.proofs.Inputs.{some_input}

-- ---- the search of a file

-- one leaf at most is the members
abbrev pub IsOne : Having → Type 0
IsOne Has = (l m : Leaf) → Has l → Has m → l ≡ m

search_once : (Has : Having) → IsOne Has → (s t : Status) (ls ms : List (List ℕ)) → SearchEnds Has s ls → SearchEnds Has t ms → (t ≡ s) × (ms ≡ ls)
search_once Has one _ _ _ _ (too_many more) (too_many _) = (refl, refl)
search_once Has one _ _ _ _ (too_many more) (done members whole) = absurd (let e = one Crowded (Full members) more whole in cc)
search_once Has one _ _ _ _ (done members whole) (too_many more) = absurd (let e = one Crowded (Full members) more whole in cc)
search_once Has one _ _ _ _ (done members whole) (done others also) = (refl, ap (map line_of) (let e = one (Full others) (Full members) also whole in cc))

search_as : (Has Other : Having) → ((leaf : Leaf) → Has leaf → Other leaf) → (s : Status) (ls : List (List ℕ)) → SearchEnds Has s ls → SearchEnds Other s ls
search_as Has Other f _ _ (too_many more) = too_many (f Crowded more)
search_as Has Other f _ _ (done members whole) = done members (f (Full members) whole)

leaf_one : (Set : Member → Type 0) (l m : Leaf) → IsLeaf Set l → IsLeaf Set m → l ≡ m
leaf_one Set (Full xs) (Full ys) h k = ap Full (whole_once Set xs ys h.0 k.0)
leaf_one Set (Full xs) Crowded h k = absurd (few_or_more Set 10000 xs h.0 h.1 k)
leaf_one Set Crowded (Full ys) h k = absurd (few_or_more Set 10000 ys k.0 k.1 h)
leaf_one Set Crowded Crowded h k = refl

-- by names that serve it a pattern has its own members
leaf_served : (lang : Lang) (tree : Node) (known : List Known) (p : Pattern) → ServesPattern lang tree known p → (leaf : Leaf) → by_names known tree p leaf ↔ has_members lang tree p leaf
leaf_served lang tree known p (inl just) leaf = (
  λ h. inl (known, just.are, h),
  λ own. elim own [
    | inl k ↦ (let P : List Known → Type 0 = λ ks. by_names ks tree p leaf in subst P (just.only k.0 k.1) k.2)
    | inr all ↦ all known
  ],
)
leaf_served lang tree known p (inr free) leaf = (λ h. inr (λ other. free known other leaf h), λ own. elim own [ inl k ↦ free k.0 known leaf k.2 | inr all ↦ all known ])

-- by names that serve the pattern it has one leaf
one_leaf : (lang : Lang) (tree : Node) (known : List Known) (p : Pattern) → ServesPattern lang tree known p → IsOne (has_members lang tree p)
one_leaf lang tree known p serves l m h k =
    let same = leaf_served lang tree known p serves in
    leaf_one (IsMember p (known_in tree known)) l m ((same l).1 h) ((same m).1 k)

-- a match that ends so has searched a file
abbrev pub HasSearched : Status → Type 0
HasSearched (TooMany n) = Unit {0}
HasSearched Done = Unit {0}
HasSearched _ = ⊥

has_searched : (Has : Having) (s : Status) (ls : List (List ℕ)) → SearchEnds Has s ls → HasSearched s
has_searched Has _ _ (too_many more) = tt
has_searched Has _ _ (done members whole) = tt

-- ---- what ends a search

pub of_search : (s : Status) → IsOfSearch s → IsOfInput s
of_search Done h = tt
of_search (TooMany n) h = tt
of_search statuses.Memory h = tt
of_search statuses.OutputFault h = tt
of_search statuses.Findings h = absurd h
of_search statuses.Usage h = absurd h
of_search statuses.InputFault h = absurd h
of_search statuses.TreeFault h = absurd h
of_search (OverLimit kind n) h = absurd h
of_search statuses.NoSuchPath h = absurd h
of_search BadTarget h = absurd h
of_search BadPattern h = absurd h
of_search (statuses.BadCommand place) h = absurd h

-- one step opened the file, and one searched it
pub search_steps : (s : Status) (before opened after : ℕ) → IsOfSearch s → opened ≡ before + 1 → after ≡ opened + 1 → TakesSteps s before after
search_steps Done b o a h e f = omega arith
search_steps (TooMany n) b o a h e f = omega arith
search_steps statuses.Memory b o a h e f = omega arith
search_steps statuses.OutputFault b o a h e f = omega arith
search_steps statuses.Findings b o a h e f = absurd h
search_steps statuses.Usage b o a h e f = absurd h
search_steps statuses.InputFault b o a h e f = absurd h
search_steps statuses.TreeFault b o a h e f = absurd h
search_steps (OverLimit kind n) b o a h e f = absurd h
search_steps statuses.NoSuchPath b o a h e f = absurd h
search_steps BadTarget b o a h e f = absurd h
search_steps BadPattern b o a h e f = absurd h
search_steps (statuses.BadCommand place) b o a h e f = absurd h

-- reading the input takes no step
pub input_steps : (faults faults_after : ℕ) (s : Status) (steps : ℕ) → HasInputCause faults faults_after s → TakesSteps s steps steps
input_steps f f' (OverLimit kind n) steps h = refl
input_steps f f' statuses.Memory steps h = omega arith
input_steps f f' statuses.InputFault steps h = refl
input_steps f f' Done steps h = absurd h
input_steps f f' statuses.Findings steps h = absurd h
input_steps f f' statuses.Usage steps h = absurd h
input_steps f f' statuses.OutputFault steps h = absurd h
input_steps f f' statuses.TreeFault steps h = absurd h
input_steps f f' (TooMany n) steps h = absurd h
input_steps f f' statuses.NoSuchPath steps h = absurd h
input_steps f f' BadTarget steps h = absurd h
input_steps f f' BadPattern steps h = absurd h
input_steps f f' (statuses.BadCommand place) steps h = absurd h

-- ---- the file that bytes are

file_small : (lang : Lang) (bytes : List ℕ) (tree : Node) → IsFileOf lang bytes tree → length bytes ≤ 1000000
file_small lang bytes tree f = f.is_text.0

-- the file that was read, with that tree
pub file_read : (lang : Lang) (bytes : List ℕ) (view : FileView) (tree : Node) → IsOpened IsTree lang bytes (opened.Read view) → tree ≡ view.tree → IsFileOf lang bytes tree
file_read lang bytes view tree o e = let P : Node → Type 0 = IsFileOf lang bytes in subst P (sym e) (record { is_text = o.0; is_tree = o.1 })

pub only_read : (lang : Lang) (bytes : List ℕ) (view : FileView) (tree : Node) → HasOnlyTree IsTree lang bytes (opened.Read view) → tree ≡ view.tree → IsOnlyFile lang bytes tree
only_read lang bytes view tree only e other f = only other f.is_tree ∙ sym e

-- what serves a pattern in that file
pub serves_read : (lang : Lang) (bytes : List ℕ) (view : FileView) (tree : Node) (known : List Known) (p : Pattern) → IsOpened IsTree lang bytes (opened.Read view) → tree ≡ view.tree → ServesPattern view.lang view.tree known p → ServesPattern lang tree known p
serves_read lang bytes view tree known p o e serves =
    let P : Lang → Type 0 = λ l. ServesPattern l view.tree known p in
    let Q : Node → Type 0 = λ t. ServesPattern lang t known p in
    subst Q (sym e) (subst P o.2.lang_is serves)

-- bytes that are opened as no file of the language are none
pub none_opened : (lang : Lang) (bytes : List ℕ) (o : Opened) → ((view : FileView) → o ≡ opened.Read view → ⊥) → length bytes ≤ 1000000 → IsOpened IsTree lang bytes o → HasNoFile lang bytes
none_opened lang bytes opened.TooLarge nay small large tree f = absurd (omega arith)
none_opened lang bytes opened.NotUtf8 nay small none tree f = none.1 f.is_text.1
none_opened lang bytes (opened.NoTree view) nay small none tree f = none.1 tree f.is_tree
none_opened lang bytes (opened.Read view) nay small is tree f = nay view refl

-- ---- a match

module _ (lang : Lang) (text input : List ℕ) where
  -- the text writes one pattern, and the input has one tree, in which the pattern has one leaf
  pub record Settled : Type 0 where
    pub one : (p q : Pattern) (t u : Node) → IsPatternOf lang text p → IsPatternOf lang text q → IsFileOf lang input t → IsFileOf lang input u → (q ≡ p) × (u ≡ t)
    pub leaf : (p : Pattern) (t : Node) → IsPatternOf lang text p → IsFileOf lang input t → IsOne (has_members lang t p)

  match_once : (s t : Status) (ls ms : List (List ℕ)) → (HasSearched s → Settled) → MatchEnds lang text input s ls → MatchEnds lang text input t ms → (t ≡ s) × (ms ≡ ls)
  match_once _ _ _ _ settled (bad_pattern none) (bad_pattern _) = (refl, refl)
  match_once _ _ _ _ settled (bad_pattern none) (over_limit q is _) = absurd (none q is)
  match_once _ _ _ _ settled (bad_pattern none) (bad_target q is _ _) = absurd (none q is)
  match_once _ _ _ _ settled (bad_pattern none) (searched q _ _ _ is _ _) = absurd (none q is)
  match_once _ _ _ _ settled (over_limit p is long) (bad_pattern none) = absurd (none p is)
  match_once _ _ _ _ settled (over_limit p is long) (over_limit _ _ _) = (refl, refl)
  match_once _ _ _ _ settled (over_limit p is long) (bad_target _ _ small _) = absurd (omega arith)
  match_once _ _ _ _ settled (over_limit p is long) (searched _ tree _ _ _ file _) = absurd (omega (arith, file_small lang input tree file))
  match_once _ _ _ _ settled (bad_target p is small none) (bad_pattern nay) = absurd (nay p is)
  match_once _ _ _ _ settled (bad_target p is small none) (over_limit _ _ long) = absurd (omega arith)
  match_once _ _ _ _ settled (bad_target p is small none) (bad_target _ _ _ _) = (refl, refl)
  match_once _ _ _ _ settled (bad_target p is small none) (searched _ tree _ _ _ file _) = absurd (none tree file)
  match_once _ _ _ _ settled (searched p t _ _ is file ends) (bad_pattern none) = absurd (none p is)
  match_once _ _ _ _ settled (searched p t _ _ is file ends) (over_limit _ _ long) = absurd (omega (arith, file_small lang input t file))
  match_once _ _ _ _ settled (searched p t _ _ is file ends) (bad_target _ _ _ none) = absurd (none t file)
  match_once s r ls ms settled (searched p t _ _ is file ends) (searched q u _ _ is' file' ends') =
      let all = settled (has_searched (has_members lang t p) s ls ends) in
      let same = all.one p q t u is is' file file' in
      let P : Pattern → Type 0 = λ x. SearchEnds (has_members lang u x) r ms in
      let Q : Node → Type 0 = λ x. SearchEnds (has_members lang x p) r ms in
      search_once (has_members lang t p) (all.leaf p t is file) s r ls ms ends (subst Q same.1 (subst P same.0 ends'))

-- what was written and the status are those of the one way to end
pub only_match : (lang : Lang) (text input : List ℕ) (left w v : Option (List ℕ)) (s : Status) (lines : List (List ℕ)) → Tells left input → (HasSearched s → Settled lang text input) → MatchEnds lang text input s lines → Appends w v (concat lines) → IsSome left
    → IsOnlyEnd (Matches lang text left) w v s
only_match lang text input None w v s lines told settled ends put some other ms matches = absurd (no_bytes some)
  where
    no_bytes : IsSome {T = List ℕ} None → ⊥
    no_bytes e = absurd cc
only_match lang text input (Some bytes) w v s lines told settled ends put some other ms (input', told', ends') =
    let P : List ℕ → Type 0 = λ l. MatchEnds lang text l other ms in
    let same = match_once lang text input s other lines ms settled ends (subst P (sym told' ∙ told) ends') in
    let Q : List (List ℕ) → Type 0 = λ ls. Appends w v (concat ls) in
    (same.0, subst Q (sym same.1) put)

-- ---- how a match ends

-- an end before anything is printed, on this input
pub record Unprinted (lang : Lang) (text : List ℕ) (left : Option (List ℕ)) (s : Status) : Type 0 where
  pub input : List ℕ
  pub told : Tells left input
  pub ends : MatchEnds lang text input s []

pub unprinted : (lang : Lang) (text : List ℕ) (left w : Option (List ℕ)) (s : Status) → Unprinted lang text left s → Printed (Matches lang text left) w w s
unprinted lang text left w s u = record { lines = []; ends = (u.input, u.told, u.ends); printed = nothing_written w }

pub only_unprinted : (lang : Lang) (text : List ℕ) (left w : Option (List ℕ)) (s : Status) → (HasSearched s → ⊥) → Unprinted lang text left s → IsSome left → IsOnlyEnd (Matches lang text left) w w s
only_unprinted lang text left w s nay u = only_match lang text u.input left w w s [] u.told (λ h. absurd (nay h)) u.ends (nothing_written w)

pub ends_bad_pattern : (lang : Lang) (text : List ℕ) (left : Option (List ℕ)) → HasNoPattern lang text → Unprinted lang text left BadPattern
ends_bad_pattern lang text left none = let i = some_input left in record { input = i.0; told = i.1; ends = bad_pattern none }

pub ends_over_limit : (lang : Lang) (text : List ℕ) (pattern : Pattern) (left : Option (List ℕ)) → IsPatternOf lang text pattern → IsTooLong left → Unprinted lang text left (OverLimit Target 1000001)
ends_over_limit lang text pattern left is long = record { input = long.input; told = long.told; ends = over_limit pattern is long.long }

module _ (lang : Lang) (text : List ℕ) (pattern : Pattern) (is : IsPatternOf lang text pattern) (left : Option (List ℕ)) (read : List ℕ) (target : IsTarget left read) where
  pub ends_bad_target : HasNoFile lang read → Unprinted lang text left BadTarget
  ends_bad_target none = record { input = read; told = target.told; ends = bad_target pattern is target.short none }

  module _ (tree : Node) (file : IsFileOf lang read tree) (known : List Known) (serves : ServesPattern lang tree known pattern) where
    -- the search by these names
    abbrev By : Having
    By = by_names known tree pattern

    ends_so : (s : Status) (lines : List (List ℕ)) → SearchEnds By s lines → MatchEnds lang text read s lines
    ends_so s lines ends = searched pattern tree s lines is file (search_as By (has_members lang tree pattern) (λ leaf. (leaf_served lang tree known pattern serves leaf).0) s lines ends)

    found : (s : Status) (lines : List (List ℕ)) → SearchEnds By s lines → Matches lang text left s lines
    found s lines ends = (read, target.told, ends_so s lines ends)

    pub ends_by_search : (w v : Option (List ℕ)) (s : Status) → Printed (SearchEnds By) w v s → Printed (Matches lang text left) w v s
    ends_by_search w v s p = record { lines = p.lines; ends = found s p.lines p.ends; printed = p.printed }

    pub front_of_search : (w v : Option (List ℕ)) → PrintedFront (SearchEnds By) w v → PrintedFront (Matches lang text left) w v
    front_of_search w v p = record { status = p.status; finished = p.finished; lines = p.lines; ends = found p.status p.lines p.ends; printed = p.printed }

    pub some_of_search : (w v : Option (List ℕ)) → (v ≡ w) ⊎ PrintedSome (SearchEnds By) w v → (v ≡ w) ⊎ PrintedSome (Matches lang text left) w v
    some_of_search w v (inl e) = inl e
    some_of_search w v (inr p) = inr (record { status = p.status; finished = p.finished; lines = p.lines; ends = found p.status p.lines p.ends; printed = p.printed })

    -- if no other pattern and no other tree were read, the pattern has one leaf
    settled_by : ((p : Pattern) → IsPatternOf lang text p → pattern ≡ p) → IsOnlyFile lang read tree → Settled lang text read
    settled_by only_pattern only_file = record {
      one = λ q r t u a b f g. (sym (only_pattern r b) ∙ only_pattern q a, only_file u g ∙ sym (only_file t f));
      leaf = λ q t a f.
          let P : Pattern → Type 0 = λ x. IsOne (has_members lang t x) in
          let T : Node → Type 0 = λ x. IsOne (has_members lang x pattern) in
          subst P (only_pattern q a) (subst T (sym (only_file t f)) (one_leaf lang tree known pattern serves));
    }

    -- so there is no other end
    pub only_search : (w v : Option (List ℕ)) (s : Status) → ((p : Pattern) → IsPatternOf lang text p → pattern ≡ p) → IsOnlyFile lang read tree → Printed (SearchEnds By) w v s → IsSome left → IsOnlyEnd (Matches lang text left) w v s
    only_search w v s only_pattern only_file p =
        only_match lang text read left w v s p.lines target.told (λ has. settled_by only_pattern only_file) (ends_so s p.lines p.ends) p.printed
