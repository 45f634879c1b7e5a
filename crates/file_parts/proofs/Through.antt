-- The leaf of a file, seen through its imports.
use Rattle.std.proofs.Common.{◌≡◌, ℕ, List, [], inl, inr, map, refl, sym, subst, arith, true, false}
use Rattle.std.specs.Prelude.{Result, Ok, Err, IfOk}
use Rattle.node_tree.specs.declared.view.FileView.{FileView}
use Rattle.node_tree.specs.declared.view.Lang.{Lang}
use Rattle.node_tree.specs.declared.view.Lang.TheVariants as langs
use Rattle.node_tree.specs.declared.view.Pattern.{Pattern}
use Rattle.node_tree.specs.Spans.{SpansLieIn}
use Rattle.node_match.specs.Sets.{Among}
use Rattle.tree_match.specs.declared.leaf.Leaf.{Leaf}
use Rattle.tree_match.specs.declared.leaf.Leaf.TheVariants.{Full, Crowded}
use Rattle.tree_match.specs.Leaf.{IsLeaf}
use Rattle.tree_match.specs.Members.{Member, KnownTree, IsMember, known_tree}
use Rattle.tree_match.specs.Placed.{IsPlaced, IsLeafPlaced}
use Rattle.tree_match.proofs.Placed.{member_placed, among_all, leaves_placed}
use Rattle.piece_match.specs.declared.unite.PlacedLeaf.{PlacedLeaf}
use Rattle.piece_match.specs.Union.{IsUnion, moved_part}
use Rattle.place_join.specs.Joined.{IsJoined}
use Rattle.place_join.proofs.Places.{same_itself}
use Rattle.import_names.specs.Claims.{claims_of, meaning}
use Rattle.import_names.specs.Resolved.{IsResolved}
use Rattle.import_names.proofs.Placing.{replaced_lies}
use Rattle.file_parts.specs.declared.joining.PartLeaf.{PartLeaf}
use Rattle.file_parts.specs.Seen.{resolved_tree, IsJoinedLeaf, seen_leaf}
use Rattle.file_parts.specs.Parts.{SeenPart, needed_of, ArePartsOf, parts_in}
use Rattle.file_parts.specs.Leaves.{AreLeavesOf, those_leaves}
use Rattle.file_parts.proofs.ByPieces.{union_is}
use Rattle.file_parts.proofs.Resolving.{python_resolved, tree_is}
use Rattle.file_parts.proofs.Splits.{written_leaves, further_leaves, no_leaves}

-- ---- joined with nothing new

join_same : (Set : Member → Type 0) (leaf : Leaf) → IsLeaf Set leaf → IsJoined leaf leaf leaf
join_same Set (Full ms) (whole, few) = (
  record {
    exact = λ m. (λ h. inl h, λ h. elim h [ inl a ↦ a | inr first ↦ absurd (first.alone m first.among (same_itself m)) ]);
    ordered = whole.ordered;
  },
  few,
)
join_same Set Crowded more = refl

join_none : (Set : Member → Type 0) (leaf : Leaf) → IsLeaf Set leaf → IsJoined leaf (Full []) leaf
join_none Set (Full ms) (whole, few) = (
  record {
    exact = λ m. (λ h. inl h, λ h. elim h [ inl a ↦ a | inr first ↦ absurd first.among ]);
    ordered = whole.ordered;
  },
  few,
)
join_none Set Crowded more = refl

union_none : IsUnion [] (Full [])
union_none = (
  λ h. absurd h,
  record { exact = λ m. (λ h. absurd h, λ h. absurd h.1); ordered = tt },
  omega arith,
)

-- ---- by language

-- in Python it is the joined one
python_seen : (lang : Lang) (file : KnownTree) (pattern : Pattern) (leaf : Leaf) → lang ≡ langs.Python → IsJoinedLeaf file (resolved_tree lang file) pattern leaf → seen_leaf lang file pattern leaf
python_seen langs.Python file pattern leaf e x = x
python_seen _ file pattern leaf e x = absurd cc

-- where nothing is resolved it is that of the file
itself_seen : (lang : Lang) (file : KnownTree) (pattern : Pattern) (leaf : Leaf) → resolved_tree lang file ≡ file → IsLeaf (IsMember pattern file) leaf → seen_leaf lang file pattern leaf
itself_seen langs.Python file pattern leaf same x =
    let P : KnownTree → Type 0 = λ t. IsLeaf (IsMember pattern t) leaf in
    record { plain = leaf; further = leaf; plain_is = x; further_is = subst P (sym same) x; joined = join_same (IsMember pattern file) leaf x }
itself_seen _ file pattern leaf same x = x

module _ (pattern : Pattern) (view : FileView) (all : List SeenPart) (are : ArePartsOf view all) (ls : List PartLeaf) (leaves : AreLeavesOf pattern (needed_of pattern all) ls) where
  plain_leaf : (plain : Leaf) → IsUnion (map moved_part (those_leaves false ls)) plain → IsLeaf (IsMember pattern (known_tree view)) plain
  plain_leaf plain is = union_is pattern view (those_leaves false ls) plain (written_leaves pattern view all are ls leaves) is

  further_leaf : (r : FileView) (further : Leaf) → IsResolved view r → are.further ≡ parts_in true r → IsUnion (map moved_part (those_leaves true ls)) further
      → IsLeaf (IsMember pattern (resolved_tree view.lang (known_tree view))) further
  further_leaf r further resolved e is =
      let P : KnownTree → Type 0 = λ t. IsLeaf (IsMember pattern t) further in
      subst P (sym (tree_is view r resolved)) (union_is pattern r (those_leaves true ls) further (further_leaves pattern view all are ls leaves r e) is)

  -- no further part was needed
  pub seen_alone : (plain : Leaf) → those_leaves true ls ≡ [] → IsUnion (map moved_part (those_leaves false ls)) plain → seen_leaf view.lang (known_tree view) pattern plain
  seen_alone plain none is = elim are.resolved [
    | inl (e, same) ↦ itself_seen view.lang (known_tree view) pattern plain same (plain_leaf plain is)
    | inr (python, each) ↦ by python each
  ]
    where
      by : view.lang ≡ langs.Python → ((r : FileView) → IsResolved view r → are.further ≡ parts_in true r) → seen_leaf view.lang (known_tree view) pattern plain
      by python each =
          let (r, resolved) = python_resolved view python in
          let P : List PlacedLeaf → Type 0 = λ qs. IsUnion (map moved_part qs) (Full []) in
          python_seen view.lang (known_tree view) pattern plain python (
          record {
            plain = plain;
            further = Full [];
            plain_is = plain_leaf plain is;
            further_is = further_leaf r (Full []) resolved (each r resolved) (subst P (sym none) union_none);
            joined = join_none (IsMember pattern (known_tree view)) plain (plain_leaf plain is);
          })

  -- some were
  seen_both : (plain further leaf : Leaf) → (those_leaves true ls ≡ [] → ⊥) → IsUnion (map moved_part (those_leaves false ls)) plain → IsUnion (map moved_part (those_leaves true ls)) further → IsJoined plain further leaf
      → seen_leaf view.lang (known_tree view) pattern leaf
  seen_both plain further leaf some is more joined = elim are.resolved [
    | inl (e, same) ↦ absurd (some (no_leaves pattern view all are ls leaves e))
    | inr (python, each) ↦ by python each
  ]
    where
      by : view.lang ≡ langs.Python → ((r : FileView) → IsResolved view r → are.further ≡ parts_in true r) → seen_leaf view.lang (known_tree view) pattern leaf
      by python each =
          let (r, resolved) = python_resolved view python in
          python_seen view.lang (known_tree view) pattern leaf python (
          record {
            plain = plain;
            further = further;
            plain_is = plain_leaf plain is;
            further_is = further_leaf r further resolved (each r resolved) more;
            joined = joined;
          })

  pub seen_joined : {E : Type 0} (plain further : Leaf) (r : Result Leaf E) → (those_leaves true ls ≡ [] → ⊥) → IsUnion (map moved_part (those_leaves false ls)) plain → IsUnion (map moved_part (those_leaves true ls)) further
      → IfOk r (IsJoined plain further) → IfOk r (seen_leaf view.lang (known_tree view) pattern)
  seen_joined plain further (Ok leaf) some is more joined = seen_both plain further leaf some is more joined
  seen_joined plain further (Err e) some is more joined = tt

-- ---- places

module _ (text : List ℕ) (pattern : Pattern) where
  members_placed : (file : KnownTree) (leaf : Leaf) (ms : List Member) → SpansLieIn text file.tree → leaf ≡ Full ms → IsLeaf (IsMember pattern file) leaf → (m : Member) → Among ms m → IsPlaced text m
  members_placed file leaf ms lies e x m h =
      let P : Leaf → Type 0 = IsLeaf (IsMember pattern file) in
      member_placed text pattern file m lies (((subst P e x).0.exact m).0 h)

  joined_placed : (file resolved : KnownTree) (plain further leaf : Leaf) → SpansLieIn text file.tree → SpansLieIn text resolved.tree → IsLeaf (IsMember pattern file) plain → IsLeaf (IsMember pattern resolved) further
      → IsJoined plain further leaf → IsLeafPlaced text leaf
  joined_placed file resolved (Full ps) (Full fs) (Full ms) lies further_lies x y j =
      among_all (IsPlaced text) ms (λ m h. elim ((j.0.exact m).0 h) [ inl a ↦ members_placed file (Full ps) ps lies refl x m a | inr first ↦ members_placed resolved (Full fs) fs further_lies refl y m first.among ])
  joined_placed file resolved (Full ps) (Full fs) Crowded lies further_lies x y j = tt
  joined_placed file resolved (Full ps) Crowded leaf lies further_lies x y j = let P : Leaf → Type 0 = IsLeafPlaced text in subst P (sym j) tt
  joined_placed file resolved Crowded further leaf lies further_lies x y j = let P : Leaf → Type 0 = IsLeafPlaced text in subst P (sym j) tt

  pub seen_placed : (lang : Lang) (file : KnownTree) (leaf : Leaf) → SpansLieIn text file.tree → seen_leaf lang file pattern leaf → IsLeafPlaced text leaf
  seen_placed langs.Python file leaf lies x =
      joined_placed file (resolved_tree langs.Python file) x.plain x.further leaf lies (replaced_lies text (meaning (claims_of file.tree)) file.tree lies) x.plain_is x.further_is x.joined
  seen_placed _ file leaf lies x = leaves_placed text {E = ℕ} pattern file (Ok leaf) lies x

  pub all_placed : {E : Type 0} (lang : Lang) (file : KnownTree) (r : Result Leaf E) → SpansLieIn text file.tree → IfOk r (seen_leaf lang file pattern) → IfOk r (IsLeafPlaced text)
  all_placed lang file (Ok leaf) lies x = seen_placed lang file leaf lies x
  all_placed lang file (Err e) lies x = tt
