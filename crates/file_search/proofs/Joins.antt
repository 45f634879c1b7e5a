-- What a whole file and the file with its names resolved have together.
use Rattle.std.proofs.Common.{◌≡◌, ◌↔◌, Bool, true, false, IsTrue, [], inl, inr, refl, sym, ap, ◌∙◌, subst, arith}
use Rattle.std.specs.Prelude.{Option, None, Result, Ok, Err, IfOk}
use Rattle.node_tree.specs.declared.node.Node.{Node}
use Rattle.node_tree.specs.declared.view.FileView.{FileView}
use Rattle.node_tree.specs.declared.view.Lang.{Lang}
use Rattle.node_tree.specs.declared.view.Lang.TheVariants as langs
use Rattle.node_tree.specs.declared.view.Pattern.{Pattern}
use Rattle.tree_match.specs.declared.leaf.Leaf.TheVariants.{Full}
use Rattle.tree_match.specs.Leaf.{IsLeaf}
use Rattle.tree_match.specs.Members.{Member, KnownTree, IsMember, known_tree}
use Rattle.file_match.specs.Trees.{known_in}
use Rattle.file_match.specs.Words.{MayHave}
use Rattle.file_match.proofs.Marked.{member_may}
use Rattle.place_join.specs.Joined.{IsJoined, Joined}
use Rattle.import_names.specs.Resolved.{IsResolved, tree_in, known_in as names_in}
use Rattle.file_parts.specs.Parts.{ResolvesToItself}
use Rattle.file_parts.specs.Seen.{resolved_tree}
use Rattle.file_parts.proofs.Resolving.{tree_is}
use Rattle.file_search.specs.Whole.{IsBeside, HasNone, MayHaveIn}

-- ---- the file with its names resolved

-- what a file has beside it, as it was seen
pub beside_as : (view written : FileView) (o held : Option FileView) → written ≡ view → held ≡ o → IsBeside written held → IsBeside view o
beside_as view written o held e f h = subst (IsBeside view) f (let P : FileView → Type 0 = λ v. IsBeside v held in subst P e h)

-- the file with its names resolved is the file, where it has the same tree and the same known names
pub resolves_to_itself : (view resolved : FileView) → IsResolved view resolved → known_tree resolved ≡ known_tree view → ResolvesToItself view
resolves_to_itself view resolved is same = tree_is view resolved is ∙ same

-- ---- no member

-- a set without members has the empty leaf
empty_leaf : (Set : Member → Type 0) → ((m : Member) → Set m → ⊥) → IsLeaf Set (Full [])
empty_leaf Set none = (record { exact = λ m. (λ h. absurd h, λ h. absurd (none m h)); ordered = tt }, omega arith)

empty_join : IsJoined (Full []) (Full []) (Full [])
empty_join = empty_leaf (Joined [] []) (λ m h. elim h [ inl a ↦ absurd a | inr first ↦ absurd first.among ])

-- where neither tree may have the pattern it has no member
pub none_in : (lang : Lang) (tree : Node) (pattern : Pattern) → (MayHaveIn lang tree pattern → ⊥) → HasNone lang tree pattern
none_in langs.Python tree pattern lacks known =
    let file = known_in tree known in
    record {
      plain = Full [];
      further = Full [];
      plain_is = empty_leaf (IsMember pattern file) (λ m x. lacks (inl (member_may pattern tree known m x)));
      further_is = empty_leaf (IsMember pattern (resolved_tree langs.Python file)) (λ m x. lacks (inr (member_may pattern (tree_in langs.Python tree) (names_in langs.Python tree known) m x)));
      joined = empty_join;
    }
none_in _ tree pattern lacks known = empty_leaf (IsMember pattern (known_in tree known)) (λ m x. lacks (inl (member_may pattern tree known m x)))

pub untrue : (b : Bool) (A : Type 0) → (IsTrue b ↔ A) → b ≡ false → A → ⊥
untrue b A exact e a = absurd (let f : false ≡ true = sym e ∙ exact.1 a in cc)

pub none_found : {E : Type 0} (lang : Lang) (tree : Node) (pattern : Pattern) (r : Result Bool E) → IfOk r (λ may. IsTrue may ↔ MayHaveIn lang tree pattern) → IfOk r (λ may. may ≡ false → HasNone lang tree pattern)
none_found lang tree pattern (Ok may) exact = λ e. none_in lang tree pattern (untrue may (MayHaveIn lang tree pattern) exact e)
none_found lang tree pattern (Err e) exact = tt

-- ---- whether the file may have a pattern

tree_plain : (lang : Lang) (tree : Node) → (lang ≡ langs.Python → ⊥) → tree_in lang tree ≡ tree
tree_plain langs.Python tree other = absurd (other refl)
tree_plain _ tree other = refl

-- where no other tree stands beside it, its own is the only one
tree_alone : (view : FileView) → IsBeside view None → tree_in view.lang view.tree ≡ view.tree
tree_alone view (inl other) = tree_plain view.lang view.tree other
tree_alone view (inr itself) = ap (λ (t : KnownTree). t.tree) itself

module _ (view : FileView) (pattern : Pattern) where
  pub lacks_alone : IsBeside view None → (MayHave pattern view.tree → ⊥) → MayHaveIn view.lang view.tree pattern → ⊥
  lacks_alone beside none may = let P : Node → Type 0 = MayHave pattern in elim may [ inl m ↦ none m | inr m ↦ none (subst P (tree_alone view beside) m) ]

  pub may_joined : {E : Type 0} (resolved : FileView) (r : Result Bool E) → IsResolved view resolved → (MayHave pattern view.tree → ⊥) → IfOk r (λ may. IsTrue may ↔ MayHave pattern resolved.tree)
      → IfOk r (λ may. IsTrue may ↔ MayHaveIn view.lang view.tree pattern)
  may_joined resolved (Ok may) is none exact =
      let P : Node → Type 0 = MayHave pattern in
      (λ e. inr (subst P is.tree (exact.0 e)), λ m. elim m [ inl x ↦ absurd (none x) | inr x ↦ exact.1 (subst P (sym is.tree) x) ])
  may_joined resolved (Err e) is none exact = tt
