-- A pattern has one leaf in a file.
use Rattle.std.proofs.Common.{◌≡◌, ◌∙◌, sym, ap, refl, subst}
use Rattle.node_tree.specs.declared.view.Lang.{Lang}
use Rattle.node_tree.specs.declared.view.Lang.TheVariants as langs
use Rattle.node_tree.specs.declared.view.Pattern.{Pattern}
use Rattle.tree_match.specs.declared.leaf.Leaf.{Leaf}
use Rattle.tree_match.specs.declared.leaf.Leaf.TheVariants.{Full, Crowded}
use Rattle.tree_match.specs.Leaf.{IsLeaf}
use Rattle.tree_match.specs.Members.{Member, KnownTree, IsMember}
use Rattle.tree_match.proofs.Exclusion.{whole_once, few_or_more}
use Rattle.place_join.specs.Joined.{Joined, IsJoined}
use Rattle.file_parts.specs.Seen.{resolved_tree, IsJoinedLeaf, seen_leaf}

pub leaf_one : (Set : Member → Type 0) (l m : Leaf) → IsLeaf Set l → IsLeaf Set m → l ≡ m
leaf_one Set (Full xs) (Full ys) h k = ap Full (whole_once Set xs ys h.0 k.0)
leaf_one Set (Full xs) Crowded h k = absurd (few_or_more Set 10000 xs h.0 h.1 k)
leaf_one Set Crowded (Full ys) h k = absurd (few_or_more Set 10000 ys k.0 k.1 h)
leaf_one Set Crowded Crowded h k = refl

join_one : (plain further l m : Leaf) → IsJoined plain further l → IsJoined plain further m → l ≡ m
join_one (Full ps) (Full fs) l m h k = leaf_one (Joined ps fs) l m h k
join_one (Full ps) Crowded l m h k = h ∙ sym k
join_one Crowded further l m h k = h ∙ sym k

joined_one : (file resolved : KnownTree) (pattern : Pattern) (l m : Leaf) → IsJoinedLeaf file resolved pattern l → IsJoinedLeaf file resolved pattern m → l ≡ m
joined_one file resolved pattern l m x y =
    let P : Leaf → Type 0 = λ p. IsJoined p y.further m in
    let Q : Leaf → Type 0 = λ f. IsJoined x.plain f m in
    let plain = leaf_one (IsMember pattern file) x.plain y.plain x.plain_is y.plain_is in
    let further = leaf_one (IsMember pattern resolved) x.further y.further x.further_is y.further_is in
    join_one x.plain x.further l m x.joined (subst Q (sym further) (subst P (sym plain) y.joined))

pub seen_once : (lang : Lang) (file : KnownTree) (pattern : Pattern) (l m : Leaf) → seen_leaf lang file pattern l → seen_leaf lang file pattern m → l ≡ m
seen_once langs.Python file pattern l m h k = joined_one file (resolved_tree langs.Python file) pattern l m h k
seen_once _ file pattern l m h k = leaf_one (IsMember pattern file) l m h k
