-- What holds of the branch of a child of each kind, or of the tree of a formula of each kind, holds of all.
use Rattle.std.proofs.Common.{◌≡◌, ℕ, zero, suc, ◌+◌, ◌<◌, ◌≤◌, List, [], ◌∷◌, length, drop, get_or, map, ap, sym, ◌∙◌, subst, arith}
use Rattle.std.proofs.lemmas.List.{drop_all}
use Rattle.meta_bind.proofs.Lookups.{opened}
use Rattle.rule_form.specs.declared.formula.Formula.{Formula, Formula-F, out-Formula, roll-Formula, roll-out-Formula}
use Rattle.rule_form.specs.declared.formula.Formula.TheVariants.{rolls-Leaf, rolls-Regex, rolls-Any, rolls-All}
use Rattle.rule_form.specs.declared.formula.Child.{Child, Child-F, out-Child, roll-Child, roll-out-Child}
use Rattle.rule_form.specs.declared.formula.Child.TheVariants.{rolls-Positive, rolls-Inside, rolls-Not, rolls-NotInside, rolls-NotRegex, rolls-MetaRegex, rolls-MetaCompare, rolls-MetaPattern, rolls-Focus}
use Rattle.rule_form.specs.declared.formula.Child.TheOpen as layers
use Rattle.range_algebra.specs.Trees.{Tree, Branch, Branches, no_branches, branch_then, positive, inside, without, outside, without_regex, meta_regex, meta_compare, meta_pattern, focus, leaf, regex, some_of, all_of, trees_of, branches_of, tree_of, branch_of}
use Rattle.range_algebra.proofs.Layers.{branch_positive, branch_inside, branch_not, branch_notinside, branch_notregex, branch_metaregex, branch_metacompare, branch_metapattern, branch_focus, tree_leaf, tree_regex, tree_any, tree_all}

-- the branch of a child, by its outer layer
abbrev pub branch_at : Child-F Child Formula → Branch
branch_at (layers.Positive f) = positive (tree_of f)
branch_at (layers.Inside f) = inside (tree_of f)
branch_at (layers.Not f) = without (tree_of f)
branch_at (layers.NotInside f) = outside (tree_of f)
branch_at (layers.NotRegex k) = without_regex k
branch_at (layers.MetaRegex name k) = meta_regex name k
branch_at (layers.MetaCompare x) = meta_compare x
branch_at (layers.MetaPattern name f) = meta_pattern name (tree_of f)
branch_at (layers.Focus names) = focus names

branch_rolled : (x : Child-F Child Formula) → branch_of (roll-Child x) ≡ branch_at x
branch_rolled (layers.Positive f) = ap branch_of (rolls-Positive f) ∙ branch_positive f
branch_rolled (layers.Inside f) = ap branch_of (rolls-Inside f) ∙ branch_inside f
branch_rolled (layers.Not f) = ap branch_of (rolls-Not f) ∙ branch_not f
branch_rolled (layers.NotInside f) = ap branch_of (rolls-NotInside f) ∙ branch_notinside f
branch_rolled (layers.NotRegex k) = ap branch_of (rolls-NotRegex k) ∙ branch_notregex k
branch_rolled (layers.MetaRegex name k) = ap branch_of (rolls-MetaRegex name k) ∙ branch_metaregex name k
branch_rolled (layers.MetaCompare x) = ap branch_of (rolls-MetaCompare x) ∙ branch_metacompare x
branch_rolled (layers.MetaPattern name f) = ap branch_of (rolls-MetaPattern name f) ∙ branch_metapattern name f
branch_rolled (layers.Focus names) = ap branch_of (rolls-Focus names) ∙ branch_focus names

pub by_layer : (P : Branch → Type 0) (c : Child) → ((x : Child-F Child Formula) → c ≡ roll-Child x → P (branch_at x)) → P (branch_of c)
by_layer P c each =
    let e = sym (roll-out-Child c) in
    subst P (sym (ap branch_of e ∙ branch_rolled (out-Child c))) (each (out-Child c) e)

-- the tree of a formula, by its outer layer
abbrev pub tree_at : Formula-F Child Formula → Tree
tree_at (layers.Leaf k) = leaf k
tree_at (layers.Regex k) = regex k
tree_at (layers.Any fs) = some_of (trees_of (map tree_of fs))
tree_at (layers.All cs) = all_of (branches_of (map branch_of cs))

tree_rolled : (x : Formula-F Child Formula) → tree_of (roll-Formula x) ≡ tree_at x
tree_rolled (layers.Leaf k) = ap tree_of (rolls-Leaf k) ∙ tree_leaf k
tree_rolled (layers.Regex k) = ap tree_of (rolls-Regex k) ∙ tree_regex k
tree_rolled (layers.Any fs) = ap tree_of (rolls-Any fs) ∙ tree_any fs
tree_rolled (layers.All cs) = ap tree_of (rolls-All cs) ∙ tree_all cs

pub by_tree_layer : (P : Tree → Type 0) (f : Formula) → ((x : Formula-F Child Formula) → f ≡ roll-Formula x → P (tree_at x)) → P (tree_of f)
by_tree_layer P f each =
    let e = sym (roll-out-Formula f) in
    subst P (sym (ap tree_of e ∙ tree_rolled (out-Formula f))) (each (out-Formula f) e)

-- ---- one item for each child

some_left : {X : Type 0} (i : ℕ) (xs : List X) → (drop i xs ≡ [] → ⊥) → i < length xs
some_left i [] some = absurd (some (drop_all i [] (omega arith)))
some_left zero (x ∷ xs) some = omega arith
some_left (suc i) (x ∷ xs) some = omega (arith, some_left i xs some)

module _ (cs : List Child) (i : ℕ) (child : Child) (lt : i < length cs) (is : child ≡ get_or cs i child) where
  -- the children that are left, and the first of them
  pub branches_left : branches_of (map branch_of (drop i cs)) ≡ branch_then (branch_of child) (branches_of (map branch_of (drop (i + 1) cs)))
  branches_left = ap (λ (ks : List Child). branches_of (map branch_of ks)) (opened cs i child lt is)

  module _ {X : Type 0} (Are : Branches → List X → Type 0) (One : Branch → X → Type 0) (none : (b : Branch) (bs : Branches) → Are (branch_then b bs) [] → ⊥)
      (parted : (b : Branch) (bs : Branches) (x : X) (xs : List X) → Are (branch_then b bs) (x ∷ xs) → One b x × Are bs xs) (xs : List X) (are : Are (branches_of (map branch_of (drop i cs))) (drop i xs)) where
    are_left : Are (branch_then (branch_of child) (branches_of (map branch_of (drop (i + 1) cs)))) (drop i xs)
    are_left = let P : Branches → Type 0 = λ bs. Are bs (drop i xs) in subst P branches_left are

    pub item_within : i < length xs
    item_within = some_left i xs (λ e. none (branch_of child) _ (let P : List X → Type 0 = Are (branch_then (branch_of child) (branches_of (map branch_of (drop (i + 1) cs)))) in subst P e are_left))

    pub item_parted : (x : X) → x ≡ get_or xs i x → One (branch_of child) x × Are (branches_of (map branch_of (drop (i + 1) cs))) (drop (i + 1) xs)
    item_parted x here = parted (branch_of child) _ x _ (let P : List X → Type 0 = Are (branch_then (branch_of child) (branches_of (map branch_of (drop (i + 1) cs)))) in subst P (opened xs i x item_within here) are_left)

-- no child is left
pub none_left : (cs : List Child) (i : ℕ) → length cs ≤ i → branches_of (map branch_of (drop i cs)) ≡ no_branches
none_left cs i le = ap (λ (ks : List Child). branches_of (map branch_of ks)) (drop_all i cs le)
