-- The tree of a formula of each kind, by its parts.
use Rattle.std.proofs.Common.{◌≡◌, ℕ, List, map, ap, sym, ◌∙◌}
use Rattle.rule_form.specs.declared.comparison.Comparison.{Comparison}
use Rattle.rule_form.specs.declared.formula.Formula.{Formula, fold-roll-Formula}
use Rattle.rule_form.specs.declared.formula.Formula.TheVariants as formulas
use Rattle.rule_form.specs.declared.formula.Formula.TheVariants.{rolls-Leaf, rolls-Regex, rolls-Any, rolls-All}
use Rattle.rule_form.specs.declared.formula.Child.{Child, fold-roll-Child}
use Rattle.rule_form.specs.declared.formula.Child.TheVariants as children
use Rattle.rule_form.specs.declared.formula.Child.TheVariants.{rolls-Positive, rolls-Inside, rolls-Not, rolls-NotInside, rolls-NotRegex, rolls-MetaRegex, rolls-MetaCompare, rolls-MetaPattern, rolls-Focus}
use Rattle.rule_form.specs.declared.formula.Child.TheOpen as layers
use Rattle.range_algebra.specs.Trees.{Tree, Branch, positive, inside, without, outside, without_regex, meta_regex, meta_compare, meta_pattern, focus, leaf, regex, some_of, all_of, trees_of, branches_of, branch_layer, tree_layer, tree_of, branch_of}

pub branch_positive : (f : Formula) → branch_of (children.Positive f) ≡ positive (tree_of f)
unfolding branch_of tree_of
branch_positive f = ap branch_of (sym (rolls-Positive f)) ∙ fold-roll-Child Branch Tree branch_layer tree_layer (layers.Positive f)

pub branch_inside : (f : Formula) → branch_of (children.Inside f) ≡ inside (tree_of f)
unfolding branch_of tree_of
branch_inside f = ap branch_of (sym (rolls-Inside f)) ∙ fold-roll-Child Branch Tree branch_layer tree_layer (layers.Inside f)

pub branch_not : (f : Formula) → branch_of (children.Not f) ≡ without (tree_of f)
unfolding branch_of tree_of
branch_not f = ap branch_of (sym (rolls-Not f)) ∙ fold-roll-Child Branch Tree branch_layer tree_layer (layers.Not f)

pub branch_notinside : (f : Formula) → branch_of (children.NotInside f) ≡ outside (tree_of f)
unfolding branch_of tree_of
branch_notinside f = ap branch_of (sym (rolls-NotInside f)) ∙ fold-roll-Child Branch Tree branch_layer tree_layer (layers.NotInside f)

pub branch_notregex : (k : ℕ) → branch_of (children.NotRegex k) ≡ without_regex k
unfolding branch_of tree_of
branch_notregex k = ap branch_of (sym (rolls-NotRegex k)) ∙ fold-roll-Child Branch Tree branch_layer tree_layer (layers.NotRegex k)

pub branch_metaregex : (name : List ℕ) (k : ℕ) → branch_of (children.MetaRegex name k) ≡ meta_regex name k
unfolding branch_of tree_of
branch_metaregex name k = ap branch_of (sym (rolls-MetaRegex name k)) ∙ fold-roll-Child Branch Tree branch_layer tree_layer (layers.MetaRegex name k)

pub branch_metacompare : (x : Comparison) → branch_of (children.MetaCompare x) ≡ meta_compare x
unfolding branch_of tree_of
branch_metacompare x = ap branch_of (sym (rolls-MetaCompare x)) ∙ fold-roll-Child Branch Tree branch_layer tree_layer (layers.MetaCompare x)

pub branch_metapattern : (name : List ℕ) (f : Formula) → branch_of (children.MetaPattern name f) ≡ meta_pattern name (tree_of f)
unfolding branch_of tree_of
branch_metapattern name f = ap branch_of (sym (rolls-MetaPattern name f)) ∙ fold-roll-Child Branch Tree branch_layer tree_layer (layers.MetaPattern name f)

pub branch_focus : (names : List (List ℕ)) → branch_of (children.Focus names) ≡ focus names
unfolding branch_of tree_of
branch_focus names = ap branch_of (sym (rolls-Focus names)) ∙ fold-roll-Child Branch Tree branch_layer tree_layer (layers.Focus names)

pub tree_leaf : (k : ℕ) → tree_of (formulas.Leaf k) ≡ leaf k
unfolding branch_of tree_of
tree_leaf k = ap tree_of (sym (rolls-Leaf k)) ∙ fold-roll-Formula Branch Tree branch_layer tree_layer (layers.Leaf k)

pub tree_regex : (k : ℕ) → tree_of (formulas.Regex k) ≡ regex k
unfolding branch_of tree_of
tree_regex k = ap tree_of (sym (rolls-Regex k)) ∙ fold-roll-Formula Branch Tree branch_layer tree_layer (layers.Regex k)

pub tree_any : (fs : List Formula) → tree_of (formulas.Any fs) ≡ some_of (trees_of (map tree_of fs))
unfolding branch_of tree_of
tree_any fs = ap tree_of (sym (rolls-Any fs)) ∙ fold-roll-Formula Branch Tree branch_layer tree_layer (layers.Any fs)

pub tree_all : (cs : List Child) → tree_of (formulas.All cs) ≡ all_of (branches_of (map branch_of cs))
unfolding branch_of tree_of
tree_all cs = ap tree_of (sym (rolls-All cs)) ∙ fold-roll-Formula Branch Tree branch_layer tree_layer (layers.All cs)

pub ruleset branch_layers = (branch_positive, branch_inside, branch_not, branch_notinside, branch_notregex, branch_metaregex, branch_metacompare, branch_metapattern, branch_focus)
