-- A text writes one pattern, or none.
use Rattle.std.proofs.Common.{◌≡◌, ℕ, Bool, true, false, List, [], ◌∷◌, ◌++◌, sym, ap, ◌∙◌, subst, Some, Err}
use Rattle.std.specs.Prelude.{None, Option}
use Rattle.node_tree.specs.declared.node.Node.{Node}
use Rattle.node_tree.specs.declared.view.Pattern.{Pattern}
use Rattle.node_tree.specs.declared.view.Lang.{Lang}
use Rattle.node_tree.specs.declared.view.Shape.{Shape}
use Rattle.node_tree.specs.declared.view.Shape.TheVariants.{Expr}
use Rattle.node_tree.specs.declared.view.Mode.TheVariants as modes
use Rattle.node_tree.specs.declared.fault.ReadFault.{ReadFault}
use Rattle.node_tree.specs.declared.fault.ReadFault.TheVariants as unread
use Rattle.node_tree.specs.Gives.{Gives}
use Rattle.node_tree.specs.Tree.{kind_of, kids_of}
use Rattle.json_tree.specs.Spells.{IsTreeOf}
use Rattle.json_tree.proofs.Trees.{kid_of_root}
use Rattle.code_reader.specs.declared.fault.PatternFault.{PatternFault}
use Rattle.code_reader.specs.declared.fault.PatternFault.TheVariants as faults
use Rattle.pattern_read.specs.Dots.{is_dots, DotsArePlaced}
use Rattle.pattern_read.specs.Patterns.{IsJsonValue, IsJsonPattern, IsTextOf, IsPatternOf, IsFault, is_only_dots}
use Rattle.code_reader.specs.Patterns.{GivesPattern, fault_of}

-- a pattern that was read
abbrev pub pair : Shape → Node → Option (Shape × Node)
pair s n = Some (s, n)

pub pair_fails : (e : ReadFault) (x : Node) (y : Shape × Node) → Gives (λ (m : Node). m) (Err e) (Some x) → Gives (λ (m : Shape × Node). m) (Err e) (Some y)
pair_fails unread.Memory x y f = tt
pair_fails unread.NoTree x y f = absurd cc

pub not_none : (x : Shape × Node) → Some x ≡ None → ⊥
not_none x h = absurd cc

pub one_pair : (x y : Shape × Node) → Some x ≡ Some y → x ≡ y
one_pair x y h = cc

module _ (text : List ℕ) (root kid value : Node) (others : List Node) (tree : IsTreeOf modes.Pattern text root) (kids : kids_of root ≡ others ++ kid ∷ []) where
  -- the last kid of the tree is the value
  pub last_kid : IsJsonValue text kid
  last_kid = record { root = root; tree = tree; kids = kid_of_root modes.Pattern text root kid others tree kids }

  pub same_kid : (shape : Shape) → (is : IsJsonPattern text shape value) → Some is.1.root ≡ Some root → pair shape value ≡ pair Expr kid
  same_kid shape is h =
      let kids_are : kids_of root ≡ kid ∷ [] = kid_of_root modes.Pattern text root kid others tree kids in
      let roots : is.1.root ≡ root = cc in
      let one : value ∷ [] ≡ kid ∷ [] = sym is.1.kids ∙ ap kids_of roots ∙ kids_are in
      let values : value ≡ kid = cc in
      ap (λ (n : Node). pair shape n) values ∙ ap (λ (s : Shape). pair s kid) is.0

module _ (lang : Lang) (text : List ℕ) where
  -- a tree that is not read makes a pattern that is not there
  pub unread_fault : (e : ReadFault) → ((shape : Shape) (tree : Node) → IsTextOf lang text shape tree → Gives (λ (x : Shape × Node). x) (Err e) (Some (shape, tree))) → IsFault lang text (fault_of e)
  unread_fault unread.Memory only = tt
  unread_fault unread.NoTree only = λ shape tree is. not_none (shape, tree) (only shape tree is)

  pub unread_pattern : (e : ReadFault) → ((shape : Shape) (tree : Node) → IsTextOf lang text shape tree → Gives (λ (x : Shape × Node). x) (Err e) (Some (shape, tree))) → (p : Pattern) → IsPatternOf lang text p → GivesPattern p (Err (fault_of e))
  unread_pattern unread.Memory only p is = tt
  unread_pattern unread.NoTree only p is = absurd (not_none (p.shape, p.tree) (only p.shape p.tree is.is_text))

  module _ (shape : Shape) (tree : Node) (only : (s : Shape) (n : Node) → IsTextOf lang text s n → pair s n ≡ pair shape tree) (p : Pattern) (is : IsPatternOf lang text p) where
    same : (p.shape ≡ shape) × (p.tree ≡ tree)
    same = let h = one_pair (p.shape, p.tree) (shape, tree) (only p.shape p.tree is.is_text) in (ap (λ (x : Shape × Node). x.0) h, ap (λ (x : Shape × Node). x.1) h)

    pub dots_alone : is_only_dots shape tree ≡ true → ⊥
    dots_alone h =
        let e : is_only_dots shape tree ≡ is_only_dots p.shape p.tree = ap (λ (s : Shape). is_only_dots s tree) (sym same.0) ∙ ap (λ (n : Node). is_only_dots p.shape n) (sym same.1) in
        let f : true ≡ false = sym h ∙ e ∙ is.more_than_dots in
        absurd cc

    pub dots_astray : (DotsArePlaced tree → ⊥) → ⊥
    dots_astray h = h (subst DotsArePlaced same.1 is.placed)

    pub one_pattern : record { lang = lang; shape = shape; tree = tree; constants = true } ≡ p
    one_pattern =
        let make : Lang → Shape → Node → Bool → Pattern = λ l s t k. record { lang = l; shape = s; tree = t; constants = k } in
        ap (λ (l : Lang). make l shape tree true) (sym is.same_lang) ∙ ap (λ (s : Shape). make p.lang s tree true) (sym same.0)
        ∙ ap (λ (t : Node). make p.lang p.shape t true) (sym same.1) ∙ ap (λ (k : Bool). make p.lang p.shape p.tree k) (sym is.constants)

  -- a fault other than want of memory says that there is none
  pub refused : (f : PatternFault) → (f ≡ faults.Memory → ⊥) → ((p : Pattern) → IsPatternOf lang text p → GivesPattern p (Err f)) → (p : Pattern) → IsPatternOf lang text p → ⊥
  refused faults.Memory other only p is = other cc
  refused faults.NoPattern other only p is = only p is
  refused faults.OnlyDots other only p is = only p is
  refused faults.DotsPlace other only p is = only p is
