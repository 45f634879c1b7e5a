-- Which fronts of a text go on to a JSON text.
use Rattle.std.specs.Prelude.{◌≡◌, ℕ, ◌≤◌, List, ◌++◌, length, Option, Some, None}
use Rattle.std.specs.Str.{IsUtf8}
use Rattle.node_tree.specs.declared.node.Node.{Node}
use Rattle.node_tree.specs.declared.view.Mode.TheVariants.{Text}
use Rattle.json_tree.specs.Spells.{IsTreeOf}

-- the text has a tree
abbrev pub HasTree : List ℕ → Type 0
HasTree text = (root : Node) × IsTreeOf Text text root

-- some text that begins with the front has a tree
pub record IsViable (front : List ℕ) : Type 0 where
  pub more : List ℕ
  pub utf8 : IsUtf8 more
  pub tree : HasTree (front ++ more)

-- the number of bytes of the longest front that ends between characters and is viable
pub record IsLongestViable (text : List ℕ) (n : ℕ) : Type 0 where
  pub front : List ℕ
  pub rest : List ℕ
  pub parts : text ≡ front ++ rest
  pub len : n ≡ length front
  pub utf8 : IsUtf8 front
  pub viable : IsViable front
  pub longest : (longer after : List ℕ) → text ≡ longer ++ after → IsUtf8 longer → IsViable longer → length longer ≤ n

-- none where the text has a tree, else where its longest viable front ends
abbrev pub IsFirstBad : List ℕ → Option ℕ → Type 0
IsFirstBad text None = HasTree text
IsFirstBad text (Some n) = (HasTree text → ⊥) × IsLongestViable text n
