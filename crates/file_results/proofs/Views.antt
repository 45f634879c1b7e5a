-- A file is opened in one way.
use Rattle.std.proofs.Common.{◌≡◌, ℕ, List, refl, sym, ◌∙◌, arith}
use Rattle.node_tree.specs.declared.node.Node.{Node}
use Rattle.node_tree.specs.declared.view.Lang.{Lang}
use Rattle.file_open.specs.declared.opened.Opened.{Opened}
use Rattle.file_open.specs.declared.opened.Opened.TheVariants.{TooLarge, NotUtf8, NoTree, Read}
use Rattle.file_open.specs.Reading.{Spells}
use Rattle.file_open.specs.Opening.{IsOpened, HasOnlyTree}
use Rattle.file_results.specs.Shown.{Shows, opened_notices}

module _ (spells : Spells) (lang : Lang) (bytes : List ℕ) where
  pub shows_one : (o p : Opened) → IsOpened spells lang bytes o → HasOnlyTree spells lang bytes o → IsOpened spells lang bytes p → (l : Lang) (t : Node) → Shows p l t → Shows o l t
  shows_one o TooLarge h only k l t s = absurd s
  shows_one o NotUtf8 h only k l t s = absurd s
  shows_one TooLarge (NoTree view) h only k l t s = absurd (let few = k.0.0 in omega (arith, h, few))
  shows_one NotUtf8 (NoTree view) h only k l t s = absurd (h.1 k.0.1)
  shows_one (NoTree mine) (NoTree view) h only k l t s = (h.2.lang_is ∙ sym k.2.lang_is ∙ s.0, h.2.tree_is ∙ sym k.2.tree_is ∙ s.1)
  shows_one (Read mine) (NoTree view) h only k l t s = absurd (k.1 mine.tree h.1)
  shows_one TooLarge (Read view) h only k l t s = absurd (let few = k.0.0 in omega (arith, h, few))
  shows_one NotUtf8 (Read view) h only k l t s = absurd (h.1 k.0.1)
  shows_one (NoTree mine) (Read view) h only k l t s = absurd (h.1 view.tree k.1)
  shows_one (Read mine) (Read view) h only k l t s = (h.2.lang_is ∙ sym k.2.lang_is ∙ s.0, sym (only view.tree k.1) ∙ s.1)

  pub notes_one : (path : List ℕ) (o p : Opened) → IsOpened spells lang bytes o → IsOpened spells lang bytes p → opened_notices path p ≡ opened_notices path o
  notes_one path TooLarge TooLarge h k = refl
  notes_one path TooLarge NotUtf8 h k = absurd (let few = k.0 in omega (arith, h, few))
  notes_one path TooLarge (NoTree view) h k = absurd (let few = k.0.0 in omega (arith, h, few))
  notes_one path TooLarge (Read view) h k = absurd (let few = k.0.0 in omega (arith, h, few))
  notes_one path NotUtf8 TooLarge h k = absurd (let few = h.0 in omega (arith, k, few))
  notes_one path NotUtf8 NotUtf8 h k = refl
  notes_one path NotUtf8 (NoTree view) h k = absurd (h.1 k.0.1)
  notes_one path NotUtf8 (Read view) h k = absurd (h.1 k.0.1)
  notes_one path (NoTree mine) TooLarge h k = absurd (let few = h.0.0 in omega (arith, k, few))
  notes_one path (NoTree mine) NotUtf8 h k = absurd (k.1 h.0.1)
  notes_one path (NoTree mine) (NoTree view) h k = refl
  notes_one path (NoTree mine) (Read view) h k = absurd (h.1 view.tree k.1)
  notes_one path (Read mine) TooLarge h k = absurd (let few = h.0.0 in omega (arith, k, few))
  notes_one path (Read mine) NotUtf8 h k = absurd (k.1 h.0.1)
  notes_one path (Read mine) (NoTree view) h k = absurd (k.1 mine.tree h.1)
  notes_one path (Read mine) (Read view) h k = refl
