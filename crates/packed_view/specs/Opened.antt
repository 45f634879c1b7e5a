-- Files as they were opened.
use Rattle.std.specs.Prelude.{◌≡◌, ℕ, List}
use Rattle.std.specs.Coded.{Coded-set, coded_list, coded_ℕ, Unit-prop}
use Rattle.file_open.specs.declared.opened.Opened.{Opened}
use Rattle.file_open.specs.declared.opened.Opened.TheVariants as opened
use Rattle.packed_view.specs.declared.opened.Packed.{Packed}
use Rattle.packed_view.specs.declared.opened.Packed.TheVariants as packed

-- how a packed file was opened
abbrev pub opened_of : Packed → Opened
opened_of packed.TooLarge = opened.TooLarge
opened_of packed.NotUtf8 = opened.NotUtf8
opened_of (packed.NoTree view) = opened.NoTree view
opened_of (packed.Read view) = opened.Read view

-- if it can be looked at, it has this text
abbrev pub HasText : List ℕ → Opened → Type 0
HasText text (opened.NoTree view) = view.bytes ≡ text
HasText text (opened.Read view) = view.bytes ≡ text
HasText text _ = Unit {0}

-- a fact that has one proof at most
pub HasText-prop : (text : List ℕ) (o : Opened) → IsProp (HasText text o)
HasText-prop text opened.TooLarge = Unit-prop
HasText-prop text opened.NotUtf8 = Unit-prop
HasText-prop text (opened.NoTree view) = Coded-set (coded_list coded_ℕ) view.bytes text
HasText-prop text (opened.Read view) = Coded-set (coded_list coded_ℕ) view.bytes text
