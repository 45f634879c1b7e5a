-- What the bytes of a file are in the languages that are read here, with the names that are known in the file.
use Rattle.std.specs.Prelude.{◌≡◌, ℕ, List}
use Rattle.node_tree.specs.declared.view.FileView.{FileView}
use Rattle.node_tree.specs.declared.view.Lang.{Lang}
use Rattle.file_open.specs.declared.opened.Opened.{Opened}
use Rattle.file_open.specs.declared.opened.Opened.TheVariants.{Read}
use Rattle.file_open.specs.Naming.{IsNamed}
use Rattle.file_open.specs.Opening.{IsOpened}
use Rattle.languages.specs.Trees.{IsTree, AreKnown}

-- a file that was read has the names that are known in it; all else is as it is
abbrev pub AreNamed : Opened → Opened → Type 0
AreNamed (Read bare) o = (view : FileView) × IsNamed AreKnown bare view × (o ≡ Read view)
AreNamed bare o = o ≡ bare

-- what the bytes are, with those names
abbrev pub IsOpenedNamed : Lang → List ℕ → Opened → Type 0
IsOpenedNamed lang bytes o = (bare : Opened) × IsOpened IsTree lang bytes bare × AreNamed bare o
