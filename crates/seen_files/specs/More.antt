-- Rules that came to those by which files were seen.
use Rattle.std.specs.Prelude.{◌≡◌, ◌⊎◌, ◌↔◌, List, [], ◌∷◌, Option, None, Some}
use Rattle.node_match.specs.Sets.{Among}
use Rattle.node_tree.specs.declared.view.FileView.{FileView}
use Rattle.rule_form.specs.declared.rule.Rule.{Rule}
use Rattle.running_rules.specs.Running.{AreApart}
use Rattle.file_results.specs.Needing.{RulesUseNames}

-- The rules before still run, in their order: those that run are these, with others before, between and after them.
abbrev pub StillRun : List Rule → List Rule → Type 0
StillRun [] running = Unit {0}
StillRun (b ∷ before) [] = ⊥
StillRun (b ∷ before) (r ∷ running) = ((b ≡ r) × StillRun before running) ⊎ StillRun (b ∷ before) running

-- The rules that run are those before and the ones that were added. If no two rules that run have one id, no two of the added ones
-- have, and none of these has one of those before.
pub record AreAdded (before running added : List Rule) : Type 0 where
  pub exact : (r : Rule) → Among running r ↔ (Among before r ⊎ Among added r)
  pub none : added ≡ [] → running ≡ before
  pub alone : AreApart running → AreApart added
  pub apart : AreApart running → (r s : Rule) → Among before r → Among added s → r.id ≡ s.id → ⊥

-- the same, where it is known which were added; nothing is said where others run
abbrev pub IsMore : List Rule → List Rule → Option (List Rule) → Type 0
IsMore before running None = Unit {0}
IsMore before running (Some added) = AreAdded before running added

-- The names that the file has are wanted with the added rules too, and no others: it has some, or these rules may use none.
abbrev pub NamesSuffice : FileView → List Rule → Type 0
NamesSuffice view added = (view.known ≡ [] → ⊥) ⊎ (RulesUseNames view.lang view.tree added → ⊥)
