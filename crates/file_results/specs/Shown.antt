-- What rules find in one file, as a report shows it.
use Rattle.std.specs.Prelude.{◌≡◌, ◌⊎◌, ℕ, Bool, List, [], ◌∷◌}
use Rattle.std.specs.Option.{unwrap_or}
use Rattle.std.specs.declared.cmp.Ordering.{Ordering}
use Rattle.node_tree.specs.declared.node.Node.{Node}
use Rattle.node_tree.specs.declared.view.Lang.{Lang}
use Rattle.node_tree.specs.declared.view.Lang.TheVariants.{Regex}
use Rattle.path_glob.specs.Path.{language}
use Rattle.meta_bind.specs.declared.finding.Finding.{Finding}
use Rattle.meta_bind.specs.Bounds.{name_cmp}
use Rattle.rule_form.specs.declared.rule.Rule.{Rule}
use Rattle.node_match.specs.Sets.{Among}
use Rattle.file_open.specs.declared.opened.Opened.{Opened}
use Rattle.file_open.specs.declared.opened.Opened.TheVariants as opened
use Rattle.part_judge.specs.declared.outcome.Outcome.{Outcome}
use Rattle.file_open.specs.Opening.{IsOpened}
use Rattle.part_judge.specs.Findings.{findings_of}
use Rattle.report_form.specs.declared.notice.Notice.{Notice}
use Rattle.report_form.specs.declared.notice.NoticeKind.TheVariants as kinds
use Rattle.report_form.specs.declared.report.Reported.{Reported}
use Rattle.running_rules.specs.Notes.{notice}
use Rattle.file_results.specs.Looking.{LeafOf, RuleFinds}
use Rattle.file_results.specs.Quieted.{Comments, Grammars, IsQuietedIn}
use Rattle.file_results.specs.Reports.{reported, outcome_notices}
use Rattle.file_results.specs.Tracing.{HasTrace}

-- a path, and the bytes there
abbrev pub File : Type 0
File = List ℕ × List ℕ

-- by path
abbrev pub file_cmp : File → File → Ordering
file_cmp f g = name_cmp f.0 g.0

-- the language in which the file at a path is opened: the one that its ending names, or else `Regex`
abbrev pub lang_at : List ℕ → Lang
lang_at path = unwrap_or (language path) Regex

-- the file can be looked at, in that language, with that tree
abbrev pub Shows : Opened → Lang → Node → Type 0
Shows (opened.Read view) lang tree = (view.lang ≡ lang) × (view.tree ≡ tree)
Shows (opened.NoTree view) lang tree = (view.lang ≡ lang) × (view.tree ≡ tree)
Shows _ lang tree = ⊥

-- why the file at a path cannot be looked at, or has no tree
abbrev pub opened_notices : List ℕ → Opened → List Notice
opened_notices path opened.TooLarge = notice path [] kinds.TooLarge [] ∷ []
opened_notices path opened.NotUtf8 = notice path [] kinds.NotUtf8 [] ∷ []
opened_notices path (opened.NoTree view) = notice path [] kinds.NoTree [] ∷ []
opened_notices path (opened.Read view) = []

-- a finding of one of the rules, in the file at a path, which is a text of that language with that tree
pub record IsFoundIn (leaf_of : LeafOf) (rules : List Rule) (path : List ℕ) (lang : Lang) (text : List ℕ) (tree : Node) (r : Reported) : Type 0 where
  pub rule : Rule
  pub runs : Among rules rule
  pub outcome : Outcome
  pub finds : RuleFinds leaf_of path lang text tree rule outcome
  pub finding : Finding
  pub found : Among (findings_of outcome) finding
  pub is : r ≡ reported path text rule finding

-- such a finding that no comment of the file quiets, with its trace if traces are wanted
pub record IsShownIn (leaf_of : LeafOf) (comments : Comments) (traced : Bool) (rules : List Rule) (path : List ℕ) (lang : Lang) (text : List ℕ) (tree : Node) (r : Reported) : Type 0 where
  pub bare : Reported
  pub is_found : IsFoundIn leaf_of rules path lang text tree bare
  pub not_quieted : IsQuietedIn comments lang text bare → ⊥
  pub trace : HasTrace traced leaf_of rules lang text tree bare r

-- a notice of what one of the rules finds there
pub record IsNotedIn (leaf_of : LeafOf) (rules : List Rule) (path : List ℕ) (lang : Lang) (text : List ℕ) (tree : Node) (n : Notice) : Type 0 where
  pub rule : Rule
  pub runs : Among rules rule
  pub outcome : Outcome
  pub finds : RuleFinds leaf_of path lang text tree rule outcome
  pub told : Among (outcome_notices path rule.id outcome) n

-- what holds of the language and the tree of a file that is opened so and can be looked at
abbrev pub InView : Opened → (Lang → Node → Type 0) → Type 0
InView o P = (lang : Lang) × (tree : Node) × Shows o lang tree × P lang tree

-- a finding of one of the rules in a file that no comment there quiets
abbrev pub IsResultIn : Grammars → List Rule → File → Reported → Type 0
IsResultIn grammars rules file r =
    (o : Opened) × IsOpened grammars.spells (lang_at file.0) file.1 o × InView o (λ lang tree. IsShownIn grammars.leaf_of grammars.comments grammars.traced rules file.0 lang file.1 tree r)

-- a notice of a file: how it is opened, or what one of the rules finds there
abbrev pub IsNoticeIn : Grammars → List Rule → File → Notice → Type 0
IsNoticeIn grammars rules file n =
    (o : Opened) × IsOpened grammars.spells (lang_at file.0) file.1 o × (Among (opened_notices file.0 o) n ⊎ InView o (λ lang tree. IsNotedIn grammars.leaf_of rules file.0 lang file.1 tree n))
