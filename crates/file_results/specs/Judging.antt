-- What the code knows of what rules find in a file.
use Rattle.std.specs.Prelude.{◌≡◌, ℕ, List, [], ◌∷◌, Option, None, Some, slice_get, All}
use Rattle.node_tree.specs.declared.view.Lang.{Lang}
use Rattle.rule_form.specs.declared.rule.Rule.{Rule}
use Rattle.rule_form.specs.declared.rule.Part.{Part}
use Rattle.node_match.specs.Sets.{Among}
use Rattle.tree_match.specs.Members.{KnownTree}
use Rattle.meta_bind.specs.declared.finding.Finding.{Finding}
use Rattle.part_judge.specs.declared.outcome.Outcome.{Outcome}
use Rattle.taint_judge.specs.Placed.{IsFindingPlaced}
use Rattle.part_judge.specs.Findings.{findings_of}
use Rattle.report_form.specs.declared.notice.Notice.{Notice}
use Rattle.report_form.specs.declared.report.Reported.{Reported}
use Rattle.file_results.specs.declared.looking.Judged.{Judged}
use Rattle.file_results.specs.Looking.{Allows, LooksAt, PartFindsIn, RuleFinds}
pub use Rattle.file_results.specs.Looking.{named_leaf}
use Rattle.file_results.specs.Reports.{reported, outcome_notices}
use Rattle.file_results.specs.Hits.{Hit}

-- the part finds this and nothing else, by the names that are known there
pub record PartJudges (lang : Lang) (texts : List (List ℕ)) (text : List ℕ) (tree : KnownTree) (part : Part) (outcome : Outcome) : Type 0 where
  pub finds : PartFindsIn (named_leaf tree.known lang) texts text tree.tree part outcome
  pub only : (o : Outcome) → PartFindsIn (named_leaf tree.known lang) texts text tree.tree part o → o ≡ outcome

-- what a part of the rule with that number and these regular expressions finds, if it looks at the file
abbrev pub PartAdds : List (List ℕ) → Lang → List ℕ → KnownTree → ℕ → Part → Judged → Type 0
PartAdds texts lang text tree number part x = LooksAt part lang × (x.number ≡ number) × PartFindsIn (named_leaf tree.known lang) texts text tree.tree part x.found

-- what one of the parts of that rule finds, which looks at the file
pub record RuleJudges (texts : List (List ℕ)) (lang : Lang) (text : List ℕ) (tree : KnownTree) (number : ℕ) (parts : List Part) (x : Judged) : Type 0 where
  pub number_is : x.number ≡ number
  pub part : Part
  pub has : Among parts part
  pub looks : LooksAt part lang
  pub finds : PartFindsIn (named_leaf tree.known lang) texts text tree.tree part x.found

-- what the rule with that number finds, if its globs allow the path
abbrev pub RuleAdds : List ℕ → Lang → List ℕ → KnownTree → ℕ → Rule → Judged → Type 0
RuleAdds path lang text tree number rule x = Allows rule path × RuleJudges rule.texts lang text tree number rule.parts x

-- what one of the rules finds
pub record IsJudged (path : List ℕ) (lang : Lang) (text : List ℕ) (tree : KnownTree) (rules : List Rule) (x : Judged) : Type 0 where
  pub rule : Rule
  pub at : slice_get rules x.number ≡ Some rule
  pub finds : RuleFinds (named_leaf tree.known) path lang text tree.tree rule x.found

-- all that was found stands at places of the text
abbrev pub AreAllPlaced : List ℕ → List Judged → Type 0
AreAllPlaced text judged = (x : Judged) → Among judged x → All (λ finding. IsFindingPlaced text finding) (findings_of x.found)

-- each was found by a rule that is there
abbrev pub AreNumbered : List Rule → List Judged → Type 0
AreNumbered rules judged = (x : Judged) → Among judged x → (rule : Rule) × (slice_get rules x.number ≡ Some rule)

-- a finding among those that were judged, with the number and the id of its rule
pub record IsHit (rules : List Rule) (judged : List Judged) (h : Hit) : Type 0 where
  pub from : Judged
  pub is_judged : Among judged from
  pub number_is : h.number ≡ from.number
  pub rule : Rule
  pub at : slice_get rules from.number ≡ Some rule
  pub id_is : h.id ≡ rule.id
  pub found : Among (findings_of from.found) h.finding

abbrev pub notices_by : List ℕ → Outcome → Option Rule → List Notice
notices_by path outcome None = []
notices_by path outcome (Some rule) = outcome_notices path rule.id outcome

-- the notices of what one of the rules finds
abbrev pub judged_notices : List ℕ → List Rule → Judged → List Notice
judged_notices path rules x = notices_by path x.found (slice_get rules x.number)

-- the results of findings, in the same order
abbrev pub AreReported : List ℕ → List ℕ → List Rule → List Hit → List Reported → Type 0
AreReported path text rules [] results = results ≡ []
AreReported path text rules (h ∷ hs) results =
    (rule : Rule) × (slice_get rules h.number ≡ Some rule) × ((rest : List Reported) × AreReported path text rules hs rest × (results ≡ reported path text rule h.finding ∷ rest))

-- a finding of the rule with that number and id
pub record IsHitOf (number : ℕ) (id : List ℕ) (findings : List Finding) (h : Hit) : Type 0 where
  pub number_is : h.number ≡ number
  pub id_is : h.id ≡ id
  pub found : Among findings h.finding

-- each was found by a rule that is there
abbrev pub AreNumberedHits : List Rule → List Hit → Type 0
AreNumberedHits rules hits = (h : Hit) → Among hits h → (rule : Rule) × (slice_get rules h.number ≡ Some rule)

-- each stands at places of the text
abbrev pub ArePlacedHits : List ℕ → List Hit → Type 0
ArePlacedHits text hits = (h : Hit) → Among hits h → IsFindingPlaced text h.finding
