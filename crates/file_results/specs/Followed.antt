-- What the code knows of parts that follow data, and of findings with their traces.
use Rattle.std.specs.Prelude.{◌≡◌, ◌⊎◌, ℕ, Bool, List, [], ◌∷◌, Option, None, Some, slice_get, length, map, IsSome, MatchOption}
use Rattle.node_tree.specs.declared.node.Node.{Node}
use Rattle.node_tree.specs.declared.view.Lang.{Lang}
use Rattle.graph_form.specs.declared.graph.Point.{Point}
use Rattle.graph_form.specs.declared.graph.Role.{Role}
use Rattle.meta_bind.specs.declared.finding.Finding.{Finding}
use Rattle.rule_form.specs.declared.rule.Body.TheVariants.{Taint}
use Rattle.rule_form.specs.declared.rule.Part.{Part}
use Rattle.rule_form.specs.declared.rule.Rule.{Rule}
use Rattle.rule_form.specs.declared.rule.TaintRule.{TaintRule}
use Rattle.node_match.specs.Sets.{Among}
use Rattle.tree_match.specs.Members.{KnownTree}
use Rattle.tree_match.specs.declared.leaf.Leaf.{Leaf}
use Rattle.taint_judge.specs.Follows.{IsRead}
use Rattle.part_judge.specs.Findings.{findings_of}
use Rattle.report_form.specs.declared.report.Reported.{Reported}
use Rattle.file_results.specs.declared.tracing.Followed.{Followed}
use Rattle.file_results.specs.Looking.{AreLeaves, LooksAt, LeafOf}
pub use Rattle.file_results.specs.Looking.{named_leaf}
use Rattle.file_results.specs.Following.{FollowsIn}
use Rattle.file_results.specs.Hits.{Hit}
use Rattle.file_results.specs.Judging.{PartJudges}
use Rattle.file_results.specs.Shown.{IsFoundIn}
use Rattle.file_results.specs.Tracing.{start_of, stops_of, with_stops, PartHas, IsPartTrace, IsRuleTrace, HasTrace}

-- ---- paths

-- where the node of a point begins, and the point's role, by the nodes in preorder
abbrev pub stop_among : List Node → Point → ℕ × Role
stop_among nodes point = (start_of (slice_get nodes point.node), point.role)

-- the same of each point after the first
abbrev pub stops_among : List Node → List Point → List (ℕ × Role)
stops_among nodes [] = []
stops_among nodes (entry ∷ points) = map (stop_among nodes) points

-- ---- parts

module _ (lang : Lang) (texts : List (List ℕ)) (text : List ℕ) (tree : KnownTree) where
  -- the part follows data in the file: this is what it finds there, and these are the sets of its rule if it finds something
  pub record IsFollowedBy (part : Part) (f : Followed) : Type 0 where
    pub looks : LooksAt part lang
    pub rule : TaintRule
    pub follows : part.body ≡ Taint rule
    pub leaves : List Leaf
    pub are : AreLeaves (named_leaf tree.known lang) tree.tree part.patterns leaves
    pub judges : PartJudges lang texts text tree part f.found
    pub read : MatchOption f.sets (findings_of f.found ≡ []) (λ sets. IsRead leaves texts text tree.tree rule sets.sinks sets.ranges)

  -- the part with what it finds, or nothing where it doesn't follow data in the file
  abbrev pub IsFollowedPart : Part → Option Followed → Type 0
  IsFollowedPart part None = FollowsIn lang part → ⊥
  IsFollowedPart part (Some f) = IsFollowedBy part f

  -- the same of each of the parts
  pub record AreFollowedParts (parts : List Part) (fs : List (Option Followed)) : Type 0 where
    pub many : length fs ≡ length parts
    pub each : (i : ℕ) (part : Part) (f : Option Followed) → slice_get parts i ≡ Some part → slice_get fs i ≡ Some f → IsFollowedPart part f

  -- the part looks at the file and has the finding there
  abbrev pub LooksAndHas : Part → Finding → Type 0
  LooksAndHas part finding = LooksAt part lang × PartHas (named_leaf tree.known lang) texts text tree.tree part finding

  -- the part has the finding, whose path has these stops
  abbrev pub HasStops : Part → Finding → List (ℕ × Role) → Type 0
  HasStops part finding stops = LooksAndHas part finding × ((path : List Point) × IsPartTrace (named_leaf tree.known lang) texts text tree.tree part finding path × (stops ≡ stops_of tree.tree path))

-- ---- rules

module _ (lang : Lang) (text : List ℕ) (tree : KnownTree) where
  -- one of the rule's parts looks at the file and has the finding there
  abbrev pub RuleHas : Rule → Finding → Type 0
  RuleHas rule finding = (part : Part) × Among rule.parts part × LooksAndHas lang rule.texts text tree part finding

  -- the finding's path by the rule has these stops
  abbrev pub HasRuleStops : Rule → Finding → List (ℕ × Role) → Type 0
  HasRuleStops rule finding stops = (path : List Point) × IsRuleTrace (named_leaf tree.known) lang text tree.tree rule finding path × (stops ≡ stops_of tree.tree path)

  -- the parts of the rule with that number that follow data, for each number of these
  pub record AreFollowedRules (rules : List Rule) (Wanted : ℕ → Type 0) (fs : List (List (Option Followed))) : Type 0 where
    pub many : length fs ≡ length rules
    pub each : (n : ℕ) (rule : Rule) (parts : List (Option Followed)) → slice_get rules n ≡ Some rule → slice_get fs n ≡ Some parts → Wanted n → AreFollowedParts lang rule.texts text tree rule.parts parts

  -- the finding of the rule, with its trace if it comes from a source
  abbrev pub HasTraceBy : Rule → Reported → Reported → Type 0
  HasTraceBy rule bare r = ((bare.finding.source ≡ None) × (r ≡ bare)) ⊎ (IsSome bare.finding.source × ((stops : List (ℕ × Role)) × HasRuleStops rule bare.finding stops × (r ≡ with_stops bare stops)))

  -- each was found by the rule with its number
  abbrev pub AreFoundHits : List Rule → List Hit → Type 0
  AreFoundHits rules hits = (h : Hit) → Among hits h → (rule : Rule) × (slice_get rules h.number ≡ Some rule) × RuleHas rule h.finding

-- some finding of the rule with that number comes from a source
abbrev pub IsWanted : List Hit → ℕ → Type 0
IsWanted hits n = (h : Hit) × Among hits h × (h.number ≡ n) × IsSome h.finding.source

-- ---- findings

-- the findings as they are reported, in the same order
abbrev pub AreOfHits : List Rule → List Hit → List Reported → Type 0
AreOfHits rules [] rs = rs ≡ []
AreOfHits rules (h ∷ hs) rs =
    (rule : Rule) × (slice_get rules h.number ≡ Some rule) × ((r : Reported) × (r.id ≡ rule.id) × (r.finding ≡ h.finding) × ((rest : List Reported) × AreOfHits rules hs rest × (rs ≡ r ∷ rest)))

-- each with its trace, in the same order
abbrev pub AreTraced : (Reported → Reported → Type 0) → List Reported → List Reported → Type 0
AreTraced Has [] rs = rs ≡ []
AreTraced Has (b ∷ bs) rs = (r : Reported) × Has b r × ((rest : List Reported) × AreTraced Has bs rest × (rs ≡ r ∷ rest))

-- a finding of one of the rules in the file at a path, with its trace if traces are wanted
pub record IsTracedIn (leaf_of : LeafOf) (traced : Bool) (rules : List Rule) (path : List ℕ) (lang : Lang) (text : List ℕ) (tree : Node) (r : Reported) : Type 0 where
  pub bare : Reported
  pub is_found : IsFoundIn leaf_of rules path lang text tree bare
  pub trace : HasTrace traced leaf_of rules lang text tree bare r
