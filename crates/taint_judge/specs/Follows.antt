-- What a rule that follows data finds.
use Rattle.std.specs.Prelude.{◌≡◌, ℕ, List, [], ◌∷◌, Option, None, Some, slice_get}
use Rattle.std.specs.List.{flat_map}
use Rattle.node_tree.specs.declared.node.Node.{Node}
use Rattle.meta_bind.specs.declared.finding.Finding.{Finding}
use Rattle.rule_form.specs.declared.rule.TaintRule.{TaintRule}
use Rattle.tree_match.specs.declared.leaf.Leaf.{Leaf}
use Rattle.tree_match.specs.Members.{Member}
use Rattle.taint_flow.specs.declared.hit.TaintHit.{TaintHit}
use Rattle.taint_tables.specs.declared.sets.TaintSets.{TaintSets}
use Rattle.taint_flow.specs.Taint.{AreHits}
use Rattle.taint_flow.specs.Sizes.{NoneLarge, FirstLarge}
use Rattle.taint_judge.specs.Lists.{OverRule}
use Rattle.taint_judge.specs.Sets.{AreSets}

-- the finding of a sink's member, if it is there, with the source of the hit
abbrev pub finding_at : TaintHit → Option Member → List Finding
finding_at hit None = []
finding_at hit (Some m) = record { span = m.0; binding = m.1; source = Some hit.source } ∷ []

abbrev pub finding_of : List Member → TaintHit → List Finding
finding_of sinks hit = finding_at hit (slice_get sinks hit.sink)

module _ (leaves : List Leaf) (texts : List (List ℕ)) (bytes : List ℕ) (root : Node) where
  -- the sets of the rule, none of which has more than 10,000 members
  pub record IsRead (rule : TaintRule) (sinks : List Member) (sets : TaintSets) : Type 0 where
    pub few : OverRule leaves texts bytes rule None
    pub sets_are : AreSets leaves texts bytes rule sinks sets

  -- no function is too large, and there is a finding for each sink that a source hits, in order
  pub record AreFollowed (rule : TaintRule) (findings : List Finding) : Type 0 where
    pub sinks : List Member
    pub sets : TaintSets
    pub read : IsRead rule sinks sets
    pub none_large : NoneLarge root sets
    pub hits : List TaintHit
    pub hits_are : AreHits root sets hits
    pub findings_are : findings ≡ flat_map (finding_of sinks) hits

  -- the first function, or the top level, that is too large begins there
  pub record IsTooLarge (rule : TaintRule) (at : ℕ) : Type 0 where
    pub sinks : List Member
    pub sets : TaintSets
    pub read : IsRead rule sinks sets
    pub large : FirstLarge root sets at
