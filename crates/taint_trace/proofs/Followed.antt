-- What is known of a finding: its source hits its range.
use Rattle.std.proofs.Common.{◌≡◌, inl, inr, ℕ, List, [], ◌∷◌, sym, ap, ◌∙◌, subst}
use Rattle.std.specs.Prelude.{Option, None, Some, slice_get}
use Rattle.std.specs.Option.{option_map}
use Rattle.std.proofs.lemmas.Option.{slice_get-map}
use Rattle.node_tree.specs.declared.node.Node.{Node}
use Rattle.node_tree.specs.declared.span.Span.{Span}
use Rattle.meta_bind.specs.declared.finding.Finding.{Finding}
use Rattle.rule_form.specs.declared.rule.TaintRule.{TaintRule}
use Rattle.graph_form.specs.Sets.{Among}
use Rattle.node_match.specs.Sets as listed
use Rattle.flow_reach.proofs.Sorted.{got_among}
use Rattle.tree_match.specs.declared.leaf.Leaf.{Leaf}
use Rattle.tree_match.specs.Members.{Member}
use Rattle.member_join.specs.Choices.{range_of}
use Rattle.taint_flow.specs.declared.hit.TaintHit.{TaintHit}
use Rattle.taint_tables.specs.declared.sets.TaintSets.{TaintSets}
use Rattle.taint_flow.specs.Taint.{Hit}
use Rattle.taint_flow.specs.Sizes.{NoneLarge}
use Rattle.taint_plan.proofs.Below.{among_flat}
use Rattle.taint_judge.specs.Follows.{finding_at, finding_of, IsRead}
use Rattle.taint_judge.proofs.Once.{sets_one}
use Rattle.taint_trace.specs.Findings.{IsFollowed, IsFoundBy}

among_listed : {X : Type 0} (xs : List X) (x : X) → listed.Among xs x → Among xs x
among_listed [] x none = absurd none
among_listed (y ∷ ys) x (inl e) = inl e
among_listed (y ∷ ys) x (inr more) = inr (among_listed ys x more)

-- the sink of a hit has the finding's range, and its source is the finding's
found_at : (hit : TaintHit) (o : Option Member) (finding : Finding) → Among (finding_at hit o) finding → (option_map range_of o ≡ Some finding.span) × (finding.source ≡ Some hit.source)
found_at hit None finding none = absurd none
found_at hit (Some m) finding (inl e) = (ap (λ (f : Finding). Some f.span) e, sym (ap (λ (f : Finding). f.source) e))
found_at hit (Some m) finding (inr none) = absurd none

-- the finding's source, which hits its range, and the sink
pub record IsFound (root : Node) (sets : TaintSets) (finding : Finding) : Type 0 where
  pub source : Span
  pub source_is : finding.source ≡ Some source
  pub hit : Hit root sets finding.span source
  pub sink : Among sets.sinks finding.span
  pub fits : NoneLarge root sets

module _ (leaves : List Leaf) (texts : List (List ℕ)) (bytes : List ℕ) (root : Node) (rule : TaintRule) (finding : Finding) (is : IsFollowed leaves texts bytes root rule finding) where
  -- by the sets that the rule had then
  found_then : IsFound root is.1.sets finding
  found_then =
      let h = is.1 in
      let In : List Finding → Type 0 = λ fs. Among fs finding in
      let (hit, in_hits, has) = (among_flat (finding_of h.sinks) h.hits finding).0 (subst In h.findings_are (among_listed is.0 finding is.2)) in
      let (there, source) = found_at hit (slice_get h.sinks hit.sink) finding has in
      let (range, at, least) = h.hits_are.each hit in_hits in
      let same : range ≡ finding.span = (let e : Some range ≡ Some finding.span = sym at ∙ ap (λ (ss : List Span). slice_get ss hit.sink) h.read.sets_are.places ∙ slice_get-map range_of h.sinks hit.sink ∙ there in cc) in
      let Hits : Span → Type 0 = λ r. Hit root h.sets r hit.source in
      let Has : Span → Type 0 = Among h.sets.sinks in
      record {
        source = hit.source;
        source_is = source;
        hit = subst Hits same least.hits;
        sink = subst Has same (got_among h.sets.sinks hit.sink range at);
        fits = h.none_large;
      }

  -- and by those that are read
  pub found : (sinks : List Member) (sets : TaintSets) → IsRead leaves texts bytes root rule sinks sets → IsFound root sets finding
  found sinks sets read =
      let So : TaintSets → Type 0 = λ s. IsFound root s finding in
      subst So (sets_one leaves texts bytes rule is.1.sinks sinks is.1.sets sets is.1.read.sets_are read.sets_are) found_then

-- by the sets of its rule
pub found_by : (root : Node) (sinks : List Member) (sets : TaintSets) (finding : Finding) → IsFoundBy root sinks sets finding → IsFound root sets finding
found_by root sinks sets finding is = found is.leaves is.texts is.bytes root is.rule finding is.followed sinks sets is.read
