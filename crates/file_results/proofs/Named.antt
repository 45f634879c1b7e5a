-- What rules find by the names of a file.
use Rattle.std.proofs.Common.{◌≡◌, inl, inr, ◌↔◌, ℕ, Bool, true, false, List, [], ◌∷◌, ◌++◌, refl, sym, ◌∙◌, subst}
use Rattle.std.specs.Prelude.{Result, Ok, Err, IfOk}
use Rattle.node_tree.specs.declared.known.Known.{Known}
use Rattle.node_tree.specs.declared.node.Node.{Node}
use Rattle.node_tree.specs.declared.view.FileView.{FileView}
use Rattle.node_tree.specs.declared.view.Lang.{Lang}
use Rattle.node_tree.specs.declared.view.Lang.TheVariants as langs
use Rattle.node_tree.specs.declared.view.Pattern.{Pattern}
use Rattle.rule_form.specs.declared.rule.Rule.{Rule}
use Rattle.rule_form.specs.declared.rule.Part.{Part}
use Rattle.node_match.specs.Sets.{Among, Adds}
use Rattle.node_match.proofs.Sets.{adds_as}
use Rattle.tree_match.specs.declared.leaf.Leaf.{Leaf}
use Rattle.tree_match.specs.declared.leaf.Leaf.TheVariants.{Full}
use Rattle.file_match.specs.Trees.{known_in}
use Rattle.literal_use.specs.Literals.{uses_literals, LeavesNeedNoNames}
use Rattle.literal_use.proofs.Names.{leaves_alike}
use Rattle.file_parts.specs.Seen.{resolved_tree}
use Rattle.file_parts.proofs.Once.{seen_once}
use Rattle.file_search.specs.Whole.{HasNone}
use Rattle.file_search.proofs.Joins.{none_in}
use Rattle.file_open.specs.Naming.{Knows}
use Rattle.graph_form.specs.declared.graph.Point.{Point}
use Rattle.meta_bind.specs.declared.finding.Finding.{Finding}
use Rattle.part_judge.specs.declared.outcome.Outcome.{Outcome}
use Rattle.report_form.specs.declared.notice.Notice.{Notice}
use Rattle.report_form.specs.declared.report.Reported.{Reported}
use Rattle.file_results.specs.Sets.{IsExactly}
use Rattle.file_results.specs.Reports.{reported_cmp}
use Rattle.running_rules.proofs.Members.{among_left, among_right}
use Rattle.file_results.specs.Looking.{AreLeaves, LooksAt, RuleFinds, named_leaf, own_leaf}
use Rattle.file_results.specs.Needing.{UsesNames, RulesUse, RulesUseNames, AreWanted, HasNoneOrAll, NeedsNoNames, RulesNeedNoNames, Serves, ServesRules}
use Rattle.file_results.specs.Quieted.{Comments}
use Rattle.file_results.specs.Shown.{IsFoundIn, IsShownIn, IsNotedIn}
use Rattle.file_results.specs.Tracing.{PartHas, IsPartTrace, IsRuleTrace, HasTrace}

-- ---- one pattern

-- a pattern that takes no names has the same members in the file, and in the file with its names resolved
pub unnamed : (lang : Lang) (tree : Node) (p : Pattern) → LeavesNeedNoNames p → NeedsNoNames lang tree p
unnamed langs.Python tree p free known other leaf j = record {
  plain = j.plain;
  further = j.further;
  plain_is = free (known_in tree known) (known_in tree other) refl j.plain j.plain_is;
  further_is = free (resolved_tree langs.Python (known_in tree known)) (resolved_tree langs.Python (known_in tree other)) refl j.further j.further_is;
  joined = j.joined;
}
unnamed _ tree p free known other leaf h = free (known_in tree known) (known_in tree other) refl leaf h

-- one without members has none, whatever names are known
pub lacking : (lang : Lang) (tree : Node) (p : Pattern) → HasNone lang tree p → NeedsNoNames lang tree p
lacking lang tree p none known other leaf h =
    let P : Leaf → Type 0 = named_leaf other lang tree p in
    subst P (sym (seen_once lang (known_in tree known) p leaf (Full []) h (none known))) (none other)

-- ---- rules that may use no names

-- rules that use names also do so where more patterns may have members
pub use_more : (Few More : Pattern → Type 0) → ((p : Pattern) → Few p → More p) → (lang : Lang) (rules : List Rule) → RulesUse Few lang rules → RulesUse More lang rules
use_more Few More more lang rules (rule, runs, (part, has, (looks, (p, a, (takes, may))))) = (rule, runs, (part, has, (looks, (p, a, (takes, more p may)))))

-- a pattern that may use no names needs none
uses_none : (lang : Lang) (tree : Node) (p : Pattern) (b : Bool) → uses_literals p ≡ b → (UsesNames lang tree p → ⊥) → NeedsNoNames lang tree p
uses_none lang tree p true takes none = lacking lang tree p (none_in lang tree p (λ may. none (takes, may)))
uses_none lang tree p false takes none = unnamed lang tree p (leaves_alike p takes)

-- nor do rules of which none may
need_none : (lang : Lang) (tree : Node) (rules : List Rule) → (RulesUseNames lang tree rules → ⊥) → RulesNeedNoNames lang tree rules
need_none lang tree rules none rule runs part has looks p a = uses_none lang tree p (uses_literals p) refl (λ uses. none (rule, runs, (part, has, (looks, (p, a, uses)))))

-- ---- the names that are wanted

-- they serve the rules
pub wanted_serve : (knows : Knows) (lang : Lang) (tree : Node) (rules : List Rule) (known : List Known) → AreWanted knows lang tree rules known → ServesRules knows lang tree known rules
wanted_serve knows lang tree rules known (inl (uses, just)) = inl just
wanted_serve knows lang tree rules known (inr (none, e)) = inr (need_none lang tree rules none)

-- there is one list of them
pub wanted_once : (knows : Knows) (lang : Lang) (tree : Node) (rules : List Rule) (known other : List Known) → AreWanted knows lang tree rules known → AreWanted knows lang tree rules other → other ≡ known
wanted_once knows lang tree rules known other (inl (uses, just)) (inl (again, also)) = just.only other also.are
wanted_once knows lang tree rules known other (inl (uses, just)) (inr (none, e)) = absurd (none uses)
wanted_once knows lang tree rules known other (inr (none, e)) (inl (uses, just)) = absurd (none uses)
wanted_once knows lang tree rules known other (inr (none, e)) (inr (also, f)) = f ∙ sym e

-- they are none, or all that are known
pub wanted_own : (knows : Knows) (rules : List Rule) (view : FileView) → AreWanted knows view.lang view.tree rules view.known → HasNoneOrAll knows view
wanted_own knows rules view (inl (uses, just)) = inr just
wanted_own knows rules view (inr (none, e)) = inl e

module _ (knows : Knows) (lang : Lang) (tree : Node) (known : List Known) where
  -- by names that serve it a pattern has its own members
  pub leaf_served : (p : Pattern) → Serves knows lang tree known p → (leaf : Leaf) → named_leaf known lang tree p leaf ↔ own_leaf knows lang tree p leaf
  leaf_served p (inl just) leaf = (
    λ h. inl (known, just.are, h),
    λ own. elim own [
      | inl k ↦ (let P : List Known → Type 0 = λ ks. named_leaf ks lang tree p leaf in subst P (just.only k.0 k.1) k.2)
      | inr all ↦ all known
    ],
  )
  leaf_served p (inr free) leaf = (λ h. inr (λ other. free known other leaf h), λ own. elim own [ inl k ↦ free k.0 known leaf k.2 | inr all ↦ all known ])

  leaves_served : (ps : List Pattern) → ((p : Pattern) → Among ps p → Serves knows lang tree known p) → (leaves : List Leaf) → AreLeaves (named_leaf known lang) tree ps leaves ↔ AreLeaves (own_leaf knows lang) tree ps leaves
  leaves_served [] serves leaves = (λ h. h, λ h. h)
  leaves_served (p ∷ ps) serves leaves =
      let one = leaf_served p (serves p (inl refl)) in
      let rest = leaves_served ps (λ q a. serves q (inr a)) in (
        λ h. (h.0, (one h.0).0 h.1, (h.2.0, (rest h.2.0).0 h.2.1, h.2.2)),
        λ h. (h.0, (one h.0).1 h.1, (h.2.0, (rest h.2.0).1 h.2.1, h.2.2)),
      )

  -- ---- the rules

  module _ (rules : List Rule) (serves : ServesRules knows lang tree known rules) where
    part_served : (rule : Rule) → Among rules rule → (part : Part) → Among rule.parts part → LooksAt part lang → (leaves : List Leaf) → AreLeaves (named_leaf known lang) tree part.patterns leaves ↔ AreLeaves (own_leaf knows lang) tree part.patterns leaves
    part_served rule runs part has looks = leaves_served part.patterns (λ p a. elim serves [ inl just ↦ inl just | inr free ↦ inr (free rule runs part has looks p a) ])

    finds_served : (path text : List ℕ) (rule : Rule) (outcome : Outcome) → Among rules rule → RuleFinds (named_leaf known) path lang text tree rule outcome ↔ RuleFinds (own_leaf knows) path lang text tree rule outcome
    finds_served path text rule outcome runs = (
      λ f. record { allows = f.allows; part = f.part; has = f.has; looks = f.looks; finds = (f.finds.0, (part_served rule runs f.part f.has f.looks f.finds.0).0 f.finds.1, f.finds.2) },
      λ f. record { allows = f.allows; part = f.part; has = f.has; looks = f.looks; finds = (f.finds.0, (part_served rule runs f.part f.has f.looks f.finds.0).1 f.finds.1, f.finds.2) },
    )

    found_served : (path text : List ℕ) (r : Reported) → IsFoundIn (named_leaf known) rules path lang text tree r ↔ IsFoundIn (own_leaf knows) rules path lang text tree r
    found_served path text r = (
      λ f. record { rule = f.rule; runs = f.runs; outcome = f.outcome; finds = (finds_served path text f.rule f.outcome f.runs).0 f.finds; finding = f.finding; found = f.found; is = f.is },
      λ f. record { rule = f.rule; runs = f.runs; outcome = f.outcome; finds = (finds_served path text f.rule f.outcome f.runs).1 f.finds; finding = f.finding; found = f.found; is = f.is },
    )

    -- ---- traces

    module _ (text : List ℕ) (rule : Rule) (runs : Among rules rule) (finding : Finding) where
      has_served : (part : Part) → Among rule.parts part → LooksAt part lang → PartHas (named_leaf known lang) rule.texts text tree part finding ↔ PartHas (own_leaf knows lang) rule.texts text tree part finding
      has_served part has looks = (
        λ h. (h.0, (h.1.0, (part_served rule runs part has looks h.1.0).0 h.1.1, h.1.2), h.2),
        λ h. (h.0, (h.1.0, (part_served rule runs part has looks h.1.0).1 h.1.1, h.1.2), h.2),
      )

      path_served : (part : Part) (path : List Point) → Among rule.parts part → LooksAt part lang → IsPartTrace (named_leaf known lang) rule.texts text tree part finding path ↔ IsPartTrace (own_leaf knows lang) rule.texts text tree part finding path
      path_served part path has looks = (
        λ t. record { leaves = t.leaves; are = (part_served rule runs part has looks t.leaves).0 t.are; rule = t.rule; follows = t.follows; trace = t.trace },
        λ t. record { leaves = t.leaves; are = (part_served rule runs part has looks t.leaves).1 t.are; rule = t.rule; follows = t.follows; trace = t.trace },
      )

      here : (before after : List Part) (part : Part) → rule.parts ≡ before ++ part ∷ after → Among rule.parts part
      here before after part e = let P : List Part → Type 0 = λ ps. Among ps part in subst P (sym e) (among_right before (part ∷ after) part (inl refl))

      earlier : (before after : List Part) (part other : Part) → rule.parts ≡ before ++ part ∷ after → Among before other → Among rule.parts other
      earlier before after part other e a = let P : List Part → Type 0 = λ ps. Among ps other in subst P (sym e) (among_left before (part ∷ after) other a)

      rule_served : (path : List Point) → IsRuleTrace (named_leaf known) lang text tree rule finding path ↔ IsRuleTrace (own_leaf knows) lang text tree rule finding path
      rule_served path = (
        λ t. record {
          before = t.before;
          part = t.part;
          after = t.after;
          parts_are = t.parts_are;
          looks = t.looks;
          has = (has_served t.part (here t.before t.after t.part t.parts_are) t.looks).0 t.has;
          first = λ other a looks h. t.first other a looks ((has_served other (earlier t.before t.after t.part other t.parts_are a) looks).1 h);
          trace = (path_served t.part path (here t.before t.after t.part t.parts_are) t.looks).0 t.trace;
        },
        λ t. record {
          before = t.before;
          part = t.part;
          after = t.after;
          parts_are = t.parts_are;
          looks = t.looks;
          has = (has_served t.part (here t.before t.after t.part t.parts_are) t.looks).1 t.has;
          first = λ other a looks h. t.first other a looks ((has_served other (earlier t.before t.after t.part other t.parts_are a) looks).0 h);
          trace = (path_served t.part path (here t.before t.after t.part t.parts_are) t.looks).1 t.trace;
        },
      )

    trace_served : (traced : Bool) (text : List ℕ) (bare r : Reported) → HasTrace traced (named_leaf known) rules lang text tree bare r ↔ HasTrace traced (own_leaf knows) rules lang text tree bare r
    trace_served false text bare r = (λ h. h, λ h. h)
    trace_served true text bare r = (
      λ h. elim h [
        | inl none ↦ inl none
        | inr t ↦ inr (record { comes = t.comes; rule = t.rule; runs = t.runs; id_is = t.id_is; path = t.path; by_rule = (rule_served text t.rule t.runs bare.finding t.path).0 t.by_rule; is = t.is })
      ],
      λ h. elim h [
        | inl none ↦ inl none
        | inr t ↦ inr (record { comes = t.comes; rule = t.rule; runs = t.runs; id_is = t.id_is; path = t.path; by_rule = (rule_served text t.rule t.runs bare.finding t.path).1 t.by_rule; is = t.is })
      ],
    )

    pub shown_served : (comments : Comments) (traced : Bool) (path text : List ℕ) (rs : List Reported) → IsExactly reported_cmp (IsShownIn (named_leaf known) comments traced rules path lang text tree) rs → IsExactly reported_cmp (IsShownIn (own_leaf knows) comments traced rules path lang text tree) rs
    shown_served comments traced path text rs h = record {
      exact = λ r. (
        λ a. let s = (h.exact r).0 a in record { bare = s.bare; is_found = (found_served path text s.bare).0 s.is_found; not_quieted = s.not_quieted; trace = (trace_served traced text s.bare r).0 s.trace },
        λ s. (h.exact r).1 (record { bare = s.bare; is_found = (found_served path text s.bare).1 s.is_found; not_quieted = s.not_quieted; trace = (trace_served traced text s.bare r).1 s.trace }),
      );
      ordered = h.ordered;
    }

    pub noted_served : (path text : List ℕ) (old new : List Notice) → Adds old new (IsNotedIn (named_leaf known) rules path lang text tree) → Adds old new (IsNotedIn (own_leaf knows) rules path lang text tree)
    noted_served path text old new adds = adds_as old new (IsNotedIn (named_leaf known) rules path lang text tree) (IsNotedIn (own_leaf knows) rules path lang text tree) adds (λ n. (
      λ f. record { rule = f.rule; runs = f.runs; outcome = f.outcome; finds = (finds_served path text f.rule f.outcome f.runs).0 f.finds; told = f.told },
      λ f. record { rule = f.rule; runs = f.runs; outcome = f.outcome; finds = (finds_served path text f.rule f.outcome f.runs).1 f.finds; told = f.told },
    ))

-- ---- answers

pub if_ok_map : {A E : Type 0} (P Q : A → Type 0) (r : Result A E) → ((a : A) → P a → Q a) → IfOk r P → IfOk r Q
if_ok_map P Q (Ok a) f h = f a h
if_ok_map P Q (Err e) f h = tt
