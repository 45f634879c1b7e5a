use Rattle.std.proofs.Common.{ap, ◌∙◌}
use Rattle.std.proofs.lemmas.Result.{IfOk-weaker}
use Rattle.range_algebra.specs.Regexes.{matches_bound}
use Rattle.range_algebra.specs.Trees.{branch_of}
use Rattle.range_algebra.proofs.Layers.{branch_not, branch_notinside, branch_notregex, branch_metaregex, branch_metapattern, branch_metacompare}
use Rattle.range_algebra.proofs.Allowing.{ordered_without, ordered_outside, ordered_matches, says_without, says_outside, says_matches, says_regex, says_pattern, says_compare, says_other}
use Rattle.range_algebra.proofs.condition.allows_by.Goals as goal

pub has_equal-requires : goal.has_equal-requires
has_equal-requires c = record { ordered = ordered_without c.args.scene.rx.now c.args.scene.view.now.bytes c.args.members.now c.args.one.now _ _ (ap branch_of c.in-Not.is ∙ branch_not _) c.requires.ordered }

pub returns-in-Not : goal.returns-in-Not
returns-in-Not c = says_without _ _ _ _ _ _ _ (ap branch_of c.in-Not.is ∙ branch_not _) c.has_equal.ensures

pub has_around-requires : goal.has_around-requires
has_around-requires c = record { ordered = ordered_outside c.args.scene.rx.now c.args.scene.view.now.bytes c.args.members.now c.args.one.now _ _ (ap branch_of c.in-NotInside.is ∙ branch_notinside _) c.requires.ordered }

pub returns-in-NotInside : goal.returns-in-NotInside
returns-in-NotInside c = says_outside _ _ _ _ _ _ _ (ap branch_of c.in-NotInside.is ∙ branch_notinside _) c.has_around.ensures

pub shares-requires : goal.shares-requires
shares-requires c = record { apart = ordered_matches c.args.scene.rx.now c.args.scene.view.now.bytes c.args.members.now c.args.one.now _ _ (ap branch_of c.in-NotRegex.is ∙ branch_notregex _) c.requires.ordered }

pub returns-in-NotRegex : goal.returns-in-NotRegex
returns-in-NotRegex c = says_matches _ _ _ _ _ _ _ (ap branch_of c.in-NotRegex.is ∙ branch_notregex _) c.shares.ensures

pub returns-in-MetaRegex : goal.returns-in-MetaRegex
returns-in-MetaRegex c = IfOk-weaker c.matches_bound.result _ _ (λ y e. says_regex _ _ _ _ _ _ _ y (ap branch_of c.in-MetaRegex.is ∙ branch_metaregex _ _) (e ∙ ap (λ n. matches_bound c.args.scene.rx.now c.args.scene.view.now.bytes c.in-MetaRegex.number n c.args.one.now.1) c.as_str.ensures)) c.matches_bound.ensures

pub returns-in-MetaPattern : goal.returns-in-MetaPattern
returns-in-MetaPattern c = says_pattern _ _ _ _ _ _ _ (ap branch_of c.in-MetaPattern.is ∙ branch_metapattern _ _)

pub returns-in_ok-keep-in-MetaCompare : goal.returns-in_ok-keep-in-MetaCompare
returns-in_ok-keep-in-MetaCompare c = says_compare _ _ _ _ _ _ _ (ap branch_of c.in-MetaCompare.is ∙ branch_metacompare _) (let e = c.in_ok-keep-in-MetaCompare.ensures in let h = c.holds_comparison-in-MetaCompare.ensures in cc)

pub returns-in_default : goal.returns-in_default
returns-in_default c = says_other _ _ _ _ _ c.in_default.not-Not c.in_default.not-NotInside c.in_default.not-NotRegex c.in_default.not-MetaRegex c.in_default.not-MetaCompare c.in_default.not-MetaPattern
