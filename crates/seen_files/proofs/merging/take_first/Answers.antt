use Rattle.std.proofs.Common.{◌≡◌, ◌⊎◌, sym, ◌∙◌, inl, inr}
use Rattle.std.specs.declared.cmp.Ordering.{Ordering}
use Rattle.std.specs.declared.cmp.Ordering.TheVariants.{Less, Equal, Greater}
use Rattle.file_results.specs.Reports.{reported_cmp}
use Rattle.seen_files.proofs.Merges.{takes_any, takes_other, takes_first, takes_second, shorter_any, shorter_other, shorter_first, shorter_second}
use Rattle.seen_files.proofs.merging.take_first.Goals as goal

-- less or equal isn't greater
not_after : (o p : Ordering) → o ≡ p → (o ≡ Less) ⊎ (o ≡ Equal) → p ≡ Greater → ⊥
not_after Less p e h f = let g : Less ≡ Greater = e ∙ f in absurd cc
not_after Equal p e h f = let g : Equal ≡ Greater = e ∙ f in absurd cc
not_after Greater p e (inl h) f = absurd cc
not_after Greater p e (inr h) f = absurd cc

pub returns-in_default-clause-taken : goal.returns-in_default-clause-taken
returns-in_default-clause-taken c = takes_any reported_cmp c.args.first.now c.args.second.now c.pop-in_default.new.self c.pop.new.self c.pop-in_default.result c.pop-in_default.ensures c.in_default.ensures.0 c.in_default.ensures.1

pub returns-in_default-clause-shorter : goal.returns-in_default-clause-shorter
returns-in_default-clause-shorter c = shorter_any reported_cmp c.args.first.now c.args.second.now c.pop-in_default.new.self c.pop.new.self c.pop-in_default.result c.pop-in_default.ensures c.in_default.ensures.0 c.in_default.ensures.1

pub returns-in_default-pop-clause-taken : goal.returns-in_default-pop-clause-taken
returns-in_default-pop-clause-taken c rest = takes_other reported_cmp c.args.first.now c.args.second.now c.pop-2.new.self c.pop.new.self c.in-Some.other rest c.in_default-pop.ensures.0 c.in_default-pop.ensures.1 c.in-Some.ensures

pub returns-in_default-pop-clause-shorter : goal.returns-in_default-pop-clause-shorter
returns-in_default-pop-clause-shorter c = shorter_other reported_cmp c.args.first.now c.args.second.now c.pop-2.new.self c.pop.new.self c.in-Some.other c.in_default-pop.ensures.0 c.in_default-pop.ensures.1 c.in-Some.ensures

pub returns-in_ok-push-in-Greater-clause-taken : goal.returns-in_ok-push-in-Greater-clause-taken
returns-in_ok-push-in-Greater-clause-taken c rest =
    takes_second reported_cmp c.args.first.now c.args.second.now c.pop-2.new.self c.push.new.self c.pop.new.self c.in-Some-pop.one c.in-Some.other rest c.in-Some-pop.ensures c.in_ok-push-in-Greater.ensures.ok c.in-Some.ensures
    (sym c.in_ok-order_results.ensures ∙ c.in-Greater.is)

pub returns-in_ok-push-in-Greater-clause-shorter : goal.returns-in_ok-push-in-Greater-clause-shorter
returns-in_ok-push-in-Greater-clause-shorter c =
    shorter_second reported_cmp c.args.first.now c.args.second.now c.pop-2.new.self c.push.new.self c.pop.new.self c.in-Some-pop.one c.in-Some.other c.in-Some-pop.ensures c.in_ok-push-in-Greater.ensures.ok c.in-Some.ensures

pub returns-in_ok-push-in-Less-clause-taken : goal.returns-in_ok-push-in-Less-clause-taken
returns-in_ok-push-in-Less-clause-taken c rest =
    takes_first reported_cmp c.args.first.now c.args.second.now c.pop-2.new.self c.pop.new.self c.push-in-Less.new.self c.in-Some-pop.one c.in-Some.other rest c.in-Some-pop.ensures c.in-Some.ensures c.in_ok-push-in-Less.ensures.ok
    (not_after c.in_ok-order_results.field-0 _ c.in_ok-order_results.ensures c.in-Less.is)

pub returns-in_ok-push-in-Less-clause-shorter : goal.returns-in_ok-push-in-Less-clause-shorter
returns-in_ok-push-in-Less-clause-shorter c =
    shorter_first reported_cmp c.args.first.now c.args.second.now c.pop-2.new.self c.pop.new.self c.push-in-Less.new.self c.in-Some-pop.one c.in-Some.other c.in-Some-pop.ensures c.in-Some.ensures c.in_ok-push-in-Less.ensures.ok
