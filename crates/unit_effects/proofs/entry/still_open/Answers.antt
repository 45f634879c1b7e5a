use Rattle.std.proofs.Common.{◌≡◌, length, ap, ◌∙◌, arith}
use Rattle.std.specs.List.{list_any}
use Rattle.std.specs.Prelude.{◌||◌, ◌&&◌, nat_lt}
use Rattle.unit_effects.proofs.Lists.{moved, dropped, left_over, and_true, and_false}
use Rattle.std.proofs.Common.{true, false}
use Rattle.std.proofs.lemmas.Bool.Decides.{nat_tests}
use Rattle.unit_effects.specs.declared.entry.Function.{Function}
use Rattle.unit_effects.specs.Functions.{all_functions}
use Rattle.unit_effects.proofs.entry.still_open.Goals as goal

pub loop-function-init : goal.loop-function-init
loop-function-init c = λ test. ap (λ fs. list_any test (all_functions fs) || list_any (λ f. nat_lt c.args.at f.0 && test f) (all_functions c.args.functions.now.items)) c.new-left.ensures.items

pub loop-function-preserved : goal.loop-function-preserved
loop-function-preserved c = λ test.
    let past : nat_lt c.args.at c.in-Some.function.end ≡ false = grind (arith, nat_tests) in
    dropped (λ (f : Function). (f.end, f.own)) test (λ f. nat_lt c.args.at f.0 && test f) c.loop-function.functions.items c.pop.new.self.items c.loop-function.left.items c.in-Some.function c.in-Some.ensures.items
    (and_false (nat_lt c.args.at c.in-Some.function.end) (test (c.in-Some.function.end, c.in-Some.function.own)) past) ∙ c.loop-function.invariant test

pub loop-function-preserved-in-Continue-1 : goal.loop-function-preserved-in-Continue-1
loop-function-preserved-in-Continue-1 c = λ test.
    let on : nat_lt c.args.at c.in-Some.function.end ≡ true = grind (arith, nat_tests) in
    ap (λ fs. list_any test (all_functions fs) || list_any (λ f. nat_lt c.args.at f.0 && test f) (all_functions c.pop.new.self.items)) c.in_ok-push.ensures.items
    ∙ moved (λ (f : Function). (f.end, f.own)) test (λ f. nat_lt c.args.at f.0 && test f) c.loop-function.functions.items c.pop.new.self.items c.loop-function.left.items c.in-Some.function c.in-Some.ensures.items
    (and_true (nat_lt c.args.at c.in-Some.function.end) (test (c.in-Some.function.end, c.in-Some.function.own)) on) ∙ c.loop-function.invariant test

pub returns : goal.returns
returns c = λ test.
    let none : length c.loop-function.functions.items ≡ 0 = omega (arith, c.loop-function.functions.ok, c.in_default.ensures.cases.0) in
    left_over (λ (f : Function). (f.end, f.own)) test (λ f. nat_lt c.args.at f.0 && test f) c.loop-function.functions.items c.loop-function.left.items none ∙ c.loop-function.invariant test
