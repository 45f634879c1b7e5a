use Rattle.std.proofs.Common.{◌↔◌, ℕ, List, ◌∷◌, [], false, ◌+◌, take, get_or, subst}
use Rattle.std.proofs.lemmas.List.{take_all}
use Rattle.graph_form.specs.Sets.{Among}
use Rattle.graph_form.proofs.Amongs.{among_more}
use Rattle.taint_form.specs.declared.origins.Aim.{Aim}
use Rattle.taint_form.specs.Origins.{Comes, ComesAny, AfterOne}
use Rattle.taint_form.proofs.Maps.{after_more, after_as}
use Rattle.taint_form.proofs.origins.Origins.assign.Goals as goal

abbrev none : Aim
none = record { fact = 0; renewed = false }

pub returns-clause-after : goal.returns-clause-after
returns-clause-after c from to =
    let before = Comes c.args.self.now in
    let P : List Aim → Type 0 = λ xs. Comes c.loop-aim.self from to ↔ AfterOne (Among c.in_ok-value.value.items) before xs from to in
    let done = subst P (take_all c.loop-aim.aim-index c.args.aims.now c.loop-aim-test.false) (c.loop-aim.invariant.after from to) in
    let same = after_as (Among c.in_ok-value.value.items) before (ComesAny before c.args.facts.now) c.in_ok-value.ensures c.args.aims.now from to in
    (λ h. same.0 (done.0 h), λ h. done.1 (same.1 h))

pub loop-aim-preserved : goal.loop-aim-preserved
loop-aim-preserved c =
    let aims = c.args.aims.now in
    let aim : Aim = get_or aims c.loop-aim.aim-index none in
    let Q : List ℕ → Type 0 = λ vs. (from to : ℕ) → Comes c.assign_one.new.self from to ↔ AfterOne (Among vs) (Comes c.loop-aim.self) (aim ∷ []) from to in
    record {
      listed = c.in_ok-assign_one.ensures.listed;
      after = after_more (Among c.in_ok-value.value.items) (Comes c.args.self.now) (Comes c.loop-aim.self) (Comes c.assign_one.new.self) (take c.loop-aim.aim-index aims) (take (c.loop-aim.aim-index + 1) aims) aim
          (among_more aims c.loop-aim.aim-index none c.loop-aim-test.true) c.loop-aim.invariant.after (subst Q c.deref.ensures.value c.in_ok-assign_one.ensures.after);
    }
