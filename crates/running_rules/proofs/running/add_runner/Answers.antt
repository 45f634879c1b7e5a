use Rattle.std.proofs.Common.{ℕ, List, sym, ◌∙◌, subst}
use Rattle.decided_texts.specs.Decided.{AreDecided}
use Rattle.decided_texts.proofs.Reading.{are_those}
use Rattle.running_rules.proofs.running.add_runner.Goals as goal

pub of-requires : goal.of-requires
of-requires c =
    let P : List (List ℕ) → Type 0 = AreDecided c.args.decided.now in
    are_those c.as_slice.result.now c.in-Some.rx c.in_ok-rx.field-0 _ c.in-Some.is (c.in_ok-rx.ensures (subst P (sym c.as_slice.ensures) c.requires)) ∙ c.as_slice.ensures
