use Rattle.std.proofs.Common.{◌↔◌, ◌⊎◌, ◌≡◌, ℕ, List, Contains, sym, ap, ◌∙◌, subst}
use Rattle.std.specs.List.{insert}
use Rattle.scan_world.proofs.Ascents.{inserted}
use Rattle.scan_world.proofs.paths.put_path.Goals as goal

pub returns-in_ok-insert-clause-added : goal.returns-in_ok-insert-clause-added
returns-in_ok-insert-clause-added c other =
    let P : List (List ℕ) → Type 0 = λ xs. Contains xs other ↔ (Contains c.args.paths.now other ⊎ (c.args.path.now ≡ other)) in
    let whole = c.in_ok-insert.ensures.ok ∙ ap (λ (t : List ℕ). insert c.args.paths.now c.in-Some.at t) c.in_ok-text.ensures in
    subst P (sym whole) (inserted c.args.paths.now c.in-Some.at c.args.path.now other)
