use Rattle.std.proofs.Common.{◌<◌, length, refl, sym, ◌∙◌, subst, arith}
use Rattle.std.proofs.lemmas.Bool.Decides.{nat_tests}
use Rattle.sorted_sets.specs.Ends.{EndsWith}
use Rattle.sorted_sets.proofs.Settling.{one_last, ends_at, no_end, tied}
use Rattle.sorted_sets.proofs.order.is_last.Goals as goal

pub returns-then-is_empty : goal.returns-then-is_empty
returns-then-is_empty g c = (λ h. absurd cc, λ h. absurd (no_end _ _ (let e = sym c.is_empty.ensures ∙ c.if-is_empty.true in grind (arith, nat_tests)) h))

pub returns-in-Equal : goal.returns-in-Equal
returns-in-Equal g c =
    let e = g.met.T.Ordered.apart _ _ (sym c.order.ensures ∙ c.in-Equal.is) in
    let some : 0 < length c.args.items.now = let f = sym c.is_empty.ensures ∙ c.if-is_empty.false in grind (arith, nat_tests) in
    (λ _. (let P : _ → Type 0 = EndsWith c.args.items.now in subst P e (ends_at _ _ some c.index-items-items.is)), λ _. refl)

pub returns-in-Less : goal.returns-in-Less
returns-in-Less g c =
    let some : 0 < length c.args.items.now = let f = sym c.is_empty.ensures ∙ c.if-is_empty.false in grind (arith, nat_tests) in (
      λ h. absurd cc,
      λ h. absurd (
          let same = one_last _ _ _ (ends_at _ _ some c.index-items-items.is) h in
          let e = sym c.in-Less.is ∙ c.order.ensures ∙ tied g.T.Ordered.before g.met.T.Ordered.total g.met.T.Ordered.apart _ _ same in cc),
    )

pub returns-in-Greater : goal.returns-in-Greater
returns-in-Greater g c =
    let some : 0 < length c.args.items.now = let f = sym c.is_empty.ensures ∙ c.if-is_empty.false in grind (arith, nat_tests) in (
      λ h. absurd cc,
      λ h. absurd (
          let same = one_last _ _ _ (ends_at _ _ some c.index-items-items.is) h in
          let e = sym c.in-Greater.is ∙ c.order.ensures ∙ tied g.T.Ordered.before g.met.T.Ordered.total g.met.T.Ordered.apart _ _ same in cc),
    )
