use Rattle.std.proofs.Common.{◌≡◌, ℕ, ◌-◌, Bool, true, false, cond, List, nat_cmp, sym, ap, ◌∙◌, arith}
use Rattle.std.specs.Borrow.{Bor}
use Rattle.std.specs.Ordering.{is_eq}
use Rattle.std.specs.BTreeSet.{contains}
use Rattle.std.specs.Cmp.Lexicographic.{slice_cmp}
use Rattle.rule_keys.proofs.Distinct.{not_false, not_true, twice, once, among}
use Rattle.rule_keys.proofs.head.are_distinct.Goals as goal

pub returns-then-not-branch : goal.returns-then-not-branch
returns-then-not-branch c =
    let found : contains (λ (x y : Bor (List ℕ)). slice_cmp nat_cmp x.now y.now) c.items.seen c.named.result ≡ true = not_false _ (sym c.in_ok-insert.ensures.added ∙ c.if-not-branch.true) in
    sym
    (twice c.args.items.now (c.items.at - 1) c.items.at c.index-items-at.result c.named.result.now (omega (arith, c.items-test.true)) (omega (arith, c.items-test.true, c.items.invariant.place)) c.index-items-at.is c.named.ensures
    (sym (c.items.invariant.seen c.named.result) ∙ found))

pub items-preserved : goal.items-preserved
items-preserved c =
    let absent : contains (λ (x y : Bor (List ℕ)). slice_cmp nat_cmp x.now y.now) c.items.seen c.named.result ≡ false = not_true _ (sym c.in_ok-insert.ensures.added ∙ c.if-not-branch.false) in
    record {
      place = omega (arith, c.items.invariant.place);
      apart = once c.args.items.now (c.items.at - 1) c.items.at c.index-items-at.result c.named.result.now (omega (arith, c.items-test.true)) (omega (arith, c.items-test.true, c.items.invariant.place)) c.index-items-at.is c.named.ensures
          (sym (c.items.invariant.seen c.named.result) ∙ absent) c.items.invariant.apart;
      seen = λ key. c.in_ok-insert.ensures.updates.0 key
          ∙ ap (λ (b : Bool). cond (is_eq (slice_cmp nat_cmp c.named.result.now key.now)) true b) (c.items.invariant.seen key)
          ∙ among c.args.items.now (c.items.at - 1) c.items.at c.index-items-at.result c.named.result.now (omega (arith, c.items-test.true)) (omega (arith, c.items-test.true, c.items.invariant.place)) c.index-items-at.is c.named.ensures key.now;
    }
