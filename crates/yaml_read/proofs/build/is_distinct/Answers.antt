use Rattle.std.proofs.Common.{◌≡◌, ℕ, ◌-◌, Bool, true, false, cond, List, nat_cmp, sym, ap, ◌∙◌, arith}
use Rattle.std.specs.Borrow.{Bor}
use Rattle.std.specs.Ordering.{is_eq}
use Rattle.std.specs.BTreeSet.{contains}
use Rattle.std.specs.Cmp.Lexicographic.{slice_cmp}
use Rattle.yaml_read.proofs.Distinct.{not_false, not_true, twice, once, among}
use Rattle.yaml_read.proofs.build.is_distinct.Goals as goal

pub returns-then-not-branch : goal.returns-then-not-branch
returns-then-not-branch c =
    let found : contains (λ (x y : Bor (List ℕ)). slice_cmp nat_cmp x.now y.now) c.entries.seen c.as_str.result ≡ true = not_false _ (sym c.in_ok-insert.ensures.added ∙ c.if-not-branch.true) in
    sym
    (twice c.args.entries.now (c.entries.at - 1) c.entries.at c.index-entries-at.result c.as_str.result.now (omega (arith, c.entries-test.true)) (omega (arith, c.entries-test.true, c.entries.invariant.place)) c.index-entries-at.is c.as_str.ensures
    (sym (c.entries.invariant.seen c.as_str.result) ∙ found))

pub entries-preserved : goal.entries-preserved
entries-preserved c =
    let absent : contains (λ (x y : Bor (List ℕ)). slice_cmp nat_cmp x.now y.now) c.entries.seen c.as_str.result ≡ false = not_true _ (sym c.in_ok-insert.ensures.added ∙ c.if-not-branch.false) in
    record {
      place = omega (arith, c.entries.invariant.place);
      apart = once c.args.entries.now (c.entries.at - 1) c.entries.at c.index-entries-at.result c.as_str.result.now (omega (arith, c.entries-test.true)) (omega (arith, c.entries-test.true, c.entries.invariant.place)) c.index-entries-at.is c.as_str.ensures
          (sym (c.entries.invariant.seen c.as_str.result) ∙ absent) c.entries.invariant.apart;
      seen = λ key. c.in_ok-insert.ensures.updates.0 key
          ∙ ap (λ (b : Bool). cond (is_eq (slice_cmp nat_cmp c.as_str.result.now key.now)) true b) (c.entries.invariant.seen key)
          ∙ among c.args.entries.now (c.entries.at - 1) c.entries.at c.index-entries-at.result c.as_str.result.now (omega (arith, c.entries-test.true)) (omega (arith, c.entries-test.true, c.entries.invariant.place)) c.index-entries-at.is c.as_str.ensures key.now;
    }
