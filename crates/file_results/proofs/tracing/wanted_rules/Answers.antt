use Rattle.std.proofs.Common.{◌≡◌, ◌+◌, ℕ, true, false, cond, refl, sym, ap, ◌∙◌, subst, drop}
use Rattle.std.specs.Prelude.{is_some}
use Rattle.std.specs.Ordering.{is_eq, nat_cmp}
use Rattle.std.specs.BTreeSet.{BTreeSet, contains}
use Rattle.std.proofs.lemmas.List.{drop_all}
use Rattle.meta_bind.specs.declared.finding.Finding.{Finding}
use Rattle.meta_bind.proofs.Lookups.{opened}
use Rattle.file_results.proofs.Followed.{WantedLeads, wanted_start, wanted_on, wanted_past, wanted_end}
use Rattle.file_results.proofs.tracing.wanted_rules.Goals.{then-is_some+in_ok-insert, else-is_some}
use Rattle.file_results.proofs.tracing.wanted_rules.Goals as goal

pub loop-row-init : goal.loop-row-init
loop-row-init c = let hs = c.args.rows.now in wanted_start hs (drop 0 hs) c.new-wanted.result c.new-wanted.ensures.empty refl

pub loop-row-preserved : goal.loop-row-preserved
loop-row-preserved c =
    let hs = c.args.rows.now in
    let i = c.loop-row.row-index in
    let h = c.row-item.result in
    let opens = opened hs i h c.loop-row-test.true c.row-item.is in
    let source : c.is_some.result ≡ is_some h.finding.source = c.is_some.ensures ∙ ap (λ (f : Finding). is_some f.source) c.finding.ensures in
    let P : BTreeSet ℕ → Type 0 = λ set. WantedLeads hs set (drop (i + 1) hs) in
    elim c.if-is_some.branch [
      | then-is_some+in_ok-insert w ↦ subst P (sym w.wanted-is) (wanted_on hs c.loop-row.wanted w.insert.new.self (drop i hs) (drop (i + 1) hs) h c.loop-row.invariant opens (sym source ∙ w.if-is_some.true)
          (λ q. w.in_ok-insert.ensures.updates.0 q ∙ ap (λ (n : ℕ). cond (is_eq (nat_cmp n q)) true (contains nat_cmp c.loop-row.wanted q)) w.number.ensures))
      | else-is_some w ↦ subst P (sym w.wanted-is) (wanted_past hs c.loop-row.wanted (drop i hs) (drop (i + 1) hs) h c.loop-row.invariant opens (λ comes. let e : true ≡ false = sym comes ∙ sym source ∙ w.if-is_some.false in absurd cc))
    ]

pub returns : goal.returns
returns c = let hs = c.args.rows.now in let i = c.loop-row.row-index in wanted_end hs c.loop-row.wanted (drop i hs) c.loop-row.invariant (drop_all i hs c.loop-row-test.false)
