use Rattle.std.proofs.Common.{◌+◌, drop, subst, arith, sym}
use Rattle.rule_form.specs.declared.rule.TaintRule.{TaintRule}
use Rattle.rule_entries.specs.declared.found.Found.{Found}
use Rattle.std.proofs.lemmas.Result.{err_from_is_err_and}
use Rattle.rule_entries.specs.Bodies.{IsFormulaOf}
use Rattle.rule_entries.proofs.Lists.{Left, lists_end, passed, list_goes, list_stops}
use Rattle.rule_entries.proofs.body.taint.Goals as goal
use Rattle.rule_entries.proofs.body.taint.Goals.{in-Some+in_ok-rule-in-Some, in-None}

pub returns-in_err-rule-in-Some : goal.returns-in_err-rule-in-Some
returns-in_err-rule-in-Some g c =
    let inner = IsFormulaOf (g.R.PatternReader.writes c.args.reader.now) c.args.setting in
    let p = err_from_is_err_and c.from_residual.result c.from_residual.ensures.1 in
    rw (p.1, p.2)
    (list_stops inner c.args.entries.now c.args.found.now c.loop-entry.rule c.loop-entry.entry-index c.loop-entry.found c.loop-entry.invariant c.entry-item.result (omega (arith, c.loop-entry-test.true)) c.entry-item.is c.in-Some.key (sym c.in-Some.ensures) c.in_err-rule-in-Some.field-0.0 c.added.new.found c.added.new.found c.in_err-rule-in-Some.ensures)

pub loop-entry-preserved : goal.loop-entry-preserved
loop-entry-preserved g c =
    let inner = IsFormulaOf (g.R.PatternReader.writes c.args.reader.now) c.args.setting in
    let P : TaintRule → Found → Type 0 = λ rule s. Left inner c.args.entries.now c.args.found.now rule (drop (c.loop-entry.entry-index + 1) c.args.entries.now) s in
    elim c.match-key_of.branch [
      | in-Some+in_ok-rule-in-Some w ↦
          let next = list_goes inner c.args.entries.now c.args.found.now c.loop-entry.rule c.loop-entry.entry-index c.loop-entry.found c.loop-entry.invariant c.entry-item.result (omega (arith, c.loop-entry-test.true)) c.entry-item.is w.in-Some.key (sym w.in-Some.ensures) w.in_ok-rule-in-Some.rule w.added.new.found w.in_ok-rule-in-Some.ensures in
          subst (λ (s : Found). P c.match-key_of.rule s) (sym w.found-is) (subst (λ (rule : TaintRule). P rule w.added.new.found) (sym w.rule-is) next)
      | in-None w ↦
          let next = passed inner c.args.entries.now c.args.found.now c.loop-entry.rule c.loop-entry.entry-index c.loop-entry.found c.loop-entry.invariant c.entry-item.result (omega (arith, c.loop-entry-test.true)) c.entry-item.is (sym w.in-None.ensures) in
          subst (λ (s : Found). P c.match-key_of.rule s) (sym w.found-is) (subst (λ (rule : TaintRule). P rule c.loop-entry.found) (sym w.rule-is) next)
    ]

pub returns : goal.returns
returns g c =
    let inner = IsFormulaOf (g.R.PatternReader.writes c.args.reader.now) c.args.setting in
    lists_end inner c.args.entries.now c.args.found.now c.loop-entry.rule c.loop-entry.entry-index c.loop-entry.found c.loop-entry.invariant c.loop-entry-test.false
