use Rattle.std.proofs.Common.{◌+◌, List, drop, get_or, sym, subst}
use Rattle.std.proofs.lemmas.Result.{err_from_is_err_and}
use Rattle.node_tree.specs.declared.view.Lang.TheVariants.{Json}
use Rattle.rule_form.specs.declared.rule.Part.{Part}
use Rattle.rule_entries.specs.Bodies.{IsPart, setting_of}
use Rattle.rule_entries.proofs.Laws.{Rest, turn_goes, turn_stops, turns_end, item_is}
use Rattle.rule_entries.proofs.body.parts.Goals as goal

pub returns-in_err-part : goal.returns-in_err-part
returns-in_err-part g c =
    let writes = g.R.PatternReader.writes c.args.reader.now in
    let p = err_from_is_err_and c.from_residual.result c.from_residual.ensures.1 in
    rw (p.1, p.2)
    (turn_stops (λ k lang. IsPart writes (setting_of c.args.constants lang) c.args.mode c.args.entries.now) c.args.langs.now c.args.found.now c.loop-lang.all c.loop-lang.lang-index c.loop-lang.found c.loop-lang.invariant (get_or c.args.langs.now c.loop-lang.lang-index Json) c.loop-lang-test.true (item_is c.args.langs.now c.loop-lang.lang-index Json c.loop-lang-test.true) c.in_err-part.field-0.0 c.part.new.found c.part.new.found c.in_err-part.ensures)

pub loop-lang-preserved : goal.loop-lang-preserved
loop-lang-preserved g c =
    let writes = g.R.PatternReader.writes c.args.reader.now in
    let turn = turn_goes (λ k lang. IsPart writes (setting_of c.args.constants lang) c.args.mode c.args.entries.now) c.args.langs.now c.args.found.now c.loop-lang.all c.loop-lang.lang-index c.loop-lang.found c.loop-lang.invariant (get_or c.args.langs.now c.loop-lang.lang-index Json) c.loop-lang-test.true (item_is c.args.langs.now c.loop-lang.lang-index Json c.loop-lang-test.true) c.in_ok-part.part c.part.new.found c.in_ok-part.ensures in
    subst (λ (xs : List Part). Rest (λ k lang. IsPart writes (setting_of c.args.constants lang) c.args.mode c.args.entries.now) c.args.langs.now c.args.found.now xs (c.loop-lang.lang-index + 1) (drop (c.loop-lang.lang-index + 1) c.args.langs.now) c.part.new.found) (sym c.in_ok-push.ensures.ok) turn

pub returns : goal.returns
returns g c =
    let writes = g.R.PatternReader.writes c.args.reader.now in
    turns_end (λ k lang. IsPart writes (setting_of c.args.constants lang) c.args.mode c.args.entries.now) c.args.langs.now c.args.found.now c.loop-lang.all c.loop-lang.lang-index c.loop-lang.found c.loop-lang.invariant c.loop-lang-test.false
