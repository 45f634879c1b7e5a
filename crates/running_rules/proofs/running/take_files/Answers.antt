use Rattle.std.proofs.Common.{List, ap, ◌∙◌, subst, map}
use Rattle.decided_texts.specs.Decided.{AreDecided}
use Rattle.decided_texts.specs.Deciding.{Decides, TakesAll}
use Rattle.decided_texts.specs.Asking.{Settles}
use Rattle.decided_texts.proofs.Growing.{nothing}
use Rattle.running_rules.specs.Running.{Stated, stated, texts_of}
use Rattle.running_rules.specs.Taking.{said}
use Rattle.running_rules.proofs.Members.{on_ok, on_ok_map}
use Rattle.running_rules.proofs.Taking.{all_noted, runs_as}
use Rattle.running_rules.proofs.running.take_files.Goals as goal

pub returns-in_err-note_files-clause-begun : goal.returns-in_err-note_files-clause-begun
returns-in_err-note_files-clause-begun g c = nothing (texts_of (stated c.args.files.now)) c.args.decided.now (g.P.Patterns.refusals c.args.patterns.now)

pub returns-in_err-rules-clause-begun : goal.returns-in_err-rules-clause-begun
returns-in_err-rules-clause-begun g c = nothing (texts_of (stated c.args.files.now)) c.args.decided.now (g.P.Patterns.refusals c.args.patterns.now)

pub returns-in_err-decide_texts-clause-begun : goal.returns-in_err-decide_texts-clause-begun
returns-in_err-decide_texts-clause-begun g c =
    let e = ap (map said) c.as_slice-entries.ensures.value ∙ c.in_ok-rules.ensures in
    let P : List Stated → Type 0 = λ ss. Decides (texts_of ss) c.args.decided.now c.decide_texts.new.decided (g.P.Patterns.refusals c.args.patterns.now) (g.P.Patterns.refusals c.decide_texts.new.patterns) in
    subst P e c.decide_texts.ensures.begun

pub take_rules-requires : goal.take_rules-requires
take_rules-requires g c = c.in_ok-decide_texts.ensures.decided

pub returns-clause-begun : goal.returns-clause-begun
returns-clause-begun g c =
    let e = ap (map said) c.as_slice-entries.ensures.value ∙ c.in_ok-rules.ensures in
    let P : List Stated → Type 0 = λ ss. Decides (texts_of ss) c.args.decided.now c.decide_texts.new.decided (g.P.Patterns.refusals c.args.patterns.now) (g.P.Patterns.refusals c.decide_texts.new.patterns) in
    subst P e c.decide_texts.ensures.begun

pub returns-clause-refused : goal.returns-clause-refused
returns-clause-refused g c =
    on_ok (TakesAll c.args.decided.now c.decide_texts.new.decided (g.P.Patterns.refusals c.args.patterns.now) (g.P.Patterns.refusals c.decide_texts.new.patterns)) c.take_rules.result c.in_ok-decide_texts.ensures.refused

pub returns-clause-decided : goal.returns-clause-decided
returns-clause-decided g c =
    let e = ap (map said) c.as_slice-entries.ensures.value ∙ c.in_ok-rules.ensures in
    let P : List Stated → Type 0 = λ ss. AreDecided c.decide_texts.new.decided (texts_of ss) in
    on_ok (AreDecided c.decide_texts.new.decided (texts_of (stated c.args.files.now))) c.take_rules.result (subst P e c.in_ok-decide_texts.ensures.decided)

pub returns-clause-settled : goal.returns-clause-settled
returns-clause-settled g c =
    let e = ap (map said) c.as_slice-entries.ensures.value ∙ c.in_ok-rules.ensures in
    let P : List Stated → Type 0 = λ ss. Settles (texts_of ss) c.args.decided.now c.decide_texts.new.decided (g.P.Patterns.asked c.args.patterns.now) (g.P.Patterns.asked c.decide_texts.new.patterns) in
    on_ok (P (stated c.args.files.now)) c.take_rules.result (subst P e c.in_ok-decide_texts.ensures.settled)

pub returns-clause-rules : goal.returns-clause-rules
returns-clause-rules g c =
    let e = ap (map said) c.as_slice-entries.ensures.value ∙ c.in_ok-rules.ensures in
    runs_as c.take_rules.result (λ r. r.items) c.decide_texts.new.decided.refused _ (stated c.args.files.now) e c.take_rules.ensures.rules

pub returns-clause-notices : goal.returns-clause-notices
returns-clause-notices g c =
    let refused = c.decide_texts.new.decided.refused in
    let e = ap (map said) c.as_slice-entries.ensures.value ∙ c.in_ok-rules.ensures in
    on_ok_map c.take_rules.result (all_noted refused c.args.notices.now.items c.note_files.new.notices.items c.take_rules.new.notices.items c.args.files.now _ c.in_ok-note_files.ensures e) c.take_rules.ensures.notices
