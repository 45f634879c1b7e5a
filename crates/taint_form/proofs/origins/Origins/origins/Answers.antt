use Rattle.std.proofs.Common.{◌↔◌, ℕ, List, ◌+◌, take, get_or, subst}
use Rattle.std.proofs.lemmas.List.{take_all}
use Rattle.graph_form.specs.Sets.{Among}
use Rattle.graph_form.proofs.Amongs.{among_more}
use Rattle.taint_form.specs.Origins.{Comes, ComesAny}
use Rattle.taint_form.proofs.Maps.{any_more}
use Rattle.taint_form.proofs.origins.Origins.origins.Goals as goal

pub loop-fact-preserved : goal.loop-fact-preserved
loop-fact-preserved c from =
    let facts = c.args.facts.now in
    any_more (Comes c.args.self.now) (take c.loop-fact.fact-index facts) (take (c.loop-fact.fact-index + 1) facts) (get_or facts c.loop-fact.fact-index 0) from c.loop-fact.all.items c.add_origins.new.into.items (among_more facts c.loop-fact.fact-index 0 c.loop-fact-test.true) (c.loop-fact.invariant from) (c.in_ok-add_origins.ensures from)

pub returns : goal.returns
returns c from =
    let P : List ℕ → Type 0 = λ xs. Among c.loop-fact.all.items from ↔ ComesAny (Comes c.args.self.now) xs from in
    let done = subst P (take_all c.loop-fact.fact-index c.args.facts.now c.loop-fact-test.false) (c.loop-fact.invariant from) in
    let same = c.in_ok-all.ensures from in
    (λ h. done.0 (same.0 h), λ h. same.1 (done.1 h))
