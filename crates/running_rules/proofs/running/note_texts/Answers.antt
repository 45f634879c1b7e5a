use Rattle.std.proofs.Common.{◌≡◌, ◌+◌, ◌++◌, ℕ, List, true, sym, ap, ◌∙◌, subst, drop}
use Rattle.std.proofs.lemmas.List.{drop_all}
use Rattle.meta_bind.proofs.Lookups.{opened}
use Rattle.node_match.proofs.Sets.{among_at}
use Rattle.decided_texts.specs.Decided.{is_decided}
use Rattle.running_rules.specs.Running.{refused_notices}
use Rattle.running_rules.proofs.Members.{flat_step, flat_end}
use Rattle.running_rules.proofs.running.note_texts.Goals as goal

pub loop-text-preserved : goal.loop-text-preserved
loop-text-preserved c decided =
    let i = c.loop-text.text-index in
    let ts = c.args.texts.now in
    let t = c.text-item.result in
    let f = refused_notices c.args.decided.now.refused c.args.file.now c.args.id.now in
    let P : List ℕ → Type 0 = λ x. is_decided c.args.decided.now x ≡ true in
    let here = subst P (sym c.as_str.ensures) (decided t (among_at ts i t c.loop-text-test.true c.text-item.is)) in
    flat_step f c.loop-text.notices.items c.note_text.new.notices.items t (drop i ts) (drop (i + 1) ts) _ (c.loop-text.invariant decided) (opened ts i t c.loop-text-test.true c.text-item.is)
    (c.in_ok-note_text.ensures here ∙ ap (λ (x : List ℕ). c.loop-text.notices.items ++ f x) c.as_str.ensures)

pub returns : goal.returns
returns c decided =
    let ts = c.args.texts.now in
    flat_end (refused_notices c.args.decided.now.refused c.args.file.now c.args.id.now) c.loop-text.notices.items (drop c.loop-text.text-index ts) _ (c.loop-text.invariant decided) (drop_all c.loop-text.text-index ts c.loop-text-test.false)
