use Rattle.std.proofs.Common.{refl, subst, sym, ◌∙◌, inl, inr, List, ◌≡◌, take}
use Rattle.std.proofs.lemmas.List.{take_all}
use Rattle.graph_form.specs.Sets.{Among}
use Rattle.graph_form.proofs.Amongs.{among_at, among_more}
use Rattle.flow_reach.specs.declared.moves.Move.{Move}
use Rattle.flow_reach.specs.Carried.{SpeaksOf}
use Rattle.flow_reach.specs.Fitting.{SpeakOf}
use Rattle.flow_reach.proofs.Steps.{not_true}
use Rattle.flow_reach.proofs.fitting.speak_of.Goals as goal

pub returns-then-not-speaks_of : goal.returns-then-not-speaks_of
returns-then-not-speaks_of c = (
  λ t. absurd (not_true t),
  λ all.
      let P : Move → Type 0 = λ m. Among c.args.rows.now m in
      let there = subst P (sym c.row-item.is) (among_at c.args.rows.now c.loop-row.row-index c.row-item.result c.loop-row-test.true) in
      let t = c.speaks_of.ensures.1 (all c.row-item.result there) in
      let f = c.if-not-speaks_of.true in
      absurd cc,
)

pub loop-row-preserved : goal.loop-row-preserved
loop-row-preserved c row among = elim ((among_more c.args.rows.now c.loop-row.row-index c.row-item.result c.loop-row-test.true row).0 among) [
  | inl a ↦ c.loop-row.invariant row a
  | inr e ↦ let P : Move → Type 0 = λ m. SpeaksOf c.args.facts m in subst P (c.row-item.is ∙ e) (c.speaks_of.ensures.0 c.if-not-speaks_of.false)
]

pub returns : goal.returns
returns c =
    let whole : take c.loop-row.row-index c.args.rows.now ≡ c.args.rows.now = take_all c.loop-row.row-index c.args.rows.now c.loop-row-test.false in
    let P : List Move → Type 0 = λ rows. SpeakOf c.args.facts rows in
    (λ t. subst P whole c.loop-row.invariant, λ all. refl)
