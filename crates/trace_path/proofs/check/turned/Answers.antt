use Rattle.std.proofs.Common.{sym, subst, ◌∙◌, List, ℕ, ◌≡◌, ◌↔◌, ◌⊎◌, take, get_or}
use Rattle.std.proofs.lemmas.List.{take_all}
use Rattle.graph_form.specs.Sets.{Among}
use Rattle.graph_form.proofs.Amongs.{among_more}
use Rattle.flow_reach.specs.Adds.{Coded, Ascends}
use Rattle.flow_reach.specs.Carried.{Stays}
use Rattle.trace_path.specs.Along.{TurnedBy}
use Rattle.trace_path.proofs.Follow.{turned_more}
use Rattle.trace_path.proofs.check.turned.Goals as goal

pub loop-fact-init : goal.loop-fact-init
loop-fact-init c g =
    let P : List ℕ → Type 0 = λ xs. Among xs g → ⊥ in
    (λ h. absurd (subst P (sym c.new-turned.ensures.items) (λ n. n) h), λ h. absurd h.1)

pub loop-fact-preserved : goal.loop-fact-preserved
loop-fact-preserved c g =
    let y = get_or c.args.facts.now c.loop-fact.fact-index 0 in
    let D : List ℕ → Type 0 = λ ds. (x : ℕ) → Among c.in_ok-drops.drops.items x ↔ Among ds x in
    let A : List (ℕ × ℕ) → Type 0 = λ ps. (f h : ℕ) → Coded c.in_ok-adds.adds.items f h ↔ Among ps (f, h) in
    let K : List ℕ → Type 0 = λ ds. (x : ℕ) → Among c.keep.new.into.items x ↔ (Among c.loop-fact.turned.items x ⊎ Stays ds y x) in
    let S : List ℕ → Type 0 = λ xs. (x : ℕ) → Among c.seconds.new.into.items x ↔ (Among c.keep.new.into.items x ⊎ Coded xs y x) in
    turned_more c.args.row.now _ _ c.loop-fact.turned.items c.keep.new.into.items c.seconds.new.into.items c.in_ok-adds.adds.items c.in_ok-drops.drops.items y (subst D c.as_slice.ensures c.in_ok-drops.ensures.same) (subst A c.as_slice-2.ensures c.in_ok-adds.ensures.same) (among_more c.args.facts.now c.loop-fact.fact-index 0 c.loop-fact-test.true) c.loop-fact.invariant (subst K c.deref.ensures.value c.in_ok-keep.ensures) (subst S c.deref-in-loop-fact.ensures.value c.in_ok-seconds.ensures) g

pub returns : goal.returns
returns c g =
    let whole : take c.loop-fact.fact-index c.args.facts.now ≡ c.args.facts.now = take_all c.loop-fact.fact-index c.args.facts.now c.loop-fact-test.false in
    let P : List ℕ → Type 0 = λ fs. Among c.loop-fact.turned.items g ↔ TurnedBy c.args.row.now fs g in
    subst P whole (c.loop-fact.invariant g)
