use Rattle.std.proofs.Common.{◌≡◌, ◌↔◌, ◌⊎◌, ◌++◌, ◌∷◌, [], List, ℕ, ◌+◌, take, get_or, sym, ◌∙◌, subst}
use Rattle.std.specs.Prelude.{Option, None, Some}
use Rattle.std.specs.Global.{Vec}
use Rattle.std.specs.Ordering.{nat_cmp}
use Rattle.std.specs.BTreeMap.{get}
use Rattle.std.proofs.lemmas.List.{take_all}
use Rattle.graph_form.specs.Sets.{Among}
use Rattle.graph_form.proofs.Amongs.{among_push, among_more}
use Rattle.taint_form.specs.Origins.{ComesBy}
use Rattle.taint_form.proofs.Maps.{pushed_more}
use Rattle.taint_form.proofs.origins.Origins.add_origins.Goals as goal

pub returns-in_default : goal.returns-in_default
returns-in_default c from =
    let none : get nat_cmp c.args.self.now.from c.args.fact ≡ None = sym c.in_default.ensures.value in
    let P : List ℕ → Type 0 = λ xs. Among xs from ↔ (Among c.args.into.now.items from ⊎ ComesBy (get nat_cmp c.args.self.now.from c.args.fact) from c.args.fact) in
    let Q : Option (Vec ℕ) → Type 0 = λ r. Among (c.args.into.now.items ++ c.args.fact ∷ []) from ↔ (Among c.args.into.now.items from ⊎ ComesBy r from c.args.fact) in
    subst P (sym c.in_ok-push.ensures.items) (subst Q (sym none) (among_push c.args.into.now.items c.args.fact from))

pub returns : goal.returns
returns c from =
    let old = c.args.into.now.items in
    let some : get nat_cmp c.args.self.now.from c.args.fact ≡ Some c.in-Some.origins.now = sym c.in-Some.ensures.value in
    let whole : take c.loop-origin.origin-index c.deref-origin-items.result.now ≡ c.in-Some.origins.now.items = take_all c.loop-origin.origin-index c.deref-origin-items.result.now c.loop-origin-test.false ∙ c.deref-origin-items.ensures.value in
    let P : List ℕ → Type 0 = λ xs. Among c.loop-origin.into.items from ↔ (Among old from ⊎ Among xs from) in
    let Q : Option (Vec ℕ) → Type 0 = λ r. Among c.loop-origin.into.items from ↔ (Among old from ⊎ ComesBy r from c.args.fact) in
    subst Q (sym some) (subst P whole (c.loop-origin.invariant from))

pub loop-origin-preserved : goal.loop-origin-preserved
loop-origin-preserved c from =
    let items = c.deref-origin-items.result.now in
    pushed_more c.args.into.now.items (take c.loop-origin.origin-index items) (take (c.loop-origin.origin-index + 1) items) (get_or items c.loop-origin.origin-index 0) c.loop-origin.into.items _ (among_more items c.loop-origin.origin-index 0 c.loop-origin-test.true) c.loop-origin.invariant c.in_ok-push-2.ensures.items from
