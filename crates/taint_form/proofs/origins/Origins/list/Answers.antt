use Rattle.std.proofs.Common.{List, ℕ, ◌⊎◌, ◌↔◌, ◌≡◌, subst, sym, ◌∙◌}
use Rattle.graph_form.specs.Sets.{Among}
use Rattle.graph_form.proofs.Amongs.{among_push}
use Rattle.taint_form.proofs.Maps.{listed_already}
use Rattle.taint_form.proofs.origins.Origins.list.Goals as goal

pub returns-then-contains_key-clause-listed : goal.returns-then-contains_key-clause-listed
returns-then-contains_key-clause-listed c f = listed_already c.args.self.now c.args.fact c.requires (sym c.contains_key.ensures ∙ c.if-contains_key.true) f

pub returns-clause-listed : goal.returns-clause-listed
returns-clause-listed c f =
    let old = c.args.self.now.touched.items in
    let P : List ℕ → Type 0 = λ xs. Among xs f ↔ (Among old f ⊎ (c.args.fact ≡ f)) in
    subst P (sym c.in_ok-push.ensures.items) (among_push old c.args.fact f)
