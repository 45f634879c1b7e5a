use Rattle.std.proofs.Common.{subst, sym, List, ℕ, ◌↔◌}
use Rattle.std.proofs.lemmas.List.Filters.{dedup_is}
use Rattle.graph_form.specs.Sets.{Among}
use Rattle.graph_form.proofs.Amongs.{same_items}
use Rattle.taint_form.proofs.Maps.{among_dedup}
use Rattle.taint_form.proofs.origins.ordered.Goals as goal

pub returns : goal.returns
returns c x =
    let sorted = c.sort.new.self.items in
    let d = among_dedup sorted x in
    let s = same_items c.args.numbers.items sorted c.in_ok-sort.ensures.permutation x in
    let P : List ℕ → Type 0 = λ xs. Among xs x ↔ Among c.args.numbers.items x in
    subst P (sym (dedup_is _ sorted c.dedup.new.self.items c.dedup.ensures.filtered)) (λ h. s.0 (d.0 h), λ h. d.1 (s.1 h))
