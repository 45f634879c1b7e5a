use Rattle.std.proofs.Common.{List, sym, ap, ◌∙◌, subst}
use Rattle.meta_bind.specs.declared.bound.Bound.{Bound}
use Rattle.meta_bind.specs.Bounds.{NamesAscend}
use Rattle.piece_match.specs.Moved.{moved_binding}
use Rattle.piece_match.proofs.Unions.{names_moved}
use Rattle.piece_match.proofs.moving.moved_of.Goals as goal

pub of-requires : goal.of-requires
of-requires c =
    let P : List Bound → Type 0 = NamesAscend in
    subst P (sym (c.in_ok-kept.ensures ∙ ap (moved_binding c.args.by) c.bounds.ensures.bounds)) (names_moved c.args.by c.args.binding.now c.bounds.ensures.ordered)
