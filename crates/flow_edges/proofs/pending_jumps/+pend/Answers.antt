use Rattle.std.proofs.Common.{◌≡◌, ◌++◌, [], ap, ◌∙◌, refl, true, false, List}
use Rattle.std.specs.List.{flat_map}
use Rattle.flow_edges.specs.Flow.{pending, firsts, first, tried, kids_of, laters}
use Rattle.flow_edges.proofs.Grown.{pended, from_none, of_slice}
use Rattle.flow_edges.proofs.pending_jumps.+pend.Goals as goal

pub pend_try-returns : goal.pend_try-returns
pend_try-returns t c =
    let f = c.in_ok-firsts.ensures in
    pended (λ around ss. flat_map (pending c.args.depth around) ss) c.args.around.now (tried (firsts (first c.args.depth)) c.args.around.now (kids_of c.args.statement.now)) c.in_ok-firsts.firsts.final_part _ _ _ _
    (λ e. let yes_it = c.is_empty.ensures.1 e in let not_it = c.if-is_empty.false in cc)
    f.final
    (from_none _ _ _ c.new-inside.ensures c.in_ok-pend_inside-2.ensures)
    (of_slice _ _ _ _ c.as_slice.ensures c.in_ok-push_laters.ensures)
    c.in_ok-pend_part.ensures
