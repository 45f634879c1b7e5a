use Rattle.std.proofs.Common.{inl, inr, sym}
use Rattle.taint_flow.proofs.search.starts_of.Goals as goal

pub returns : goal.returns
returns c graph is point name =
    let a = c.in_ok-starts.ensures point name in
    let r = c.in_ok-add_after.ensures point name in (
      λ h. elim (r.0 h) [
        | inl o ↦ (let q = a.0 o in inl (sym q.0, q.1))
        | inr (before, among, has) ↦ inr (before, among, (is.exact before point).0 has)
      ],
      λ h. elim h [
        | inl (e, among) ↦ r.1 (inl (a.1 (sym e, among)))
        | inr (before, among, edge) ↦ r.1 (inr (before, among, (is.exact before point).1 edge))
      ],
    )
