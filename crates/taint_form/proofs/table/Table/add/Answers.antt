use Rattle.std.proofs.Common.{cond, subst, sym, ◌∙◌, ap}
use Rattle.std.specs.Prelude.{Some}
use Rattle.std.specs.BTreeMap.{get, is_at}
use Rattle.taint_form.specs.Tables.{AreNumbers}
use Rattle.taint_form.proofs.Tables.{numbered_more, none_of}
use Rattle.taint_form.proofs.table.Table.add.Goals as goal

pub returns-clause-numbers : goal.returns-clause-numbers
returns-clause-numbers g c =
    let old = c.args.self.now in
    let absent = none_of _ (sym c.contains_key.ensures ∙ c.if-contains_key.false) in
    subst (λ ks. AreNumbers g.K.Ord.cmp c.insert.new.self ks) (sym c.in_ok-push.ensures.items)
    (numbered_more g.K.Ord.cmp g.met.K.Ord.total old.numbers c.insert.new.self old.keys.items c.args.key absent
    (λ q. c.in_ok-insert.ensures.updates.0 q ∙ ap (λ n. cond (is_at (g.K.Ord.cmp c.args.key) q) (Some n) (get g.K.Ord.cmp old.numbers q)) c.len-number.ensures) c.requires)
