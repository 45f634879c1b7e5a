use Rattle.std.proofs.Common.{◌∙◌, ap, sym, arith}
use Rattle.std.specs.Prelude.{insert}
use Rattle.std_collections.proofs.Seek.{seek-Ok, seek_err}
use Rattle.scan_world.specs.Files.{Files, path_cmp}
use Rattle.rule_map.proofs.Places.{set_is, insert_is}
use Rattle.rule_map.proofs.place.put_both.Goals as goal

pub index_mut-requires : goal.index_mut-requires
index_mut-requires c =
    let r = seek-Ok (path_cmp c.args.text.0) c.args.texts.now.items c.in-Ok.at (sym (sym c.in-Ok.is ∙ c.requires.place)) in
    omega (arith, r.0, c.args.texts.now.ok.0)

pub insert-requires-in-Err : goal.insert-requires-in-Err
insert-requires-in-Err c =
    let r = seek_err (path_cmp c.args.text.0) c.args.texts.now.items c.in-Err.at (sym (sym c.in-Err.is ∙ c.requires.place)) in
    omega (arith, r.0, c.args.texts.now.ok.0, c.in_ok-reserve-in-Err.ensures.len)

pub returns-in-Ok-clause-texts : goal.returns-in-Ok-clause-texts
returns-in-Ok-clause-texts c = set_is c.args.texts.now.items c.args.text c.in-Ok.at (sym c.in-Ok.is ∙ c.requires.place)

pub returns-in_ok-insert-in-Err-2-clause-texts : goal.returns-in_ok-insert-in-Err-2-clause-texts
returns-in_ok-insert-in-Err-2-clause-texts c =
    c.in_ok-insert-in-Err-2.ensures.items ∙ ap (λ (fs : Files). insert fs c.in-Err.at c.args.text) c.in_ok-reserve-in-Err.ensures.items ∙ insert_is c.args.texts.now.items c.args.text c.in-Err.at (sym c.in-Err.is ∙ c.requires.place)
