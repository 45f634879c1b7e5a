use Rattle.std.proofs.Common.{◌≡◌, ◌∙◌, List, Ok, refl, ap, sym, length, arith}
use Rattle.std.specs.Prelude.{remove}
use Rattle.std_collections.specs.Layout.BTreeMap.{seek}
use Rattle.std_collections.proofs.Seek.{seek-Ok}
use Rattle.scan_world.specs.Files.{path_cmp}
use Rattle.rule_files.specs.declared.rule_file.RuleFile.{RuleFile}
use Rattle.rule_map.specs.RuleMap.{count_of}
use Rattle.rule_map.proofs.Keeping.{as_many, kept_removed}
use Rattle.rule_map.proofs.Places.{removed_is, was_there, same_without, was_not}
use Rattle.rule_map.proofs.rule_map.RuleMap.del.Goals as goal

pub returns-in_default-clause-removed : goal.returns-in_default-clause-removed
returns-in_default-clause-removed g c =
    let e : c.place_of-place.result ≡ seek (path_cmp c.args.name.now) c.self.inside.texts.items = c.place_of-place.ensures ∙ ap (seek (path_cmp c.args.name.now)) c.as_slice.ensures.value in
    rw (← c.self.view_is) (same_without c.args.name.now c.self.inside.texts.items c.in_default.field-0 c.self.invariant.ordered (sym c.in_default.is ∙ e))

pub returns-in_default-clause-was_there : goal.returns-in_default-clause-was_there
returns-in_default-clause-was_there g c =
    let e : c.place_of-place.result ≡ seek (path_cmp c.args.name.now) c.self.inside.texts.items = c.place_of-place.ensures ∙ ap (seek (path_cmp c.args.name.now)) c.as_slice.ensures.value in
    rw (← c.self.view_is) (was_not c.args.name.now c.self.inside.texts.items c.in_default.field-0 c.self.invariant.ordered (sym c.in_default.is ∙ e))

pub entries_besides-self-inside-requires-clause-place : goal.entries_besides-self-inside-requires-clause-place
entries_besides-self-inside-requires-clause-place g c =
    let e : Ok c.in-Ok.at ≡ seek (path_cmp c.args.name.now) c.self.inside.texts.items = sym c.in-Ok.is ∙ c.place_of-place.ensures ∙ ap (seek (path_cmp c.args.name.now)) c.as_slice.ensures.value in
    let r = seek-Ok (path_cmp c.args.name.now) c.self.inside.texts.items c.in-Ok.at (sym e) in
    omega (arith, r.0, as_many (g.R.PatternReader.writes c.self.inside.reader.now) c.self.inside.texts.items c.self.inside.contents.items c.self.invariant.read, ap length c.as_slice-2.ensures.value)

pub remove-requires : goal.remove-requires
remove-requires g c =
    let e : Ok c.in-Ok.at ≡ seek (path_cmp c.args.name.now) c.self.inside.texts.items = sym c.in-Ok.is ∙ c.place_of-place.ensures ∙ ap (seek (path_cmp c.args.name.now)) c.as_slice.ensures.value in
    let r = seek-Ok (path_cmp c.args.name.now) c.self.inside.texts.items c.in-Ok.at (sym e) in
    omega (arith, r.0, c.self.inside.texts.ok.0)

pub remove-requires-2 : goal.remove-requires-2
remove-requires-2 g c =
    let e : Ok c.in-Ok.at ≡ seek (path_cmp c.args.name.now) c.self.inside.texts.items = sym c.in-Ok.is ∙ c.place_of-place.ensures ∙ ap (seek (path_cmp c.args.name.now)) c.as_slice.ensures.value in
    let r = seek-Ok (path_cmp c.args.name.now) c.self.inside.texts.items c.in-Ok.at (sym e) in
    omega (arith, r.0, as_many (g.R.PatternReader.writes c.self.inside.reader.now) c.self.inside.texts.items c.self.inside.contents.items c.self.invariant.read, c.self.inside.contents.ok.0)

pub invariant_of-self : goal.invariant_of-self
invariant_of-self g c =
    let writes = g.R.PatternReader.writes c.self.inside.reader.now in
    let m = c.entries_besides-self-inside.result in
    let old = c.self.inside.contents.items in
    let e = c.entries_besides-self-inside.ensures.removed c.in-Ok.at refl in
    let k = kept_removed writes c.self.inside.texts.items old c.self.inside.entries m c.in-Ok.at c.self.invariant (sym e ∙ ap (λ (l : List RuleFile). count_of (remove l c.in-Ok.at)) c.as_slice-2.ensures.value) c.entries_besides-self-inside.ensures.fewer in
    rw (c.remove.ensures.items, c.remove-2.ensures.items) k

pub returns-clause-removed : goal.returns-clause-removed
returns-clause-removed g c =
    let e : Ok c.in-Ok.at ≡ seek (path_cmp c.args.name.now) c.self.inside.texts.items = sym c.in-Ok.is ∙ c.place_of-place.ensures ∙ ap (seek (path_cmp c.args.name.now)) c.as_slice.ensures.value in
    rw (← c.self.view_is) (c.remove.ensures.items ∙ removed_is c.args.name.now c.self.inside.texts.items c.in-Ok.at e)

pub returns-clause-was_there : goal.returns-clause-was_there
returns-clause-was_there g c =
    let e : Ok c.in-Ok.at ≡ seek (path_cmp c.args.name.now) c.self.inside.texts.items = sym c.in-Ok.is ∙ c.place_of-place.ensures ∙ ap (seek (path_cmp c.args.name.now)) c.as_slice.ensures.value in
    rw (← c.self.view_is) (was_there c.args.name.now c.self.inside.texts.items c.in-Ok.at e)
