use Rattle.std.proofs.Common.{◌∙◌, sym, ap}
use Rattle.std.specs.Prelude.{Some}
use Rattle.std.specs.Option.{option_copied}
use Rattle.file_map.specs.FileMap.{bytes_at}
use Rattle.file_map.proofs.Shown.{held, lacked}
use Rattle.file_map.proofs.file_map.FileMap.get.Goals as goal

pub returns-in-Some : goal.returns-in-Some
returns-in-Some c =
    let found = held c.args.path.now c.self.inside.by_path c.in-Some.bytes.now (ap option_copied (sym c.in-Some.is) ∙ c.get.ensures.value) in
    ap (λ x. Some x) (c.as_slice.ensures ∙ c.as_ref.ensures) ∙ found ∙ ap (bytes_at c.args.path.now) c.self.view_is

pub returns-in-None : goal.returns-in-None
returns-in-None c = lacked c.args.path.now c.self.inside.by_path (ap option_copied (sym c.in-None.is) ∙ c.get.ensures.value) ∙ ap (bytes_at c.args.path.now) c.self.view_is
