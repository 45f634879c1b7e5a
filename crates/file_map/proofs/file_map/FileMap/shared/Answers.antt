use Rattle.std.proofs.Common.{◌∙◌, ap}
use Rattle.std.specs.Option.{option_map}
use Rattle.std.specs.Rc.{rc_value}
use Rattle.file_map.specs.FileMap.{bytes_at}
use Rattle.file_map.proofs.Shown.{lookup_shown}
use Rattle.file_map.proofs.Replacing.{shared_is}
use Rattle.file_map.proofs.file_map.FileMap.shared.Goals as goal

pub returns : goal.returns
returns c = shared_is c.get.result ∙ ap (option_map rc_value) c.get.ensures.value ∙ lookup_shown c.args.path.now c.self.inside.by_path.entries ∙ ap (bytes_at c.args.path.now) c.self.view_is
