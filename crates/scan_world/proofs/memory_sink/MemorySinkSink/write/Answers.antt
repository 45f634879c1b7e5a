use Rattle.std.proofs.Common.{sym, ap, ◌∙◌, ◌++◌, ◌/◌, length, take, drop}
use Rattle.std.proofs.lemmas.List.{take-append-drop}
use Rattle.scan_world.specs.Memory.{SinkState}
use Rattle.scan_world.proofs.memory_sink.MemorySinkSink.write.Goals as goal

pub returns-then-is_listed-clause-err : goal.returns-then-is_listed-clause-err
returns-then-is_listed-clause-err c =
    let piece = c.args.piece.now in
    let half = length piece / 2 in (
      take half piece,
      drop half piece,
      sym (take-append-drop half piece),
      c.take_front.ensures.items ∙ ap (λ (x : SinkState). x.written ++ take half piece) c.self.view_is,
    )
