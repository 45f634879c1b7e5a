use Rattle.std.proofs.Common.{◌≡◌, take, map}
use Rattle.session.specs.Sessions.{text_of}
use Rattle.session.proofs.fixing.texts_of.Given as goal

abbrev pub invariant-loop-file : goal.invariant-loop-file
invariant-loop-file l = l.texts ≡ map text_of (take l.file-index l.files)
