use Rattle.wire_stream.proofs.Commands.{same_command}
use Rattle.wire_stream.proofs.feed.one_command.Goals as goal

pub returns : goal.returns
returns c = same_command
