use Rattle.std.proofs.Common.{Err, [], ap, subst, map, inr}
use Rattle.tree_match.specs.declared.leaf.Leaf.{Leaf}
use Rattle.run_status.specs.declared.status.Status.TheVariants.{Done}
use Rattle.scan_run.specs.Lines.{line_of}
use Rattle.scan_run.specs.Matching.{by_names, too_many, done}
use Rattle.scan_run.proofs.Streaming.{nothing_written}
use Rattle.scan_run.proofs.matching.print_members.Goals as goal

pub returns-in-Ok-Crowded-clause-ends : goal.returns-in-Ok-Crowded-clause-ends
returns-in-Ok-Crowded-clause-ends g c a = record {
  lines = [];
  ends = too_many (subst (λ (x : Leaf). by_names c.args.file.now.known c.args.file.now.tree c.args.pattern.now x) c.in-Ok-Crowded.field-0-is c.in-Ok-Crowded.ensures.exact);
  printed = nothing_written _;
}

pub returns-in-Ok-clause-ends : goal.returns-in-Ok-clause-ends
returns-in-Ok-clause-ends g c a =
    let leaf = subst (λ (x : Leaf). by_names c.args.file.now.known c.args.file.now.tree c.args.pattern.now x) c.in-Ok-Full.field-0-is c.in-Ok-Full.ensures.exact in
    record { lines = map line_of c.in-Ok-Full.members; ends = done c.in-Ok-Full.members leaf; printed = c.in-Ok.ensures.ok }

pub returns-in-Err-Memory-clause-whole_lines : goal.returns-in-Err-Memory-clause-whole_lines
returns-in-Err-Memory-clause-whole_lines g c e =
    let leaf = subst (λ (x : Leaf). by_names c.args.file.now.known c.args.file.now.tree c.args.pattern.now x) c.in-Ok-Full.field-0-is c.in-Ok-Full.ensures.exact in
    inr (record { status = Done; finished = tt; lines = map line_of c.in-Ok-Full.members; ends = done c.in-Ok-Full.members leaf; printed = c.in-Err-Memory.ensures.whole (ap Err c.in-Err-Memory.field-0-is) })

pub returns-clause-front_written : goal.returns-clause-front_written
returns-clause-front_written g c e =
    let leaf = subst (λ (x : Leaf). by_names c.args.file.now.known c.args.file.now.tree c.args.pattern.now x) c.in-Ok-Full.field-0-is c.in-Ok-Full.ensures.exact in
    record { status = Done; finished = tt; lines = map line_of c.in-Ok-Full.members; ends = done c.in-Ok-Full.members leaf; printed = c.in-Err-Failed.ensures.front }
