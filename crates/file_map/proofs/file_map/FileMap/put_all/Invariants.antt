use Rattle.std.proofs.Common.{◌≡◌, take, map}
use Rattle.std.specs.Prelude.{None}
use Rattle.file_map.specs.Seen.{lent}
use Rattle.file_map.specs.Sync.{with_files, first_over}
use Rattle.file_map.proofs.file_map.FileMap.put_all.Given as goal

abbrev pub invariant-loop-path : goal.invariant-loop-path
invariant-loop-path l = record {
  put : l.self ≡ with_files l.initial.self (map lent (take l.path-index l.files));
  within : first_over l.initial.self (map lent (take l.path-index l.files)) ≡ None;
}
