-- What a command does by the files of a tree that keeps them.
use Rattle.std.proofs.Common.{ℕ, List}
use Rattle.std.specs.Prelude.{Option}
use Rattle.scan_world.specs.Files.{Files}
use Rattle.scan_world.specs.Trees.{KeepsFiles}
use Rattle.folder_files.proofs.Told.{files_before}
use Rattle.file_map.specs.declared.limit.LimitKind.{LimitKind}
use Rattle.file_map.specs.FileMap.{File}
use Rattle.file_map.specs.Sync.{AreSynced}
use Rattle.wire_stream.specs.declared.wire.Wire.{Wire}
use Rattle.workspace.specs.Reports.{Readings}
use Rattle.stream_run.specs.declared.reply.Reply.{Reply}
use Rattle.stream_run.specs.Doing.{Shelves, Does, put, del, rule, unrule, sync, scan, scan_many, fix, fix_many, done, Passes, put_over, rule_over, sync_over, fix_over}
use Rattle.stream_run.specs.Still.{setting}

synced_before : (told now : Option Files) (kept : KeepsFiles told now) (prefix : List ℕ) (old : Files) (files : List File) → AreSynced now prefix old files → AreSynced told prefix old files
synced_before told now kept prefix old files s = record {
  outside = s.outside;
  are_outside = s.are_outside;
  under = s.under;
  are_under = files_before told now prefix s.under kept s.are_under;
  all = s.all;
}

module _ (readings : Readings) (told now : Option Files) (kept : KeepsFiles told now) (most : ℕ) (refused : List (List ℕ)) (old : Shelves) where
  pub does_before : (wire : Wire) (new : Shelves) (reply : Reply) → Does (setting readings now most refused) old wire new reply → Does (setting readings told most refused) old wire new reply
  does_before _ _ _ (put path bytes w) = put path bytes w
  does_before _ _ _ (del path) = del path
  does_before _ _ _ (rule name bytes w) = rule name bytes w
  does_before _ _ _ (unrule name) = unrule name
  does_before _ _ _ (sync prefix files (all, are, e) (all', are', e')) = sync prefix files (all, synced_before told now kept prefix old.files all are, e) (all', synced_before told now kept prefix old.files all' are', e')
  does_before _ _ _ (scan report is few) = scan report is few
  does_before _ _ _ (scan_many more) = scan_many more
  does_before _ _ _ (fix fixed is few w) = fix fixed is few w
  does_before _ _ _ (fix_many more) = fix_many more
  does_before _ _ _ done = done

  pub passes_before : (kind : LimitKind) (n : ℕ) (wire : Wire) → Passes (setting readings now most refused) old kind n wire → Passes (setting readings told most refused) old kind n wire
  passes_before kind n _ (put_over path bytes w) = put_over path bytes w
  passes_before kind n _ (rule_over name bytes w) = rule_over name bytes w
  passes_before kind n _ (sync_over prefix (all, are, e)) = sync_over prefix (all, synced_before told now kept prefix old.files all are, e)
  passes_before kind n _ (fix_over p) = fix_over p
