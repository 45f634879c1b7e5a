-- What a run leaves of its files, and which ends cut it short.
use Rattle.std.proofs.Common.{◌≡◌, subst, sym, List}
use Rattle.std.specs.Prelude.{Option, Bool, false}
use Rattle.scan_world.specs.Files.{Files}
use Rattle.scan_world.specs.Trees.{KeepsFiles}
use Rattle.run_status.specs.declared.status.Status.{Status}
use Rattle.run_status.specs.declared.status.Status.TheVariants as statuses
use Rattle.run_status.specs.Status.{IsCutShort}
use Rattle.wire_words.specs.Commands.{Task}
use Rattle.stream_run.specs.Doing.{Setting}
use Rattle.fix_apply.specs.declared.fixed.FixedFile.{FixedFile}
use Rattle.folder_run.specs.Written.{LeavesOf, kept, all, some, Leaves, untouched, by_fixes}

kept_of : (dry : Bool) (files : List FixedFile) (old new : Option Files) → (dry ≡ false → ⊥) → LeavesOf dry files old new → KeepsFiles old new
kept_of dry files old new nay (kept h) = h
kept_of dry files old new nay (all e w) = absurd (nay e)
kept_of dry files old new nay (some e w) = absurd (nay e)

-- fixes that aren't to be written leave the files as they are
pub kept_unless_written : (s : Setting) (task : Task) (new : Option Files) → (task.flag ≡ false → ⊥) → Leaves s task new → KeepsFiles s.told new
kept_unless_written s task new nay (untouched h) = h
kept_unless_written s task new nay (by_fixes shelves fixed takes is left) = kept_of task.flag fixed.files s.told new nay left

-- want of memory cuts a run short
pub cut_by_memory : (s : Status) → s ≡ statuses.Memory → IsCutShort s
cut_by_memory s e = subst (λ (x : Status). IsCutShort x) (sym e) tt
