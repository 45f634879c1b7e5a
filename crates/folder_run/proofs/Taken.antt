-- What taking a folder comes to, step by step.
use Rattle.std.proofs.Common.{◌≡◌, ℕ, List, [], ◌∷◌, sym, ap, ◌∙◌, subst}
use Rattle.std.specs.Prelude.{Option, None, Some, IsSome}
use Rattle.scan_world.specs.Files.{Files}
use Rattle.scan_world.specs.Trees.{KeepsFiles, LacksFile}
use Rattle.folder_files.proofs.Told.{files_before}
use Rattle.file_map.specs.declared.limit.LimitKind.{LimitKind}
use Rattle.file_map.specs.declared.fault.PutFault.{PutFault}
use Rattle.file_map.specs.declared.fault.PutFault.TheVariants as puts
use Rattle.file_map.specs.declared.fault.SyncFault.{SyncFault}
use Rattle.file_map.specs.declared.fault.SyncFault.TheVariants as syncs
use Rattle.file_map.specs.FileMap.{File, with_file, TellsPut}
use Rattle.file_map.specs.Faults.{TellsLimit}
use Rattle.file_map.specs.Sync.{AreSynced, Syncs, SyncPasses}
use Rattle.rule_map.specs.RuleMap.{PutRuleEnds}
use Rattle.run_status.specs.declared.status.Status.{Status}
use Rattle.run_status.specs.declared.status.Status.TheVariants.{NoSuchPath, OverLimit}
use Rattle.stream_run.specs.Reports.{Readings}
use Rattle.stream_run.specs.Reading.{PutEndsOnce}
use Rattle.stream_run.proofs.Synced.{fronts_once, front_or_none}
use Rattle.folder_run.specs.Taking.{IsConfig, RulesEndOnce, Takes, TakesNone, no_config, rules_over, files_over}

synced_before : (told now : Option Files) (kept : KeepsFiles told now) (prefix : List ℕ) (old : Files) (files : List File) → AreSynced now prefix old files → AreSynced told prefix old files
synced_before told now kept prefix old files s = record {
  outside = s.outside;
  are_outside = s.are_outside;
  under = s.under;
  are_under = files_before told now prefix s.under kept s.are_under;
  all = s.all;
}

module _ (readings : Readings) (told : Option Files) (config prefix : List ℕ) where
  -- the config was not read
  pub none_read : (status : Status) → (status ≡ NoSuchPath) × LacksFile told config → TakesNone readings told config prefix status
  none_read status h = let P : Status → Type 0 = λ s. TakesNone readings told config prefix s in subst P (sym h.0) (no_config h.1)

  -- nor are there any
  pub no_rules : LacksFile told config → IsSome told → RulesEndOnce readings told config
  no_rules lacks some bytes is = absurd (front_or_none told some config 262145 bytes is lacks)

  module _ (old : Files) (none : old ≡ []) (slice bytes : List ℕ) (e : slice ≡ bytes) (read : IsConfig told config bytes) where
    -- what is said of the slice, beside no rules, is said of the bytes alone
    alone : (over : Option (LimitKind × ℕ)) → PutRuleEnds readings.writes old (config, slice) over → PutRuleEnds readings.writes [] (config, bytes) over
    alone over h =
        let P : Files → Type 0 = λ fs. PutRuleEnds readings.writes fs (config, slice) over in
        let Q : List ℕ → Type 0 = λ bs. PutRuleEnds readings.writes [] (config, bs) over in
        subst Q e (subst P none h)

    -- the rules are those that were read, and none other
    pub config_once : PutEndsOnce readings old (config, slice) → IsSome told → RulesEndOnce readings told config
    config_once once some other is =
        let P : Files → Type 0 = λ fs. PutEndsOnce readings fs (config, slice) in
        let Q : List ℕ → Type 0 = λ bs. PutEndsOnce readings [] (config, bs) in
        subst Q (sym (fronts_once told some config 262145 bytes other read is)) (subst Q e (subst P none once))

    pub over_rules : (fault : PutFault) (kind : LimitKind) (n : ℕ) → fault ≡ puts.OverLimit kind n → TellsPut (PutRuleEnds readings.writes old (config, slice)) fault → TakesNone readings told config prefix (OverLimit kind n)
    over_rules fault kind n is h = let P : PutFault → Type 0 = λ f. TellsPut (PutRuleEnds readings.writes old (config, slice)) f in rules_over bytes kind n read (alone (Some (kind, n)) (subst P is h))

    module _ (within : PutRuleEnds readings.writes old (config, slice) None) (was : Files) (no-files : was ≡ []) (now : Option Files) (kept : KeepsFiles told now) where
      passes : (over : Option (LimitKind × ℕ)) → SyncPasses now prefix was over → SyncPasses told prefix [] over
      passes over (all, are, passed) =
          let P : Files → Type 0 = λ fs. AreSynced told prefix fs all in
          (all, subst P no-files (synced_before told now kept prefix was all are), passed)

      pub over_files : (fault : SyncFault) (kind : LimitKind) (n : ℕ) → fault ≡ syncs.OverLimit kind n → TellsLimit (SyncPasses now prefix was) fault → TakesNone readings told config prefix (OverLimit kind n)
      over_files fault kind n is h = let P : SyncFault → Type 0 = λ f. TellsLimit (SyncPasses now prefix was) f in files_over bytes kind n (read, alone None within) (passes (Some (kind, n)) (subst P is h))

      pub taken : (rules files : Files) → rules ≡ with_file old (config, slice) → Syncs now prefix was files → SyncPasses now prefix was None → Takes readings told config prefix (record { files = files; rules = rules })
      taken rules files put (all, are, e') few =
          let P : Files → Type 0 = λ fs. AreSynced told prefix fs all in
          let f : Files → Files = λ fs. with_file fs (config, slice) in
          let g : List ℕ → Files = λ bs. (config, bs) ∷ [] in
          record {
            bytes = bytes;
            read = (read, alone None within);
            rules = put ∙ ap f none ∙ ap g e;
            synced = (all, subst P no-files (synced_before told now kept prefix was all are), e');
            within = passes None few;
          }
