-- What edits do.
use Rattle.std.proofs.Common.{◌≡◌, ℕ, List, Bool, refl, sym, ap, ◌∙◌, subst}
use Rattle.std.specs.Prelude.{Option, Some, None, Result, Err}
use Rattle.std.specs.Option.{is_some}
use Rattle.scan_world.specs.Files.{Files}
use Rattle.file_map.specs.FileMap.{bytes_at, with_file, without_file, over_limit, TellsOver, TellsPut}
use Rattle.file_map.specs.Sync.{Syncs, SyncPasses}
use Rattle.rule_map.specs.RuleMap.{PutRuleEnds}
use Rattle.file_map.specs.declared.limit.LimitKind.{LimitKind}
use Rattle.file_map.specs.declared.fault.PutFault.{PutFault}
use Rattle.file_map.specs.declared.fault.PutFault.TheVariants as puts
use Rattle.file_map.specs.declared.fault.SyncFault.{SyncFault}
use Rattle.file_map.specs.declared.fault.SyncFault.TheVariants as syncs
use Rattle.file_map.specs.Faults.{TellsLimit}
use Rattle.wire_stream.specs.declared.wire.Wire.{Wire}
use Rattle.wire_stream.specs.declared.wire.Wire.TheVariants as wires
use Rattle.workspace.specs.State.{State, with_files, with_rules, files_put}
use Rattle.workspace.specs.Reports.{Readings}
use Rattle.stream_run.specs.declared.reply.Reply.TheVariants as replies
use Rattle.stream_run.specs.declared.fault.PlayFault.{PlayFault}
use Rattle.stream_run.specs.declared.fault.PlayFault.TheVariants as plays
use Rattle.stream_run.specs.Faults.{of_put, of_sync, TellsPassed}
use Rattle.stream_run.specs.Reading.{PutEndsOnce, ReadsOnce}
use Rattle.stream_run.specs.Doing.{Shelves, Does, put, del, rule, unrule, sync, done, put_over, rule_over, sync_over}
use Rattle.stream_run.specs.Still.{setting, shelves_of, IsEdit, DoesEver, PassesEver}

pub edit_if : (wire : Wire) → (wire ≡ wires.Scan → ⊥) → (wire ≡ wires.Fix → ⊥) → IsEdit wire
edit_if (wires.Put path bytes) scan fix = tt
edit_if (wires.Del path) scan fix = tt
edit_if (wires.Rule name bytes) scan fix = tt
edit_if (wires.Unrule name) scan fix = tt
edit_if (wires.Sync prefix) scan fix = tt
edit_if wires.Scan scan fix = absurd (scan refl)
edit_if wires.Fix scan fix = absurd (fix refl)
edit_if wires.End scan fix = tt

-- no put fails by a call of the tree
pub put_unfailed : {X : Type 0} (fault : PutFault) → ◌≡◌ {A = Result X PlayFault} (Err (of_put fault)) (Err plays.Failed) → ⊥
put_unfailed puts.Memory e = absurd cc
put_unfailed (puts.OverLimit kind n) e = absurd cc

module _ (readings : Readings) (told : Option Files) (old : State) where
  module _ (new : State) where
    module _ (path bytes : List ℕ) where
      pub put_does : new ≡ with_files old (files_put old.files path bytes) → over_limit (files_put old.files path bytes) ≡ None → DoesEver readings told old (wires.Put path bytes) new replies.Done
      put_does e within refused =
          subst (λ (shelves : Shelves). Does (setting readings told old.most refused) (shelves_of old) (wires.Put path bytes) shelves replies.Done) (sym (ap shelves_of e)) (put path bytes within)

      pub rule_does : new ≡ with_rules old (with_file old.rules (path, bytes)) → PutRuleEnds readings.writes old.rules (path, bytes) None → DoesEver readings told old (wires.Rule path bytes) new replies.Done
      rule_does e within refused =
          subst (λ (shelves : Shelves). Does (setting readings told old.most refused) (shelves_of old) (wires.Rule path bytes) shelves replies.Done) (sym (ap shelves_of e)) (rule path bytes within)

    module _ (path : List ℕ) (there : Bool) where
      pub del_does : new ≡ with_files old (without_file path old.files) → there ≡ is_some (bytes_at path old.files) → DoesEver readings told old (wires.Del path) new (replies.Removed there)
      del_does e is refused =
          let P : Shelves → Bool → Type 0 = λ shelves b. Does (setting readings told old.most refused) (shelves_of old) (wires.Del path) shelves (replies.Removed b) in
          subst (λ (shelves : Shelves). P shelves there) (sym (ap shelves_of e)) (subst (P (shelves_of (with_files old (without_file path old.files)))) (sym is) (del path))

      pub unrule_does : new ≡ with_rules old (without_file path old.rules) → there ≡ is_some (bytes_at path old.rules) → DoesEver readings told old (wires.Unrule path) new (replies.Removed there)
      unrule_does e is refused =
          let P : Shelves → Bool → Type 0 = λ shelves b. Does (setting readings told old.most refused) (shelves_of old) (wires.Unrule path) shelves (replies.Removed b) in
          subst (λ (shelves : Shelves). P shelves there) (sym (ap shelves_of e)) (subst (P (shelves_of (with_rules old (without_file path old.rules)))) (sym is) (unrule path))

    pub sync_does : (prefix : List ℕ) → new ≡ with_files old new.files → Syncs told prefix old.files new.files → SyncPasses told prefix old.files None → DoesEver readings told old (wires.Sync prefix) new replies.Done
    sync_does prefix e syncs within refused =
        subst (λ (shelves : Shelves). Does (setting readings told old.most refused) (shelves_of old) (wires.Sync prefix) shelves replies.Done) (sym (ap shelves_of e)) (sync prefix new.files syncs within)

    pub end_does : new ≡ old → DoesEver readings told old wires.End new replies.Done
    end_does e refused = subst (λ (shelves : Shelves). Does (setting readings told old.most refused) (shelves_of old) wires.End shelves replies.Done) (sym (ap shelves_of e)) done

  pub put_passes : (path bytes : List ℕ) (kind : LimitKind) (n : ℕ) → over_limit (files_put old.files path bytes) ≡ Some (kind, n) → PassesEver readings told old (wires.Put path bytes) kind n
  put_passes path bytes kind n e refused = put_over path bytes e

  pub rule_passes : (name bytes : List ℕ) (kind : LimitKind) (n : ℕ) → PutRuleEnds readings.writes old.rules (name, bytes) (Some (kind, n)) → PassesEver readings told old (wires.Rule name bytes) kind n
  rule_passes name bytes kind n e refused = rule_over name bytes e

  pub sync_passes : (prefix : List ℕ) (kind : LimitKind) (n : ℕ) → SyncPasses told prefix old.files (Some (kind, n)) → PassesEver readings told old (wires.Sync prefix) kind n
  sync_passes prefix kind n e refused = sync_over prefix e

-- ---- the same, as the code has the commands

module _ (readings : Readings) (told : Option Files) (old : State) (wire : Wire) where
  -- a command that reads no rules
  pub once_at : (w : Wire) → wire ≡ w → ReadsOnce readings old.rules w → ReadsOnce readings old.rules wire
  once_at w is once = subst (λ (x : Wire). ReadsOnce readings old.rules x) (sym is) once

  module _ (p b x y : List ℕ) (same_path : x ≡ p) (same_bytes : y ≡ b) where
    module _ (is : wire ≡ wires.Put p b) where
      is_put : wires.Put x y ≡ wire
      is_put = ap (λ (q : List ℕ). wires.Put q y) same_path ∙ ap (λ (q : List ℕ). wires.Put p q) same_bytes ∙ sym is

      pub put_at : (new : State) → new ≡ with_files old (files_put old.files x y) → over_limit (files_put old.files x y) ≡ None → DoesEver readings told old wire new replies.Done
      put_at new e within = subst (λ (w : Wire). DoesEver readings told old w new replies.Done) is_put (put_does readings told old new x y e within)

      pub put_passed : (fault : PutFault) → TellsOver (over_limit (files_put old.files x y)) fault → TellsPassed (PassesEver readings told old wire) (of_put fault)
      put_passed puts.Memory h = tt
      put_passed (puts.OverLimit kind n) h = subst (λ (w : Wire). PassesEver readings told old w kind n) is_put (put_passes readings told old x y kind n h)

    module _ (is : wire ≡ wires.Rule p b) where
      is_rule : wires.Rule x y ≡ wire
      is_rule = ap (λ (q : List ℕ). wires.Rule q y) same_path ∙ ap (λ (q : List ℕ). wires.Rule p q) same_bytes ∙ sym is

      pub rule_at : (new : State) → new ≡ with_rules old (with_file old.rules (x, y)) → PutRuleEnds readings.writes old.rules (x, y) None → DoesEver readings told old wire new replies.Done
      rule_at new e within = subst (λ (w : Wire). DoesEver readings told old w new replies.Done) is_rule (rule_does readings told old new x y e within)

      pub rule_once : PutEndsOnce readings old.rules (x, y) → ReadsOnce readings old.rules wire
      rule_once once = subst (λ (w : Wire). ReadsOnce readings old.rules w) is_rule once

      pub rule_passed : (fault : PutFault) → TellsPut (PutRuleEnds readings.writes old.rules (x, y)) fault → TellsPassed (PassesEver readings told old wire) (of_put fault)
      rule_passed puts.Memory h = tt
      rule_passed (puts.OverLimit kind n) h = subst (λ (w : Wire). PassesEver readings told old w kind n) is_rule (rule_passes readings told old x y kind n h)

  module _ (p x : List ℕ) (same_path : x ≡ p) where
    pub del_at : wire ≡ wires.Del p → (new : State) (there : Bool) → new ≡ with_files old (without_file x old.files) → there ≡ is_some (bytes_at x old.files) → DoesEver readings told old wire new (replies.Removed there)
    del_at is new there e was = subst (λ (w : Wire). DoesEver readings told old w new (replies.Removed there)) (ap (λ (q : List ℕ). wires.Del q) same_path ∙ sym is) (del_does readings told old new x there e was)

    pub unrule_at : wire ≡ wires.Unrule p → (new : State) (there : Bool) → new ≡ with_rules old (without_file x old.rules) → there ≡ is_some (bytes_at x old.rules) → DoesEver readings told old wire new (replies.Removed there)
    unrule_at is new there e was = subst (λ (w : Wire). DoesEver readings told old w new (replies.Removed there)) (ap (λ (q : List ℕ). wires.Unrule q) same_path ∙ sym is) (unrule_does readings told old new x there e was)

    module _ (is : wire ≡ wires.Sync p) where
      is_sync : wires.Sync x ≡ wire
      is_sync = ap (λ (q : List ℕ). wires.Sync q) same_path ∙ sym is

      pub sync_at : (new : State) → new ≡ with_files old new.files → Syncs told x old.files new.files → SyncPasses told x old.files None → DoesEver readings told old wire new replies.Done
      sync_at new e syncs within = subst (λ (w : Wire). DoesEver readings told old w new replies.Done) is_sync (sync_does readings told old new x e syncs within)

      pub sync_passed : (fault : SyncFault) → TellsLimit (SyncPasses told x old.files) fault → TellsPassed (PassesEver readings told old wire) (of_sync fault)
      sync_passed syncs.Memory h = tt
      sync_passed syncs.Failed h = tt
      sync_passed (syncs.OverLimit kind n) h = subst (λ (w : Wire). PassesEver readings told old w kind n) is_sync (sync_passes readings told old x kind n h)

  pub end_at : wire ≡ wires.End → DoesEver readings told old wire old replies.Done
  end_at is = subst (λ (w : Wire). DoesEver readings told old w old replies.Done) (sym is) (end_does readings told old old refl)
