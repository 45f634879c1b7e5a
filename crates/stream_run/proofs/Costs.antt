-- What commands cost in steps, whatever is refused later.
use Rattle.std.proofs.Common.{◌≡◌, ℕ, List, ◌++◌, sym, subst}
use Rattle.rule_form.specs.declared.rule.Rule.{Rule}
use Rattle.decided_texts.specs.Decided.{AreUndecided}
use Rattle.workspace.proofs.ScanLater.{same_running}
use Rattle.workspace.specs.SeenFiles.{SeenFiles}
use Rattle.workspace.specs.Needs.{IsNeeded}
use Rattle.workspace.specs.Seen.{HasSeen}
use Rattle.workspace.specs.Spends.{Spends}
use Rattle.wire_stream.specs.declared.wire.Wire.{Wire}
use Rattle.wire_stream.specs.declared.wire.Wire.TheVariants as wires
use Rattle.workspace.specs.State.{State}
use Rattle.workspace.specs.Reports.{Readings, AreAllDecided}
use Rattle.workspace.specs.Work.{Works}
use Rattle.stream_run.specs.Still.{IsEdit, CostsStill}

module _ (readings : Readings) (old new : State) (was seen : SeenFiles) (before after : ℕ) where
  module _ (all : AreAllDecided readings.writes old.rules new.decided) (w : Works readings new.decided.refused old.files old.rules was seen before after) where
    -- the same rules run
    works_still : (later : List (List ℕ)) → AreUndecided new.decided later → Works readings (new.decided.refused ++ later) old.files old.rules was seen before after
    works_still later free =
        let same = sym (same_running new.decided later w.contents free (λ text h. all w.contents text w.are h)) in
        record {
          contents = w.contents;
          are = w.are;
          seen = subst (λ (rules : List Rule). HasSeen readings.grammars rules old.files seen) same w.seen;
          rules_before = w.rules_before;
          files_before = w.files_before;
          was = w.was;
          spends = subst (λ (rules : List Rule). Spends w.files_before old.files (IsNeeded w.rules_before was.files) (IsNeeded rules seen.files) before after) same w.spends;
        }

    pub scan_costs : CostsStill readings old wires.Scan new was seen before after
    scan_costs later free = works_still later free

    pub fix_costs : CostsStill readings old wires.Fix new was seen before after
    fix_costs later free = works_still later free

  -- a command that asks for no scan takes none
  pub edit_costs : (wire : Wire) → IsEdit wire → seen ≡ was → after ≡ before → CostsStill readings old wire new was seen before after
  edit_costs (wires.Put path bytes) edit same none later free = (same, none)
  edit_costs (wires.Del path) edit same none later free = (same, none)
  edit_costs (wires.Rule name bytes) edit same none later free = (same, none)
  edit_costs (wires.Unrule name) edit same none later free = (same, none)
  edit_costs (wires.Sync prefix) edit same none later free = (same, none)
  edit_costs wires.Scan edit same none later free = absurd edit
  edit_costs wires.Fix edit same none later free = absurd edit
  edit_costs wires.End edit same none later free = (same, none)
