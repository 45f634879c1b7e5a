-- What the clauses of a session say of its end.
use Rattle.std.proofs.Common.{◌≡◌, ℕ, refl, sym, subst}
use Rattle.std.specs.Prelude.{IsSome}
use Rattle.scan_world.specs.Faults.{Rose}
use Rattle.run_status.specs.declared.status.Status.{Status}
use Rattle.run_status.specs.declared.status.Status.TheVariants as statuses
use Rattle.run_status.specs.Status.{IsAnswer}
use Rattle.run_status.specs.Ways.{IsOnlyEnd}
use Rattle.stream_run.specs.Doing.{Setting}
use Rattle.stream_run.specs.Playing.{SessionEnds, PrintsEnd, PrintsFirst, PrintsFront, PrintsWhole, PrintsToSync}
use Rattle.stream_run.specs.Costs.{EndsAfter, FrontAfter}
use Rattle.stream_run.specs.Asking.{EndGoesBy, AsksOnce, EndsAsking, FrontAsking}
use Rattle.stream_run.proofs.Sure.{SureEnd}
use Rattle.stream_run.proofs.Once.{only_way}
use Rattle.stream_run.proofs.Gained.{Texts}
use Rattle.stream_run.proofs.Asking.{Asked}
use Rattle.stream_run.proofs.Turns.{Bytes}

-- the session ended so, took these steps, each command read its rule files in the one way that there is, and the builder was asked
-- once for each text that they went by
pub record EndsSurely (s : Setting) (stream written written_after : Bytes) (status : Status) (before after : ℕ) (builder builder_after : Asked) : Type 0 where
  pub ends : EndsAfter s stream written written_after status before after
  pub sure : SureEnd ends.prints.ends
  pub texts : Texts
  pub goes_by : EndGoesBy ends.prints.ends texts
  pub once : AsksOnce builder builder_after texts

-- what the clauses of a session say of its end, with what was read, written and refused before and after, and what the builder
-- was asked for
pub record IsServed (s : Setting) (stream stream_after written written_after : Bytes) (source source_after sink sink_after tree tree_after before after : ℕ) (builder builder_after : Asked) (status : Status) : Type 0 where
  pub ends : IsAnswer status → PrintsEnd s stream written written_after status
  pub only : IsAnswer status → IsSome stream → IsSome s.told → IsOnlyEnd (SessionEnds s stream) written written_after status
  pub input_kept : IsAnswer status → source_after ≡ source
  pub output_kept : IsAnswer status → sink_after ≡ sink
  pub tree_kept : IsAnswer status → tree_after ≡ tree
  pub first_lines : status ≡ statuses.Memory → PrintsFirst s stream written written_after
  pub whole_lines : status ≡ statuses.InputFault → PrintsWhole s stream stream_after written written_after
  pub before_sync : status ≡ statuses.TreeFault → PrintsToSync s stream written written_after
  pub front : status ≡ statuses.OutputFault → PrintsFront s stream written written_after
  pub work : IsAnswer status → EndsAfter s stream written written_after status before after
  pub work_to_fault : (IsAnswer status → ⊥) → (status ≡ statuses.Memory → ⊥) → FrontAfter s stream written written_after before after
  pub asked : IsAnswer status → EndsAsking s stream written written_after status builder builder_after
  pub asked_to_fault : (IsAnswer status → ⊥) → (status ≡ statuses.Memory → ⊥) → FrontAsking s stream written written_after builder builder_after
  pub input_fault : status ≡ statuses.InputFault → Rose source source_after
  pub output_fault : status ≡ statuses.OutputFault → Rose sink sink_after
  pub tree_fault : status ≡ statuses.TreeFault → Rose tree tree_after

module _ (s : Setting) (stream stream_after written written_after : Bytes) (source source_after sink sink_after tree tree_after before after : ℕ) (builder builder_after : Asked) where
  abbrev Served : Status → Type 0
  Served status = IsServed s stream stream_after written written_after source source_after sink sink_after tree tree_after before after builder builder_after status

  answer_no : (status other : Status) → (IsAnswer other → ⊥) → IsAnswer status → status ≡ other → ⊥
  answer_no status other no_answer is e = no_answer (subst IsAnswer e is)

  pub answered : (status : Status) → IsAnswer status → EndsSurely s stream written written_after status before after builder builder_after → source_after ≡ source → sink_after ≡ sink → tree_after ≡ tree → Served status
  answered status is p i o t = record {
    ends = λ _. p.ends.prints;
    only = λ _. only_way s stream written written_after status p.ends.prints p.sure;
    input_kept = λ _. i;
    output_kept = λ _. o;
    tree_kept = λ _. t;
    first_lines = λ e. absurd (answer_no status statuses.Memory (λ h. h) is e);
    whole_lines = λ e. absurd (answer_no status statuses.InputFault (λ h. h) is e);
    before_sync = λ e. absurd (answer_no status statuses.TreeFault (λ h. h) is e);
    front = λ e. absurd (answer_no status statuses.OutputFault (λ h. h) is e);
    work = λ _. p.ends;
    work_to_fault = λ fault got. absurd (fault is);
    asked = λ _. record { prints = p.ends.prints; texts = p.texts; goes_by = p.goes_by; asked = p.once };
    asked_to_fault = λ fault got. absurd (fault is);
    input_fault = λ e. absurd (answer_no status statuses.InputFault (λ h. h) is e);
    output_fault = λ e. absurd (answer_no status statuses.OutputFault (λ h. h) is e);
    tree_fault = λ e. absurd (answer_no status statuses.TreeFault (λ h. h) is e);
  }

  pub out_of_memory : PrintsFirst s stream written written_after → Served statuses.Memory
  out_of_memory p = record {
    ends = λ h. absurd h;
    only = λ h. absurd h;
    input_kept = λ h. absurd h;
    output_kept = λ h. absurd h;
    tree_kept = λ h. absurd h;
    first_lines = λ _. p;
    whole_lines = λ e. absurd cc;
    before_sync = λ e. absurd cc;
    front = λ e. absurd cc;
    work = λ h. absurd h;
    work_to_fault = λ fault got. absurd (got refl);
    asked = λ h. absurd h;
    asked_to_fault = λ fault got. absurd (got refl);
    input_fault = λ e. absurd cc;
    output_fault = λ e. absurd cc;
    tree_fault = λ e. absurd cc;
  }

  pub tree_failed : PrintsToSync s stream written written_after → FrontAfter s stream written written_after before after → FrontAsking s stream written written_after builder builder_after → Rose tree tree_after → Served statuses.TreeFault
  tree_failed p took asking rose = record {
    ends = λ h. absurd h;
    only = λ h. absurd h;
    input_kept = λ h. absurd h;
    output_kept = λ h. absurd h;
    tree_kept = λ h. absurd h;
    first_lines = λ e. absurd cc;
    whole_lines = λ e. absurd cc;
    before_sync = λ _. p;
    front = λ e. absurd cc;
    work = λ h. absurd h;
    work_to_fault = λ fault got. took;
    asked = λ h. absurd h;
    asked_to_fault = λ fault got. asking;
    input_fault = λ e. absurd cc;
    output_fault = λ e. absurd cc;
    tree_fault = λ _. rose;
  }

  pub input_failed : PrintsWhole s stream stream_after written written_after → FrontAfter s stream written written_after before after → FrontAsking s stream written written_after builder builder_after → Rose source source_after → Served statuses.InputFault
  input_failed p took asking rose = record {
    ends = λ h. absurd h;
    only = λ h. absurd h;
    input_kept = λ h. absurd h;
    output_kept = λ h. absurd h;
    tree_kept = λ h. absurd h;
    first_lines = λ e. absurd cc;
    whole_lines = λ _. p;
    before_sync = λ e. absurd cc;
    front = λ e. absurd cc;
    work = λ h. absurd h;
    work_to_fault = λ fault got. took;
    asked = λ h. absurd h;
    asked_to_fault = λ fault got. asking;
    input_fault = λ _. rose;
    output_fault = λ e. absurd cc;
    tree_fault = λ e. absurd cc;
  }

  pub output_failed : FrontAfter s stream written written_after before after → FrontAsking s stream written written_after builder builder_after → Rose sink sink_after → Served statuses.OutputFault
  output_failed took asking rose = record {
    ends = λ h. absurd h;
    only = λ h. absurd h;
    input_kept = λ h. absurd h;
    output_kept = λ h. absurd h;
    tree_kept = λ h. absurd h;
    first_lines = λ e. absurd cc;
    whole_lines = λ e. absurd cc;
    before_sync = λ e. absurd cc;
    front = λ _. took.prints;
    work = λ h. absurd h;
    work_to_fault = λ fault got. took;
    asked = λ h. absurd h;
    asked_to_fault = λ fault got. asking;
    input_fault = λ e. absurd cc;
    output_fault = λ _. rose;
    tree_fault = λ e. absurd cc;
  }

  pub served_as : (status other : Status) → other ≡ status → Served status → Served other
  served_as status other e h = subst (λ (x : Status). IsServed s stream stream_after written written_after source source_after sink sink_after tree tree_after before after builder builder_after x) (sym e) h
