-- The input that a source tells.
use Rattle.std.proofs.Common.{◌≡◌, ℕ, ◌≤◌, List, [], ◌++◌, length, refl, ap, ◌∙◌, arith, length-append}
use Rattle.std.specs.Prelude.{Option, Some, None}
use Rattle.std.specs.Io.KnownBytes.{Consumes, IsAtEnd}
use Rattle.std.proofs.lemmas.List.{append-nil}
use Rattle.run_status.specs.declared.status.Status.{Status}
use Rattle.run_status.specs.declared.status.Status.TheVariants as statuses
use Rattle.run_status.specs.Status.{IsAnswer}
use Rattle.scan_run.specs.Status.{HasInputCause, IsOfInput}
use Rattle.scan_run.specs.Streams.{Tells, IsTarget, IsTooLong}

-- whatever the source tells is some input
pub some_input : (left : Option (List ℕ)) → (input : List ℕ) × Tells left input
some_input None = ([], tt)
some_input (Some xs) = (xs, refl)

-- what was read to the end is the input
pub whole_input : (left after : Option (List ℕ)) (read : List ℕ) → Consumes left after read → IsAtEnd after → length read ≤ 1000000 → IsTarget left read
whole_input left after read h e short = record { told = told left after h e; short = short }
  where
    told : (left after : Option (List ℕ)) → Consumes left after read → IsAtEnd after → Tells left read
    told None after h e = tt
    told (Some xs) None h e = absurd h
    told (Some xs) (Some ys) h e = h ∙ ap (λ (l : List ℕ). read ++ l) e ∙ append-nil read

-- some input begins with what was read
pub long_input : (left after : Option (List ℕ)) (read : List ℕ) → Consumes left after read → 1000001 ≤ length read → IsTooLong left
long_input None after read h long = record { input = read; told = tt; long = long }
long_input (Some xs) None read h long = absurd h
long_input (Some xs) (Some ys) read h long = record { input = xs; told = refl; long = omega (arith, ap length h, length-append read ys, long) }

-- ---- how reading the input may end a run

module _ (f f' : ℕ) where
  pub input_kept : (s : Status) → HasInputCause f f' s → IsAnswer s → f' ≡ f
  input_kept (statuses.OverLimit kind n) h a = h
  input_kept statuses.Memory h a = absurd a
  input_kept statuses.InputFault h a = absurd a
  input_kept statuses.Done h a = absurd h
  input_kept statuses.Findings h a = absurd h
  input_kept statuses.Usage h a = absurd h
  input_kept statuses.OutputFault h a = absurd h
  input_kept statuses.TreeFault h a = absurd h
  input_kept (statuses.TooMany n) h a = absurd h
  input_kept statuses.NoSuchPath h a = absurd h
  input_kept statuses.BadTarget h a = absurd h
  input_kept statuses.BadPattern h a = absurd h
  input_kept (statuses.BadCommand place) h a = absurd h

  pub of_input : (s : Status) → HasInputCause f f' s → IsOfInput s
  of_input (statuses.OverLimit kind n) h = tt
  of_input statuses.Memory h = tt
  of_input statuses.InputFault h = tt
  of_input statuses.Done h = tt
  of_input statuses.Findings h = tt
  of_input statuses.Usage h = tt
  of_input statuses.OutputFault h = tt
  of_input statuses.TreeFault h = h
  of_input (statuses.TooMany n) h = tt
  of_input statuses.NoSuchPath h = h
  of_input statuses.BadTarget h = tt
  of_input statuses.BadPattern h = tt
  of_input (statuses.BadCommand place) h = tt
