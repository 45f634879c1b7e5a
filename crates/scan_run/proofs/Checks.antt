-- A check ends in one way.
use Rattle.std.proofs.Common.{◌≡◌, ℕ, List, [], ◌∷◌, refl, sym, ap, ◌∙◌, subst, arith}
use Rattle.std.specs.Prelude.{Option, Some, None, IsSome}
use Rattle.std.specs.List.{concat}
use Rattle.std.specs.Str.{IsUtf8}
use Rattle.std.specs.Io.KnownBytes.{Appends}
use Rattle.std.proofs.lemmas.List.{append-nil}
use Rattle.scan_world.specs.Streams.{AppendsFront}
use Rattle.json_check.specs.Viable.{IsFirstBad, IsLongestViable}
use Rattle.run_status.specs.declared.status.Status.{Status}
use Rattle.run_status.specs.declared.status.Status.TheVariants.{OverLimit, Done, BadTarget}
use Rattle.file_map.specs.declared.limit.LimitKind.TheVariants.{Target}
use Rattle.scan_run.specs.Streams.{Tells, IsTarget, IsTooLong}
use Rattle.run_status.specs.Ways.{Printed, PrintedFront, IsOnlyEnd}
use Rattle.scan_run.specs.Checking.{check_line, CheckEnds, over_limit, bad_target, checked, Checks}
use Rattle.scan_run.proofs.Streaming.{nothing_written}

longest_once : (text : List ℕ) (n m : ℕ) → IsLongestViable text n → IsLongestViable text m → m ≡ n
longest_once text n m a b =
    let up = a.longest b.front b.rest b.parts b.utf8 b.viable in
    let down = b.longest a.front a.rest a.parts a.utf8 a.viable in
    omega (arith, a.len, b.len, up, down)

first_bad_once : (text : List ℕ) (a b : Option ℕ) → IsFirstBad text a → IsFirstBad text b → b ≡ a
first_bad_once text None None a b = refl
first_bad_once text None (Some m) a b = absurd (b.0 a)
first_bad_once text (Some n) None a b = absurd (a.0 b)
first_bad_once text (Some n) (Some m) a b = ap (λ (k : ℕ). Some k) (longest_once text n m a.1 b.1)

check_once : (input : List ℕ) (s t : Status) (ls ms : List (List ℕ)) → CheckEnds input s ls → CheckEnds input t ms → (t ≡ s) × (ms ≡ ls)
check_once input _ _ _ _ (over_limit long) (over_limit _) = (refl, refl)
check_once input _ _ _ _ (over_limit long) (bad_target short _) = absurd (omega arith)
check_once input _ _ _ _ (over_limit long) (checked _ short _ _) = absurd (omega arith)
check_once input _ _ _ _ (bad_target short none) (over_limit long) = absurd (omega arith)
check_once input _ _ _ _ (bad_target short none) (bad_target _ _) = (refl, refl)
check_once input _ _ _ _ (bad_target short none) (checked _ _ utf8 _) = absurd (none utf8)
check_once input _ _ _ _ (checked bad short utf8 is) (over_limit long) = absurd (omega arith)
check_once input _ _ _ _ (checked bad short utf8 is) (bad_target _ none) = absurd (none utf8)
check_once input _ _ _ _ (checked bad short utf8 is) (checked other _ _ is') = (refl, ap (λ (b : Option ℕ). check_line b ∷ []) (first_bad_once input bad other is is'))

-- what was written and the status are those of the one way to end
only_check : (input : List ℕ) (left w v : Option (List ℕ)) (s : Status) (lines : List (List ℕ)) → Tells left input → CheckEnds input s lines → Appends w v (concat lines) → IsSome left → IsOnlyEnd (Checks left) w v s
only_check input None w v s lines told ends put some other ms checks = absurd (no_bytes some)
  where
    no_bytes : IsSome {T = List ℕ} None → ⊥
    no_bytes e = absurd cc
only_check input (Some bytes) w v s lines told ends put some other ms (input', told', ends') =
    let P : List ℕ → Type 0 = λ l. CheckEnds l other ms in
    let same = check_once input s other lines ms ends (subst P (sym told' ∙ told) ends') in
    let Q : List (List ℕ) → Type 0 = λ ls. Appends w v (concat ls) in
    (same.0, subst Q (sym same.1) put)

-- ---- an end before anything is printed

module _ (left w : Option (List ℕ)) where
  module _ (long : IsTooLong left) where
    pub ends_over_limit : Printed (Checks left) w w (OverLimit Target 1000001)
    ends_over_limit = record { lines = []; ends = (long.input, long.told, over_limit long.long); printed = nothing_written w }

    pub only_over_limit : IsSome left → IsOnlyEnd (Checks left) w w (OverLimit Target 1000001)
    only_over_limit = only_check long.input left w w (OverLimit Target 1000001) [] long.told (over_limit long.long) (nothing_written w)

  module _ (input : List ℕ) (is : IsTarget left input) (none : IsUtf8 input → ⊥) where
    pub ends_bad_target : Printed (Checks left) w w BadTarget
    ends_bad_target = record { lines = []; ends = (input, is.told, bad_target is.short none); printed = nothing_written w }

    pub only_bad_target : IsSome left → IsOnlyEnd (Checks left) w w BadTarget
    only_bad_target = only_check input left w w BadTarget [] is.told (bad_target is.short none) (nothing_written w)

-- ---- an end with a line

module _ (left w v : Option (List ℕ)) (input : List ℕ) (is : IsTarget left input) (utf8 : IsUtf8 input) (bad : Option ℕ) (first : IsFirstBad input bad) where
  ends : CheckEnds input Done (check_line bad ∷ [])
  ends = checked bad is.short utf8 first

  module _ (put : Appends w v (check_line bad)) where
    printed : Appends w v (concat (check_line bad ∷ []))
    printed = subst (λ (l : List ℕ). Appends w v l) (sym (append-nil (check_line bad))) put

    pub ends_checked : Printed (Checks left) w v Done
    ends_checked = record { lines = check_line bad ∷ []; ends = (input, is.told, ends); printed = printed }

    pub only_checked : IsSome left → IsOnlyEnd (Checks left) w v Done
    only_checked = only_check input left w v Done (check_line bad ∷ []) is.told ends printed

  pub front_checked : AppendsFront w v (check_line bad) → PrintedFront (Checks left) w v
  front_checked put = record {
    status = Done;
    finished = tt;
    lines = check_line bad ∷ [];
    ends = (input, is.told, ends);
    printed = subst (λ (l : List ℕ). AppendsFront w v l) (sym (append-nil (check_line bad))) put;
  }
