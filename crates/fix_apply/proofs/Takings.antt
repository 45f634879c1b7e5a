-- What is taken of fixes, one after the other.
use Rattle.std.proofs.Common.{◌≡◌, ◌⊎◌, inl, inr, ℕ, ◌+◌, ◌<◌, ◌≤◌, List, [], ◌∷◌, ◌++◌, length, drop, get_or, refl, sym, ap, ◌∙◌, subst, arith, append_assoc}
use Rattle.std.specs.Prelude.{Option, None, Some, All, Contains}
use Rattle.std.specs.Option.{option_map}
use Rattle.std.specs.List.{cons_option}
use Rattle.std.proofs.lemmas.Bool.{cases_lt}
use Rattle.std.specs.List.Sorted.{IsNonDecreasingBy}
use Rattle.std.proofs.lemmas.List.{append-nil, drop_all, get_or_default}
use Rattle.std.proofs.lemmas.List.Elements.{All-nil, All-cons, All-contains, Contains-push}
use Rattle.node_tree.specs.declared.span.Span.{Span}
use Rattle.report_form.specs.declared.edit.Edit.{Edit}
use Rattle.report_form.specs.declared.report.Reported.{Reported}
use Rattle.fix_apply.specs.Order.{begins_at}
use Rattle.fix_apply.specs.Applied.{LieIn}
use Rattle.fix_apply.specs.Choices.{SharesByte, IsFree, offer, offers, AreTaken, EndBy}
use Rattle.fix_apply.proofs.Applications.{next_item, lie_within}

-- nothing was taken so far, or what was taken last ends there and begins no later than any of the results to come
abbrev pub IsReached : List Reported → ℕ → List Edit → ℕ → Type 0
IsReached results i edits end =
    (end ≡ 0) ⊎ ((t : Edit) × Contains edits t × (t.span.to ≡ end) × ((k : ℕ) (d : Reported) → i ≤ k → k < length results → t.span.from ≤ begins_at (get_or results k d)))

-- these edits were taken of the results before place i, and the last of them ends there
pub record HasTaken (results : List Reported) (i : ℕ) (edits : List Edit) (end : ℕ) : Type 0 where
  pub whole : (rest : List Edit) → AreTaken edits (offers (drop i results)) rest → AreTaken [] (offers results) (edits ++ rest)
  pub lie : LieIn 0 end edits
  pub within : (size : ℕ) → EndBy size results → end ≤ size
  pub last : IsReached results i edits end

pub nothing_taken : (results : List Reported) → HasTaken results 0 [] 0
nothing_taken results = record { whole = λ rest h. h; lie = omega arith; within = λ size h. omega arith; last = inl refl }

-- ---- which range is free

all_behind : (from end : ℕ) (edits : List Edit) (s : Span) → LieIn from end edits → end ≤ s.from → All (λ t. SharesByte t.span s → ⊥) edits
all_behind from end [] s lie le = All-nil (λ (t : Edit). SharesByte t.span s → ⊥)
all_behind from end (e ∷ es) s lie le =
    let P : Edit → Type 0 = λ t. SharesByte t.span s → ⊥ in
    let here = lie_within e.span.to end es lie.2 in
    All-cons P e es (λ h. omega (arith, h.1.1, h.2.0, here, le)) (all_behind e.span.to end es s lie.2 le)

is_free : (end : ℕ) (edits : List Edit) (e : Edit) → LieIn 0 end edits → e.span.from < e.span.to → end ≤ e.span.from → IsFree edits e
is_free end edits e lie some le = record { some = some; apart = all_behind 0 end edits e.span lie le }

not_free : (results : List Reported) (i : ℕ) (edits : List Edit) (end : ℕ) (r : Reported) (e : Edit) → IsReached results i edits end → i < length results → r ≡ get_or results i r
    → e.span ≡ r.finding.span → ((e.span.from < e.span.to) × (end ≤ e.span.from) → ⊥) → IsFree edits e → ⊥
not_free results i edits end r e (inl none) lt is span not free = not (free.some, omega (arith, none))
not_free results i edits end r e (inr (t, has, ends, rises)) lt is span not free =
    let P : Edit → Type 0 = λ u. SharesByte u.span e.span → ⊥ in
    let begins : begins_at (get_or results i r) ≡ begins_at r = sym (ap begins_at is) in
    let at_e : e.span.from ≡ begins_at r = ap (λ (s : Span). s.from) span in
    let low = rises i r (omega arith) lt in
    not (
      free.some,
      elim (cases_lt e.span.from end) [
        | inl under ↦ absurd (All-contains P edits t free.apart has (e.span.from, (omega (arith, low, begins, at_e), omega (arith, ends, under)), (omega arith, free.some)))
        | inr le ↦ le
      ],
    )

-- ---- one result more

offers_on : (results : List Reported) (i : ℕ) (r : Reported) → i < length results → r ≡ get_or results i r → offers (drop i results) ≡ cons_option (offer r) (offers (drop (i + 1) results))
offers_on results i r lt is = ap offers (next_item results i r lt is)

still_reached : (results : List Reported) (i : ℕ) (edits : List Edit) (end : ℕ) → IsReached results i edits end → IsReached results (i + 1) edits end
still_reached results i edits end (inl none) = inl none
still_reached results i edits end (inr (t, has, ends, rises)) = inr (t, has, ends, λ k d ge lt. rises k d (omega arith) lt)

pub none_on : (results : List Reported) (i : ℕ) (edits : List Edit) (end : ℕ) (r : Reported) → i < length results → r ≡ get_or results i r → r.fix ≡ None
    → HasTaken results i edits end → HasTaken results (i + 1) edits end
none_on results i edits end r lt is none h =
    let on : offers (drop i results) ≡ offers (drop (i + 1) results) = offers_on results i r lt is ∙ ap (λ (f : Option (List ℕ)). cons_option (option_map (λ text. record { span = r.finding.span; text = text }) f) (offers (drop (i + 1) results))) none in
    record {
      whole = λ rest g. h.whole rest (let P : List Edit → Type 0 = λ es. AreTaken edits es rest in subst P (sym on) g);
      lie = h.lie;
      within = h.within;
      last = still_reached results i edits end h.last;
    }

abbrev edit_of : Reported → List ℕ → Edit
edit_of r text = record { span = r.finding.span; text = text }

some_on : (results : List Reported) (i : ℕ) (r : Reported) (text : List ℕ) → i < length results → r ≡ get_or results i r → r.fix ≡ Some text
    → offers (drop i results) ≡ edit_of r text ∷ offers (drop (i + 1) results)
some_on results i r text lt is some =
    offers_on results i r lt is ∙ ap (λ (f : Option (List ℕ)). cons_option (option_map (λ t. edit_of r t) f) (offers (drop (i + 1) results))) some

pub passed_on : (results : List Reported) (i : ℕ) (edits : List Edit) (end : ℕ) (r : Reported) (text : List ℕ) → i < length results → r ≡ get_or results i r → r.fix ≡ Some text
    → ((r.finding.span.from < r.finding.span.to) × (end ≤ r.finding.span.from) → ⊥) → HasTaken results i edits end → HasTaken results (i + 1) edits end
passed_on results i edits end r text lt is some not h = record {
  whole = λ rest g. h.whole rest (
      let P : List Edit → Type 0 = λ es. AreTaken edits es rest in
      subst P (sym (some_on results i r text lt is some)) (inr (not_free results i edits end r (edit_of r text) h.last lt is refl not, g))
      );
  lie = h.lie;
  within = h.within;
  last = still_reached results i edits end h.last;
}

lie_push : (from end : ℕ) (edits : List Edit) (e : Edit) → LieIn from end edits → end ≤ e.span.from → e.span.from ≤ e.span.to → LieIn from e.span.to (edits ++ e ∷ [])
lie_push from end [] e lie le up = (omega (arith, lie, le), up, omega arith)
lie_push from end (d ∷ ds) e lie le up = (lie.0, lie.1, lie_push d.span.to end ds e lie.2 le up)

pub taken_on : (results : List Reported) (i : ℕ) (edits : List Edit) (end : ℕ) (r : Reported) (text : List ℕ) → IsNonDecreasingBy begins_at results → i < length results → r ≡ get_or results i r
    → r.fix ≡ Some text → r.finding.span.from < r.finding.span.to → end ≤ r.finding.span.from → HasTaken results i edits end
    → HasTaken results (i + 1) (edits ++ edit_of r text ∷ []) r.finding.span.to
taken_on results i edits end r text up lt is some full le h =
    let e = edit_of r text in
    record {
      whole = λ rest g.
          let P : List Edit → Type 0 = λ es. AreTaken edits es (e ∷ rest) in
          let Q : List Edit → Type 0 = λ es. AreTaken [] (offers results) es in
          subst Q (sym (append_assoc edits (e ∷ []) rest))
          (h.whole (e ∷ rest) (subst P (sym (some_on results i r text lt is some)) (inl (is_free end edits e h.lie full le, (rest, refl, g)))));
      lie = lie_push 0 end edits e h.lie le (omega (arith, full));
      within = λ size ends. let Within : Reported → Type 0 = λ x. x.finding.span.to ≤ size in subst Within (sym is) (ends i r lt);
      last = inr (
        e,
        Contains-push edits e,
        refl,
        λ k d ge lt'.
            let Begins : Reported → Type 0 = λ x. begins_at x ≤ begins_at (get_or results k d) in
            subst Begins (get_or_default results i d r lt ∙ sym is) (up i k d (omega arith) lt'),
      );
    }

pub all_taken : (results : List Reported) (i : ℕ) (edits : List Edit) (end : ℕ) → length results ≤ i → HasTaken results i edits end → AreTaken [] (offers results) edits
all_taken results i edits end all h =
    let P : List Reported → Type 0 = λ rs. AreTaken edits (offers rs) [] in
    let Q : List Edit → Type 0 = λ es. AreTaken [] (offers results) es in
    subst Q (append-nil edits) (h.whole [] (subst P (sym (drop_all i results all)) refl))

lie_longer : (from end size : ℕ) (edits : List Edit) → end ≤ size → LieIn from end edits → LieIn from size edits
lie_longer from end size [] le lie = omega (arith, lie, le)
lie_longer from end size (e ∷ es) le lie = (lie.0, lie.1, lie_longer e.span.to end size es le lie.2)

pub taken_fit : (results : List Reported) (i : ℕ) (edits : List Edit) (end size : ℕ) → HasTaken results i edits end → EndBy size results → LieIn 0 size edits
taken_fit results i edits end size h ends = lie_longer 0 end size edits (h.within size ends) h.lie
