-- The words of options tell which options they are.
use Rattle.std.proofs.Common.{◌≡◌, ◌↔◌, ℕ, zero, suc, ◌+◌, ◌≤◌, Bool, true, false, cond, List, [], ◌∷◌, ◌++◌, sym, ap, ◌∙◌, subst, arith, refl}
use Rattle.std.specs.Prelude.{All, IsTrue, count_by, is_some, Option, None, Some, if◌then◌else◌}
use Rattle.std.specs.Borrow.{Bor}
use Rattle.std.specs.Str.{bytes_eq}
use Rattle.std.proofs.lemmas.Slice.Eq.{bytes_eq-Decides}
use Rattle.std.proofs.lemmas.List.Sums.{sum_by-append}
use Rattle.lexing.specs.WordList.{is_among}
use Rattle.wire_words.specs.declared.options.Subcommand.{Subcommand}
use Rattle.wire_words.specs.declared.options.Subcommand.TheVariants as subcommands
use Rattle.wire_words.specs.Options.{Choice, choice_words, choices_words, flags, valued, IsOptionWord, IsChoice, Begins, AreChoices, AreOptions, times, given, text_in, text_within}

-- ---- no option has a value and stands alone

-- one of these words is one of those
abbrev meet : List (List ℕ) → List (List ℕ) → Bool
meet [] ys = false
meet (x ∷ xs) ys = if is_among ys x then true else meet xs ys

module _ (x : List ℕ) (xs ys : List (List ℕ)) (none : meet (x ∷ xs) ys ≡ false) (word : List ℕ) (b : IsTrue (is_among ys word)) where
  unlike : is_among ys x ≡ true → ⊥
  unlike e = let n : true ≡ false = sym (ap (λ (r : Bool). if r then true else meet xs ys) e) ∙ none in absurd cc

  rest_apart : (m : Bool) → is_among ys x ≡ m → meet xs ys ≡ false
  rest_apart true e = absurd (unlike e)
  rest_apart false e = sym (ap (λ (r : Bool). if r then true else meet xs ys) e) ∙ none

  apart_by : (m : Bool) → bytes_eq x word ≡ m → IsTrue (is_among (x ∷ xs) word) → (meet xs ys ≡ false → IsTrue (is_among xs word) → ⊥) → ⊥
  apart_by true e a later = unlike (subst (λ (w : List ℕ). is_among ys w ≡ true) (sym ((bytes_eq-Decides x word).0 e)) b)
  apart_by false e a later = later (rest_apart (is_among ys x) refl) (sym (ap (λ (r : Bool). if r then true else is_among xs word) e) ∙ a)

apart : (xs ys : List (List ℕ)) → meet xs ys ≡ false → (word : List ℕ) → IsTrue (is_among xs word) → IsTrue (is_among ys word) → ⊥
apart [] ys none word a b = absurd cc
apart (x ∷ xs) ys none word a b = apart_by x xs ys none word b (bytes_eq x word) refl a (λ n h. apart xs ys n word h b)

flags_apart : (command : Subcommand) (word : List ℕ) → IsTrue (is_among (flags command) word) → IsTrue (is_among (valued command) word) → ⊥
flags_apart subcommands.Scan = apart (flags subcommands.Scan) (valued subcommands.Scan) refl
flags_apart subcommands.Fix = apart (flags subcommands.Fix) (valued subcommands.Fix) refl
flags_apart subcommands.Session = apart (flags subcommands.Session) (valued subcommands.Session) refl

-- ---- words are those of one list of options only

abbrev pub choice : List ℕ → Option (List ℕ) → Choice
choice word value = record { word = word; value = value }

same_parts : (command : Subcommand) (w x : List ℕ) (v u : Option (List ℕ)) (rest others : List (List ℕ)) → IsOptionWord command w v → IsOptionWord command x u → choice_words (choice w v) ++ rest ≡ choice_words (choice x u) ++ others
    → (choice w v ≡ choice x u) × (rest ≡ others)
same_parts command w x None None rest others a b e = (ap (λ (y : List ℕ). choice y None) cc, cc)
same_parts command w x None (Some u) rest others a b e = let h : w ≡ x = cc in absurd (flags_apart command x (subst (λ (y : List ℕ). IsTrue (is_among (flags command) y)) h a) b)
same_parts command w x (Some v) None rest others a b e = let h : w ≡ x = cc in absurd (flags_apart command x b (subst (λ (y : List ℕ). IsTrue (is_among (valued command) y)) h a))
same_parts command w x (Some v) (Some u) rest others a b e =
    let h : w ≡ x = cc in
    let k : v ≡ u = cc in
    (ap (λ (y : List ℕ). choice y (Some v)) h ∙ ap (λ (y : List ℕ). choice x (Some y)) k, cc)

-- two options whose words begin one list of words are one
pub same_first : (command : Subcommand) (c d : Choice) (rest others : List (List ℕ)) → IsChoice command c → IsChoice command d → choice_words c ++ rest ≡ choice_words d ++ others → (c ≡ d) × (rest ≡ others)
same_first command c d rest others a b e = same_parts command c.word d.word c.value d.value rest others a b e

all_head : {X : Type 0} (P : X → Type 0) (x : X) (xs : List X) → All P (x ∷ xs) → P x
all_head P x xs h = h 0 x (omega arith)

all_tail : {X : Type 0} (P : X → Type 0) (x : X) (xs : List X) → All P (x ∷ xs) → All P xs
all_tail P x xs h = λ k d lt. h (suc k) d (omega arith)

all_cons : {X : Type 0} (P : X → Type 0) (x : X) (xs : List X) → P x → All P xs → All P (x ∷ xs)
all_cons P x xs p h zero d lt = p
all_cons P x xs p h (suc k) d lt = h k d (omega arith)

some_words : (c : Choice) (rest : List (List ℕ)) → [] ≡ choice_words c ++ rest → ⊥
some_words c rest e = absurd cc

-- the options of words that begin with this one
record Later (command : Subcommand) (c : Choice) (rest : List (List ℕ)) (cs : List Choice) : Type 0 where
  more : List Choice
  is : cs ≡ c ∷ more
  are : AreChoices command rest more

later_ones : (command : Subcommand) (c : Choice) (rest left : List (List ℕ)) (cs : List Choice) → Begins command left c rest → AreChoices command left cs → Later command c rest cs
later_ones command c rest left [] b a = absurd (some_words c rest (sym a.are ∙ b.are))
later_ones command c rest left (d ∷ ds) b a =
    let s = same_first command d c (choices_words ds) rest (all_head (IsChoice command) d ds a.known) b.known (sym a.are ∙ b.are) in
    record { more = ds; is = ap (λ (x : Choice). x ∷ ds) s.0; are = record { known = all_tail (IsChoice command) d ds a.known; are = sym s.1 } }

-- words are those of one list of options only
pub same_choices : (command : Subcommand) (words : List (List ℕ)) (cs ds : List Choice) → AreChoices command words cs → AreChoices command words ds → cs ≡ ds
same_choices command words [] [] a b = refl
same_choices command words [] (d ∷ ds) a b = absurd (some_words d (choices_words ds) (sym a.are ∙ b.are))
same_choices command words (c ∷ cs) ds a b =
    let l = later_ones command c (choices_words cs) words ds (record { known = all_head (IsChoice command) c cs a.known; are = a.are }) b in
    ap (λ (l : List Choice). c ∷ l) (same_choices command (choices_words cs) cs l.more (record { known = all_tail (IsChoice command) c cs a.known; are = refl }) l.are) ∙ sym l.is

-- ---- looking for an option

given_here : (word : List ℕ) (c : Choice) (cs : List Choice) → bytes_eq c.word word ≡ true → given word (c ∷ cs) ≡ Some c.value
given_here word c cs h = ap (λ (b : Bool). if b then Some c.value else given word cs) h

given_later : (word : List ℕ) (c : Choice) (cs : List Choice) → bytes_eq c.word word ≡ false → given word (c ∷ cs) ≡ given word cs
given_later word c cs h = ap (λ (b : Bool). if b then Some c.value else given word cs) h

-- what these options give is what later ones give
pub record Looks (command : Subcommand) (wanted : List ℕ) (left : List (List ℕ)) (cs : List Choice) : Type 0 where
  pub more : List Choice
  pub are : AreChoices command left more
  pub same : given wanted cs ≡ given wanted more

-- if the words are options, so are those that are left, and what they give is the same
abbrev pub Looking : Subcommand → List ℕ → List (List ℕ) → List (List ℕ) → Type 0
Looking command wanted words left = (cs : List Choice) → AreChoices command words cs → Looks command wanted left cs

module _ (command : Subcommand) (wanted : List ℕ) (words left : List (List ℕ)) (looking : Looking command wanted words left) where
  module _ (c : Choice) (rest : List (List ℕ)) (begins : Begins command left c rest) where
    pub look_on : bytes_eq c.word wanted ≡ false → Looking command wanted words rest
    look_on other cs a =
        let l = looking cs a in
        let f = later_ones command c rest left l.more begins l.are in
        record { more = f.more; are = f.are; same = l.same ∙ ap (given wanted) f.is ∙ given_later wanted c f.more other }

    pub found : bytes_eq c.word wanted ≡ true → (cs : List Choice) → AreChoices command words cs → Some c.value ≡ given wanted cs
    found same cs a =
        let l = looking cs a in
        let f = later_ones command c rest left l.more begins l.are in
        sym (l.same ∙ ap (given wanted) f.is ∙ given_here wanted c f.more same)

  pub not_found : ((c : Choice) (rest : List (List ℕ)) → Begins command left c rest → ⊥) → (cs : List Choice) → AreChoices command words cs → None ≡ given wanted cs
  not_found none cs a = let l = looking cs a in sym (l.same ∙ nothing l.more l.are)
    where
      nothing : (more : List Choice) → AreChoices command left more → given wanted more ≡ None
      nothing [] a = refl
      nothing (c ∷ more) a = absurd (none c (choices_words more) (record { known = all_head (IsChoice command) c more a.known; are = a.are }))

-- what is held of an option that was found
pub none_within : (o : Option (Option (Bor (List ℕ)))) → is_some o ≡ false → text_within o ≡ None
none_within None e = refl
none_within (Some v) e = absurd cc

pub some_within : (o : Option (Option (Bor (List ℕ)))) → is_some o ≡ true → (value : Option (List ℕ)) × (text_within o ≡ Some value)
some_within None e = absurd cc
some_within (Some v) e = (text_in v, refl)

-- ---- options, each at most once

abbrev one_if : Bool → ℕ
one_if b = cond b 1 0

count_first : {X : Type 0} (p : X → Bool) (x : X) (xs : List X) → count_by p (x ∷ xs) ≡ 0 + one_if (p x) + count_by p xs
count_first p x xs = sum_by-append (λ y. cond (p y) 1 0) (x ∷ []) xs

times_here : (word : List ℕ) (c : Choice) (cs : List Choice) → bytes_eq c.word word ≡ true → times word (c ∷ cs) ≡ 1 + times word cs
times_here word c cs h =
    let e = count_first (λ (d : Choice). bytes_eq d.word word) c cs in
    let f : one_if (bytes_eq c.word word) ≡ 1 = ap one_if h in
    omega (arith, e, f)

times_later : (word : List ℕ) (c : Choice) (cs : List Choice) → bytes_eq c.word word ≡ false → times word (c ∷ cs) ≡ times word cs
times_later word c cs h =
    let e = count_first (λ (d : Choice). bytes_eq d.word word) c cs in
    let f : one_if (bytes_eq c.word word) ≡ 0 = ap one_if h in
    omega (arith, e, f)

times_more : (word : List ℕ) (c : Choice) (cs : List Choice) → times word cs ≤ times word (c ∷ cs)
times_more word c cs = let e = count_first (λ (d : Choice). bytes_eq d.word word) c cs in omega (arith, e)

-- what isn't given doesn't stand there, and what is given does
none_stands : (word : List ℕ) (cs : List Choice) → given word cs ≡ None → times word cs ≡ 0
none_stands word [] e = refl
none_stands word (c ∷ cs) e = here (bytes_eq c.word word) refl (none_stands word cs)
  where
    here : (b : Bool) → bytes_eq c.word word ≡ b → (given word cs ≡ None → times word cs ≡ 0) → times word (c ∷ cs) ≡ 0
    here true h later = let f = sym (given_here word c cs h) ∙ e in absurd cc
    here false h later = times_later word c cs h ∙ later (sym (given_later word c cs h) ∙ e)

some_stands : (word : List ℕ) (cs : List Choice) (value : Option (List ℕ)) → given word cs ≡ Some value → 1 ≤ times word cs
some_stands word [] value e = absurd cc
some_stands word (c ∷ cs) value e = here (bytes_eq c.word word) refl (some_stands word cs value)
  where
    here : (b : Bool) → bytes_eq c.word word ≡ b → (given word cs ≡ Some value → 1 ≤ times word cs) → 1 ≤ times word (c ∷ cs)
    here true h later = let f = times_here word c cs h in omega arith
    here false h later = let f = times_later word c cs h in let g = later (sym (given_later word c cs h) ∙ e) in omega arith

itself : (word : List ℕ) → bytes_eq word word ≡ true
itself word = (bytes_eq-Decides word word).1 refl

module _ (command : Subcommand) (c : Choice) (rest left : List (List ℕ)) (begins : Begins command left c rest) where
  -- where the option doesn't stand among those that follow, it may stand before them
  pub one_more : ((cs : List Choice) → AreChoices command rest cs → given c.word cs ≡ None) → AreOptions command left ↔ AreOptions command rest
  one_more new = (down, up)
    where
      down : AreOptions command left → AreOptions command rest
      down (cs, a, once) =
          let f = later_ones command c rest left cs begins a in
          (f.more, f.are, λ word. let n = times_more word c f.more in let o = subst (λ (l : List Choice). times word l ≤ 1) f.is (once word) in omega arith)

      up : AreOptions command rest → AreOptions command left
      up (cs, a, once) = (
        c ∷ cs,
        record { known = all_cons (IsChoice command) c cs begins.known a.known; are = begins.are ∙ ap (λ (l : List (List ℕ)). choice_words c ++ l) a.are },
        λ word. count word (bytes_eq c.word word) refl,
      )
        where
          count : (word : List ℕ) (b : Bool) → bytes_eq c.word word ≡ b → times word (c ∷ cs) ≤ 1
          count word true h =
              let z = none_stands word cs (subst (λ (w : List ℕ). given w cs ≡ None) ((bytes_eq-Decides c.word word).0 h) (new cs a)) in
              let f = times_here word c cs h in
              omega arith
          count word false h = let f = times_later word c cs h in let o = once word in omega arith

  -- where it does, the words are no such options
  pub twice : (value : Option (List ℕ)) → ((cs : List Choice) → AreChoices command rest cs → given c.word cs ≡ Some value) → AreOptions command left → ⊥
  twice value again (cs, a, once) =
      let f = later_ones command c rest left cs begins a in
      let two = times_here c.word c f.more (itself c.word) in
      let one = some_stands c.word f.more value (again f.more f.are) in
      let o = subst (λ (l : List Choice). times c.word l ≤ 1) f.is (once c.word) in
      omega arith

-- where no option begins the words, they are none
pub none_begins : (command : Subcommand) (left : List (List ℕ)) → (left ≡ [] → ⊥) → ((c : Choice) (rest : List (List ℕ)) → Begins command left c rest → ⊥) → AreOptions command left → ⊥
none_begins command left some none ([], a, once) = some a.are
none_begins command left some none (c ∷ cs, a, once) = none c (choices_words cs) (record { known = all_head (IsChoice command) c cs a.known; are = a.are })
