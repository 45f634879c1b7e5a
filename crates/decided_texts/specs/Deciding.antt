-- What deciding texts changes, whether or not it comes to its end.
use Rattle.std.specs.Prelude.{◌≡◌, ℕ, List, ◌++◌}
use Rattle.node_match.specs.Sets.{Among}
use Rattle.decided_texts.specs.Refused.{gained, Gains}
use Rattle.decided_texts.specs.Decided.{Decisions, AreUndecided}

-- the decisions have more refused texts, the first ones of those that the builder's list gained, and more built ones
pub record Grows (old new : Decisions) (gained : List (List ℕ)) : Type 0 where
  pub first : List (List ℕ)
  pub rest : List (List ℕ)
  pub parts : gained ≡ first ++ rest
  pub refused : new.refused ≡ old.refused ++ first
  pub built : List (List ℕ)
  pub more : new.built ≡ old.built ++ built

-- What the builder's list gained are some of these texts, which weren't decided, and the decisions grew.
pub record Decides (texts : List (List ℕ)) (old new : Decisions) (before after : List (List ℕ)) : Type 0 where
  pub gains : Gains before after
  pub some : (text : List ℕ) → Among (gained before after) text → Among texts text
  pub undecided : AreUndecided old (gained before after)
  pub grows : Grows old new (gained before after)

-- all that the builder's list gained was taken over
abbrev pub TakesAll : Decisions → Decisions → List (List ℕ) → List (List ℕ) → Type 0
TakesAll old new before after = new.refused ≡ old.refused ++ gained before after
