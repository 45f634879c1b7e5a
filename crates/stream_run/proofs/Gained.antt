-- What a list of refused texts gains from one command to the next.
use Rattle.std.proofs.Common.{◌≡◌, ◌⊎◌, inl, inr, ℕ, Bool, true, false, List, [], ◌++◌, length, drop, refl, sym, ap, ◌∙◌, append_assoc}
use Rattle.std.proofs.Math.Seq.{drop-append_seam, drop-length}
use Rattle.std.proofs.lemmas.List.{append-nil}
use Rattle.node_match.specs.Sets.{Among}
use Rattle.decided_texts.specs.Decided.{Decisions, is_decided, AreUndecided}
use Rattle.decided_texts.specs.Refused.{gained, Gains}
use Rattle.running_rules.proofs.Members.{among_either}
use Rattle.workspace.specs.Reports.{StayDecided}

abbrev pub Texts : Type 0
Texts = List (List ℕ)

pub gained_none : (a : Texts) → gained a a ≡ []
gained_none a = drop-length a

pub gains_none : (a : Texts) → Gains a a
gains_none a = sym (ap (λ (l : Texts). a ++ l) (gained_none a) ∙ append-nil a)

module _ (a b c : Texts) (one : Gains a b) (two : Gains b c) where
  all : c ≡ a ++ (gained a b ++ gained b c)
  all = two ∙ ap (λ (l : Texts). l ++ gained b c) one ∙ append_assoc a (gained a b) (gained b c)

  pub gained_on : gained a c ≡ gained a b ++ gained b c
  gained_on = ap (drop (length a)) all ∙ drop-append_seam a (gained a b ++ gained b c)

  pub gains_on : Gains a c
  gains_on = all ∙ ap (λ (l : Texts). a ++ l) (sym gained_on)

pub undecided_none : (d : Decisions) → AreUndecided d []
undecided_none d text h = absurd h

-- what is undecided after a command was so before it
pub undecided_before : (old new : Decisions) (more : Texts) → StayDecided old new → AreUndecided new more → AreUndecided old more
undecided_before old new more stay later text h = at (is_decided old text) refl
  where
    at : (b : Bool) → is_decided old text ≡ b → b ≡ false
    at false e = refl
    at true e = absurd (differ (stay text e) (later text h))
      where
        differ : is_decided new text ≡ true → is_decided new text ≡ false → ⊥
        differ yes_it no_it = cc

pub undecided_both : (d : Decisions) (xs ys : Texts) → AreUndecided d xs → AreUndecided d ys → AreUndecided d (xs ++ ys)
undecided_both d xs ys left right text h = at (among_either xs ys text h)
  where
    at : Among xs text ⊎ Among ys text → is_decided d text ≡ false
    at (inl k) = left text k
    at (inr k) = right text k
