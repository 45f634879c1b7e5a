-- What the check of a table says.
use Rattle.std.proofs.Common.{◌≡◌}
use Rattle.std.specs.Prelude.{true, false, ◌||◌, ◌&&◌, not, Option, Some, None, ltb}
use Rattle.grammar.specs.Rule.{Rule, done, mark, word, ref, deep, again, seq, around, alt, look, choose, opt, must, rep, make, Grammar}
use Rattle.grammar.specs.Sets.{Sets, nul, first, more}
use Rattle.grammar.specs.Check.{apart, within_set, covers, clear, Ranks, fit, late, loops, passes}
use Rattle.grammar.proofs.Facts.{and_both, not_true, implied, apart_holds, within_holds}
use Rattle.grammar.proofs.Spelled.{Covers, IsClear, IsGrammar}

covers_holds : {K B L : Type 0} (S : Sets L) (q : Option L) (l : L) (r : Rule K B L) → covers S q l r ≡ true → Covers S q l r
covers_holds S q l r h =
    let a : _ = and_both (within_set (first S q r) (S.first l)) (within_set (more S q r) (S.more l) && (not (nul S q r) || S.empty l)) h in
    let b : _ = and_both (within_set (more S q r) (S.more l)) (not (nul S q r) || S.empty l) a.1 in
    record { first = within_holds (first S q r) (S.first l) a.0; more = within_holds (more S q r) (S.more l) b.0; empty = implied (nul S q r) (S.empty l) b.1 }

clear_holds : {K B L : Type 0} (S : Sets L) (r : Rule K B L) (q : Option L) → clear S q r ≡ true → IsClear S q r
clear_holds S done q h = record {}
clear_holds S (mark cs) q h = record {}
clear_holds S (word k cs) q h = record {}
clear_holds S (ref l) q h = record {}
clear_holds S (deep l) q h = record {}
clear_holds S again q h = record {}
clear_holds S (seq r s) q h =
    let a : _ = and_both (clear S q r) (clear S q s && apart (more S q r) (first S q s)) h in
    let b : _ = and_both (clear S q s) (apart (more S q r) (first S q s)) a.1 in
    (clear_holds S r q a.0, clear_holds S s q b.0, apart_holds (more S q r) (first S q s) b.1)
clear_holds S (around cs ds r) q h = let a : _ = and_both (clear S q r) (apart (more S q r) ds) h in (clear_holds S r q a.0, apart_holds (more S q r) ds a.1)
clear_holds S (alt r s) q h =
    let a : _ = and_both (clear S q r) (clear S q s && (not (nul S q r) && (not (nul S q s) && apart (first S q r) (first S q s)))) h in
    let b : _ = and_both (clear S q s) (not (nul S q r) && (not (nul S q s) && apart (first S q r) (first S q s))) a.1 in
    let c : _ = and_both (not (nul S q r)) (not (nul S q s) && apart (first S q r) (first S q s)) b.1 in
    let d : _ = and_both (not (nul S q s)) (apart (first S q r) (first S q s)) c.1 in
    (clear_holds S r q a.0, clear_holds S s q b.0, not_true (nul S q r) c.0, not_true (nul S q s) d.0, apart_holds (first S q r) (first S q s) d.1)
clear_holds S (look w cs ds v r s) q h =
    let a : _ = and_both (clear S q r) (clear S q s && not (nul S q s)) h in
    let b : _ = and_both (clear S q s) (not (nul S q s)) a.1 in
    (clear_holds S r q a.0, clear_holds S s q b.0, not_true (nul S q s) b.1)
clear_holds S (choose p r s) q h = let a : _ = and_both (clear S q r) (clear S q s) h in (clear_holds S r q a.0, clear_holds S s q a.1)
clear_holds S (must cs r) q h =
    let a : _ = and_both (clear S q r) (not (nul S q r) && within_set (first S q r) cs) h in
    let b : _ = and_both (not (nul S q r)) (within_set (first S q r) cs) a.1 in
    (clear_holds S r q a.0, not_true (nul S q r) b.0, within_holds (first S q r) cs b.1)
clear_holds S (opt r) q h = let a : _ = and_both (clear S q r) (not (nul S q r)) h in (clear_holds S r q a.0, not_true (nul S q r) a.1)
clear_holds S (rep l r) q h = let a : _ = and_both (clear S (Some l) r) (covers S (Some l) l r) h in (clear_holds S r (Some l) a.0, covers_holds S (Some l) l r a.1)
clear_holds S (make b r) q h = clear_holds S r q h

-- what the check of each row says
module _ {K B L : Type 0} (g : Grammar K B L) (S : Sets L) (R : Ranks B L) (pass : (l : L) → passes g S R l ≡ true) where
  pub is_grammar : IsGrammar S g.table
  is_grammar = record {
    clear = λ l. clear_holds S (g.table l) None (row l).0;
    covers = λ l. covers_holds S None l (g.table l) (row l).1;
  }
    where
      row : (l : L) → (clear S None (g.table l) ≡ true) × (covers S None l (g.table l) ≡ true)
      row l =
          let a : _ = and_both (clear S None (g.table l)) (covers S None l (g.table l) && (fit g R (R.rank l) false (g.table l) && (ltb (R.rank l) R.top && (late S None (g.table l) && loops S (g.table l))))) (pass l) in
          (a.0, (and_both (covers S None l (g.table l)) (fit g R (R.rank l) false (g.table l) && (ltb (R.rank l) R.top && (late S None (g.table l) && loops S (g.table l)))) a.1).0)

  rest : (l : L) → (fit g R (R.rank l) false (g.table l) && (ltb (R.rank l) R.top && (late S None (g.table l) && loops S (g.table l)))) ≡ true
  rest l =
      let a : _ = and_both (clear S None (g.table l)) (covers S None l (g.table l) && (fit g R (R.rank l) false (g.table l) && (ltb (R.rank l) R.top && (late S None (g.table l) && loops S (g.table l))))) (pass l) in
      (and_both (covers S None l (g.table l)) (fit g R (R.rank l) false (g.table l) && (ltb (R.rank l) R.top && (late S None (g.table l) && loops S (g.table l)))) a.1).1

  pub fits : (l : L) → fit g R (R.rank l) false (g.table l) ≡ true
  fits l = (and_both (fit g R (R.rank l) false (g.table l)) (ltb (R.rank l) R.top && (late S None (g.table l) && loops S (g.table l))) (rest l)).0

  pub ranked : (l : L) → ltb (R.rank l) R.top ≡ true
  ranked l = (and_both (ltb (R.rank l) R.top) (late S None (g.table l) && loops S (g.table l)) (and_both (fit g R (R.rank l) false (g.table l)) (ltb (R.rank l) R.top && (late S None (g.table l) && loops S (g.table l))) (rest l)).1).0

  pub looped : (l : L) → (late S None (g.table l) && loops S (g.table l)) ≡ true
  looped l = (and_both (ltb (R.rank l) R.top) (late S None (g.table l) && loops S (g.table l)) (and_both (fit g R (R.rank l) false (g.table l)) (ltb (R.rank l) R.top && (late S None (g.table l) && loops S (g.table l))) (rest l)).1).1
