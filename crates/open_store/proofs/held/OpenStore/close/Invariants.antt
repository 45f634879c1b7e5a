use Rattle.std.proofs.Common.{◌≡◌, ℕ, List, length}
use Rattle.piece_store.specs.Kept.{IsSound}
use Rattle.open_store.specs.InHand.{with_rows, held, AreApart, AreRowsOf}
use Rattle.open_store.proofs.held.OpenStore.close.Given as goal

abbrev pub decreases-loop-last : goal.decreases-loop-last
decreases-loop-last g l = length l.rows.items

abbrev pub invariant-loop-last : goal.invariant-loop-last
invariant-loop-last g l =
    IsSound g.P.Ord.cmp g.Q.Ord.cmp g.V.Answer.empty l.store
    × AreApart g.P.Ord.cmp l.rows.items
    × AreRowsOf l.store l.rows.items
    × ((o : List ℕ) (p : g.row.P.Denot) (q : g.row.Q.Denot) → with_rows g.P.Ord.cmp g.Q.Ord.cmp l.store l.self.path l.rows.items o p q ≡ held g.P.Ord.cmp g.Q.Ord.cmp l.self o p q)
