use Rattle.std.proofs.Common.{◌≡◌, true, false, arith}
use Rattle.piece_form.proofs.Codes.{contents_at}
use Rattle.piece_form.proofs.same.same_known.Goals as goal

pub returns-then-not-same_one : goal.returns-then-not-same_one
returns-then-not-same_one c = (
  λ h. absurd (let no : false ≡ true = h in cc),
  λ e. absurd (
      let same = c.same_one.ensures.1 (contents_at c.args.a.now c.args.b.now c.loop-i.i c.index-a-i.result c.index-b-i.result e c.loop-i-test.true (omega arith) c.index-a-i.is c.index-b-i.is) in
      let told : c.same_one.result ≡ true = same in
      let not_told : c.same_one.result ≡ false = c.if-not-same_one.true in
      cc),
)
