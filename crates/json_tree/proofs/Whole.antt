-- What is read of all the tokens is the value that they spell, and the value that they spell is what is read.
use Rattle.std.proofs.Common.{◌≡◌, ℕ, suc, ◌<◌, ◌≤◌, List, [], ◌∷◌, length, refl, arith, sym, subst, ap, ◌∙◌, Some, Err, true}
use Rattle.std.specs.Prelude.{leb}
use Rattle.node_tree.specs.declared.node.Node.{Node}
use Rattle.node_tree.specs.declared.fault.ReadFault.{ReadFault}
use Rattle.node_tree.specs.declared.fault.ReadFault.TheVariants as faults
use Rattle.node_tree.specs.Tree.{depth_of}
use Rattle.grammar.proofs.Facts.{none_some, some_pair}
use Rattle.grammar.proofs.Theorem.{read_piece, piece_read}
use Rattle.json_tree.specs.declared.token.Token.{Token}
use Rattle.json_tree.specs.Table.{Value, grammar}
use Rattle.json_tree.specs.Build.{node, source, depth_all}
use Rattle.json_tree.specs.reader.Sets.{sets, ranks}
use Rattle.json_tree.specs.reader.Reading.{level, one, round_at}
use Rattle.node_tree.specs.Gives.{Gives}
use Rattle.json_tree.specs.Spells.{IsValueOf, IsTreeOf}
use Rattle.json_tree.specs.Lexing.{IsTokensOf}
use Rattle.node_tree.specs.declared.view.Mode.{Mode}
use Rattle.node_tree.specs.declared.kind.Kind.TheVariants.{Root}
use Rattle.json_tree.proofs.Passes.{pass}
use Rattle.json_tree.proofs.Depths.{deepens}

all_is_value : (ts : List Token) (n : Node) → level ts 1001 Value 0 ≡ Some (n ∷ [], length ts) → depth_of n ≤ 499 → ((n : ℕ) → n < length ts → round_at ts n ≤ 500) → IsValueOf ts n
unfolding level round_at
all_is_value ts n h shallow few = read_piece grammar sets ranks pass depth_all (source ts) (deepens ts) (suc (length ts)) 1001 Value (n ∷ []) 0 (length ts) h (omega (arith, shallow)) (λ k a b. few k b)

-- what is read of all the tokens, within the limits, is the value that they spell
pub read_is_value : (ts : List Token) (n : Node) (j : ℕ) → level ts 1001 Value 0 ≡ Some (n ∷ [], j) → j ≡ length ts → depth_of n ≤ 499 → ((n : ℕ) → n < length ts → round_at ts n ≤ 500) → IsValueOf ts n
read_is_value ts n j h all shallow few = all_is_value ts n (subst (λ (k : ℕ). level ts 1001 Value 0 ≡ Some (n ∷ [], k)) all h) shallow few

-- the value that the tokens spell is read
pub value_is_read : (ts : List Token) (n : Node) → IsValueOf ts n → level ts 1001 Value 0 ≡ Some (n ∷ [], length ts)
unfolding level
value_is_read ts n p = piece_read grammar sets ranks pass depth_all (source ts) (deepens ts) (suc (length ts)) Value (n ∷ []) 0 (length ts) p refl (omega arith)

-- two answers of the reader are one
pub one_value : (ts : List Token) (n m : Node) (j : ℕ) → IsValueOf ts n → level ts 1001 Value 0 ≡ Some (m ∷ [], j) → (n ≡ m) × (length ts ≡ j)
one_value ts n m j p h = let e : _ = some_pair (n ∷ []) (m ∷ []) (length ts) j (sym (value_is_read ts n p) ∙ h) in (head_of e.0, e.1)
  where
    head_of : n ∷ [] ≡ m ∷ [] → n ≡ m
    head_of e = cc

pub value_is_shallow : (ts : List Token) (n : Node) → IsValueOf ts n → depth_of n ≤ 499
value_is_shallow ts n p = omega (arith, p.shallow)

pub value_is_bracketed : (ts : List Token) (n : Node) → IsValueOf ts n → (k : ℕ) → k < length ts → round_at ts k ≤ 500
unfolding round_at
value_is_bracketed ts n p k b = p.few_brackets k (omega arith) b

-- a fault that comes although a value is spelled is want of memory
pub fails_still : (ts : List Token) (n : Node) (e : ReadFault) → IsValueOf ts n → Gives one (Err e) (level ts 1001 Value 0) → Gives (λ (m : Node). m) (Err e) (Some n)
fails_still ts n faults.Memory p f = tt
fails_still ts n faults.NoTree p f = absurd (none_some (n ∷ [], length ts) (sym f ∙ value_is_read ts n p))

pub leb_true : (a b : ℕ) → leb a b ≡ true → a ≤ b
leb_true a b h = grind arith

-- ---- from the text

-- where the text has a tree, its value is spelled by the tokens that were read
pub spelled_here : (mode : Mode) (text : List ℕ) (ts us : List Token) (n : Node) → (is : IsTreeOf mode text n) → ((xs : List Token) → IsTokensOf mode text xs → Some xs ≡ Some ts) → us ≡ ts → IsValueOf us is.value
spelled_here mode text ts us n is only e = subst (λ (x : List Token). IsValueOf x is.value) (same is.tokens (only is.tokens is.lexes) ∙ sym e) is.spells
  where
    same : (xs : List Token) → Some xs ≡ Some ts → xs ≡ ts
    same xs h = cc

-- a fault that comes although what is looked for is there is want of memory
pub still_fails : {X Y : Type 0} (e : ReadFault) (x : X) (y : Y) → Gives (λ (m : X). m) (Err e) (Some x) → Gives (λ (m : Y). m) (Err e) (Some y)
still_fails faults.Memory x y f = tt
still_fails faults.NoTree x y f = absurd cc

-- the tree is the root over the value that was read
pub root_is : (mode : Mode) (text : List ℕ) (n m : Node) → (is : IsTreeOf mode text n) → Some is.value ≡ Some m → n ≡ node Root 0 (length text) (m ∷ [])
root_is mode text n m is e = is.is_root ∙ ap (λ (v : Node). node Root 0 (length text) (v ∷ [])) same
  where
    same : is.value ≡ m
    same = cc
