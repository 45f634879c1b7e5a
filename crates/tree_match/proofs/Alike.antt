-- Nodes of the same content have the same checksum.
use Rattle.std.proofs.Common.{◌≡◌, ℕ, ◌+◌, ◌*◌, ◌%◌, ◌<◌, ◌≤◌, List, [], ◌∷◌, ◌++◌, map, length, drop, get_or, refl, sym, ap, ◌∙◌, suc, add-one, arith}
use Rattle.std.proofs.lemmas.List.Concat.{flat_map-cons}
use Rattle.std.proofs.Math.Seq.{drop-cons}
use Rattle.node_tree.specs.declared.node.Node.{Node}
use Rattle.node_tree.specs.Order.{kind_place}
use Rattle.node_tree.specs.Tree.{kind_of, text_of, kids_of, content_of, content_kind, pre_of, pre_all}
use Rattle.node_tree.specs.declared.kind.Kind.{Kind}
use Rattle.node_tree.proofs.Trees.{pre_is, parts_from_content}
use Rattle.node_pool.proofs.Induction.{Each, by_kids}
use Rattle.tree_code.specs.Sums.{mixed}
use Rattle.tree_match.specs.Checksums.{checksum_all, checksum}

pub checksum_joined : (sum : ℕ) (ns ms : List Node) → checksum_all sum (ns ++ ms) ≡ checksum_all (checksum_all sum ns) ms
checksum_joined sum [] ms = refl
checksum_joined sum (n ∷ ns) ms = checksum_joined (mixed ((sum * 31 + kind_place (content_kind (kind_of n))) % 65536) (text_of n)) ns ms

-- of a tree: the node's own, and then that of its kids
pub checksum_is : (sum : ℕ) (n : Node) → checksum_all sum (pre_of n) ≡ checksum_all (mixed ((sum * 31 + kind_place (content_kind (kind_of n))) % 65536) (text_of n)) (pre_all (kids_of n))
checksum_is sum n = ap (checksum_all sum) (pre_is n)

-- of trees one after the other
pub checksum_trees : (sum : ℕ) (n : Node) (ns : List Node) → checksum_all sum (pre_all (n ∷ ns)) ≡ checksum_all (checksum_all sum (pre_of n)) (pre_all ns)
checksum_trees sum n ns = ap (checksum_all sum) (flat_map-cons pre_of n ns) ∙ checksum_joined sum (pre_of n) (pre_all ns)

-- ---- the loop over kids

pub checksum_begun : (begin sum kind : ℕ) (text : List ℕ) (n : Node) (kids : List Node) → sum ≡ mixed ((begin * 31 + kind) % 65536) text → kind ≡ kind_place (content_kind (kind_of n)) → text ≡ text_of n → kids ≡ kids_of n
    → checksum_all sum (pre_all kids) ≡ checksum_all begin (pre_of n)
checksum_begun begin sum kind text n kids e kind-is text-is kids-is =
    let f : ℕ → ℕ = λ s. checksum_all s (pre_all kids) in
    let g : ℕ → ℕ = λ k. checksum_all (mixed ((begin * 31 + k) % 65536) text) (pre_all kids) in
    let h : List ℕ → ℕ = λ t. checksum_all (mixed ((begin * 31 + kind_place (content_kind (kind_of n))) % 65536) t) (pre_all kids) in
    let i : List Node → ℕ = λ ks. checksum_all (mixed ((begin * 31 + kind_place (content_kind (kind_of n))) % 65536) (text_of n)) (pre_all ks) in
    ap f e ∙ ap g kind-is ∙ ap h text-is ∙ ap i kids-is ∙ sym (checksum_is begin n)

pub checksum_step : (sum next : ℕ) (kids : List Node) (i : ℕ) (kid : Node) → i < length kids → kid ≡ get_or kids i kid → next ≡ checksum_all sum (pre_of kid)
    → checksum_all next (pre_all (drop (i + 1) kids)) ≡ checksum_all sum (pre_all (drop i kids))
checksum_step sum next kids i kid lt is e =
    let cut : drop i kids ≡ kid ∷ drop (i + 1) kids = drop-cons kids i kid lt ∙ ap (λ (x : Node). x ∷ drop (suc i) kids) (sym is) ∙ ap (λ (j : ℕ). kid ∷ drop j kids) (sym (add-one i)) in
    let f : ℕ → ℕ = λ s. checksum_all s (pre_all (drop (i + 1) kids)) in
    let g : List Node → ℕ = λ ns. checksum_all sum (pre_all ns) in
    ap f e ∙ sym (checksum_trees sum kid (drop (i + 1) kids)) ∙ sym (ap g cut)

-- ---- the same content

abbrev IsAlike : Node → Type 0
IsAlike n = (m : Node) (sum : ℕ) → content_of n ≡ content_of m → checksum_all sum (pre_of n) ≡ checksum_all sum (pre_of m)

all_alike : (ns : List Node) → Each IsAlike ns → (ms : List Node) (sum : ℕ) → map content_of ns ≡ map content_of ms → checksum_all sum (pre_all ns) ≡ checksum_all sum (pre_all ms)
all_alike [] _ [] sum e = refl
all_alike [] _ (m ∷ ms) sum e = absurd (let f = e in cc)
all_alike (n ∷ ns) _ [] sum e = absurd (let f = e in cc)
all_alike (n ∷ ns) (one, others) (m ∷ ms) sum e =
    let first : content_of n ≡ content_of m = let f = e in cc in
    let rest : map content_of ns ≡ map content_of ms = let f = e in cc in
    let same = one m sum first in
    let f : ℕ → ℕ = λ s. checksum_all s (pre_all ns) in
    checksum_trees sum n ns ∙ ap f same ∙ all_alike ns others ms (checksum_all sum (pre_of m)) rest ∙ sym (checksum_trees sum m ms)

pub alike : (n : Node) → IsAlike n
alike = by_kids IsAlike (λ n each m sum e.
    let parts = parts_from_content n m e in
    let f : Kind → ℕ = λ k. checksum_all (mixed ((sum * 31 + kind_place k) % 65536) (text_of n)) (pre_all (kids_of n)) in
    let g : List ℕ → ℕ = λ t. checksum_all (mixed ((sum * 31 + kind_place (content_kind (kind_of m))) % 65536) t) (pre_all (kids_of n)) in
    checksum_is sum n ∙ ap f parts.kind ∙ ap g parts.text
    ∙ all_alike (kids_of n) each (kids_of m) (mixed ((sum * 31 + kind_place (content_kind (kind_of m))) % 65536) (text_of m)) parts.kids
    ∙ sym (checksum_is sum m))

pub same_checksum : (n m : Node) → content_of n ≡ content_of m → checksum n ≡ checksum m
same_checksum n m e = alike n m 0 e

-- the contents of a run of one node
pub one_run : (run : List Node) (n : Node) → 1 ≤ length run → length run < 2 → n ≡ get_or run 0 n → map content_of run ≡ content_of n ∷ []
one_run [] n some few is = absurd (omega (arith, some))
one_run (m ∷ []) n some few is = let f : m ≡ n = sym is in ap (λ (x : Node). content_of x ∷ []) f
one_run (m ∷ k ∷ ms) n some few is = absurd (omega (arith, few))
