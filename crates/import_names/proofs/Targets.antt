-- The names of targets of comprehensions.
use Rattle.std.proofs.Common.{◌≡◌, ℕ, true, false, if◌then◌else◌, List, [], ◌∷◌, ◌++◌, refl, ap, ◌∙◌}
use Rattle.std.specs.Prelude.{map}
use Rattle.std.specs.List.{flat_map}
use Rattle.node_tree.specs.declared.node.Node.{Node, fold_out-Node}
use Rattle.node_tree.specs.Tree.{kind_of, text_of, kids_of}
use Rattle.assignments.specs.Targets.{is_name}
use Rattle.import_names.specs.Claims.{holds_parts, names_by, target_names}

flat_names : (ks : List Node) → flat_map (λ (names : List (List ℕ)). names) (map target_names ks) ≡ flat_map target_names ks
flat_names [] = refl
flat_names (k ∷ ks) = ap (λ names. target_names k ++ names) (flat_names ks)

pub target_names_is : (n : Node) → target_names n ≡ names_by (kind_of n) (text_of n) (map target_names (kids_of n))
unfolding target_names
target_names_is n = fold_out-Node (List (List ℕ)) (λ x. names_by x.kind x.text x.kids) n

-- a name has its own
pub of_name : (n : Node) → is_name (kind_of n) ≡ true → target_names n ≡ text_of n ∷ []
of_name n name =
    let names = flat_map (λ (names : List (List ℕ)). names) (map target_names (kids_of n)) in
    target_names_is n ∙ ap (λ b. if b then text_of n ∷ [] else (if holds_parts (kind_of n) then names else [])) name

-- what is no name and has no parts has none
pub of_other : (n : Node) → is_name (kind_of n) ≡ false → holds_parts (kind_of n) ≡ false → target_names n ≡ []
of_other n no_name no_parts =
    let names = flat_map (λ (names : List (List ℕ)). names) (map target_names (kids_of n)) in
    target_names_is n ∙ ap (λ b. if b then text_of n ∷ [] else (if holds_parts (kind_of n) then names else [])) no_name ∙ ap (λ b. if b then names else []) no_parts

-- what has parts has theirs
pub of_parts : (n : Node) → is_name (kind_of n) ≡ false → holds_parts (kind_of n) ≡ true → target_names n ≡ flat_map target_names (kids_of n)
of_parts n no_name parts =
    let names = flat_map (λ (names : List (List ℕ)). names) (map target_names (kids_of n)) in
    target_names_is n ∙ ap (λ b. if b then text_of n ∷ [] else (if holds_parts (kind_of n) then names else [])) no_name ∙ ap (λ b. if b then names else []) parts ∙ flat_names (kids_of n)
