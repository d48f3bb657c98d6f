-- What holds of each element of a list, by recursion over it.
use Rattle.std.proofs.Common.{List, [], ◌∷◌, ◌++◌}
use Rattle.std.specs.List.{AllByRecursion}

-- what holds of the elements of two lists
pub AllByRecursion-append : {X : Type 0} (P : X → Type 0) (xs ys : List X) → AllByRecursion P xs → AllByRecursion P ys → AllByRecursion P (xs ++ ys)
AllByRecursion-append P [] ys these those = those
AllByRecursion-append P (x ∷ xs) ys these those = (these.0, AllByRecursion-append P xs ys these.1 those)

-- what follows of each follows of all
pub AllByRecursion-map : {X : Type 0} (P Q : X → Type 0) → ((x : X) → P x → Q x) → (xs : List X) → AllByRecursion P xs → AllByRecursion Q xs
AllByRecursion-map P Q f [] all = tt
AllByRecursion-map P Q f (x ∷ xs) all = (f x all.0, AllByRecursion-map P Q f xs all.1)
