-- States of the machine that agree.
use Rattle.std.proofs.Common.{◌≡◌, ℕ, List, [], ◌∷◌, length, map, Some, refl, ap, ◌∙◌}
use Rattle.std.proofs.lemmas.List.{ext_get_or}
use Rattle.run_law.specs.Journals.{JournalsValue, slice_at}
use Rattle.step_world.specs.Machine.{MachineValue, thread_at}

-- two states are the same, but that their lists of threads may be of different lengths: each thread is at the same place
pub record Agree (a b : MachineValue) : Type 0 where
  pub journals : a.journals ≡ b.journals
  pub phase : a.phase ≡ b.phase
  pub holder : a.holder ≡ b.holder
  pub threads : (u : ℕ) → thread_at a u ≡ thread_at b u

-- journals are the same where the tree's history and each slice's are
pub same_journals : (a b : JournalsValue) → a.tree ≡ b.tree → length a.slices ≡ length b.slices → ((i : ℕ) → slice_at a i ≡ slice_at b i) → a ≡ b
same_journals a b tree count slices =
    let all : a.slices ≡ b.slices = ext_get_or [] a.slices b.slices count (λ i within. slices i) in
    ap (λ es. record { tree = es; slices = a.slices }) tree ∙ ap (λ ss. record { tree = b.tree; slices = ss }) all

-- lists of numbers are the same where those of options of them are
pub same_numbers : (xs ys : List ℕ) → map (λ n. Some n) xs ≡ map (λ n. Some n) ys → xs ≡ ys
same_numbers [] [] same = refl
same_numbers [] (y ∷ ys) same = absurd cc
same_numbers (x ∷ xs) [] same = absurd cc
same_numbers (x ∷ xs) (y ∷ ys) same =
    let first : x ≡ y = cc in
    let rest : map (λ n. Some n) xs ≡ map (λ n. Some n) ys = cc in
    ap (λ n. n ∷ xs) first ∙ ap (λ ns. y ∷ ns) (same_numbers xs ys rest)
