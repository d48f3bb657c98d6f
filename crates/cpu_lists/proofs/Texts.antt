-- The answer of a text from what was kept of it.
use Rattle.std.proofs.Common.{◌≡◌, ℕ, ◌<◌, List, [], ◌∷◌, length, Option, Some, None, Result, Err, refl, arith}
use Rattle.std.specs.Prelude.{IsOkAnd}
use Rattle.std.specs.Option.{option_map}
use Rattle.std.specs.List.{slice_split, flat_map}
use Rattle.std.proofs.lemmas.Nat.Bits.{bit_at-zero}
use Rattle.num_text.specs.Numbers.{without_prefix}
use Rattle.cpu_lists.specs.declared.fault.CpuFault.{CpuFault}
use Rattle.cpu_lists.specs.declared.fault.CpuFault.TheVariants.{Bad}
use Rattle.cpu_lists.specs.declared.numbers.Numbers.{Numbers}
use Rattle.cpu_lists.specs.Sets.{is_among, answer_of, Says, IsSetOf}
use Rattle.cpu_lists.specs.Masks.{comma, each, group_of, cpus_in, mask_cpus}
use Rattle.cpu_lists.specs.Lists.{run_of, numbers_in, list_cpus}
use Rattle.cpu_lists.specs.Collected.{Collects, IsCollected}
use Rattle.cpu_lists.proofs.Bits.{has-zero}
use Rattle.cpu_lists.proofs.KeptNumbers.{answer_of-all_cpus}
use Rattle.cpu_lists.proofs.Members.{Collects-nil}

-- a mask is its groups
pub mask_cpus-pieces : (text : List ℕ) → 0 < length text → mask_cpus text ≡ option_map cpus_in (each group_of (slice_split comma (without_prefix text)))
unfolding mask_cpus
mask_cpus-pieces [] some = absurd (omega arith)
mask_cpus-pieces (b ∷ bs) some = refl

-- a list is its elements
pub list_cpus-pieces : (text : List ℕ) → 0 < length text → list_cpus text ≡ option_map (flat_map numbers_in) (each run_of (slice_split comma text))
unfolding list_cpus
list_cpus-pieces [] some = absurd (omega arith)
list_cpus-pieces (b ∷ bs) some = refl

-- an empty mask
pub mask_cpus-nil : mask_cpus [] ≡ Some []
unfolding mask_cpus
mask_cpus-nil = refl

-- an empty list
pub list_cpus-nil : list_cpus [] ≡ Some []
unfolding list_cpus
list_cpus-nil = refl

-- no numbers are the empty set
pub answer_of-nil : (cpus : ℕ) → IsOkAnd (answer_of cpus (Some [])) (λ (ns : List ℕ). IsSetOf ns 0)
answer_of-nil cpus = answer_of-all_cpus [] (record { low = 0; high = None }) cpus Collects-nil (omega arith) refl (λ k from lt. has-zero 0 k (bit_at-zero k))

-- the answer to numbers that were collected
pub Says-collected : (cpus : ℕ) (reading : Option (List ℕ)) (kept : Numbers) (answer : Result ℕ CpuFault) → IsCollected reading (Some kept)
    → ((numbers : List ℕ) → Collects (is_among numbers) kept → Says answer (answer_of cpus (Some numbers))) → Says answer (answer_of cpus reading)
Says-collected cpus None kept answer none says = absurd cc
Says-collected cpus (Some numbers) kept answer collected says = says numbers collected

-- the answer to a bad text
pub answer_of-bad : (cpus : ℕ) (reading : Option (List ℕ)) → IsCollected reading None → answer_of cpus reading ≡ Err Bad
unfolding answer_of
answer_of-bad cpus None none = refl
answer_of-bad cpus (Some numbers) none = absurd none
