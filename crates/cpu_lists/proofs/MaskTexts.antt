-- The text of a mask in one group or two.
use Rattle.std.proofs.Common.{◌≡◌, ℕ, ◌-◌, ◌/◌, ◌%◌, ◌^◌, ◌<◌, ◌≤◌, ◌∷◌, ◌++◌, refl}
use Rattle.std.proofs.lemmas.Bool.{le-leb, lt-leb}
use Rattle.num_text.specs.Printed.{hexadecimal}
use Rattle.cpu_lists.specs.Printed.{mask_text, digits_for}

-- a mask of at most 32 CPUs
pub mask_text-one_group : (cpus set : ℕ) → cpus ≤ 32 → mask_text cpus set ≡ hexadecimal (digits_for cpus) set
unfolding mask_text
mask_text-one_group cpus set few = rw (le-leb cpus 32 few) refl

-- a mask of more
pub mask_text-two_groups : (cpus set : ℕ) → 32 < cpus → mask_text cpus set ≡ hexadecimal (digits_for (cpus - 32)) (set / 2 ^ 32) ++ 44 ∷ hexadecimal 8 (set % 2 ^ 32)
unfolding mask_text
mask_text-two_groups cpus set many = rw (lt-leb cpus 32 many) refl
