-- The CPUs that a text names, as numbers and as a set.
use Rattle.std.proofs.Common.{◌≡◌, ℕ, zero, suc, ◌^◌, ◌<◌, max, Bool, true, false, ◌||◌, eqb, List, [], ◌∷◌, Result, Ok, Err, refl, sym, ap, ◌∙◌, arith}
use Rattle.std.specs.Int.{bit_at}
use Rattle.std.proofs.lemmas.Bool.{eq-eqb, eqb-true}
use Rattle.std.proofs.lemmas.Nat.Bits.{bit_at-lt, bit_at-pow_other, bit_at-pow_same, bit_at-zero, bit_at_or, same_from_bits}
use Rattle.cpu_binding.specs.Sets.{has_cpu}
use Rattle.cpu_lists.specs.Lists.{list_cpus}
use Rattle.cpu_lists.specs.Masks.{mask_cpus}
use Rattle.cpu_lists.specs.Sets.{IsSetOf, Says, answer_of, is_among}
use Rattle.cpu_lists.specs.declared.fault.CpuFault.{CpuFault}
use Rattle.machine.specs.declared.parameters.Parameters.{Parameters}
use Rattle.num_text.specs.Blanks.{trim}
use Rattle.path_names.specs.declared.files.FileKind.{FileKind}
use Rattle.path_names.specs.declared.files.FileKind.TheVariants as files
use Rattle.tree_core.specs.CpuFiles.{named_by, set_read}
use Rattle.tree_law.specs.commands.Cpus.{list_read, mask_read, set_of}

-- ---- a set of numbers

-- a bit is 1, as a test
abbrev is_one : ℕ → Bool
is_one b = eqb b 1

-- the set of some numbers has those
has_cpu-set_of : (numbers : List ℕ) (n : ℕ) → has_cpu (set_of numbers) n ≡ is_among numbers n
has_cpu-set_of [] n = ap is_one (bit_at-zero n)
has_cpu-set_of (k ∷ ks) n = ap is_one (bit_at_or (2 ^ k) (set_of ks) n) ∙ one_more (eqb n k) refl (has_cpu-set_of ks n)
  where
    either : (a b : ℕ) → b < 2 → a ≡ 1 → is_one (max a b) ≡ true
    either a b lt one = eq-eqb (max a b) 1 (omega arith)

    one_more : (same : Bool) → eqb n k ≡ same → has_cpu (set_of ks) n ≡ is_among ks n → is_one (max (bit_at (2 ^ k) n) (bit_at (set_of ks) n)) ≡ (same || is_among ks n)
    one_more true is rest = (let eq : n ≡ k = eqb-true n k is in either (bit_at (2 ^ k) n) (bit_at (set_of ks) n) (bit_at-lt (set_of ks) n) (ap (λ (i : ℕ). bit_at (2 ^ k) i) eq ∙ bit_at-pow_same k))
    one_more false is rest = ap (λ (b : ℕ). is_one (max b (bit_at (set_of ks) n))) (bit_at-pow_other k n (λ e. let f : false ≡ true = sym is ∙ eq-eqb n k e in cc)) ∙ ap is_one (let z : max 0 (bit_at (set_of ks) n) ≡ bit_at (set_of ks) n = omega arith in z) ∙ rest

-- two bits that are 1 alike are the same
bit-same : (a b : ℕ) → a < 2 → b < 2 → is_one a ≡ is_one b → a ≡ b
bit-same a b la lb same = at (is_one a) refl
  where
    at : (c : Bool) → is_one a ≡ c → a ≡ b
    at true is = eqb-true a 1 is ∙ sym (eqb-true b 1 (sym same ∙ is))
    at false is = (let na : a ≡ 1 → ⊥ = λ e. (let f : true ≡ false = sym (eq-eqb a 1 e) ∙ is in cc) in let nb : b ≡ 1 → ⊥ = λ e. (let f : true ≡ false = sym (eq-eqb b 1 e) ∙ sym same ∙ is in cc) in zeros a b la lb na nb)
      where
        zeros : (x y : ℕ) → x < 2 → y < 2 → (x ≡ 1 → ⊥) → (y ≡ 1 → ⊥) → x ≡ y
        zeros zero zero lx ly nx ny = refl
        zeros (suc zero) y lx ly nx ny = absurd (nx refl)
        zeros x (suc zero) lx ly nx ny = absurd (ny refl)
        zeros (suc (suc x)) y lx ly nx ny = absurd (omega arith)
        zeros x (suc (suc y)) lx ly nx ny = absurd (omega arith)

-- a set that has some numbers and no others is theirs
set_of-set : (numbers : List ℕ) (set : ℕ) → IsSetOf numbers set → set ≡ set_of numbers
set_of-set numbers set has = same_from_bits set (set_of numbers) (λ i. bit-same (bit_at set i) (bit_at (set_of numbers) i) (bit_at-lt set i) (bit_at-lt (set_of numbers) i) (has i ∙ sym (has_cpu-set_of numbers i)))

-- what a reader says is the set of the numbers, or the fault
pub set_read-said : (read : Result ℕ CpuFault) (numbers : Result (List ℕ) CpuFault) → Says read numbers → read ≡ set_read numbers
set_read-said (Ok set) (Ok numbers) said = ap (λ (n : ℕ). Ok n) (set_of-set numbers set said)
set_read-said (Ok set) (Err fault) said = absurd said
set_read-said (Err fault) numbers said = sym (ap set_read said)

-- ---- the CPUs that a text names

-- those of a list
pub named_by-list : (m : Parameters) (kind : FileKind) (text : List ℕ) → kind ≡ files.CpusList → named_by m kind text ≡ answer_of m.cpus (list_cpus (trim text))
unfolding list_read
named_by-list m kind text is = ap (λ (k : FileKind). named_by m k text) is

-- those of a mask
pub named_by-mask : (m : Parameters) (kind : FileKind) (text : List ℕ) → (kind ≡ files.CpusList → ⊥) → named_by m kind text ≡ answer_of m.cpus (mask_cpus (trim text))
unfolding mask_read
named_by-mask m files.CpusList text other = absurd (other refl)
named_by-mask m kind text other = refl
