-- The slices at which accesses are at home.
use Rattle.std.proofs.Common.{◌≡◌, ◌↔◌, ℕ, ◌<◌, ◌==◌, ◌%◌, true, false, Option, Some, None, refl, sym, ap, ◌∙◌, subst, arith}
use Rattle.std.specs.Prelude.{option_and_then}
use Rattle.journal_check.specs.Homes.{IsHomeCount, home_of}
use Rattle.lists.specs.Sums.{one_if}
use Rattle.machine.proofs.laws.Domains.{domain_of-lt}
use Rattle.machine.proofs.laws.Slices.{slice_number-lt}
use Rattle.machine.specs.Maps.{domain_of, line_of}
use Rattle.machine.specs.Slices.{slice_count, slice_of_line}
use Rattle.machine.specs.declared.parameters.Parameters.{Parameters}
use Rattle.run_law.specs.Ops.{is_command}
use Rattle.script_ops.specs.Fits.{Fits}
use Rattle.script_ops.specs.Values.{IsLawful, ScriptValue}
use Rattle.script_ops.specs.declared.op.Op.{Op}
use Rattle.script_ops.specs.declared.op.Op.TheVariants as ops

-- what is asked of an access with a home
pub home-count : (m : Parameters) (i n home : ℕ) (c : Op) → home_of m c ≡ Some home → IsHomeCount m i n c ↔ (n ≡ one_if (i == home))
home-count m i n home (ops.Access task cpu addr) is =
    let same : slice_of_line m (domain_of m cpu) (line_of addr) ≡ home = cc in
    ((λ h. h ∙ ap (λ x. one_if (i == x)) same), (λ h. h ∙ ap (λ x. one_if (i == x)) (sym same)))
home-count m i n home c is = absurd cc

-- of a command nothing is
pub home-command : (m : Parameters) (i n : ℕ) (c : Op) → is_command c ≡ true → IsHomeCount m i n c
home-command m i n (ops.Access task cpu addr) command = absurd cc
home-command m i n c command = record {}

-- an access has a home
pub access-home : (m : Parameters) (c : Op) → is_command c ≡ false → (home : ℕ) × (home_of m c ≡ Some home)
access-home m (ops.Access task cpu addr) access = (slice_of_line m (domain_of m cpu) (line_of addr), refl)
access-home m c access = absurd cc

-- which is one of the machine's slices
pub home-there : (script : ScriptValue) (home : ℕ) (c : Op) → IsLawful script → Fits script.machine script.tasks c → home_of script.machine c ≡ Some home → home < slice_count script.machine
home-there script home (ops.Access task cpu addr) lawful fits is =
    let some = lawful.in_range.some_slice in
    let same : slice_of_line script.machine (domain_of script.machine cpu) (line_of addr) ≡ home = cc in
    subst (λ x. x < slice_count script.machine) same
    (slice_number-lt script.machine (domain_of script.machine cpu) (line_of addr % script.machine.sets % script.machine.slices) (domain_of-lt script.machine cpu lawful.in_range fits.1) (omega arith))
home-there script home c lawful fits is = absurd cc

-- what has a home is there
pub some-home : {A : Type 0} (f : A → Option ℕ) (o : Option A) (home : ℕ) → option_and_then f o ≡ Some home → (c : A) × (o ≡ Some c) × (f c ≡ Some home)
some-home f None home is = absurd cc
some-home f (Some c) home is = (c, refl, is)
