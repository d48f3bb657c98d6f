-- The accesses of a sweep.
use Rattle.std.proofs.Common.{◌≡◌, ℕ, ◌+◌, ◌-◌, ◌≤◌, List, get_or, All, Contains, Some, arith, mul-le-mul_right, le_refl}
use Rattle.std.specs.List.{range_with_len}
use Rattle.std.proofs.lemmas.List.Elements.{All-nil, All-map}
use Rattle.std.proofs.lemmas.List.FromFn.{get_or-range_with_len, length-range_with_len, length-map-range_with_len}
use Rattle.std.proofs.lemmas.List.Sums.{sum_by-le}
use Rattle.machine.specs.declared.parameters.Parameters.{Parameters}
use Rattle.path_names.specs.ShortNames.{IsShortName}
use Rattle.script_ops.specs.Canonical.{AreAllShort, IsShort}
use Rattle.script_ops.specs.Fits.{Fits, AreFit}
use Rattle.script_ops.specs.Weights.{weight_of, weights_of}
use Rattle.script_lines.specs.declared.arguments.Sweep.{Sweep}
use Rattle.script_lines.specs.Arguments.{sweep_of}
use Rattle.script_lines.proofs.laws.Uses.{sweep_of-fits}
use Rattle.script_text.specs.Meaning.{access_at, sweep_ops}

-- each fits
pub AreFit-sweep_ops : (m : Parameters) (tasks : List ℕ) (words : List (List ℕ)) (w : Sweep) (task : ℕ) → sweep_of m words ≡ Some w → Contains tasks task → AreFit m tasks (sweep_ops task w)
AreFit-sweep_ops m tasks words w task e declared =
    let swept = sweep_of-fits m words w e in
    All-map (Fits m tasks) (access_at task w) (range_with_len 0 w.count) (λ k d h.
    let i : get_or (range_with_len 0 w.count) k d ≡ 0 + k = get_or-range_with_len 0 w.count k d (omega (arith, h, length-range_with_len 0 w.count)) in
    let last : k ≤ w.count - 1 = omega (arith, h, length-range_with_len 0 w.count) in
    rw i (declared, swept.0, omega (arith, swept.1, mul-le-mul_right w.stride last)))

-- each weighs 1
pub weights_of-sweep_ops : (m : Parameters) (task : ℕ) (w : Sweep) → weights_of m (sweep_ops task w) ≤ w.count
weights_of-sweep_ops m task w =
    let one : All (λ op. weight_of m op ≤ 1) (sweep_ops task w) = All-map (λ op. weight_of m op ≤ 1) (access_at task w) (range_with_len 0 w.count) (λ k d h. le_refl 1) in
    omega (arith, sum_by-le (weight_of m) 1 (sweep_ops task w) one, length-map-range_with_len (access_at task w) 0 w.count)

-- each names nothing
pub AreAllShort-sweep_ops : (names : List (List ℕ)) (task : ℕ) (w : Sweep) → AreAllShort names (sweep_ops task w)
AreAllShort-sweep_ops names task w = All-map (IsShort names) (access_at task w) (range_with_len 0 w.count) (λ k d h. All-nil (IsShortName names))
