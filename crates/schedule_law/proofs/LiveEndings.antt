-- The journals at the end.
use Rattle.std.proofs.Common.{◌≡◌, ℕ, zero, suc, ◌<◌, List, [], ◌∷◌, length, map, get_or, sym, ap, subst, arith}
use Rattle.std.specs.Prelude.{Contains}
use Rattle.run_law.specs.Entries.{entry_value}
use Rattle.script_ops.specs.Values.{ScriptValue}
use Rattle.schedule_law.specs.LiveParts.{LeavesScheduled, live_phase, live_slice, live_tree, part_of, reached}
use Rattle.schedule_law.specs.declared.part.Part.{Part}
use Rattle.schedule_law.proofs.ReachedParts.{states_close}
use Rattle.shared_parts.specs.Parts.{Fits}

-- a state has each of its parts
Fits-get_or : (at : ℕ → Part) (xs : List (ℕ × Part)) (k : ℕ) (x : ℕ × Part) → Fits at xs → k < length xs → get_or xs k x ≡ x → at x.0 ≡ x.1
Fits-get_or at [] k x fit low is = absurd (omega (arith, low))
Fits-get_or at (y ∷ ys) zero x fit low is = subst (λ (z : ℕ × Part). at z.0 ≡ z.1) is fit.0
Fits-get_or at (y ∷ ys) (suc k) x fit low is = Fits-get_or at ys k x fit.1 (omega (arith, low)) is

Fits-contains : (at : ℕ → Part) (xs : List (ℕ × Part)) (x : ℕ × Part) → Fits at xs → Contains xs x → at x.0 ≡ x.1
Fits-contains at xs x fit there = Fits-get_or at xs there.0 x fit there.1 there.2

-- they are scheduled
pub leaves_scheduled : (script : ScriptValue) (xs : List (ℕ × Part)) → ((at : ℕ → Part) × reached script at × Fits at xs) → LeavesScheduled script xs
leaves_scheduled script xs state history lists holder phase ended some over count tree of_phase slices =
    let at = state.0 in
    states_close script (record { tree = map entry_value history; slices = lists }) holder phase ended (λ k. part_of (at k)) some over count state.1
    (ap part_of (Fits-contains at xs (live_tree history holder) state.2 tree), (ap part_of (Fits-contains at xs (live_phase phase ended) state.2 of_phase), tt))
    (λ i low. (ap part_of (Fits-contains at xs (live_slice i (get_or lists i [])) state.2 (slices i (subst (λ n. i < n) (sym count) low))), tt))
