-- What a tag of a script's use says: a mask with some way, and a serial number that is small.
use Rattle.std.proofs.Common.{◌≡◌, ℕ, ◌+◌, ◌%◌, ◌<◌, ◌≤◌, length, take, inl, inr, sym, ◌∙◌, subst, arith}
use Rattle.std.specs.Prelude.{◌^◌}
use Rattle.std.proofs.lemmas.Bool.{cases_lt}
use Rattle.std.proofs.lemmas.List.{length-take}
use Rattle.cbm.proofs.laws.Validity.{checked-zero}
use Rattle.lists.proofs.Tests.{IsFound-all}
use Rattle.machine.specs.declared.parameters.Parameters.{Parameters}
use Rattle.pair_law.proofs.laws.Epochs.{IsSound-state_at, next_gid-state_after}
use Rattle.pair_law.proofs.laws.Owners.{IsGroup-owner, IsRecord-group, IsValid-record, mask_of_group-record}
use Rattle.pair_law.specs.Epochs.{state_at}
use Rattle.pair_law.specs.Registers.{mask_of_group}
use Rattle.pair_law.specs.State.{PairGroup, has_gid, opening, owner_of}
use Rattle.pair_text.specs.Values.{IsLawful, PairScriptValue, commands_of, side_machine}
use Rattle.pair_text.specs.declared.side.Side.{Side}
use Rattle.run_law.proofs.laws.OwnLines.{mod-some_way}
use Rattle.tree_law.specs.Masks.{IsValid}
use Rattle.tree_law.specs.Space.{geometry_of}

-- those of each epoch
next_gid-state_at : (script : PairScriptValue) (epoch : ℕ) → (state_at script epoch).next_gid ≤ 1 + length (commands_of script)
next_gid-state_at script epoch =
    let commands = commands_of script in
    omega (arith, next_gid-state_after script.machines (opening script.machines script.tasks) (take epoch commands), length-take epoch commands)

-- the serial number of a task's group
pub gid-owner : (script : PairScriptValue) (epoch task : ℕ) → IsLawful script → (owner_of (state_at script epoch) task).0 ≤ length (commands_of script)
gid-owner script epoch task lawful =
    let s = state_at script epoch in
    let sound = IsSound-state_at script epoch lawful in
    let owner = owner_of s task in
    let g = IsRecord-group s owner (IsGroup-owner script.machines s sound task) in
    let below : g.0.gid.0 < s.next_gid = IsFound-all (λ (x : PairGroup). x.gid.0 < s.next_gid) (has_gid owner) s.groups g.0 g.1.at sound.named.serial in
    omega (arith, g.1.gid_is, next_gid-state_at script epoch)

-- ---- masks

-- a valid mask has a way
some_way-IsValid : (m : Parameters) (mask : ℕ) → IsValid m mask → 0 < mask % 2 ^ m.ways
some_way-IsValid m mask valid = mod-some_way mask m.ways some valid.bounded
  where
    some : 0 < mask
    some = elim (cases_lt 0 mask) [
      | inl lt ↦ lt
      | inr le ↦ (let none : mask ≡ 0 = omega arith in absurd (let e = checked-zero (geometry_of m) mask none ∙ valid.faultless in cc))
    ]

-- so has that of a task's group, on each side of each domain
pub some_way-owner : (script : PairScriptValue) (epoch task : ℕ) (side : Side) (domain : ℕ) → IsLawful script → domain < (side_machine script.machines side).domains
    → 0 < mask_of_group (state_at script epoch) side domain (owner_of (state_at script epoch) task) % 2 ^ (side_machine script.machines side).ways
some_way-owner script epoch task side domain lawful lt =
    let m = script.machines in
    let s = state_at script epoch in
    let sound = IsSound-state_at script epoch lawful in
    let owner = owner_of s task in
    let g = IsRecord-group s owner (IsGroup-owner m s sound task) in
    some_way-IsValid (side_machine m side) (mask_of_group s side domain owner)
    (subst (IsValid (side_machine m side)) (sym (mask_of_group-record s owner g.0 side domain g.1.found)) (IsValid-record m s sound owner g.0 g.1 side domain lt))
