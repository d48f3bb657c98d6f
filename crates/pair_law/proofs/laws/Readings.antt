-- What a reading of a schemata text says is lawful.
use Rattle.std.proofs.Common.{◌≡◌, ℕ, ◌<◌, List, [], ◌∷◌, ◌++◌, Result, Ok, subst, arith}
use Rattle.std.specs.List.{All}
use Rattle.std.proofs.lemmas.List.Elements.{All-nil, All-push}
use Rattle.cbm.specs.declared.geometry.Geometry.{Geometry}
use Rattle.num_text.specs.Blanks.{trim}
use Rattle.pair_law.proofs.laws.Machines.{domains-few}
use Rattle.pair_law.specs.Reading.{SideMask, on_side, reading_from, side_mask, side_of_line}
use Rattle.pair_law.specs.commands.Schemata.{schemata_read}
use Rattle.pair_text.specs.Values.{AreMachines, Machines, side_machine}
use Rattle.pair_text.specs.declared.side.Side.{Side}
use Rattle.pair_text.specs.declared.side.Side.TheVariants.{First}
use Rattle.schemata_text.specs.Items.{Entry, Item, Line, items_of}
use Rattle.schemata_text.specs.Reading.{entry_of}
use Rattle.schemata_text.specs.declared.assignment.Assignment.{Assignment}
use Rattle.schemata_text.specs.declared.fault.TextFault.{TextFault}
use Rattle.tree_law.proofs.laws.Readings.{IsReadEntry, IsReadEntry-entry_of, bind-Ok}
use Rattle.tree_law.proofs.laws.ValidMasks.{IsValid-checked}
use Rattle.tree_law.specs.Masks.{IsValid}
use Rattle.tree_law.specs.Space.{geometry_of}

-- equal results have equal values
Ok-same : {A : Type 0} (x y : A) → ◌≡◌ {A = Result A TextFault} (Ok x) (Ok y) → x ≡ y
Ok-same x y e = cc

-- a mask that is read is of a domain of its side, and valid there
pub record IsReadMask (m : Machines) (a : SideMask) : Type 0 where
  pub exists : a.domain < (side_machine m a.side).domains
  pub few : a.domain < 8
  pub valid : IsValid (side_machine m a.side) a.mask

IsReadMask-entry : (m : Machines) (side : Side) (before : List Assignment) (a : Assignment) → AreMachines m → IsReadEntry (geometry_of (side_machine m side)) (side_machine m side).domains before a → IsReadMask m (side_mask side a)
IsReadMask-entry m side before a range good = record {
  exists = good.exists;
  few = (let most = domains-few m range side in let lt = good.exists in omega arith);
  valid = IsValid-checked (side_machine m side) a.mask good.small good.valid;
}

-- all masks that are read
All-reading_from : (m : Machines) (side : Side) (before all : List SideMask) (items : List Item) → AreMachines m → All (IsReadMask m) before → reading_from m side before items ≡ Ok all → All (IsReadMask m) all
unfolding reading_from
All-reading_from m side before all [] range good e = subst (All (IsReadMask m)) (Ok-same before all e) good
All-reading_from m side before all (Line line ∷ items) range good e = let step = bind-Ok (side_of_line m line) (λ side. reading_from m side before items) all e in All-reading_from m step.0 before all items range good step.2
All-reading_from m side before all (Entry entry ∷ items) range good e =
    let g : Geometry = geometry_of (side_machine m side) in
    let n : ℕ = (side_machine m side).domains in
    let step = bind-Ok (entry_of g n (on_side side before) entry) (λ a. reading_from m side (before ++ side_mask side a ∷ []) items) all e in
    All-reading_from m side (before ++ side_mask side step.0 ∷ []) all items range (All-push (IsReadMask m) before (side_mask side step.0) good (IsReadMask-entry m side (on_side side before) step.0 range (IsReadEntry-entry_of g n (on_side side before) entry step.0 step.1))) step.2

-- of a written text
pub schemata_read-lawful : (m : Machines) (text : List ℕ) (all : List SideMask) → AreMachines m → schemata_read m text ≡ Ok all → All (IsReadMask m) all
unfolding schemata_read
schemata_read-lawful m text all range e = All-reading_from m First [] all (items_of (trim text)) range (All-nil (IsReadMask m)) e
