-- The masks of each side are few.
use Rattle.std.proofs.Common.{◌≡◌, ℕ, ◌+◌, ◌<◌, ◌≤◌, false, List, [], ◌∷◌, ◌++◌, drop, length, map, Ok, refl, ap, ◌∙◌, arith}
use Rattle.std.specs.List.{list_any, AllByRecursion}
use Rattle.std.proofs.lemmas.Bool.{ne_eqb}
use Rattle.std.proofs.lemmas.List.{length-append, length-map}
use Rattle.cbm.specs.declared.geometry.Geometry.{Geometry}
use Rattle.pair_law.proofs.laws.Machines.{domains-few}
use Rattle.pair_law.specs.Reading.{SideMask, on_side, reading_from, side_mask}
use Rattle.pair_text.specs.Values.{AreMachines, Machines, side_machine}
use Rattle.pair_text.specs.declared.side.Side.{Side}
use Rattle.pair_text.specs.declared.side.Side.TheVariants.{First, Second}
use Rattle.pair_tree.proofs.LineEntries.{Adds, Adds-rest, AreRead-added, drop-added}
use Rattle.pair_tree.proofs.SideMasks.{length-sides}
use Rattle.pair_tree.specs.Reading.{AreRead}
use Rattle.schemata_text.proofs.laws.Room.{length-lawful}
use Rattle.schemata_text.specs.Items.{Item, items_of_rest}
use Rattle.schemata_text.specs.Reading.{AreLawful, Continues, domains_of, is_of}
use Rattle.schemata_text.specs.declared.assignment.Assignment.{Assignment}
use Rattle.tree_law.specs.Space.{geometry_of}

-- domains that exist also exist below a greater limit
All-below_more : (n : ℕ) (xs : List Assignment) → AllByRecursion (λ d. d < n) (domains_of xs) → AllByRecursion (λ d. d < n + 1) (domains_of xs)
All-below_more n [] all = tt
All-below_more n (x ∷ xs) all = (omega (arith, all.0), All-below_more n xs all.1)

-- none of them is the limit
list_any-limit : (n : ℕ) (xs : List Assignment) → AllByRecursion (λ d. d < n) (domains_of xs) → list_any (is_of n) xs ≡ false
list_any-limit n [] all = refl
list_any-limit n (x ∷ xs) all = rw (ne_eqb n x.domain (λ e. absurd (omega (arith, all.0, e)))) (list_any-limit n xs all.1)

-- there are no more lawful assignments than domains
pub length-lawful_all : (g : Geometry) (n : ℕ) (xs : List Assignment) → AreLawful g n xs → length xs ≤ n
length-lawful_all g n [] lawful = omega arith
length-lawful_all g n (x ∷ xs) lawful =
    let lt = length-lawful g (n + 1) (x ∷ xs) (record { domain = n; mask = x.mask }) (record { exist = All-below_more n (x ∷ xs) lawful.exist; apart = lawful.apart; valid = lawful.valid }) (omega arith) (list_any-limit n (x ∷ xs) lawful.exist) lawful.valid.0 in
    omega arith

module _ (m : Machines) (are : AreMachines m) where
  -- a side has eight at most
  pub length-on_side : (side : Side) (own : List Assignment) → AreLawful (geometry_of (side_machine m side)) (side_machine m side).domains own → length own ≤ 8
  length-on_side side own lawful = omega (arith, length-lawful_all (geometry_of (side_machine m side)) (side_machine m side).domains own lawful, domains-few m are side)

  -- both together have sixteen
  pub length-read : (all : List SideMask) → AreRead m all → length all ≤ 16
  length-read all read = omega (arith, length-sides all, length-on_side First (on_side First all) (read First), length-on_side Second (on_side Second all) (read Second))

-- The entries of a line were read for its side alone, so many masks of the side standing before them: the masks after those are new.
pub record ReadsLine (m : Machines) (side : Side) (before : List SideMask) (rest : List ℕ) (count : ℕ) (after : List Assignment) : Type 0 where
  pub few : count ≤ length after
  pub room : length before + length (drop count after) ≤ 16
  pub read : AreRead m (before ++ map (side_mask side) (drop count after))
  pub said : (more : List Item) → reading_from m side before (items_of_rest rest ++ more) ≡ reading_from m side (before ++ map (side_mask side) (drop count after)) more

pub ReadsLine-entries : (m : Machines) (side : Side) (before : List SideMask) (rest : List ℕ) (after : List Assignment) (u : Unit {0}) (g : Geometry) (n count : ℕ) (own : List Assignment) → AreMachines m
    → g ≡ geometry_of (side_machine m side) → n ≡ (side_machine m side).domains → own ≡ on_side side before → count ≡ length own
    → AreRead m before → AreLawful g n after → Continues g n own (items_of_rest rest) (Ok u) after → ReadsLine m side before rest count after
ReadsLine-entries m side before rest after u g n count own are is_g is_n is_own is_count read lawful said =
    let good : AreLawful (geometry_of (side_machine m side)) (side_machine m side).domains after = rw (is_g, is_n) at lawful in
    let adds : Adds m side before (items_of_rest rest) after = Adds-rest m side before rest after u (rw (is_g, is_n, is_own) at said) in
    let new : drop count after ≡ adds.added = ap (λ (k : ℕ). drop k after) (is_count ∙ ap length is_own) ∙ ap (λ (l : List Assignment). drop (length (on_side side before)) l) adds.own ∙ drop-added (on_side side before) adds.added in
    let all : AreRead m (before ++ map (side_mask side) adds.added) = AreRead-added m side before adds.added read (rw adds.own at good) in
    record {
      few = omega (arith, is_count, ap length is_own, ap length adds.own, length-append (on_side side before) adds.added);
      room = rw new (omega (arith, length-read m are (before ++ map (side_mask side) adds.added) all, length-append before (map (side_mask side) adds.added), length-map adds.added (side_mask side)));
      read = rw new all;
      said = λ more. rw new (adds.goes_on more);
    }
