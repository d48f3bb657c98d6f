-- A write of `schemata` and one of `mode` keep a sound state.
use Rattle.std.proofs.Common.{◌≡◌, ℕ, zero, suc, ◌<◌, Bool, true, false, not, cond, eqb, List, [], ◌∷◌, length, find, get_or, set, Option, None, Some, Result, Ok, Err, refl, sym, subst, ap, ◌∙◌, arith, length-set}
use Rattle.std.specs.List.{list_any}
use Rattle.std.proofs.lemmas.Bool.{eqb-true, eqb-false}
use Rattle.std.proofs.lemmas.List.{get_or-set_same, get_or-set_other}
use Rattle.lists.proofs.Options.{option_or-none}
use Rattle.lists.proofs.Tests.{IsFound-all, find-found, All-from_none}
use Rattle.mode_rules.specs.Overlaps.{is_apart, write_overlap}
use Rattle.num_text.specs.Blanks.{trim}
use Rattle.pair_law.proofs.Fits.{FitsBeside, FitsBeside-exclusive, FitsBeside-old, FitsBeside-shared, FitsBeside-written}
use Rattle.pair_law.proofs.Places.{All-places_of}
use Rattle.pair_law.proofs.laws.Readings.{schemata_read-lawful}
use Rattle.pair_law.proofs.Replaced.{IsSameGroup, with_record-sound}
use Rattle.pair_law.specs.Others.{Place, places_of, used_in}
use Rattle.pair_law.specs.Reading.{SideMask}
use Rattle.pair_law.specs.Sound.{HasPlaces, IsSound}
use Rattle.pair_law.specs.State.{PairGroup, PairState, has_gid, mask_in}
use Rattle.pair_law.specs.commands.Mode as mode
use Rattle.pair_law.specs.commands.Schemata as schemata
use Rattle.pair_text.specs.Values.{AreMachines, Machines, side_machine}
use Rattle.pair_text.specs.declared.side.Side.{Side}
use Rattle.pair_text.specs.declared.side.Side.TheVariants.{First, Second}
use Rattle.rc_base.specs.declared.names.Mode.{Mode}
use Rattle.rc_base.specs.declared.names.Mode.TheVariants.{Shareable, Exclusive}
use Rattle.rc_base.specs.declared.replies.Why.TheVariants.{SchemataOverlap}
use Rattle.schemata_text.specs.declared.fault.TextFault.{TextFault}
use Rattle.tree_law.proofs.laws.Refusals.{against_overlap-none}
use Rattle.tree_law.specs.Counted.{is_counted_mode}
use Rattle.tree_law.specs.Refusals.{Refusal, plain}
use Rattle.tree_law.specs.commands.Mode.{is_named, is_present}

-- a group found by its serial number has its places
HasPlaces-found : (m : Machines) (s : PairState) (g : PairGroup) → IsSound m s → find (has_gid g.gid) s.groups ≡ Some g → HasPlaces g
HasPlaces-found m s g sound found = IsFound-all HasPlaces (has_gid g.gid) s.groups g (find-found (has_gid g.gid) s.groups g found) sound.masks.places

is_counted-found : (m : Machines) (s : PairState) (g : PairGroup) → IsSound m s → find (has_gid g.gid) s.groups ≡ Some g → is_counted_mode g.mode ≡ true
is_counted-found m s g sound found = IsFound-all (λ (x : PairGroup). is_counted_mode x.mode ≡ true) (has_gid g.gid) s.groups g (find-found (has_gid g.gid) s.groups g found) sound.named.modes

-- ---- masks that are written one by one

-- what holds of a group but for its masks
pub record IsMasked (g new : PairGroup) : Type 0 where
  pub same : IsSameGroup g new
  pub mode : new.mode ≡ g.mode
  pub places : HasPlaces new

IsMasked-with_mask : (g old : PairGroup) (side : Side) (domain mask : ℕ) → IsMasked g old → IsMasked g (schemata.with_mask old side domain mask)
IsMasked-with_mask g old First domain mask is = record { same = record { gid = is.same.gid; name = is.same.name; class = is.same.class }; mode = is.mode; places = places }
  where
    places : HasPlaces (schemata.with_mask old First domain mask)
    places First = length-set old.first domain mask ∙ is.places First
    places Second = is.places Second
IsMasked-with_mask g old Second domain mask is = record { same = record { gid = is.same.gid; name = is.same.name; class = is.same.class }; mode = is.mode; places = places }
  where
    places : HasPlaces (schemata.with_mask old Second domain mask)
    places First = is.places First
    places Second = length-set old.second domain mask ∙ is.places Second

-- a mask that is written stands there, and the others stay
mask_in-with_mask : (P : Side → ℕ → ℕ → Type 0) (old : PairGroup) (one : Side) (domain mask : ℕ) → HasPlaces old → domain < 8 → P one domain mask
    → (side : Side) (d : ℕ) → P side d (mask_in side d old) → P side d (mask_in side d (schemata.with_mask old one domain mask))
mask_in-with_mask P old First domain mask places lt p First d was = at (eqb d domain) refl
  where
    at : (b : Bool) → eqb d domain ≡ b → P First d (get_or (set old.first domain mask) d 0)
    at true is = (let same : d ≡ domain = eqb-true d domain is in
        subst (λ (k : ℕ). P First k (get_or (set old.first domain mask) k 0)) (sym same) (subst (P First domain) (sym (get_or-set_same old.first domain mask 0 (omega (arith, places First, lt)))) p))
    at false is = subst (P First d) (sym (get_or-set_other old.first domain d mask 0 (eqb-false d domain is))) was
mask_in-with_mask P old First domain mask places lt p Second d was = was
mask_in-with_mask P old Second domain mask places lt p First d was = was
mask_in-with_mask P old Second domain mask places lt p Second d was = at (eqb d domain) refl
  where
    at : (b : Bool) → eqb d domain ≡ b → P Second d (get_or (set old.second domain mask) d 0)
    at true is = (let same : d ≡ domain = eqb-true d domain is in
        subst (λ (k : ℕ). P Second k (get_or (set old.second domain mask) k 0)) (sym same) (subst (P Second domain) (sym (get_or-set_same old.second domain mask 0 (omega (arith, places Second, lt)))) p))
    at false is = subst (P Second d) (sym (get_or-set_other old.second domain d mask 0 (eqb-false d domain is))) was

-- masks that are written are each as they should be, and the others stay
mask_in-with_masks : (P : Side → ℕ → ℕ → Type 0) (limit : Side → ℕ) (g old : PairGroup) (all : List SideMask) → IsMasked g old
    → ((k : ℕ) (d : SideMask) → k < length all → ((get_or all k d).domain < 8) × P (get_or all k d).side (get_or all k d).domain (get_or all k d).mask)
    → ((side : Side) (d : ℕ) → d < limit side → P side d (mask_in side d old)) → IsMasked g (schemata.with_masks old all) × ((side : Side) (d : ℕ) → d < limit side → P side d (mask_in side d (schemata.with_masks old all)))
mask_in-with_masks P limit g old [] is each was = (is, was)
mask_in-with_masks P limit g old (a ∷ all) is each was =
    mask_in-with_masks P limit g (schemata.with_mask old a.side a.domain a.mask) all (IsMasked-with_mask g old a.side a.domain a.mask is)
    (λ k d within. each (suc k) d (omega arith))
    (λ side d lt. let one = each 0 a (omega arith) in mask_in-with_mask P old a.side a.domain a.mask is.places one.0 one.1 side d (was side d lt))

-- where no mask is refused, nothing stands against any
against_masks-none : (m : Machines) (s : PairState) (g : PairGroup) (all : List SideMask) → schemata.against_masks m s g all ≡ None → (k : ℕ) (d : SideMask) → k < length all
    → write_overlap g.mode (get_or all k d).mask (used_in m s (Some g.gid) (schemata.place_of (get_or all k d))) ≡ Ok tt
against_masks-none m s g [] none k d within = absurd (omega arith)
against_masks-none m s g (a ∷ all) none zero d within = against_overlap-none a.domain (write_overlap g.mode a.mask (used_in m s (Some g.gid) (schemata.place_of a))) (option_or-none (schemata.against_mask m s g a) (schemata.against_masks m s g all) none).0
against_masks-none m s g (a ∷ all) none (suc k) d within = against_masks-none m s g all (option_or-none (schemata.against_mask m s g a) (schemata.against_masks m s g all) none).1 k d (omega arith)

-- an accepted write of schemata keeps a sound state
pub schemata-sound : (m : Machines) (s : PairState) (g : PairGroup) (text : List ℕ) → AreMachines m → IsSound m s → find (has_gid g.gid) s.groups ≡ Some g
    → schemata.refusal m s g (schemata.schemata_read m text) ≡ None → IsSound m (schemata.accepted s g (schemata.schemata_read m text))
unfolding schemata.refusal schemata.accepted
schemata-sound m s g text range sound found none = at (schemata.schemata_read m text) refl none
  where
    at : (r : Result (List SideMask) TextFault) → schemata.schemata_read m text ≡ r → schemata.refusal m s g r ≡ None → IsSound m (schemata.accepted s g r)
    at (Err fault) is e = sound
    at (Ok all) is e = (let read = schemata_read-lawful m text all range is in
        let both = mask_in-with_masks (λ side d mask. FitsBeside m s g sound found g.mode (record { side = side; domain = d }) mask) (λ side. (side_machine m side).domains) g g all
        (record { same = record { gid = refl; name = refl; class = refl }; mode = refl; places = HasPlaces-found m s g sound found })
        (λ k d within. let one = read k d within in (one.few, FitsBeside-written m s g sound found g.mode (schemata.place_of (get_or all k d)) (get_or all k d).mask tt one.valid (against_masks-none m s g all e k d within)))
        (FitsBeside-old m s g sound found) in
        let new : PairGroup = schemata.with_masks g all in
        with_record-sound m s g new sound found both.0.same (ap is_counted_mode both.0.mode ∙ is_counted-found m s g sound found) both.0.places
        (λ side d lt. subst (λ (x : Mode). FitsBeside m s g sound found x (record { side = side; domain = d }) (mask_in side d new)) (sym both.0.mode) (both.1 side d lt)))

-- ---- mode

-- another mode keeps a sound state
mode-set_sound : (m : Machines) (s : PairState) (g : PairGroup) (new : Mode) (sound : IsSound m s) (found : find (has_gid g.gid) s.groups ≡ Some g) → is_counted_mode new ≡ true
    → ((side : Side) (domain : ℕ) → domain < (side_machine m side).domains → FitsBeside m s g sound found new (record { side = side; domain = domain }) (mask_in side domain g)) → IsSound m (schemata.with_record s (record g { mode = new }))
mode-set_sound m s g new sound found counted fits = with_record-sound m s g (record g { mode = new }) sound found (record { gid = refl; name = refl; class = refl }) counted (places (HasPlaces-found m s g sound found)) by_side
  where
    places : HasPlaces g → HasPlaces (record g { mode = new })
    places has First = has First
    places has Second = has Second

    by_side : (side : Side) (domain : ℕ) → domain < (side_machine m side).domains → FitsBeside m s g sound found new (record { side = side; domain = domain }) (mask_in side domain (record g { mode = new }))
    by_side First domain lt = fits First domain lt
    by_side Second domain lt = fits Second domain lt

-- an accepted write of mode keeps a sound state
pub mode-sound : (m : Machines) (s : PairState) (g : PairGroup) (text : List ℕ) → IsSound m s → find (has_gid g.gid) s.groups ≡ Some g → mode.refusal m s g text ≡ None → IsSound m (mode.accepted s g text)
unfolding mode.refusal mode.accepted mode.mode_in
mode-sound m s g text sound found none = by_present (is_present g.mode text) none
  where
    not-false : (b : Bool) → not b ≡ false → b ≡ true
    not-false true e = refl
    not-false false e = absurd (let f : true ≡ false = e in cc)

    exclusive : list_any (mode.overlaps_some m s g) (places_of m) ≡ false → IsSound m (schemata.with_record s (record g { mode = Exclusive }))
    exclusive none = mode-set_sound m s g Exclusive sound found refl (λ side domain lt.
        FitsBeside-exclusive m s g sound found (record { side = side; domain = domain }) (mask_in side domain g) (FitsBeside-old m s g sound found side domain lt)
        (not-false (is_apart (mask_in side domain g) (used_in m s (Some g.gid) (record { side = side; domain = domain })))
        (All-places_of m (λ (p : Place). mode.overlaps_some m s g p ≡ false) (All-from_none (mode.overlaps_some m s g) (places_of m) none) side domain lt)))

    by_test : (b : Bool) → list_any (mode.overlaps_some m s g) (places_of m) ≡ b → cond {A = Option Refusal} b (Some (plain SchemataOverlap)) None ≡ None → IsSound m (schemata.with_record s (record g { mode = Exclusive }))
    by_test true is e = absurd (let f : Some (plain SchemataOverlap) ≡ None = e in cc)
    by_test false is e = exclusive is

    by_names : (a b : Bool) → mode.against_mode m s g (cond a (Some Shareable) (cond b (Some Exclusive) None)) ≡ None → IsSound m (mode.with_mode s g (cond a (Some Shareable) (cond b (Some Exclusive) None)))
    by_names true b e = mode-set_sound m s g Shareable sound found refl (λ side domain lt. FitsBeside-shared m s g sound found (record { side = side; domain = domain }) (mask_in side domain g) (FitsBeside-old m s g sound found side domain lt))
    by_names false true e = by_test (list_any (mode.overlaps_some m s g) (places_of m)) refl e
    by_names false false e = sound

    by_present : (b : Bool) → cond {A = Option Refusal} b None (mode.against_mode m s g (mode.mode_in text)) ≡ None → IsSound m (cond b s (mode.with_mode s g (mode.mode_in text)))
    by_present true e = sound
    by_present false e = by_names (is_named (trim text) Shareable) (is_named (trim text) Exclusive) e
