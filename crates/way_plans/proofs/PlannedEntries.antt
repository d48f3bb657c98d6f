-- The assignments of a plan to one group: their text reads back, nothing is against them, and the group has their masks then.
use Rattle.std.proofs.Common.{◌≡◌, ℕ, zero, suc, ◌+◌, ◌*◌, ◌^◌, ◌<◌, ◌≤◌, true, false, List, [], ◌∷◌, ◌++◌, length, get_or, map, Option, None, Some, Ok, inl, inr, refl, sym, ap, ◌∙◌, arith, length-append}
use Rattle.std.specs.Prelude.{All, codes, decimal, nat_eq, set}
use Rattle.std.specs.List.{AllByRecursion, IsDistinct, list_any}
use Rattle.std.specs.Option.{option_or}
use Rattle.std.proofs.lemmas.Bool.{cases_order, ne_eqb}
use Rattle.std.proofs.lemmas.List.{get_or-set_other, get_or-set_same, length-set}
use Rattle.std.proofs.lemmas.List.Folds.{list_any-append}
use Rattle.cbm.specs.Masks.{overlaps}
use Rattle.cbm.specs.Validity.{checked}
use Rattle.group_tree.specs.declared.group.Group.{Group}
use Rattle.machine.specs.Ranges.{InRange}
use Rattle.machine.specs.declared.parameters.Parameters.{Parameters}
use Rattle.mode_rules.specs.Overlaps.{write_overlap}
use Rattle.num_text.proofs.laws.Digits.{AllDigits-decimal, AllDigits-hexadecimal, AllDigits-hexadecimal_digits, is_blank-digit, list_any-digits, trim-none}
use Rattle.num_text.proofs.laws.Pieces.{list_any-join_with_byte}
use Rattle.num_text.proofs.laws.Prints.{length-decimal_byte}
use Rattle.num_text.specs.Blanks.{is_blank}
use Rattle.num_text.specs.Printed.{hexadecimal}
use Rattle.pseudo_lock.specs.declared.region.Region.{Region}
use Rattle.rc_base.specs.declared.names.Mode.{Mode}
use Rattle.rc_base.specs.declared.names.Mode.TheVariants.{Shareable}
use Rattle.schemata_text.proofs.laws.Entries.{length-hexadecimal_mask, others_text, printed-some}
use Rattle.schemata_text.specs.Printed.{ReadsBack, entry_text, mask_digits, printed}
use Rattle.schemata_text.specs.Reading.{domains_of, reading}
use Rattle.schemata_text.specs.declared.assignment.Assignment.{Assignment}
use Rattle.tree_law.specs.Counted.{is_counted}
use Rattle.tree_law.specs.Space.{geometry_of, region_mask, used_in}
use Rattle.tree_law.specs.State.{State}
use Rattle.tree_law.specs.commands.Schemata.{against_entries, against_entry, against_overlap, assigned, schemata_read}
use Rattle.way_plans.proofs.OtherMasks.{apart-none_exclusive, write_overlap-shareable}
use Rattle.way_plans.specs.Masks.{mask_of, span_at}
use Rattle.way_plans.specs.PlanTexts.{DomainPart, masks_at}

-- Masks for so many groups, by domain and place: valid, none with a way that is taken, and no two with a way in common.
pub record AreGiven (m : Parameters) (regions : List (Option Region)) (count : ℕ) (mask : ℕ → ℕ → ℕ) : Type 0 where
  pub valid : (domain place : ℕ) → domain < m.domains → place < count → checked (geometry_of m) (mask domain place) ≡ Ok (mask domain place)
  pub small : (domain place : ℕ) → domain < m.domains → place < count → mask domain place < 2 ^ 32
  pub off_shareable : (domain place : ℕ) → domain < m.domains → place < count → overlaps (mask domain place) m.shareable ≡ false
  pub off_region : (domain place : ℕ) → domain < m.domains → place < count → overlaps (mask domain place) (region_mask regions domain) ≡ false
  pub apart : (domain place later : ℕ) → domain < m.domains → place < later → later < count → overlaps (mask domain place) (mask domain later) ≡ false

-- the masks of a place in so many domains from one on
abbrev pub entries : (ℕ → ℕ → ℕ) → ℕ → ℕ → ℕ → List Assignment
entries mask place from zero = []
entries mask place from (suc count) = record { domain = from; mask = mask from place } ∷ entries mask place (from + 1) count

-- they are what a plan gives the place
pub masks_at-entries : (mask : ℕ → ℕ → ℕ) (place from : ℕ) (parts : List DomainPart) → ((k : ℕ) (d : DomainPart) → k < length parts → mask_of (span_at (get_or parts k d).spans place) ≡ mask (from + k) place)
    → masks_at place from parts ≡ entries mask place from (length parts)
masks_at-entries mask place from [] each = refl
masks_at-entries mask place from (part ∷ parts) each =
    let here : from + 0 ≡ from = omega arith in
    ap (λ (v : ℕ). record { domain = from; mask = v } ∷ masks_at place (from + 1) parts) (each 0 part (omega arith) ∙ ap (λ (n : ℕ). mask n place) here)
    ∙ ap (λ (rest : List Assignment). record { domain = from; mask = mask from place } ∷ rest) (masks_at-entries mask place (from + 1) parts (λ k d within.
    let there : from + suc k ≡ from + 1 + k = omega arith in
    each (suc k) d (omega (arith, within)) ∙ ap (λ (n : ℕ). mask n place) there))

-- ---- a text of assignments

-- an entry has no blanks
blank-entry_text : (ways : ℕ) (a : Assignment) → a.domain < 8 → a.mask < 2 ^ 32 → list_any is_blank (entry_text ways a) ≡ false
blank-entry_text ways a few small =
    let dec = decimal a.domain in
    let hex = hexadecimal (mask_digits ways) a.mask in
    list_any-append is_blank dec (61 ∷ hex) ∙ rw (list_any-digits is_blank is_blank-digit dec (AllDigits-hexadecimal_digits dec (AllDigits-decimal a.domain (omega arith)))) (list_any-digits is_blank is_blank-digit hex (AllDigits-hexadecimal (mask_digits ways) a.mask (omega arith)))

-- an entry has at most 12 bytes
length-entry_text : (ways : ℕ) (a : Assignment) → ways ≤ 32 → a.domain < 8 → a.mask < 2 ^ 32 → length (entry_text ways a) ≤ 12
length-entry_text ways a le few small =
    omega (arith, length-decimal_byte a.domain (omega (arith, few)), length-hexadecimal_mask ways a.mask le small, length-append (decimal a.domain) (61 ∷ hexadecimal (mask_digits ways) a.mask))

module _ (m : Parameters) (regions : List (Option Region)) (count : ℕ) (mask : ℕ → ℕ → ℕ) (range : InRange m) (given : AreGiven m regions count mask) (place : ℕ) (lt : place < count) where
  -- each of the domains exists
  exist : (from some : ℕ) → from + some ≤ m.domains → AllByRecursion (λ d. d < m.domains) (domains_of (entries mask place from some))
  exist from zero le = tt
  exist from (suc some) le = (omega (arith, le), exist (from + 1) some (omega (arith, le)))

  -- none of them is named twice
  later : (x from some : ℕ) → x < from → AllByRecursion (λ d. nat_eq x d ≡ false) (domains_of (entries mask place from some))
  later x from zero below = tt
  later x from (suc some) below = (ne_eqb x from (λ e. omega (arith, e, below)), later x (from + 1) some (omega (arith, below)))

  distinct : (from some : ℕ) → IsDistinct nat_eq (domains_of (entries mask place from some))
  unfolding IsDistinct
  distinct from zero = tt
  distinct from (suc some) = (later from (from + 1) some (omega arith), distinct (from + 1) some)

  -- each mask is valid
  valid : (from some : ℕ) → from + some ≤ m.domains → AllByRecursion (λ (a : Assignment). checked (geometry_of m) a.mask ≡ Ok a.mask) (entries mask place from some)
  valid from zero le = tt
  valid from (suc some) le = (given.valid from place (omega (arith, le)) lt, valid (from + 1) some (omega (arith, le)))

  -- and has at most 32 bits
  small : (from some : ℕ) → from + some ≤ m.domains → AllByRecursion (λ (a : Assignment). a.mask < 2 ^ 32) (entries mask place from some)
  small from zero le = tt
  small from (suc some) le = (given.small from place (omega (arith, le)) lt, small (from + 1) some (omega (arith, le)))

  -- no entry has blanks
  blanks : (ways from some : ℕ) → from + some ≤ m.domains → AllByRecursion (λ x. list_any is_blank x ≡ false) (map (entry_text ways) (entries mask place from some))
  blanks ways from zero le = tt
  blanks ways from (suc some) le =
      (blank-entry_text ways (record { domain = from; mask = mask from place }) (omega (arith, le, range.domain_limit)) (given.small from place (omega (arith, le)) lt), blanks ways (from + 1) some (omega (arith, le)))

  -- so the text has none
  blank-printed : list_any is_blank (printed m.ways (entries mask place 0 m.domains)) ≡ false
  unfolding printed
  blank-printed = list_any-join_with_byte is_blank 59 refl (map (entry_text m.ways) (entries mask place 0 m.domains)) (blanks m.ways 0 m.domains (omega arith))

  -- and reads back
  pub schemata_read-printed : ReadsBack → schemata_read m (printed m.ways (entries mask place 0 m.domains)) ≡ Ok (entries mask place 0 m.domains)
  unfolding schemata_read
  schemata_read-printed reads_back =
      let all : List Assignment = entries mask place 0 m.domains in
      ap (reading (geometry_of m) m.domains) (trim-none (printed m.ways all) blank-printed)
      ∙ reads_back (geometry_of m) m.domains all range.way_limit range.domain_limit (some_entry m.domains range.some_domain)
      (record { exist = exist 0 m.domains (omega arith); apart = distinct 0 m.domains; valid = valid 0 m.domains (omega arith) }) (small 0 m.domains (omega arith))
    where
      some_entry : (n : ℕ) → 0 < n → 0 < length (entries mask place 0 n)
      some_entry zero some = absurd (omega (arith, some))
      some_entry (suc n) some = omega arith

  -- the text is short
  length-others_text : (ways from some : ℕ) → ways ≤ 32 → from + some ≤ m.domains → length (others_text ways (entries mask place from some)) ≤ 13 * some
  length-others_text ways from zero le within = omega arith
  length-others_text ways from (suc some) le within =
      let a : Assignment = record { domain = from; mask = mask from place } in
      let first = length-entry_text ways a le (omega (arith, within, range.domain_limit)) (given.small from place (omega (arith, within)) lt) in
      let more = length-others_text ways (from + 1) some le (omega (arith, within)) in
      omega (arith, first, more, length-append (59 ∷ entry_text ways a) (others_text ways (entries mask place (from + 1) some)))

  pub length-printed : length (printed m.ways (entries mask place 0 m.domains)) ≤ 128
  length-printed = at m.domains range.some_domain (omega arith)
    where
      at : (n : ℕ) → 0 < n → n ≤ m.domains → length (printed m.ways (entries mask place 0 n)) ≤ 128
      at zero some within = absurd (omega (arith, some))
      at (suc n) some within =
          let a : Assignment = record { domain = 0; mask = mask 0 place } in
          let first = length-entry_text m.ways a range.way_limit (omega arith) (given.small 0 place (omega (arith, within)) lt) in
          let others = length-others_text m.ways 1 n range.way_limit (omega (arith, within)) in
          rw (printed-some m.ways a (entries mask place 1 n)) (omega (arith, within, range.domain_limit, first, others, length-append (codes "L3:") (entry_text m.ways a ++ others_text m.ways (entries mask place 1 n)), length-append (entry_text m.ways a) (others_text m.ways (entries mask place 1 n))))

  -- ---- the assignments

  module _ (s : State) (g : Group) (regions_same : s.regions ≡ regions) (shared : All (λ (y : Group). is_counted y ≡ true → y.mode ≡ Shareable) s.groups) (mode : g.mode ≡ Shareable) where
    -- nothing is against them
    against : (from some : ℕ) → from + some ≤ m.domains → against_entries m s g (entries mask place from some) ≡ None
    against from zero le = refl
    against from (suc some) le =
        let bits : ℕ = mask from place in
        let a : Assignment = record { domain = from; mask = bits } in
        let region : overlaps bits (region_mask s.regions from) ≡ false = ap (λ (r : List (Option Region)). overlaps bits (region_mask r from)) regions_same ∙ given.off_region from place (omega (arith, le)) lt in
        let free = write_overlap-shareable bits (used_in m s (Some g.gid) from) (apart-none_exclusive bits from s.groups g.gid shared) region in
        let one : against_entry m s g a ≡ None = ap (λ (x : Mode). against_overlap from (write_overlap x bits (used_in m s (Some g.gid) from))) mode ∙ ap (against_overlap from) free in
        ap (λ o. option_or o (against_entries m s g (entries mask place (from + 1) some))) one ∙ against (from + 1) some (omega (arith, le))

    pub against-entries : against_entries m s g (entries mask place 0 m.domains) ≡ None
    against-entries = against 0 m.domains (omega arith)

  -- those of later domains leave a mask
  before : (masks : List ℕ) (from some domain : ℕ) → domain < from → get_or (assigned masks (entries mask place from some)) domain 0 ≡ get_or masks domain 0
  before masks from zero domain below = refl
  before masks from (suc some) domain below =
      before (set masks from (mask from place)) (from + 1) some domain (omega (arith, below)) ∙ get_or-set_other masks from domain (mask from place) 0 (λ e. omega (arith, e, below))

  -- each domain has its own
  pub get_or-assigned : (masks : List ℕ) (from some domain : ℕ) → length masks ≡ 8 → from ≤ domain → domain < from + some → from + some ≤ 8 → get_or (assigned masks (entries mask place from some)) domain 0 ≡ mask domain place
  get_or-assigned masks from zero domain places low high few = absurd (omega (arith, low, high))
  get_or-assigned masks from (suc some) domain places low high few = elim (cases_order domain from) [
    | inl e ↦ before (set masks from (mask from place)) (from + 1) some domain (omega (arith, e))
        ∙ (ap (λ (k : ℕ). get_or (set masks from (mask from place)) k 0) e ∙ (get_or-set_same masks from (mask from place) 0 (omega (arith, places, few)) ∙ ap (λ (k : ℕ). mask k place) (sym e)))
    | inr (inl below) ↦ absurd (omega (arith, below, low))
    | inr (inr above) ↦ get_or-assigned (set masks from (mask from place)) (from + 1) some domain (length-set masks from (mask from place) ∙ places) (omega (arith, above)) (omega (arith, high)) (omega (arith, few))
  ]
