-- What a reading of a schemata text says is lawful.
use Rattle.std.proofs.Common.{◌≡◌, ℕ, zero, suc, ◌<◌, ◌^◌, Bool, true, false, not, List, [], ◌∷◌, ◌++◌, length, get_or, Option, None, Some, Result, Ok, Err, refl, sym, subst, ap, arith}
use Rattle.std.specs.List.{All, AllByRecursion, list_any, before_first, after_first}
use Rattle.std.proofs.lemmas.List.Elements.{All-push}
use Rattle.std.specs.Option.{ok_or}
use Rattle.num_text.specs.Signs.{equals}
use Rattle.rc_base.specs.Faults.{◌>>=◌, fault_if}
use Rattle.cbm.specs.Validity.{checked}
use Rattle.cbm.specs.declared.fault.CbmFault.{CbmFault}
use Rattle.cbm.specs.declared.geometry.Geometry.{Geometry}
use Rattle.machine.specs.declared.parameters.Parameters.{Parameters}
use Rattle.num_text.proofs.laws.Limits.{below-lt}
use Rattle.num_text.specs.Blanks.{trim}
use Rattle.num_text.specs.Numbers.{below, dec_of, hex_of}
use Rattle.cbm.proofs.laws.Validity.{checked-ok, checked-checked}
use Rattle.schemata_text.proofs.laws.Lawful.{AreLawful-none, AreLawful-push}
use Rattle.schemata_text.specs.Items.{Entry, Item, Line, items_of}
use Rattle.schemata_text.specs.Reading.{AreLawful, domain_of, domains_of, entry_of, is_of, line_of, mask_of, mask_said, reading, reading_from}
use Rattle.schemata_text.specs.declared.assignment.Assignment.{Assignment}
use Rattle.schemata_text.specs.declared.fault.TextFault.{TextFault}
use Rattle.schemata_text.specs.declared.fault.TextFault.TheVariants.{Mask, BadDomain, Twice, NoEquals, NotHex}
use Rattle.tree_law.proofs.laws.ValidMasks.{IsValid-checked}
use Rattle.tree_law.specs.Masks.{IsValid}
use Rattle.tree_law.specs.Space.{geometry_of}

-- a step that went on
pub bind-Ok : {A B : Type 0} (r : Result A TextFault) (f : A → Result B TextFault) (y : B) → (r >>= f) ≡ Ok y → (x : A) × (r ≡ Ok x) × (f x ≡ Ok y)
bind-Ok (Ok x) f y e = (x, refl, e)
bind-Ok {B = B} (Err fault) f y e = absurd (let g : ◌≡◌ {A = Result B TextFault} (Err fault) (Ok y) = e in cc)

-- a fault that was not met leaves the value
pub ok_or-Ok : {A : Type 0} (o : Option A) (fault : TextFault) (x : A) → ok_or o fault ≡ Ok x → o ≡ Some x
ok_or-Ok None fault x e = absurd (let g : Err fault ≡ Ok x = e in cc)
ok_or-Ok (Some y) fault x e = let g : ◌≡◌ {A = Result _ TextFault} (Ok y) (Ok x) = e in cc

-- a test that gave no fault did not pass
pub fault_if-Ok : (b : Bool) (fault : TextFault) (u : Unit {0}) → fault_if b fault ≡ Ok u → b ≡ false
fault_if-Ok true fault u e = absurd (let g : Err fault ≡ Ok u = e in cc)
fault_if-Ok false fault u e = refl

-- a mask that was said was read
pub mask_said-Ok : (bits mask : ℕ) (r : Result ℕ CbmFault) → mask_said bits r ≡ Ok mask → r ≡ Ok mask
mask_said-Ok bits mask (Ok x) e = let g : ◌≡◌ {A = Result ℕ TextFault} (Ok x) (Ok mask) = e in let same : x ≡ mask = cc in ap Ok same
mask_said-Ok bits mask (Err fault) e = absurd (let g : ◌≡◌ {A = Result ℕ TextFault} (Err (Mask bits fault)) (Ok mask) = e in cc)

-- a mask of a domain
abbrev assignment : ℕ → ℕ → Assignment
assignment domain mask = record { domain = domain; mask = mask }

-- equal results have equal values
Ok-same : {A : Type 0} (x y : A) → ◌≡◌ {A = Result A TextFault} (Ok x) (Ok y) → x ≡ y
Ok-same x y e = cc

-- an entry names a domain that exists and that none before names, and a valid mask
pub record IsReadEntry (g : Geometry) (domains : ℕ) (before : List Assignment) (a : Assignment) : Type 0 where
  pub exists : a.domain < domains
  pub fresh : list_any (is_of a.domain) before ≡ false
  pub valid : checked g a.mask ≡ Ok a.mask
  pub small : a.mask < 2 ^ 64

-- an entry that is read is one that may be read
pub IsReadEntry-entry_of : (g : Geometry) (domains : ℕ) (before : List Assignment) (entry : List ℕ) (a : Assignment) → entry_of g domains before entry ≡ Ok a → IsReadEntry g domains before a
unfolding entry_of
IsReadEntry-entry_of g domains before entry a e =
    let one = bind-Ok (fault_if (not (list_any equals entry)) NoEquals) _ a e in
    let two = bind-Ok (domain_of domains (before_first equals entry)) _ a one.2 in
    let three = bind-Ok (fault_if (list_any (is_of two.0) before) (Twice two.0)) _ a two.2 in
    let four = bind-Ok (ok_or (below (2 ^ 64) (hex_of (trim (after_first equals entry)))) NotHex) _ a three.2 in
    let five = bind-Ok (mask_of g four.0) _ a four.2 in
    let same : assignment two.0 five.0 ≡ a = Ok-same (assignment two.0 five.0) a five.2 in
    subst (IsReadEntry g domains before) same (record {
      exists = below-lt domains (dec_of (trim (before_first equals entry))) two.0 (ok_or-Ok (below domains (dec_of (trim (before_first equals entry)))) BadDomain two.0 two.1);
      fresh = fault_if-Ok (list_any (is_of two.0) before) (Twice two.0) three.0 three.1;
      valid = checked-checked g four.0 five.0 (mask_said-Ok four.0 five.0 (checked g four.0) five.1);
      small = subst (λ (n : ℕ). n < 2 ^ 64) (sym (checked-ok g four.0 five.0 (mask_said-Ok four.0 five.0 (checked g four.0) five.1))) (below-lt (2 ^ 64) (hex_of (trim (after_first equals entry))) four.0 (ok_or-Ok (below (2 ^ 64) (hex_of (trim (after_first equals entry)))) NotHex four.0 four.1));
    })

-- the items after lawful assignments make lawful ones
AreLawful-reading_from : (g : Geometry) (domains : ℕ) (before all : List Assignment) (items : List Item) → AreLawful g domains before → reading_from g domains before items ≡ Ok all → AreLawful g domains all
unfolding reading_from
AreLawful-reading_from g domains before all [] lawful e = subst (AreLawful g domains) (Ok-same before all e) lawful
AreLawful-reading_from g domains before all (Line line ∷ items) lawful e = let step = bind-Ok (line_of line) (λ _. reading_from g domains before items) all e in AreLawful-reading_from g domains before all items lawful step.2
AreLawful-reading_from g domains before all (Entry entry ∷ items) lawful e =
    let step = bind-Ok (entry_of g domains before entry) (λ a. reading_from g domains (before ++ a ∷ []) items) all e in
    let good = IsReadEntry-entry_of g domains before entry step.0 step.1 in
    AreLawful-reading_from g domains (before ++ step.0 ∷ []) all items (AreLawful-push g domains before step.0 lawful good.exists good.fresh good.valid) step.2

-- the assignments of a text are lawful
AreLawful-reading : (g : Geometry) (domains : ℕ) (text : List ℕ) (all : List Assignment) → reading g domains text ≡ Ok all → AreLawful g domains all
AreLawful-reading g domains text all e = AreLawful-reading_from g domains [] all (items_of text) (AreLawful-none g domains) e

-- the masks that are read are of 64 bits
All-reading_from : (g : Geometry) (domains : ℕ) (before all : List Assignment) (items : List Item) → All (λ (a : Assignment). a.mask < 2 ^ 64) before → reading_from g domains before items ≡ Ok all → All (λ (a : Assignment). a.mask < 2 ^ 64) all
unfolding reading_from
All-reading_from g domains before all [] small e = subst (All (λ (a : Assignment). a.mask < 2 ^ 64)) (Ok-same before all e) small
All-reading_from g domains before all (Line line ∷ items) small e = let step = bind-Ok (line_of line) (λ _. reading_from g domains before items) all e in All-reading_from g domains before all items small step.2
All-reading_from g domains before all (Entry entry ∷ items) small e =
    let step = bind-Ok (entry_of g domains before entry) (λ a. reading_from g domains (before ++ a ∷ []) items) all e in
    All-reading_from g domains (before ++ step.0 ∷ []) all items (All-push (λ (a : Assignment). a.mask < 2 ^ 64) before step.0 small (IsReadEntry-entry_of g domains before entry step.0 step.1).small) step.2

-- each lawful assignment names a domain that exists, and a mask without a fault
get_or-lawful : (g : Geometry) (domains : ℕ) (all : List Assignment) → AreLawful g domains all → (k : ℕ) (d : Assignment) → k < length all → ((get_or all k d).domain < domains) × (checked g (get_or all k d).mask ≡ Ok (get_or all k d).mask)
get_or-lawful g domains all lawful = both all lawful.exist lawful.valid
  where
    both : (all : List Assignment) → AllByRecursion (λ d. d < domains) (domains_of all) → AllByRecursion (λ (a : Assignment). checked g a.mask ≡ Ok a.mask) all
        → (k : ℕ) (d : Assignment) → k < length all → ((get_or all k d).domain < domains) × (checked g (get_or all k d).mask ≡ Ok (get_or all k d).mask)
    both [] exist valid k d within = absurd (omega arith)
    both (a ∷ all) exist valid zero d within = (exist.0, valid.0)
    both (a ∷ all) exist valid (suc k) d within = both all exist.1 valid.1 k d (omega arith)

-- each assignment that is read names a domain of the machine, and a valid mask
pub reading-valid : (m : Parameters) (text : List ℕ) (all : List Assignment) → reading (geometry_of m) m.domains text ≡ Ok all → (k : ℕ) (d : Assignment) → k < length all → ((get_or all k d).domain < m.domains) × IsValid m (get_or all k d).mask
reading-valid m text all e k d within =
    let one = get_or-lawful (geometry_of m) m.domains all (AreLawful-reading (geometry_of m) m.domains text all e) k d within in
    let small = All-reading_from (geometry_of m) m.domains [] all (items_of text) (λ i c less. absurd (omega arith)) e k d within in
    (one.0, IsValid-checked m (get_or all k d).mask small one.1)
