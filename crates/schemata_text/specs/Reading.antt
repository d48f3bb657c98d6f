-- What a schemata text says: the assignments of its entries, or the fault of its first bad item.
use Rattle.std.specs.Prelude.{◌≡◌, ℕ, ◌^◌, ◌<◌, Bool, not, ◌==◌, nat_eq, List, [], ◌∷◌, ◌++◌, length, map, codes, Option, Some, None, Result, Ok, Err, if◌then◌else◌}
use Rattle.std.specs.List.{list_any, before_first, after_first, IsDistinct, AllByRecursion}
use Rattle.std.specs.Option.{ok_or}
use Rattle.num_text.specs.Signs.{equals}
use Rattle.rc_base.specs.Faults.{◌>>=◌, fault_if}
use Rattle.num_text.specs.Numbers.{dec_of, hex_of, below}
use Rattle.num_text.specs.Blanks.{trim}
use Rattle.rc_base.specs.Texts.{is_text}
use Rattle.cbm.specs.declared.geometry.Geometry.{Geometry}
use Rattle.cbm.specs.declared.fault.CbmFault.{CbmFault}
use Rattle.cbm.specs.Validity.{checked}
use Rattle.schemata_text.specs.declared.assignment.Assignment.{Assignment}
use Rattle.schemata_text.specs.declared.fault.TextFault.{TextFault}
use Rattle.schemata_text.specs.declared.fault.TextFault.TheVariants.{NoColon, BadResource, NoValue, NoEquals, BadDomain, Twice, NotHex, Mask}
use Rattle.schemata_text.specs.Items.{Item, Line, Entry, colon, items_of}

-- ---- what an item says

-- a line has a colon, names the L3 before it, and has a value after it
unfoldable pub line_of : List ℕ → Result (Unit {0}) TextFault
line_of line = do
  a ← fault_if (not (list_any colon line)) NoColon
  b ← fault_if (not (is_text (trim (before_first colon line)) (codes "L3"))) BadResource
  fault_if (length (trim (after_first colon line)) == 0) NoValue

-- an id is a decimal number of a domain that exists
abbrev pub domain_of : ℕ → List ℕ → Result ℕ TextFault
domain_of domains id = ok_or (below domains (dec_of (trim id))) BadDomain

-- whether an assignment is of this domain
abbrev pub is_of : ℕ → Assignment → Bool
is_of domain a = domain == a.domain

-- a mask that was checked, or its fault
abbrev pub mask_said : ℕ → Result ℕ CbmFault → Result ℕ TextFault
mask_said bits (Ok mask) = Ok mask
mask_said bits (Err fault) = Err (Mask bits fault)

-- a number that is a valid mask
abbrev pub mask_of : Geometry → ℕ → Result ℕ TextFault
mask_of g bits = mask_said bits (checked g bits)

-- an entry is an id and a mask, and names no domain that these earlier assignments name
unfoldable pub entry_of : Geometry → ℕ → List Assignment → List ℕ → Result Assignment TextFault
entry_of g domains before entry = do
  a ← fault_if (not (list_any equals entry)) NoEquals
  domain ← domain_of domains (before_first equals entry)
  b ← fault_if (list_any (is_of domain) before) (Twice domain)
  bits ← ok_or (below (2 ^ 64) (hex_of (trim (after_first equals entry)))) NotHex
  mask ← mask_of g bits
  Ok (record { domain = domain; mask = mask })

-- these assignments and those of the items after them, or the fault of the first bad item
unfoldable pub reading_from : Geometry → ℕ → List Assignment → List Item → Result (List Assignment) TextFault
reading_from g domains before [] = Ok before
reading_from g domains before (Line line ∷ items) = line_of line >>= λ _. reading_from g domains before items
reading_from g domains before (Entry entry ∷ items) = entry_of g domains before entry >>= λ a. reading_from g domains (before ++ a ∷ []) items

-- the assignments of a text, or the fault of its first bad item from left to right
abbrev pub reading : Geometry → ℕ → List ℕ → Result (List Assignment) TextFault
reading g domains text = reading_from g domains [] (items_of text)

-- ---- what is read

-- (For proofs.) the domains of assignments
abbrev pub domains_of : List Assignment → List ℕ
domains_of all = map (λ (a : Assignment). a.domain) all

-- (For proofs.) valid masks of distinct domains that exist
pub record AreLawful (g : Geometry) (domains : ℕ) (all : List Assignment) : Type 0 where
  pub exist : AllByRecursion (λ d. d < domains) (domains_of all)
  pub apart : IsDistinct nat_eq (domains_of all)
  pub valid : AllByRecursion (λ (a : Assignment). checked g a.mask ≡ Ok a.mask) all

-- ---- what the readers answer

-- (For proofs.) an answer, seen by view, is this reading
abbrev pub Gives : {X Y : Type 0} → (X → Y) → Result X TextFault → Result Y TextFault → Type 0
Gives view (Ok x) read = read ≡ Ok (view x)
Gives view (Err e) read = read ≡ Err e

-- (For proofs.) whatever follows these items: they say what is there now, or the fault is theirs
abbrev pub Continues : Geometry → ℕ → List Assignment → List Item → Result (Unit {0}) TextFault → List Assignment → Type 0
Continues g domains before items (Ok u) after = (more : List Item) → reading_from g domains before (items ++ more) ≡ reading_from g domains after more
Continues g domains before items (Err e) after = (more : List Item) → reading_from g domains before (items ++ more) ≡ Err e
