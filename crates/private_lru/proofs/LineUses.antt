-- Accesses by their parts.
use Rattle.std.proofs.Common.{◌≡◌, ℕ, true, false, eqb, not, Some, None, refl, sym, ap, ◌∙◌}
use Rattle.std.specs.Prelude.{◌&&◌}
use Rattle.std.proofs.lemmas.Bool.{and_parts, eq-eqb, eqb-true, false≢true}
use Rattle.std.proofs.lemmas.Option.{same_Some}
use Rattle.cache_core.specs.declared.entry.SliceEntry.{SliceEntry}
use Rattle.cache_core.specs.declared.entry.What.{What}
use Rattle.cache_core.specs.declared.entry.What.TheVariants as whats
use Rattle.private_lru.specs.Covered.{is_loaded_use, is_own, is_use, loads}
use Rattle.private_lru.specs.Uses.{access_of, is_foreign}
use Rattle.private_lru.specs.declared.uses.Access.{Access}

-- what stands past the end of a list of entries
abbrev pub no_entry : SliceEntry
no_entry = record { thread = 0; op = 0; epoch = 0; what = whats.Access false 0 (record { 0 = 0 }) 0 0 0 }

-- ---- one access

-- another's access to a line, told by the parts of the access
pub is_foreign-access : (what : What) (a : Access) (group x : ℕ) → access_of what ≡ Some a → is_foreign group x what ≡ (not (eqb a.owner.0 group) && eqb a.line x)
is_foreign-access (whats.Access hit way owner rmid mask line) a group x is =
    ap (λ (b : Access). not (eqb b.owner.0 group) && eqb b.line x) (same_Some (record { line = line; owner = owner }) a is)
is_foreign-access whats.Raise a group x is = let none : None ≡ Some a = is in absurd cc
is_foreign-access whats.Flush a group x is = let none : None ≡ Some a = is in absurd cc
is_foreign-access (whats.Lock mask first) a group x is = let none : None ≡ Some a = is in absurd cc
is_foreign-access (whats.Look rmid lines) a group x is = let none : None ≡ Some a = is in absurd cc
is_foreign-access (whats.Drop line at) a group x is = let none : None ≡ Some a = is in absurd cc

-- a group's own access
pub is_own-access : (what : What) (a : Access) (group : ℕ) → access_of what ≡ Some a → is_own group what ≡ eqb a.owner.0 group
is_own-access (whats.Access hit way owner rmid mask line) a group is = ap (λ (b : Access). eqb b.owner.0 group) (same_Some (record { line = line; owner = owner }) a is)
is_own-access whats.Raise a group is = let none : None ≡ Some a = is in absurd cc
is_own-access whats.Flush a group is = let none : None ≡ Some a = is in absurd cc
is_own-access (whats.Lock mask first) a group is = let none : None ≡ Some a = is in absurd cc
is_own-access (whats.Look rmid lines) a group is = let none : None ≡ Some a = is in absurd cc
is_own-access (whats.Drop line at) a group is = let none : None ≡ Some a = is in absurd cc

-- its access to a line
pub is_use-access : (what : What) (a : Access) (group x : ℕ) → access_of what ≡ Some a → is_use group x what ≡ (eqb a.owner.0 group && eqb a.line x)
is_use-access (whats.Access hit way owner rmid mask line) a group x is =
    ap (λ (b : Access). eqb b.owner.0 group && eqb b.line x) (same_Some (record { line = line; owner = owner }) a is)
is_use-access whats.Raise a group x is = let none : None ≡ Some a = is in absurd cc
is_use-access whats.Flush a group x is = let none : None ≡ Some a = is in absurd cc
is_use-access (whats.Lock mask first) a group x is = let none : None ≡ Some a = is in absurd cc
is_use-access (whats.Look rmid lines) a group x is = let none : None ≡ Some a = is in absurd cc
is_use-access (whats.Drop line at) a group x is = let none : None ≡ Some a = is in absurd cc

-- one to a line that was loaded
pub is_loaded_use-access : (sets : ℕ) (opening what : What) (a : Access) (group : ℕ) → access_of what ≡ Some a → is_loaded_use sets group opening what ≡ (eqb a.owner.0 group && loads sets opening a.line)
is_loaded_use-access sets opening (whats.Access hit way owner rmid mask line) a group is =
    ap (λ (b : Access). eqb b.owner.0 group && loads sets opening b.line) (same_Some (record { line = line; owner = owner }) a is)
is_loaded_use-access sets opening whats.Raise a group is = let none : None ≡ Some a = is in absurd cc
is_loaded_use-access sets opening whats.Flush a group is = let none : None ≡ Some a = is in absurd cc
is_loaded_use-access sets opening (whats.Lock mask first) a group is = let none : None ≡ Some a = is in absurd cc
is_loaded_use-access sets opening (whats.Look rmid lines) a group is = let none : None ≡ Some a = is in absurd cc
is_loaded_use-access sets opening (whats.Drop line at) a group is = let none : None ≡ Some a = is in absurd cc

-- ---- the parts of one

-- of a use of a line
pub access-is_use : (group x : ℕ) (what : What) → is_use group x what ≡ true → (a : Access) × (access_of what ≡ Some a) × (a.owner.0 ≡ group) × (a.line ≡ x)
access-is_use group x (whats.Access hit way owner rmid mask line) is =
    let both = and_parts (eqb owner.0 group) (eqb line x) is in
    (record { line = line; owner = owner }, refl, eqb-true owner.0 group both.0, eqb-true line x both.1)
access-is_use group x whats.Raise is = absurd (false≢true is)
access-is_use group x whats.Flush is = absurd (false≢true is)
access-is_use group x (whats.Lock mask first) is = absurd (false≢true is)
access-is_use group x (whats.Look rmid lines) is = absurd (false≢true is)
access-is_use group x (whats.Drop line at) is = absurd (false≢true is)

-- of another's use of a line
pub access-is_foreign : (group x : ℕ) (what : What) → is_foreign group x what ≡ true → (a : Access) × (access_of what ≡ Some a) × (a.owner.0 ≡ group → ⊥) × (a.line ≡ x)
access-is_foreign group x (whats.Access hit way owner rmid mask line) is =
    let both = and_parts (not (eqb owner.0 group)) (eqb line x) is in
    (record { line = line; owner = owner }, refl, (λ own. false≢true (sym (ap not (eq-eqb owner.0 group own)) ∙ both.0)), eqb-true line x both.1)
access-is_foreign group x whats.Raise is = absurd (false≢true is)
access-is_foreign group x whats.Flush is = absurd (false≢true is)
access-is_foreign group x (whats.Lock mask first) is = absurd (false≢true is)
access-is_foreign group x (whats.Look rmid lines) is = absurd (false≢true is)
access-is_foreign group x (whats.Drop line at) is = absurd (false≢true is)

-- of a use of a line that was loaded
pub access-is_loaded_use : (sets group : ℕ) (opening what : What) → is_loaded_use sets group opening what ≡ true → (a : Access) × (access_of what ≡ Some a) × (a.owner.0 ≡ group) × (loads sets opening a.line ≡ true)
access-is_loaded_use sets group opening (whats.Access hit way owner rmid mask line) is =
    let both = and_parts (eqb owner.0 group) (loads sets opening line) is in
    (record { line = line; owner = owner }, refl, eqb-true owner.0 group both.0, both.1)
access-is_loaded_use sets group opening whats.Raise is = absurd (false≢true is)
access-is_loaded_use sets group opening whats.Flush is = absurd (false≢true is)
access-is_loaded_use sets group opening (whats.Lock mask first) is = absurd (false≢true is)
access-is_loaded_use sets group opening (whats.Look rmid lines) is = absurd (false≢true is)
access-is_loaded_use sets group opening (whats.Drop line at) is = absurd (false≢true is)
