-- The kinds of step that seats take.
use Rattle.std.specs.Prelude.{◌≡◌, ◌==◌, ℕ, [], ◌++◌, MatchBool, Option, Some}
use mathlib.Core.Option.{some}
use Rattle.atomic_table.specs.Table.{Step, Me}
use Rattle.shared_parts.specs.Parts.{Fits, first_of, parts_after, rest_of}
use Rattle.shared_parts.specs.declared.view.View.{View}

module _ {E P : Type 0} where
  -- the event that the step says has happened to the seat's parts
  abbrev pub happened : (E → ℕ → P → P) → Step E → Me E (View P) → ℕ → Me E (View P) → Type 0
  happened after s me found now = (e : E) × (s.said ≡ some e) × (now ≡ (record { parts = parts_after after e me.0.parts }, me.1))

  -- the event has happened to the seat's parts where this number was found, and else nothing has
  abbrev pub happened_where : (E → ℕ → P → P) → Option E → ℕ → Step E → Me E (View P) → ℕ → Me E (View P) → Type 0
  happened_where after event number s me found now =
      MatchBool (found == number) ((e : E) × (event ≡ Some e) × (now ≡ (record { parts = parts_after after e me.0.parts }, me.1))) (now ≡ me)

  -- a state with the seat's parts was reached
  abbrev pub known : ((ℕ → P) → Type 0) → Step E → Me E (View P) → ℕ → Me E (View P) → Type 0
  known reached s me found now = ((at : ℕ → P) × reached at × Fits at me.0.parts) × (now ≡ me)

module _ {P : Type 0} where
  abbrev pub nothing : View P
  nothing = record { parts = [] }

  abbrev pub no_parts : View P → View P
  no_parts v = nothing

  abbrev pub all_of : View P → View P
  all_of v = v

  abbrev pub joined : View P → View P → View P
  joined v w = record { parts = w.parts ++ v.parts }

  abbrev pub first_one : View P → View P
  first_one v = record { parts = first_of v.parts }

  abbrev pub left_over : View P → View P
  left_over v = record { parts = rest_of v.parts }
