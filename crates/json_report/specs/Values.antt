-- Values of JSON by their parts.
use Rattle.std.specs.Prelude.{ℕ, List, [], ◌∷◌}
use Rattle.serde_json.specs.Data.{Data, Members, array, member, no_members, number, object, unsigned}
use Rattle.serde_json.specs.View.{items_of}

-- a whole number
abbrev pub whole : ℕ → Data
whole n = number (unsigned n)

-- the members of an object, each a key and its value
abbrev pub members_of : List (List ℕ × Data) → Members
members_of [] = no_members
members_of (m ∷ ms) = member m.0 m.1 (members_of ms)

-- an object with these members, in this order
abbrev pub object_of : List (List ℕ × Data) → Data
object_of members = object (members_of members)

-- a list of these values
abbrev pub array_of : List Data → Data
array_of values = array (items_of values)
