-- A policy of replacement, and one set of a cache under it. A mask is the list of its ways.
use Rattle.std.specs.Prelude.{ℕ, Bool, true, false, not, ◌==◌, List, [], ◌∷◌, Option, Some, None, filter, find, is_some, unwrap_or}
use Rattle.std.specs.Option.{option_map}
use Rattle.std.specs.List.{list_any}

-- A policy with states of the type S: what a hit on a way, a fill of it and a drop of its line make of the state, and the way that
-- a fill takes where no way of its mask is empty. A hit and a fill come with the mask of whoever makes the access.
pub record Policy (S : Type 0) : Type 0 where
  pub on_hit : List ℕ → ℕ → S → S
  pub on_fill : List ℕ → ℕ → S → S
  pub on_drop : ℕ → S → S
  pub victim : List ℕ → S → ℕ

-- a line, and the way that holds it
pub record HeldLine : Type 0 where
  pub way : ℕ
  pub line : ℕ

-- a set: the lines by way, and the policy's state
pub record CacheSet (S : Type 0) : Type 0 where
  pub places : List HeldLine
  pub state : S

-- What happens in a set: an access, by the group that is looked at or by another, with its mask and its line; or a line is dropped.
pub data Event : Type 0 where
  Access : Bool → List ℕ → ℕ → Event
  Drop : ℕ → Event

-- whether the mask has the way
abbrev pub has_way : List ℕ → ℕ → Bool
has_way mask way = list_any (λ (w : ℕ). w == way) mask

-- the way that holds the line, whatever the masks say
abbrev pub way_of : ℕ → List HeldLine → Option ℕ
way_of x places = option_map (λ (p : HeldLine). p.way) (find (λ (p : HeldLine). p.line == x) places)

-- whether the way holds no line
abbrev pub is_empty : List HeldLine → ℕ → Bool
is_empty places way = not (list_any (λ (p : HeldLine). p.way == way) places)

-- the way that a fill takes: the first of the mask that is empty, or else the policy's victim
abbrev pub fill_way : {S : Type 0} → Policy S → List ℕ → CacheSet S → ℕ
fill_way policy mask c = unwrap_or (find (is_empty c.places) mask) (policy.victim mask c.state)

-- after a fill of this way
abbrev pub after_fill : {S : Type 0} → Policy S → List ℕ → ℕ → CacheSet S → ℕ → CacheSet S
after_fill policy mask x c way = record {
  places = record { way = way; line = x } ∷ filter (λ (p : HeldLine). not (p.way == way)) c.places;
  state = policy.on_fill mask way c.state;
}

-- after an access, whose line this way holds or no way does
abbrev pub after_access : {S : Type 0} → Policy S → List ℕ → ℕ → CacheSet S → Option ℕ → CacheSet S
after_access policy mask x c (Some way) = record { places = c.places; state = policy.on_hit mask way c.state }
after_access policy mask x c None = after_fill policy mask x c (fill_way policy mask c)

-- after a drop of a line, which this way holds or no way does
abbrev pub after_drop : {S : Type 0} → Policy S → ℕ → CacheSet S → Option ℕ → CacheSet S
after_drop policy x c (Some way) = record { places = filter (λ (p : HeldLine). not (p.line == x)) c.places; state = policy.on_drop way c.state }
after_drop policy x c None = c

-- the set after an event
abbrev pub after_event : {S : Type 0} → Policy S → CacheSet S → Event → CacheSet S
after_event policy c (Access own mask x) = after_access policy mask x c (way_of x c.places)
after_event policy c (Drop x) = after_drop policy x c (way_of x c.places)

-- the set after these events
abbrev pub set_after : {S : Type 0} → Policy S → CacheSet S → List Event → CacheSet S
set_after policy c [] = c
set_after policy c (e ∷ es) = set_after policy (after_event policy c e) es

-- whether each access of the group hits
abbrev pub hits_of : {S : Type 0} → Policy S → CacheSet S → List Event → List Bool
hits_of policy c [] = []
hits_of policy c (Access true mask x ∷ es) = is_some (way_of x c.places) ∷ hits_of policy (after_event policy c (Access true mask x)) es
hits_of policy c (Access false mask x ∷ es) = hits_of policy (after_event policy c (Access false mask x)) es
hits_of policy c (Drop x ∷ es) = hits_of policy (after_event policy c (Drop x)) es

-- an empty set, in this state
abbrev pub empty_set : {S : Type 0} → S → CacheSet S
empty_set s = record { places = []; state = s }
