-- Options that are made from others.
use Rattle.std.proofs.Common.{◌≡◌, Option, None, Some, refl, sym, ◌∙◌}
use Rattle.std.specs.Option.{option_and_then, option_map, option_or}
use Rattle.std.proofs.lemmas.Option.{none-some}

-- what a map of an option gives comes of what the option has
pub option_map-some : {X Y : Type 0} (f : X → Y) (o : Option X) (y : Y) → option_map f o ≡ Some y → (x : X) × (o ≡ Some x) × (f x ≡ y)
option_map-some f None y e = absurd (let none : None ≡ Some y = e in cc)
option_map-some f (Some x) y e = (x, refl, let some : Some (f x) ≡ Some y = e in cc)

-- a bound option that is there comes of one that is there
pub option_and_then-some : {X Y : Type 0} (f : X → Option Y) (o : Option X) (y : Y) → option_and_then f o ≡ Some y → (x : X) × (o ≡ Some x) × (f x ≡ Some y)
option_and_then-some f None y e = absurd (let none : None ≡ Some y = e in cc)
option_and_then-some f (Some x) y e = (x, refl, e)

-- a mapped option that is not there comes of none
pub option_map-none : {X Y : Type 0} (f : X → Y) (o : Option X) → option_map f o ≡ None → o ≡ None
option_map-none f None e = refl
option_map-none f (Some x) e = absurd (let g : Some (f x) ≡ None = e in cc)

-- what is not there, of two
pub option_or-none : {A : Type 0} (a b : Option A) → option_or a b ≡ None → (a ≡ None) × (b ≡ None)
option_or-none None b e = (refl, e)
option_or-none (Some x) b e = absurd (let f : Some x ≡ None = e in cc)

-- of three options the first that is there, in either grouping
pub option_or-assoc : {A : Type 0} (a b c : Option A) → option_or (option_or a b) c ≡ option_or a (option_or b c)
option_or-assoc None b c = refl
option_or-assoc (Some x) b c = refl

-- an option that is not there has no value
pub not_some-none : {A : Type 0} (o : Option A) (x : A) → o ≡ None → o ≡ Some x → ⊥
not_some-none o x none some = none-some x (sym none ∙ some)
