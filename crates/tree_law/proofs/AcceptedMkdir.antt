-- What an accepted mkdir finds free.
use Rattle.std.proofs.Common.{◌≡◌, ℕ, ◌-◌, Bool, true, false, not, ◌&&◌, cond, List, find, Option, None, Some, is_some, is_none, refl}
use Rattle.std.specs.List.{All}
use Rattle.std.specs.Option.{option_map}
use Rattle.lists.proofs.Tests.{All-from_find}
use Rattle.lists.proofs.Options.{option_map-none}
use Rattle.machine.specs.declared.parameters.Parameters.{Parameters}
use Rattle.path_names.specs.declared.path_ref.PathRef.{PathRef}
use Rattle.rc_base.specs.declared.replies.Why.TheVariants.{NoSuchPath, NotAPlace, Exists, OutOfClosids, NoSpace, OutOfRmids, RmidsBusy, Locking}
use Rattle.tree_law.specs.Existing.{is_held, is_in_place, path_exists}
use Rattle.tree_law.specs.Space.{free_class, free_rmid, full_domain}
use Rattle.tree_law.specs.State.{State}
use Rattle.tree_law.specs.commands.Mkdir.{against, has_closed_parent, makes_control, none_in_limbo, reasons, refusal, with_argument}

-- the first of the tests does not pass where nothing is refused, nor do those after it
cond-none : {X : Type 0} (b : Bool) (x : X) (rest : Option X) → cond b (Some x) rest ≡ None → (b ≡ false) × (rest ≡ None)
cond-none true x rest e = absurd (let f : Some x ≡ None = e in cc)
cond-none false x rest e = (refl, e)

-- where none is found, none passes
pub All-find_none : {X Y : Type 0} (f : X → Y) (p : X → Bool) (xs : List X) → is_some (option_map f (find p xs)) ≡ false → All (λ x. p x ≡ false) xs
All-find_none f p xs e = All-from_find p xs (at (find p xs) e)
  where
    at : (o : Option _) → is_some (option_map f o) ≡ false → o ≡ None
    at None e = refl
    at (Some x) e = absurd (let f : true ≡ false = e in cc)

pub record Free (m : Parameters) (s : State) (path : PathRef) : Type 0 where
  pub fresh : path_exists s path ≡ false
  pub classes : (makes_control path && is_none (free_class m s)) ≡ false
  pub space : (makes_control path && is_some (full_domain m s)) ≡ false
  pub parent : has_closed_parent s path ≡ false
  pub rmids : is_none (free_rmid m s) ≡ false

-- where nothing is refused, name, ids and space are free
pub Free-refusal : (m : Parameters) (s : State) (path : PathRef) → refusal m s path ≡ None → Free m s path
unfolding refusal
Free-refusal m s path none =
    let found = option_map-none (with_argument m s) (find (against m s path) reasons) none in
    let one = cond-none (not (is_held s path)) NoSuchPath _ found in
    let two = cond-none (path_exists s path) Exists _ one.1 in
    let three = cond-none (not (is_in_place path)) NotAPlace _ two.1 in
    let four = cond-none (makes_control path && is_none (free_class m s)) OutOfClosids _ three.1 in
    let five = cond-none (makes_control path && is_some (full_domain m s)) NoSpace _ four.1 in
    let six = cond-none (has_closed_parent s path) Locking _ five.1 in
    let seven = cond-none (is_none (free_rmid m s) && none_in_limbo s) OutOfRmids _ six.1 in
    let eight = cond-none (is_none (free_rmid m s) && not (none_in_limbo s)) RmidsBusy _ seven.1 in
    record { fresh = two.0; classes = four.0; space = five.0; parent = six.0; rmids = either (is_none (free_rmid m s)) (none_in_limbo s) seven.0 eight.0 }
  where
    either : (a b : Bool) → (a && b) ≡ false → (a && not b) ≡ false → a ≡ false
    either true true e f = e
    either true false e f = f
    either false b e f = refl

-- an option that is not empty has a value
pub is_none-false : (o : Option ℕ) → is_none o ≡ false → (id : ℕ) × (o ≡ Some id)
is_none-false None e = absurd (let f : true ≡ false = e in cc)
is_none-false (Some id) e = (id, refl)
