-- What a text written to `mode` asks of a group.
use Rattle.std.proofs.Common.{◌≡◌, ℕ, Bool, true, false, List, [], map, Option, None, Some, refl, sym, ◌∙◌}
use Rattle.std.specs.List.{range_with_len}
use Rattle.std.specs.Option.{option_or}
use Rattle.group_tree.specs.declared.group.Group.{Group}
use Rattle.lists.proofs.Tests.{find-found}
use Rattle.machine.specs.declared.parameters.Parameters.{Parameters}
use Rattle.num_text.specs.Blanks.{trim}
use Rattle.rc_base.specs.declared.names.Mode.{Mode}
use Rattle.rc_base.specs.declared.names.Mode.TheVariants.{Shareable, Exclusive, LockSetup, Locked}
use Rattle.rc_base.specs.declared.replies.Why.TheVariants.{GroupLocked, UnknownMode}
use Rattle.tree_core.specs.Modes.{TurnsTo, against_turn, turned}
use Rattle.tree_law.specs.Refusals.{Refusal, plain}
use Rattle.tree_law.specs.State.{State}
use Rattle.tree_law.specs.Steps.{accepted, after, refusal}
use Rattle.tree_law.specs.commands.Mode as modes
use Rattle.tree_law.specs.commands.Schemata.{is_locked}
use Rattle.tree_law.specs.declared.follow.Follow.TheVariants.{Raise}

-- the name of a mode, or another text
pub is_present-is : (mode : Mode) (text : List ℕ) (b : Bool) → modes.is_named (trim text) mode ≡ b → modes.is_present mode text ≡ b
unfolding modes.is_present
is_present-is mode text b named = named

-- a mode that a text asks for is one that it names
pub is_present-asked : (mode : Mode) (text : List ℕ) → modes.mode_in text ≡ Some mode → modes.is_present mode text ≡ true
unfolding modes.mode_in modes.is_present
is_present-asked mode text asked = (find-found (modes.is_named (trim text)) modes.writable_modes mode asked).passes

-- so a group in pseudo-locksetup that turns to another mode does not turn to that
pub is_setup-apart : (m : Parameters) (s : State) (g : Group) (text : List ℕ) (mode : Mode) → TurnsTo m s g text mode → modes.is_setup mode ≡ true → modes.is_setup g.mode ≡ false
is_setup-apart m s g text mode turns to = at mode g.mode to (is_present-asked mode text turns.asked) turns.other
  where
    at : (a b : Mode) → modes.is_setup a ≡ true → modes.is_present a text ≡ true → modes.is_present b text ≡ false → modes.is_setup b ≡ false
    at LockSetup LockSetup is named unnamed = absurd (let f : true ≡ false = sym named ∙ unnamed in cc)
    at LockSetup Shareable is named unnamed = refl
    at LockSetup Exclusive is named unnamed = refl
    at LockSetup Locked is named unnamed = refl
    at Shareable b is named unnamed = absurd (let f : false ≡ true = is in cc)
    at Exclusive b is named unnamed = absurd (let f : false ≡ true = is in cc)
    at Locked b is named unnamed = absurd (let f : false ≡ true = is in cc)

module _ (m : Parameters) (s : State) (g : Group) (text : List ℕ) where
  -- the mode that it is in is not refused
  pub refusal-stays : modes.is_present g.mode text ≡ true → modes.refusal m s g text ≡ None
  unfolding modes.refusal
  refusal-stays present = rw present refl

  -- nothing changes
  pub accepted-stays : (looks : List ℕ) → modes.is_present g.mode text ≡ true → modes.accepted m s g text looks ≡ s
  unfolding modes.accepted
  accepted-stays looks present = rw present refl

  -- and nothing follows
  pub after-stays : modes.is_present g.mode text ≡ true → modes.after m g text ≡ []
  unfolding modes.after
  after-stays present = rw present refl

  -- nor is an RMID freed
  pub freed-stays : modes.is_present g.mode text ≡ true → modes.freed g text ≡ []
  unfolding modes.freed
  freed-stays present = rw present refl

  module _ (other : modes.is_present g.mode text ≡ false) where
    -- a pseudo-locked group takes no other mode
    pub refusal-locked : is_locked g.mode ≡ true → modes.refusal m s g text ≡ Some (plain GroupLocked)
    unfolding modes.refusal
    refusal-locked locked = rw (other, locked) refl

    module _ (unlocked : is_locked g.mode ≡ false) where
      -- no mode that may be written
      pub refusal-unknown : modes.mode_in text ≡ None → modes.refusal m s g text ≡ Some (plain UnknownMode)
      unfolding modes.refusal
      refusal-unknown none = rw (other, unlocked, none) refl

      module _ (mode : Mode) (asked : modes.mode_in text ≡ Some mode) where
        refusal-asked : modes.refusal m s g text ≡ modes.against_change m s g mode
        unfolding modes.refusal
        refusal-asked = rw (other, unlocked, asked) refl

        -- a mode to which it may not turn
        pub refusal-turn_some : (r : Refusal) → against_turn m s g mode ≡ Some r → modes.refusal m s g text ≡ Some r
        refusal-turn_some r is = refusal-asked ∙ at (modes.against_entry s g mode) (modes.against_leaving m s g) (modes.against_exclusive m s g mode) is
          where
            at : (a b c : Option Refusal) → option_or a (option_or b c) ≡ Some r → option_or a (option_or b (option_or c (modes.against_rmid m s g))) ≡ Some r
            at (Some x) b c e = e
            at None (Some x) c e = e
            at None None (Some x) e = e
            at None None None e = absurd (let none : None ≡ Some r = e in cc)

        -- and one to which it may
        refusal-turn_none : against_turn m s g mode ≡ None → modes.refusal m s g text ≡ modes.against_rmid m s g
        refusal-turn_none is = refusal-asked ∙ at (modes.against_entry s g mode) (modes.against_leaving m s g) (modes.against_exclusive m s g mode) is
          where
            at : (a b c : Option Refusal) → option_or a (option_or b c) ≡ None → option_or a (option_or b (option_or c (modes.against_rmid m s g))) ≡ modes.against_rmid m s g
            at (Some x) b c e = absurd (let none : Some x ≡ None = e in cc)
            at None (Some x) c e = absurd (let none : Some x ≡ None = e in cc)
            at None None (Some x) e = absurd (let none : Some x ≡ None = e in cc)
            at None None None e = refl

  module _ (mode : Mode) (turns : TurnsTo m s g text mode) where
    -- a group that turns is refused a lack of RMIDs alone
    pub refusal-turns : modes.refusal m s g text ≡ modes.against_rmid m s g
    refusal-turns = refusal-turn_none turns.other turns.unlocked mode turns.asked turns.free

    -- the RMIDs that are freed
    pub freed-turns : modes.freed g text ≡ modes.freed_by g (Some mode)
    unfolding modes.freed
    freed-turns = rw (turns.other, turns.asked) refl

    -- its mode changes
    pub accepted-turns : (looks : List ℕ) → modes.accepted m s g text looks ≡ turned m s g mode looks
    unfolding modes.accepted modes.freed
    accepted-turns looks = rw (turns.other, turns.asked) refl

    -- and every domain is raised
    pub after-turns : modes.after m g text ≡ map (λ d. Raise d) (range_with_len 0 m.domains)
    unfolding modes.after
    after-turns = rw turns.other refl
