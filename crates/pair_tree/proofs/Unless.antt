-- A change that is made, unless something is against it.
use Rattle.std.proofs.Common.{◌≡◌, true, false, List, ℕ, None, Some, Option, refl, sym, ap, ◌∙◌}
use Rattle.std.specs.Option.{option_map}
use Rattle.command_parts.specs.Replies.{reply_to}
use Rattle.num_text.specs.Blanks.{trim}
use Rattle.pair_law.specs.State.{PairGroup, PairState, group_named}
use Rattle.pair_law.specs.commands.Mode as mode
use Rattle.pair_law.specs.commands.Rmdir as rmdir
use Rattle.pair_text.specs.Values.{Machines}
use Rattle.pair_tree.specs.Changes.{MakesUnless, unless}
use Rattle.rc_base.specs.declared.replies.Reply.{Reply}
use Rattle.rc_base.specs.declared.replies.Reply.TheVariants as replies
use Rattle.rc_base.specs.declared.replies.Why.TheVariants.{NoSuchPath}
use Rattle.tree_law.specs.Refusals.{Refusal, plain, reply_of}
use Rattle.tree_law.specs.commands.Mode.{is_named, is_present}

-- something is against it
pub MakesUnless-refused : (kept changed : PairState) (against : Option Refusal) (r : Refusal) (said : Reply) → against ≡ Some r → said ≡ reply_of (Some r) → MakesUnless kept against changed kept said
MakesUnless-refused kept changed against r said is so = record { reply = so ∙ ap reply_of (sym is); state = ap (λ o. unless o kept changed) (sym is) }

-- nothing is
pub MakesUnless-accepted : (kept changed new : PairState) (against : Option Refusal) → against ≡ None → new ≡ changed → MakesUnless kept against changed new replies.Ok
MakesUnless-accepted kept changed new against is so = record { reply = ap reply_of (sym is); state = so ∙ ap (λ o. unless o kept changed) (sym is) }

-- a reply that was made of a refusal
pub option_map-refused : (o : Option Refusal) (reply : Reply) → ◌≡◌ {A = Option Reply} (Some reply) (option_map reply_to o) → (r : Refusal) × (o ≡ Some r) × (reply ≡ reply_of (Some r))
option_map-refused None reply is = absurd (let f : Some reply ≡ None = is in cc)
option_map-refused (Some r) reply is = (r, refl, (let f : Some reply ≡ Some (reply_to r) = is in cc))

-- none was made
pub option_map-none : (o : Option Refusal) → ◌≡◌ {A = Option Reply} None (option_map reply_to o) → o ≡ None
option_map-none None is = refl
option_map-none (Some r) is = absurd (let f : None ≡ Some (reply_to r) = is in cc)

module _ (m : Machines) (s : PairState) (g : PairGroup) (text : List ℕ) where
  -- a text that names the present mode
  pub mode-present : is_named (trim text) g.mode ≡ true → (mode.refusal m s g text ≡ None) × (mode.accepted s g text ≡ s)
  unfolding mode.refusal mode.accepted is_present
  mode-present is = (rw is refl, rw is refl)

  -- a text that does not
  pub mode-refusal : is_named (trim text) g.mode ≡ false → mode.refusal m s g text ≡ mode.against_mode m s g (mode.mode_in text)
  unfolding mode.refusal is_present
  mode-refusal other = rw other refl

  pub mode-accepted : is_named (trim text) g.mode ≡ false → mode.accepted s g text ≡ mode.with_mode s g (mode.mode_in text)
  unfolding mode.accepted is_present
  mode-accepted other = rw other refl

-- ---- removing a group

module _ (s : PairState) (name : List ℕ) where
  pub rmdir-none : group_named s (Some name) ≡ None → rmdir.refusal s name ≡ Some (plain NoSuchPath)
  unfolding rmdir.refusal
  rmdir-none none = rw none refl

  pub rmdir-some : (g : PairGroup) → group_named s (Some name) ≡ Some g → (rmdir.refusal s name ≡ None) × (rmdir.accepted s name ≡ rmdir.without_group s g.gid)
  unfolding rmdir.refusal rmdir.accepted
  rmdir-some g is = (rw is refl, rw is refl)
