-- What stands against the masks that a group kept in pseudo-locksetup, domain by domain.
use Rattle.std.proofs.Common.{◌≡◌, ℕ, suc, ◌+◌, ◌<◌, ◌≤◌, drop, drop-cons, get_or, is_some, true, false, Option, None, Some, refl, sym, ap, ap₂, ◌∙◌, arith, zero-add}
use Rattle.std.specs.List.{range_with_len}
use Rattle.std.specs.Option.{option_map, option_or}
use Rattle.std.proofs.lemmas.List.{drop_all}
use Rattle.std.proofs.lemmas.List.FromFn.{get_or-range_with_len, length-range_with_len}
use Rattle.group_tree.specs.Records.{mask_in}
use Rattle.group_tree.specs.declared.group.Group.{Group}
use Rattle.machine.specs.declared.parameters.Parameters.{Parameters}
use Rattle.mode_rules.specs.Overlaps.{leaving_overlap}
use Rattle.rc_base.specs.declared.replies.Reply.{Reply}
use Rattle.command_parts.specs.Replies.{reply_to}
use Rattle.tree_law.specs.Refusals.{Refusal}
use Rattle.tree_law.specs.Space.{used_in}
use Rattle.tree_law.specs.State.{State}
use Rattle.tree_law.specs.commands.Mode.{against_masks}
use Rattle.tree_law.specs.commands.Schemata.{against_overlap}

module _ (m : Parameters) (s : State) (g : Group) where
  -- in one domain
  abbrev pub in_one : ℕ → Option Refusal
  in_one domain = against_overlap domain (leaving_overlap (mask_in domain g) (used_in m s (Some g.gid) domain))

  -- in those from one on
  abbrev pub from : ℕ → ℕ → Option Refusal
  from domain domains = against_masks m s g (drop domain (range_with_len 0 domains))

  -- that one comes first
  from-suc : (domain domains : ℕ) → domain < domains → from domain domains ≡ option_or (in_one domain) (from (domain + 1) domains)
  from-suc domain domains below =
      let next : domain + 1 ≡ suc domain = omega arith in
      let place : get_or (range_with_len 0 domains) domain 0 ≡ domain = get_or-range_with_len 0 domains domain 0 below ∙ zero-add domain in
      ap (against_masks m s g) (drop-cons (range_with_len 0 domains) domain 0 (omega (arith, below, length-range_with_len 0 domains)))
      ∙ ap₂ (λ (d n : ℕ). option_or (in_one d) (against_masks m s g (drop n (range_with_len 0 domains)))) place (sym next)

  -- where nothing is against it there, the later ones decide
  pub from-none : (domain domains : ℕ) (o : Option Reply) → domain < domains → o ≡ option_map reply_to (in_one domain) → is_some o ≡ false → from domain domains ≡ from (domain + 1) domains
  from-none domain domains o below is none = from-suc domain domains below ∙ at (in_one domain) o is none
    where
      at : (x : Option Refusal) (o : Option Reply) → o ≡ option_map reply_to x → is_some o ≡ false → option_or x (from (domain + 1) domains) ≡ from (domain + 1) domains
      at None o is none = refl
      at (Some r) o is none = absurd (let f : false ≡ true = sym none ∙ ap is_some is in cc)

  -- where something is, it does
  pub from-some : (domain domains : ℕ) (o : Option Reply) → domain < domains → o ≡ option_map reply_to (in_one domain) → is_some o ≡ true → o ≡ option_map reply_to (from domain domains)
  from-some domain domains o below is some = at (in_one domain) is ∙ ap (option_map reply_to) (sym (from-suc domain domains below))
    where
      at : (x : Option Refusal) → o ≡ option_map reply_to x → o ≡ option_map reply_to (option_or x (from (domain + 1) domains))
      at None is = absurd (let f : true ≡ false = sym some ∙ ap is_some is in cc)
      at (Some r) is = is

  -- past the last nothing is
  pub from-all : (domain domains : ℕ) → domains ≤ domain → from domain domains ≡ None
  from-all domain domains past = ap (against_masks m s g) (drop_all domain (range_with_len 0 domains) (omega (arith, past, length-range_with_len 0 domains)))
