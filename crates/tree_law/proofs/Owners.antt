-- What an access has: by the groups of its task and CPU, and the record of its owner.
use Rattle.std.proofs.Common.{◌≡◌, ℕ, ◌<◌, Bool, true, false, cond, eqb, List, [], ◌∷◌, map, filter, find, get_or, set, Option, None, Some, unwrap_or, refl, sym, subst, ap, ◌∙◌, arith, zero-add}
use Rattle.std.specs.List.{list_any, range_with_len}
use Rattle.std.specs.Option.{option_and_then, option_map, option_map_or}
use Rattle.std.proofs.lemmas.Bool.{eq-eqb, eqb-false, eqb-true, or_parts}
use Rattle.std.proofs.lemmas.List.{get_or-set_other}
use Rattle.std.proofs.lemmas.List.FromFn.{get_or-map-range_with_len, get_or-range_with_len, length-map-range_with_len, length-range_with_len}
use Rattle.group_tree.specs.Lists.{exchanged, replaced}
use Rattle.group_tree.specs.Records.{has_gid, mask_in}
use Rattle.group_tree.specs.declared.group.Group.{Group}
use Rattle.lists.proofs.Choices.{cond-case}
use Rattle.lists.proofs.Tests.{All-from_mapped, All-from_none, find-found, find-map}
use Rattle.machine.specs.Maps.{domain_of}
use Rattle.machine.specs.declared.parameters.Parameters.{Parameters}
use Rattle.path_names.specs.declared.files.FileKind.TheVariants as kinds
use Rattle.path_names.specs.declared.path_ref.PathRef.TheVariants.{File}
use Rattle.rc_base.specs.declared.names.Gid.{Gid}
use Rattle.rc_base.specs.declared.replies.Reply.{Reply}
use Rattle.schemata_text.specs.Reading.{is_of}
use Rattle.schemata_text.specs.declared.assignment.Assignment.{Assignment}
use Rattle.script_ops.specs.declared.op.Op.{Op}
use Rattle.script_ops.specs.declared.op.Op.TheVariants as ops
use Rattle.rc_base.specs.Gids.{default_gid, is_default}
use Rattle.task_binding.specs.declared.binding.Binding.{Binding}
use Rattle.tree_law.proofs.laws.Refusals.{left-same, left-tasks}
use Rattle.tree_law.specs.Existing.{group_of}
use Rattle.tree_law.specs.LawsAccess.{IsSeenAs, StandsStill, moves, settles}
use Rattle.tree_law.specs.LawsStates.{writes_tasks}
use Rattle.tree_law.specs.Resolving.{class_of, control_of, cpu_groups_of, mask_of_group, owner_of, resolve}
use Rattle.tree_law.specs.State.{State}
use Rattle.tree_law.specs.Steps.{left, with_status}
use Rattle.tree_law.specs.declared.follow.Follow.TheVariants as follows
use Rattle.tree_law.specs.commands.Schemata as schemata

-- ---- the record of the owner

-- two records, where they are there, have the same class, mask in a domain, and mode
abbrev pub Agrees : ℕ → Option Group → Option Group → Type 0
Agrees domain a b =
    (option_and_then (λ (g : Group). g.class) b ≡ option_and_then (λ (g : Group). g.class) a)
    × (option_map_or (mask_in domain) b 0 ≡ option_map_or (mask_in domain) a 0)
    × (option_map (λ (g : Group). g.mode) b ≡ option_map (λ (g : Group). g.mode) a)

-- one record in place of another that agrees with it where it is the one that is asked for
pub Agrees-replaced : (groups : List Group) (g new : Group) (gid : Gid) (domain : ℕ) → new.gid.0 ≡ g.gid.0 → find (has_gid g.gid) groups ≡ Some g
    → (find (has_gid gid) groups ≡ Some g → Agrees domain (Some g) (Some new)) → Agrees domain (find (has_gid gid) groups) (find (has_gid gid) (replaced new groups))
Agrees-replaced groups g new gid domain same found agrees =
    subst (Agrees domain (find (has_gid gid) groups)) (sym (find-map (has_gid gid) (exchanged new) keeps groups)) (at (find (has_gid gid) groups) refl)
  where
    keeps : (x : Group) → has_gid gid (exchanged new x) ≡ has_gid gid x
    keeps x = cond-case (λ (y : Group). has_gid gid y ≡ has_gid gid x) (has_gid new.gid x) new x (λ is. ap (eqb gid.0) (eqb-true new.gid.0 x.gid.0 is)) (λ is. refl)

    at : (o : Option Group) → find (has_gid gid) groups ≡ o → Agrees domain o (option_map (exchanged new) o)
    at None is = (refl, refl, refl)
    at (Some x) is = cond-case (λ (y : Group). Agrees domain (Some x) (Some y)) (has_gid new.gid x) new x mine (λ other. (refl, refl, refl))
      where
        mine : has_gid new.gid x ≡ true → Agrees domain (Some x) (Some new)
        mine e =
            let its : gid.0 ≡ x.gid.0 = eqb-true gid.0 x.gid.0 (find-found (has_gid gid) groups x is).passes in
            let number : gid.0 ≡ g.gid.0 = its ∙ sym (eqb-true new.gid.0 x.gid.0 e) ∙ same in
            let here : find (has_gid gid) groups ≡ Some g = ap (λ (n : ℕ). find (λ (y : Group). eqb n y.gid.0) groups) number ∙ found in
            let one : ◌≡◌ {A = Option Group} (Some g) (Some x) = sym here ∙ is in
            let it : g ≡ x = (let f = one in cc) in
            subst (λ (y : Group). Agrees domain (Some y) (Some new)) it (agrees here)

-- ---- what an access has

module _ (m : Parameters) (s : State) (task cpu : ℕ) where
  -- by the groups of its task and CPU, and the record of its owner
  pub IsSeenAs-agreeing : (later : State) → StandsStill s later task cpu → Agrees (domain_of m cpu) (group_of s (owner_of s task cpu)) (group_of later (owner_of s task cpu)) → IsSeenAs m s later task cpu
  unfolding resolve
  IsSeenAs-agreeing later still agrees =
      let control : control_of later task ≡ control_of s task = ap (λ (o : Option Binding). option_map_or (λ (b : Binding). b.control) o default_gid) still.0 in
      let same : owner_of later task cpu ≡ owner_of s task cpu = ap (λ (c : Gid). cond (is_default c) (cpu_groups_of later cpu).control c) control ∙ ap (λ (c : _). cond (is_default (control_of s task)) c.control (control_of s task)) still.1 in record {
        owner = same;
        class = ap (class_of later) same ∙ ap (λ (o : Option ℕ). unwrap_or o 0) agrees.0;
        mask = ap (mask_of_group later (domain_of m cpu)) same ∙ agrees.1;
        mode = ap (λ (i : Gid). option_map (λ (g : Group). g.mode) (group_of later i)) same ∙ agrees.2;
      }

  -- where the groups are the same
  pub IsSeenAs-groups : (later : State) → StandsStill s later task cpu → later.groups ≡ s.groups → IsSeenAs m s later task cpu
  IsSeenAs-groups later still same = IsSeenAs-agreeing later still (subst (λ (gs : List Group). Agrees (domain_of m cpu) (group_of s (owner_of s task cpu)) (find (has_gid (owner_of s task cpu)) gs)) (sym same) (refl, refl, refl))

  -- a state is seen as itself
  pub IsSeenAs-same : IsSeenAs m s s task cpu
  IsSeenAs-same = record { owner = refl; class = refl; mask = refl; mode = refl }

  -- the last status says nothing of it
  pub with_status-seen : (op : Op) (reply : Reply) (later : State) → IsSeenAs m s later task cpu → IsSeenAs m s (with_status op reply later) task cpu
  unfolding resolve
  with_status-seen (ops.Mkdir path) reply later seen = record { owner = seen.owner; class = seen.class; mask = seen.mask; mode = seen.mode }
  with_status-seen (ops.Write path text) reply later seen = record { owner = seen.owner; class = seen.class; mask = seen.mask; mode = seen.mode }
  with_status-seen op reply later seen = seen

  -- the last status moves no task or CPU
  pub StandsStill-with_status : (op : Op) (reply : Reply) (later : State) → StandsStill s (with_status op reply later) task cpu → StandsStill s later task cpu
  StandsStill-with_status (ops.Mkdir path) reply later still = still
  StandsStill-with_status (ops.Write path text) reply later still = still
  StandsStill-with_status op reply later still = still

  -- after a refused command
  pub left-seen : (op : Op) → (moves op ≡ true → StandsStill s (left s op) task cpu) → IsSeenAs m s (left s op) task cpu
  left-seen op still = at (moves op) refl
    where
      no_tasks : (op : Op) → moves op ≡ false → writes_tasks op ≡ false
      no_tasks (ops.Write (File dir kinds.Tasks) text) e = absurd (let f : true ≡ false = e in cc)
      no_tasks (ops.Write path text) e = refl
      no_tasks op e = refl

      at : (b : Bool) → moves op ≡ b → IsSeenAs m s (left s op) task cpu
      at true is = IsSeenAs-groups (left s op) (still is) (ap (λ (x : State). x.groups) (left-tasks s op))
      at false is = subst (λ (x : State). IsSeenAs m s x task cpu) (sym (left-same s op (no_tasks op is))) IsSeenAs-same

-- ---- domains that are raised

-- a domain that is not raised is not among those that are
pub settles-raise : (which : ℕ → Bool) (n domain : ℕ) → domain < n → list_any (settles domain) (map (λ d. follows.Raise d) (filter which (range_with_len 0 n))) ≡ false → which domain ≡ false
settles-raise which n domain lt none = at (which domain) refl
  where
    each : which (get_or (range_with_len 0 n) domain 0) ≡ true → eqb (get_or (range_with_len 0 n) domain 0) domain ≡ false
    each = All-from_mapped (settles domain) (λ d. follows.Raise d) which (range_with_len 0 n) none domain 0 (omega (arith, length-range_with_len 0 n))

    here : get_or (range_with_len 0 n) domain 0 ≡ domain
    here = get_or-range_with_len 0 n domain 0 lt ∙ zero-add domain

    at : (b : Bool) → which domain ≡ b → b ≡ false
    at false is = refl
    at true is = absurd (let f : true ≡ false = sym (eq-eqb domain domain refl) ∙ (rw here at each) is in cc)

-- where every domain is raised, each is
pub settles-raise_all : (n domain : ℕ) → domain < n → list_any (settles domain) (map (λ d. follows.Raise d) (range_with_len 0 n)) ≡ false → ⊥
settles-raise_all n domain lt none =
    let each = All-from_none (settles domain) (map (λ d. follows.Raise d) (range_with_len 0 n)) none domain (follows.Raise 0) (omega (arith, lt, length-map-range_with_len (λ d. follows.Raise d) 0 n)) in
    let here = get_or-map-range_with_len (λ d. follows.Raise d) 0 n domain domain (follows.Raise 0) lt (zero-add domain) in
    let f : true ≡ false = sym (eq-eqb domain domain refl) ∙ ap (settles domain) (sym here) ∙ each in cc

-- a domain that no assignment names keeps its mask
pub get_or-assigned_other : (all : List Assignment) (masks : List ℕ) (domain : ℕ) → schemata.names_domain all domain ≡ false → get_or (schemata.assigned masks all) domain 0 ≡ get_or masks domain 0
get_or-assigned_other [] masks domain none = refl
get_or-assigned_other (a ∷ all) masks domain none =
    let both = or_parts (eqb domain a.domain) (list_any (is_of domain) all) none in
    get_or-assigned_other all (set masks a.domain a.mask) domain both.1 ∙ get_or-set_other masks a.domain domain a.mask 0 (eqb-false domain a.domain both.0)
