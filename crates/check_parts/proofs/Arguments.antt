-- The arguments of refusals are numbers of 64 bits.
use Rattle.std.proofs.Common.{◌≡◌, ℕ, ◌^◌, ◌<◌, ◌≤◌, cond, not, List, [], ◌∷◌, find, Option, Some, None, Result, Ok, Err, unwrap_or, option_map, refl, arith}
use Rattle.std.proofs.lemmas.List.Elements.{All-head, All-tail}
use Rattle.std.proofs.lemmas.List.FromFn.{get_or-range_with_len, length-range_with_len}
use Rattle.std.specs.List.{All, range_with_len}
use Rattle.std.specs.Prelude.{◌==◌, is_none, nat_le}
use Rattle.cbm.specs.Masks.{ways_of}
use Rattle.cpu_lists.specs.Lists.{list_cpus}
use Rattle.cpu_lists.specs.Masks.{mask_cpus}
use Rattle.group_tree.specs.declared.group.Group.{Group}
use Rattle.machine.specs.Maps.{bytes_of, domain_of as machine_domain_of}
use Rattle.machine.specs.Ranges.{InRange}
use Rattle.machine.specs.declared.parameters.Parameters.{Parameters}
use Rattle.num_text.specs.Blanks.{trim}
use Rattle.num_text.specs.Numbers.{below}
use Rattle.path_names.specs.declared.files.FileKind.TheVariants as kinds
use Rattle.path_names.specs.declared.path_ref.PathRef.TheVariants.{File}
use Rattle.path_names.specs.declared.path_ref.PathRef.{PathRef}
use Rattle.pseudo_lock.specs.declared.region.Region.{Region}
use Rattle.rc_base.specs.declared.names.Mode.{Mode}
use Rattle.rc_base.specs.declared.replies.Why.TheVariants as whys
use Rattle.rc_base.specs.declared.replies.Why.{Why}
use Rattle.schemata_text.specs.Items.{items_of}
use Rattle.schemata_text.specs.Reading.{reading}
use Rattle.schemata_text.specs.declared.assignment.Assignment.{Assignment}
use Rattle.schemata_text.specs.declared.fault.TextFault.{TextFault}
use Rattle.script_ops.specs.declared.op.Op.TheVariants as ops
use Rattle.script_ops.specs.declared.op.Op.{Op}
use Rattle.tree_law.proofs.laws.FreeIds.{find-range}
use Rattle.tree_law.proofs.laws.Readings.{reading-valid}
use Rattle.tree_law.specs.Places.{control_at, controlling, group_at, is_closed}
use Rattle.tree_law.specs.Refusals.{first_of, plain}
use Rattle.tree_law.specs.Space.{free_rmid, full_domain, geometry_of}
use Rattle.tree_law.specs.State.{State}
use Rattle.tree_law.specs.Steps.{refusal}
use Rattle.tree_law.specs.commands.Cpus as cpus
use Rattle.tree_law.specs.commands.Drop as drop
use Rattle.tree_law.specs.commands.Mkdir as mkdir
use Rattle.tree_law.specs.commands.Mode as mode
use Rattle.tree_law.specs.commands.Reads as read
use Rattle.tree_law.specs.commands.Rmdir as rmdir
use Rattle.tree_law.specs.commands.Schemata as schemata
use Rattle.tree_law.specs.commands.Tasks as tasks
use Rattle.tree_law.specs.commands.Threshold as threshold
use Rattle.tree_law.specs.commands.Touch as touch
use Rattle.tree_law.specs.commands.Write as write
use Rattle.check_parts.proofs.SchemataArguments.{IsSmallIn, IsSmallIn-reading_from, IsSmall-text_refusal, IsSmall-against_overlap}
use Rattle.check_parts.proofs.SmallReasons.{IsSmall, IsSmall-or, IsSmall-cond, IsSmall-plain, IsSmall-first_of, IsSmall-option_map_or}
use Rattle.check_parts.proofs.TextArguments.{IsSmall-answer, IsSmall-moves}

-- what a range has is below its end
range-below : (n : ℕ) → All (λ k. k < n) (range_with_len 0 n)
range-below n k d within = let lt : k < n = omega (arith, within, length-range_with_len 0 n) in omega (arith, lt, get_or-range_with_len 0 n k d lt)

module _ (m : Parameters) (s : State) (range : InRange m) where
  few : m.domains ≤ 8
  few = range.domain_limit

  IsSmall-mkdir : (path : PathRef) → IsSmall (mkdir.refusal m s path)
  unfolding mkdir.refusal
  IsSmall-mkdir path = at (find (mkdir.against m s path) mkdir.reasons)
    where
      full : (o : Option ℕ) → full_domain m s ≡ o → unwrap_or o 0 < 2 ^ 64
      full None is = omega arith
      full (Some domain) is = let lt = (find-range (λ d. _) m.domains domain is).0 in omega (arith, lt, few)

      argument : (why : Why) → IsSmall (Some (mkdir.with_argument m s why))
      argument whys.NoSpace = full (full_domain m s) refl
      argument why = IsSmall-plain why

      at : (o : Option Why) → IsSmall (option_map (mkdir.with_argument m s) o)
      at None = tt
      at (Some why) = argument why

  IsSmall-schemata : (g : Group) (text : List ℕ) → IsSmall (schemata.refusal m s g (schemata.schemata_read m text))
  unfolding schemata.refusal schemata.schemata_read
  IsSmall-schemata g text =
      IsSmall-cond (schemata.is_locked g.mode) (Some (plain whys.GroupLocked)) (schemata.against_read m s g (reading (geometry_of m) m.domains (trim text))) (IsSmall-plain whys.GroupLocked)
      (at (reading (geometry_of m) m.domains (trim text)) refl (IsSmallIn-reading_from (geometry_of m) m.domains [] (items_of (trim text)) few))
    where
      entries : (all : List Assignment) → All (λ (a : Assignment). a.domain < m.domains) all → IsSmall (schemata.against_entries m s g all)
      entries [] exist = tt
      entries (a ∷ all) exist =
          let lt = All-head (λ (x : Assignment). x.domain < m.domains) a all exist in
          IsSmall-or (schemata.against_entry m s g a) (schemata.against_entries m s g all) (IsSmall-against_overlap a.domain _ (omega (arith, lt, few))) (entries all (All-tail (λ (x : Assignment). x.domain < m.domains) a all exist))

      at : (r : Result (List Assignment) TextFault) → reading (geometry_of m) m.domains (trim text) ≡ r → IsSmallIn r → IsSmall (schemata.against_read m s g r)
      at (Err fault) is small = IsSmall-text_refusal fault small
      at (Ok all) is small =
          IsSmall-cond (schemata.names_many g.mode all) (Some (plain whys.OneDomain)) (schemata.against_entries m s g all) (IsSmall-plain whys.OneDomain)
          (entries all (λ k d within. (reading-valid m (trim text) all is k d within).0))

  IsSmall-mode : (g : Group) (text : List ℕ) → IsSmall (mode.refusal m s g text)
  unfolding mode.refusal
  IsSmall-mode g text =
      IsSmall-cond (mode.is_present g.mode text) None (cond (schemata.is_locked g.mode) (Some (plain whys.GroupLocked)) (mode.against_mode m s g (mode.mode_in text))) tt
      (IsSmall-cond (schemata.is_locked g.mode) (Some (plain whys.GroupLocked)) (mode.against_mode m s g (mode.mode_in text)) (IsSmall-plain whys.GroupLocked) (at (mode.mode_in text)))
    where
      reason : (r : Result (Unit {0}) Why) → IsSmall (mode.reason_of r)
      reason (Ok u) = tt
      reason (Err why) = IsSmall-plain why

      masks : (domains : List ℕ) → All (λ d. d < m.domains) domains → IsSmall (mode.against_masks m s g domains)
      masks [] exist = tt
      masks (d ∷ ds) exist =
          let lt = All-head (λ n. n < m.domains) d ds exist in
          IsSmall-or (schemata.against_overlap d _) (mode.against_masks m s g ds) (IsSmall-against_overlap d _ (omega (arith, lt, few))) (masks ds (All-tail (λ n. n < m.domains) d ds exist))

      rmids : IsSmall (mode.rmid_refusal m s)
      rmids = IsSmall-cond (is_none (free_rmid m s)) (Some (plain (cond (mkdir.none_in_limbo s) whys.OutOfRmids whys.RmidsBusy))) None (IsSmall-plain (cond (mkdir.none_in_limbo s) whys.OutOfRmids whys.RmidsBusy)) tt

      change : (way : Mode) → IsSmall (mode.against_change m s g way)
      change way =
          IsSmall-or (mode.against_entry s g way) _ (IsSmall-cond (mode.is_setup way) _ None (reason _) tt)
          (IsSmall-or (mode.against_leaving m s g) _ (IsSmall-cond (mode.is_setup g.mode) _ None (masks (range_with_len 0 m.domains) (range-below m.domains)) tt)
          (IsSmall-or (mode.against_exclusive m s g way) (mode.against_rmid m s g) (IsSmall-cond _ (Some (plain whys.SchemataOverlap)) None (IsSmall-plain whys.SchemataOverlap) tt)
          (IsSmall-cond (mode.is_setup g.mode) (mode.rmid_refusal m s) None rmids tt)))

      at : (o : Option Mode) → IsSmall (mode.against_mode m s g o)
      at None = IsSmall-plain whys.UnknownMode
      at (Some way) = change way

  IsSmall-tasks : (g : Group) (text : List ℕ) → IsSmall (tasks.refusal s g text)
  unfolding tasks.refusal
  IsSmall-tasks g text = IsSmall-cond (is_closed s (controlling g.gid g.kind)) (Some (plain whys.Locking)) (tasks.moves_in s g text).ended (IsSmall-plain whys.Locking) (IsSmall-moves g.gid g.kind (tasks.elements text) s.tasks)

  IsSmall-cpus : (g : Group) (text : List ℕ) → IsSmall (cpus.refusal s g (cpus.mask_read m text))
  unfolding cpus.mask_read
  IsSmall-cpus g text = IsSmall-answer s g m (mask_cpus (trim text))

  IsSmall-cpus_list : (g : Group) (text : List ℕ) → IsSmall (cpus.refusal s g (cpus.list_read m text))
  unfolding cpus.list_read
  IsSmall-cpus_list g text = IsSmall-answer s g m (list_cpus (trim text))

  IsSmall-threshold : (text : List ℕ) → IsSmall (threshold.refusal m text)
  unfolding threshold.refusal
  IsSmall-threshold text = at (threshold.threshold_in m text)
    where
      at : (o : Option ℕ) → IsSmall (threshold.against_number o)
      at None = IsSmall-plain whys.BadThreshold
      at (Some n) = tt

  IsSmall-text : (path : PathRef) (text : List ℕ) → IsSmall (write.text_refusal m s path text)
  IsSmall-text (File dir kinds.Cpus) text = IsSmall-option_map_or (group_at s dir) (λ g. cpus.refusal s g (cpus.mask_read m text)) (λ g. IsSmall-cpus g text)
  IsSmall-text (File dir kinds.CpusList) text = IsSmall-option_map_or (group_at s dir) (λ g. cpus.refusal s g (cpus.list_read m text)) (λ g. IsSmall-cpus_list g text)
  IsSmall-text (File dir kinds.Tasks) text = IsSmall-option_map_or (group_at s dir) (λ g. tasks.refusal s g text) (λ g. IsSmall-tasks g text)
  IsSmall-text (File dir kinds.Schemata) text = IsSmall-option_map_or (control_at s dir) (λ g. schemata.refusal m s g (schemata.schemata_read m text)) (λ g. IsSmall-schemata g text)
  IsSmall-text (File dir kinds.Mode) text = IsSmall-option_map_or (control_at s dir) (λ g. mode.refusal m s g text) (λ g. IsSmall-mode g text)
  IsSmall-text (File dir kinds.MaxThreshold) text = IsSmall-threshold text
  IsSmall-text path text = tt

  IsSmall-write : (path : PathRef) (text : List ℕ) → IsSmall (write.refusal m s path text)
  unfolding write.refusal
  IsSmall-write path text = IsSmall-or (first_of (write.against s path) write.reasons) (write.text_refusal m s path text) (IsSmall-first_of (write.against s path) write.reasons) (IsSmall-text path text)

  IsSmall-rmdir : (path : PathRef) → IsSmall (rmdir.refusal s path)
  unfolding rmdir.refusal
  IsSmall-rmdir path = IsSmall-first_of (rmdir.against s path) rmdir.reasons

  IsSmall-read : (path : PathRef) → IsSmall (read.refusal s path)
  unfolding read.refusal
  IsSmall-read path = IsSmall-cond _ None (Some (plain whys.NoSuchPath)) tt (IsSmall-plain whys.NoSuchPath)

  IsSmall-list : (path : PathRef) → IsSmall (read.list_refusal s path)
  unfolding read.list_refusal
  IsSmall-list path = IsSmall-cond _ None (Some (plain whys.NoSuchPath)) tt (IsSmall-plain whys.NoSuchPath)

  IsSmall-touch : (path : PathRef) (offset cpu : ℕ) → IsSmall (touch.refusal m s path offset cpu)
  unfolding touch.refusal
  IsSmall-touch path offset cpu = at (touch.touched s path)
    where
      at : (o : Option (ℕ × Region)) → IsSmall (touch.against_region m offset cpu o)
      at None = IsSmall-plain whys.NoSuchPath
      at (Some (domain, r)) =
          IsSmall-cond (nat_le (bytes_of m (ways_of r.mask)) offset) (Some (plain whys.PastRegion)) (cond (not (machine_domain_of m cpu == domain)) (Some (plain whys.WrongCpu)) None) (IsSmall-plain whys.PastRegion)
          (IsSmall-cond (not (machine_domain_of m cpu == domain)) (Some (plain whys.WrongCpu)) None (IsSmall-plain whys.WrongCpu) tt)

  IsSmall-drop : (path : PathRef) (offset : ℕ) → IsSmall (drop.refusal m s path offset)
  unfolding drop.refusal
  IsSmall-drop path offset = at (touch.touched s path)
    where
      at : (o : Option (ℕ × Region)) → IsSmall (drop.against_region m offset o)
      at None = IsSmall-plain whys.NoSuchPath
      at (Some (domain, r)) = IsSmall-cond (nat_le (bytes_of m (ways_of r.mask)) offset) (Some (plain whys.PastRegion)) None (IsSmall-plain whys.PastRegion) tt

  -- why a command is refused
  pub IsSmall-refusal : (op : Op) → IsSmall (refusal m s op)
  unfolding refusal
  IsSmall-refusal (ops.Mkdir path) = IsSmall-mkdir path
  IsSmall-refusal (ops.Rmdir path) = IsSmall-rmdir path
  IsSmall-refusal (ops.Write path text) = IsSmall-write path text
  IsSmall-refusal (ops.Read path) = IsSmall-read path
  IsSmall-refusal (ops.List path) = IsSmall-list path
  IsSmall-refusal (ops.Touch cpu path task offset) = IsSmall-touch path offset cpu
  IsSmall-refusal (ops.DropRegion path offset) = IsSmall-drop path offset
  IsSmall-refusal op = tt
