-- Writes to the files of a control group that are accepted.
use Rattle.std.proofs.Common.{◌≡◌, ℕ, Bool, true, false, not, cond, List, [], Option, None, Some, Result, Ok, refl, sym, subst, ap, ◌∙◌}
use Rattle.std.specs.Prelude.{codes, is_some, option_map}
use Rattle.std.specs.List.{list_any, range_with_len}
use Rattle.std.specs.Option.{option_map_or, option_or}
use Rattle.group_tree.specs.declared.group.Group.{Group}
use Rattle.machine.specs.declared.parameters.Parameters.{Parameters}
use Rattle.path_names.specs.declared.dirs.DirRef.{DirRef}
use Rattle.path_names.specs.declared.files.FileKind.{FileKind}
use Rattle.path_names.specs.declared.files.FileKind.TheVariants.{Mode as ModeFile, Schemata as SchemataFile}
use Rattle.path_names.specs.declared.path_ref.PathRef.TheVariants.{File}
use Rattle.rc_base.specs.Texts.{is_text}
use Rattle.rc_base.specs.declared.names.Mode.{Mode}
use Rattle.rc_base.specs.declared.names.Mode.TheVariants.{Exclusive, Shareable}
use Rattle.rc_base.specs.declared.replies.Reply.TheVariants as replies
use Rattle.rc_base.specs.declared.replies.Why.TheVariants.{GroupLocked, NoSuchPath, OneDomain, OnlyRead, SchemataOverlap}
use Rattle.schemata_text.specs.declared.assignment.Assignment.{Assignment}
use Rattle.schemata_text.specs.declared.fault.TextFault.{TextFault}
use Rattle.script_ops.specs.declared.op.Op.{Op}
use Rattle.script_ops.specs.declared.op.Op.TheVariants.{Write}
use Rattle.tree_law.specs.Existing.{dir_exists}
use Rattle.tree_law.specs.Freeing.{counts_of}
use Rattle.tree_law.specs.Places.{control_at, with_record}
use Rattle.tree_law.specs.Refusals.{Refusal, plain, reply_of}
use Rattle.tree_law.specs.State.{State}
use Rattle.tree_law.specs.Steps.{accepted, needs, needs_accepted, next, next_if, refusal, with_status}
use Rattle.tree_law.specs.commands.Mode as mode
use Rattle.tree_law.specs.commands.Schemata as schemata
use Rattle.tree_law.specs.commands.Write as write

-- a command that needs no counts and is answered with success, and the state after it
pub record Takes (m : Parameters) (s : State) (op : Op) (left : State) : Type 0 where
  pub counts : needs m s op ≡ []
  pub success : (next m s op []).reply ≡ replies.Ok
  pub state : (next m s op []).state ≡ left

-- by what it is refused for, which is nothing
Takes-accepted : (m : Parameters) (s : State) (op : Op) → refusal m s op ≡ None → needs_accepted m s op ≡ [] → Takes m s op (with_status op replies.Ok (accepted m s op []))
unfolding needs next
Takes-accepted m s op none counts = record {
  counts = ap (λ (o : Option Refusal). cond {A = List (ℕ × ℕ)} (is_some o) [] (needs_accepted m s op)) none ∙ counts;
  success = ap reply_of none;
  state = ap (λ (o : Option Refusal). with_status op (reply_of o) (next_if m s op [] o)) none;
}

-- of a write to a file that is there only the text may be refused
refusal-file : (m : Parameters) (s : State) (dir : DirRef) (file : FileKind) (text : List ℕ) → dir_exists s dir ≡ true → write.is_written file ≡ true → write.refusal m s (File dir file) text ≡ write.text_refusal m s (File dir file) text
unfolding write.refusal
refusal-file m s dir file text exists written = at (dir_exists s dir) (write.is_written file) exists written
  where
    at : (a b : Bool) → a ≡ true → b ≡ true → option_or (option_map plain (cond (not a) (Some NoSuchPath) (cond (not b) (Some OnlyRead) None))) (write.text_refusal m s (File dir file) text) ≡ write.text_refusal m s (File dir file) text
    at true true e f = refl
    at true false e f = absurd (let g : false ≡ true = f in cc)
    at false b e f = absurd (let g : false ≡ true = e in cc)

-- a write of a mode
pub Takes-mode : (m : Parameters) (s : State) (dir : DirRef) (text : List ℕ) (g : Group) → dir_exists s dir ≡ true → control_at s dir ≡ Some g → mode.refusal m s g text ≡ None → mode.freed g text ≡ []
    → Takes m s (Write (File dir ModeFile) text) (record (mode.accepted m s g text []) { status = replies.Ok })
unfolding refusal write.freed write.accepted
Takes-mode m s dir text g exists there none freed =
    let op : Op = Write (File dir ModeFile) text in
    let unrefused : refusal m s op ≡ None = refusal-file m s dir ModeFile text exists refl ∙ (ap (λ (o : Option Group). option_map_or (λ g. mode.refusal m s g text) o None) there ∙ none) in
    let uncounted : needs_accepted m s op ≡ [] = ap (counts_of m) (ap (λ (o : Option Group). option_map_or (λ g. mode.freed g text) o []) there ∙ freed) in
    let taken = Takes-accepted m s op unrefused uncounted in
    record {
      counts = taken.counts;
      success = taken.success;
      state = taken.state ∙ ap (λ (o : Option Group). record (option_map_or (λ g. mode.accepted m s g text []) o s) { status = replies.Ok }) there;
    }

-- a write of schemata
pub Takes-schemata : (m : Parameters) (s : State) (dir : DirRef) (text : List ℕ) (g : Group) (read : Result (List Assignment) TextFault) → dir_exists s dir ≡ true → control_at s dir ≡ Some g
    → schemata.schemata_read m text ≡ read → schemata.refusal m s g read ≡ None → Takes m s (Write (File dir SchemataFile) text) (record (schemata.accepted s g read) { status = replies.Ok })
unfolding refusal write.freed write.accepted
Takes-schemata m s dir text g read exists there is none =
    let op : Op = Write (File dir SchemataFile) text in
    let unrefused : refusal m s op ≡ None = refusal-file m s dir SchemataFile text exists refl
    ∙ (ap (λ (o : Option Group). option_map_or (λ g. schemata.refusal m s g (schemata.schemata_read m text)) o None) there ∙ (ap (schemata.refusal m s g) is ∙ none)) in
    let taken = Takes-accepted m s op unrefused refl in
    record {
      counts = taken.counts;
      success = taken.success;
      state = taken.state ∙ (ap (λ (o : Option Group). record (option_map_or (λ g. schemata.accepted s g (schemata.schemata_read m text)) o s) { status = replies.Ok }) there
          ∙ ap (λ (r : Result (List Assignment) TextFault). record (schemata.accepted s g r) { status = replies.Ok }) is);
    }

-- ---- texts of modes

-- A mode that a group may be given, and the state after it but for the last status.
pub record Turns (m : Parameters) (s : State) (g : Group) (text : List ℕ) (left : State) : Type 0 where
  pub unrefused : mode.refusal m s g text ≡ None
  pub unfreed : mode.freed g text ≡ []
  pub turned : mode.accepted m s g text [] ≡ left

-- a group in a mode stays what it is when its mode is written down
in_mode : (g : Group) (old : Mode) → g.mode ≡ old → record g { mode = old } ≡ g
in_mode g old is = ap (λ (x : Mode). record g { mode = x }) (sym is)

module _ (m : Parameters) (s : State) (g : Group) where
  -- an exclusive group becomes shareable
  pub Turns-shareable : g.mode ≡ Exclusive → Turns m s g (codes "shareable") (with_record s (record g { mode = Shareable }))
  unfolding mode.refusal mode.freed mode.accepted mode.mode_in mode.is_present is_text
  Turns-shareable is = subst (λ (x : Group). Turns m s x (codes "shareable") (with_record s (record g { mode = Shareable }))) (in_mode g Exclusive is) (record { unrefused = refl; unfreed = refl; turned = refl })

  -- a shareable one stays so
  pub Turns-still_shareable : g.mode ≡ Shareable → Turns m s g (codes "shareable") s
  unfolding mode.refusal mode.freed mode.accepted mode.mode_in mode.is_present is_text
  Turns-still_shareable is = subst (λ (x : Group). Turns m s x (codes "shareable") s) (in_mode g Shareable is) (record { unrefused = refl; unfreed = refl; turned = refl })

  -- a shareable group that overlaps nothing becomes exclusive
  pub Turns-exclusive : g.mode ≡ Shareable → list_any (mode.overlaps_some m s g) (range_with_len 0 m.domains) ≡ false → Turns m s g (codes "exclusive") (with_record s (record g { mode = Exclusive }))
  unfolding mode.refusal mode.freed mode.accepted mode.mode_in mode.is_present is_text
  Turns-exclusive is none = subst (λ (x : Group). Turns m s x (codes "exclusive") (with_record s (record g { mode = Exclusive }))) (in_mode g Shareable is)
      (record { unrefused = ap (λ (b : Bool). option_or (cond {A = Option Refusal} b (Some (plain SchemataOverlap)) None) None) none; unfreed = refl; turned = refl })

  -- an exclusive one stays so
  pub Turns-still_exclusive : g.mode ≡ Exclusive → Turns m s g (codes "exclusive") s
  unfolding mode.refusal mode.freed mode.accepted mode.mode_in mode.is_present is_text
  Turns-still_exclusive is = subst (λ (x : Group). Turns m s x (codes "exclusive") s) (in_mode g Exclusive is) (record { unrefused = refl; unfreed = refl; turned = refl })

  -- ---- assignments

  -- a shareable group gets masks that nothing is against
  pub schemata-shareable : (all : List Assignment) → g.mode ≡ Shareable → schemata.against_entries m s g all ≡ None → schemata.refusal m s g (Ok all) ≡ None
  unfolding schemata.refusal
  schemata-shareable all is none = subst (λ (x : Mode). cond {A = Option Refusal} (schemata.is_locked x) (Some (plain GroupLocked)) (cond (schemata.names_many x all) (Some (plain OneDomain)) (schemata.against_entries m s g all)) ≡ None) (sym is) none

  -- and has them then
  pub accepted-shareable : (all : List Assignment) → g.mode ≡ Shareable → schemata.accepted s g (Ok all) ≡ with_record s (record g { masks = schemata.assigned g.masks all })
  unfolding schemata.accepted
  accepted-shareable all is = ap (λ (x : Mode). schemata.with_masks s g x all) is
