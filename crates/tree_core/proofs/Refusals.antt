-- Why making a control group is refused.
use Rattle.std.proofs.Common.{◌≡◌, ℕ, Bool, true, false, not, ◌&&◌, cond, eqb, List, [], ◌∷◌, length, find, Option, None, Some, is_none, is_some, unwrap_or, refl, ap, ap₂, ◌∙◌}
use Rattle.std.specs.Option.{option_map}
use Rattle.machine.specs.declared.parameters.Parameters.{Parameters}
use Rattle.path_names.specs.declared.dirs.DirRef.TheVariants.{Ctrl}
use Rattle.path_names.specs.declared.names.NameId.{NameId}
use Rattle.path_names.specs.declared.path_ref.PathRef.{PathRef}
use Rattle.path_names.specs.declared.path_ref.PathRef.TheVariants.{Dir}
use Rattle.rc_base.specs.Replies.{refused}
use Rattle.rc_base.specs.declared.replies.Reply.{Reply}
use Rattle.rc_base.specs.declared.replies.Why.{Why}
use Rattle.rc_base.specs.declared.replies.Why.TheVariants.{NoSuchPath, NotAPlace, Exists, Locking, OutOfClosids, NoSpace, OutOfRmids, RmidsBusy}
use Rattle.script_ops.specs.declared.op.Op.TheVariants.{Mkdir}
use Rattle.tree_core.specs.Places.{place_reasons}
use Rattle.tree_law.specs.Refusals.{Refusal, plain}
use Rattle.tree_law.specs.Space.{free_class, free_rmid, full_domain}
use Rattle.tree_law.specs.State.{State}
use Rattle.tree_law.specs.Steps.{refusal}
use Rattle.tree_law.specs.commands.Mkdir.{against, with_argument}
use Rattle.tree_law.specs.commands.Mkdir as mkdir

-- the reasons after those against the place
abbrev lack_reasons : List Why
lack_reasons = OutOfClosids ∷ NoSpace ∷ Locking ∷ OutOfRmids ∷ RmidsBusy ∷ []

-- something is against making a group, with this reply
pub record IsRefused (m : Parameters) (s : State) (path : PathRef) (said : Reply) : Type 0 where
  pub reason : Refusal
  pub is : refusal m s (Mkdir path) ≡ Some reason
  pub reply : said ≡ refused reason.why reason.arg

-- what is against it makes the reply
pub IsRefused-by : (m : Parameters) (s : State) (path : PathRef) (r : Refusal) → refusal m s (Mkdir path) ≡ Some r → IsRefused m s path (refused r.why r.arg)
IsRefused-by m s path r is = record { reason = r; is = is; reply = refl }

-- what is against the place is against the command
pub refusal-place : (m : Parameters) (s : State) (path : PathRef) (why : Why) → find (against m s path) place_reasons ≡ Some why → refusal m s (Mkdir path) ≡ Some (plain why)
unfolding refusal mkdir.refusal
refusal-place m s path why found = at (against m s path NoSuchPath) (against m s path Exists) (against m s path NotAPlace) (find (against m s path) lack_reasons) found
  where
    at : (a b c : Bool) (rest : Option Why) → cond a (Some NoSuchPath) (cond b (Some Exists) (cond c (Some NotAPlace) None)) ≡ Some why
        → option_map (with_argument m s) (cond a (Some NoSuchPath) (cond b (Some Exists) (cond c (Some NotAPlace) rest))) ≡ Some (plain why)
    at true b c rest e = ap (option_map plain) e
    at false true c rest e = ap (option_map plain) e
    at false false true rest e = ap (option_map plain) e
    at false false false rest e = absurd (let none : None ≡ Some why = e in cc)

-- where nothing is against the place, some lack may be
pub refusal-in_place : (m : Parameters) (s : State) (path : PathRef) → find (against m s path) place_reasons ≡ None → refusal m s (Mkdir path) ≡ option_map (with_argument m s) (find (against m s path) lack_reasons)
unfolding refusal mkdir.refusal
refusal-in_place m s path none = at (against m s path NoSuchPath) (against m s path Exists) (against m s path NotAPlace) (find (against m s path) lack_reasons) none
  where
    at : (a b c : Bool) (rest : Option Why) → cond a (Some NoSuchPath) (cond b (Some Exists) (cond c (Some NotAPlace) None)) ≡ None
        → option_map (with_argument m s) (cond a (Some NoSuchPath) (cond b (Some Exists) (cond c (Some NotAPlace) rest))) ≡ option_map (with_argument m s) rest
    at true b c rest e = absurd (let some : Some NoSuchPath ≡ None = e in cc)
    at false true c rest e = absurd (let some : Some Exists ≡ None = e in cc)
    at false false true rest e = absurd (let some : Some NotAPlace ≡ None = e in cc)
    at false false false rest e = refl

-- what is not against the place
pub record IsPlace (m : Parameters) (s : State) (path : PathRef) : Type 0 where
  pub held : against m s path NoSuchPath ≡ false
  pub new : against m s path Exists ≡ false
  pub place : against m s path NotAPlace ≡ false

-- without a reason against the place, it is one for a new group
pub IsPlace-find_none : (m : Parameters) (s : State) (path : PathRef) → find (against m s path) place_reasons ≡ None → IsPlace m s path
IsPlace-find_none m s path none = at (against m s path NoSuchPath) (against m s path Exists) (against m s path NotAPlace) refl refl refl none
  where
    at : (a b c : Bool) → against m s path NoSuchPath ≡ a → against m s path Exists ≡ b → against m s path NotAPlace ≡ c → cond a (Some NoSuchPath) (cond b (Some Exists) (cond c (Some NotAPlace) None)) ≡ None → IsPlace m s path
    at true b c p q r e = absurd (let some : Some NoSuchPath ≡ None = e in cc)
    at false true c p q r e = absurd (let some : Some Exists ≡ None = e in cc)
    at false false true p q r e = absurd (let some : Some NotAPlace ≡ None = e in cc)
    at false false false p q r e = record { held = p; new = q; place = r }

-- the reply to a lack of RMIDs
abbrev pub rmids_lack : State → Reply
rmids_lack s = cond (eqb (length s.limbo) 0) (refused OutOfRmids 0) (refused RmidsBusy 0)

-- the lacks of a control group: each test stands for itself
abbrev lacks_of : Parameters → State → Bool → Bool → Bool → Bool → Option Refusal
lacks_of m s class space rmid limbo = option_map (with_argument m s) (cond class (Some OutOfClosids) (cond space (Some NoSpace) (cond (rmid && limbo) (Some OutOfRmids) (cond (rmid && not limbo) (Some RmidsBusy) None))))

-- what is against making a control group at a place is a lack
refusal-lacks_of : (m : Parameters) (s : State) (name : NameId) → find (against m s (Dir (Ctrl name))) place_reasons ≡ None
    → refusal m s (Mkdir (Dir (Ctrl name))) ≡ lacks_of m s (is_none (free_class m s)) (is_some (full_domain m s)) (is_none (free_rmid m s)) (eqb (length s.limbo) 0)
refusal-lacks_of m s name none = refusal-in_place m s (Dir (Ctrl name)) none

-- without a free class it is refused
pub IsRefused-no_class : (m : Parameters) (s : State) (name : NameId) → find (against m s (Dir (Ctrl name))) place_reasons ≡ None → free_class m s ≡ None → IsRefused m s (Dir (Ctrl name)) (refused OutOfClosids 0)
IsRefused-no_class m s name none class = IsRefused-by m s (Dir (Ctrl name)) (plain OutOfClosids) (refusal-lacks_of m s name none ∙ rw class refl)

-- and so it is where the classes tell that none is free
pub IsRefused-spent : (m : Parameters) (s : State) (name : NameId) → find (against m s (Dir (Ctrl name))) place_reasons ≡ None → is_some (free_class m s) ≡ false → IsRefused m s (Dir (Ctrl name)) (refused OutOfClosids 0)
IsRefused-spent m s name none spent = IsRefused-no_class m s name none (at (free_class m s) spent)
  where
    at : (o : Option ℕ) → is_some o ≡ false → o ≡ None
    at None is = refl
    at (Some x) is = absurd (let none : true ≡ false = is in cc)

-- where a class is free it is refused where a domain is full
pub IsRefused-no_space : (m : Parameters) (s : State) (name : NameId) (domain : ℕ) → find (against m s (Dir (Ctrl name))) place_reasons ≡ None → is_some (free_class m s) ≡ true → full_domain m s ≡ Some domain
    → IsRefused m s (Dir (Ctrl name)) (refused NoSpace domain)
IsRefused-no_space m s name domain none some is_full = IsRefused-by m s (Dir (Ctrl name)) (record { why = NoSpace; arg = domain })
    (refusal-lacks_of m s name none
    ∙ ap₂ (λ (a : Bool) (b : Option ℕ). lacks_of m s a (is_some b) (is_none (free_rmid m s)) (eqb (length s.limbo) 0)) (is_none-false (free_class m s) some) is_full
    ∙ ap (λ (full : Option ℕ). Some (record { why = NoSpace; arg = unwrap_or full 0 })) is_full)
  where
    is_none-false : (o : Option ℕ) → is_some o ≡ true → is_none o ≡ false
    is_none-false (Some x) is = refl
    is_none-false None is = absurd (let some : false ≡ true = is in cc)

-- where RMIDs are lacking, the limbo tells the reply
IsRefused-lack_of_rmids : (m : Parameters) (s : State) (name : NameId) (limbo : Bool) → refusal m s (Mkdir (Dir (Ctrl name))) ≡ lacks_of m s false false true limbo → IsRefused m s (Dir (Ctrl name)) (cond limbo (refused OutOfRmids 0) (refused RmidsBusy 0))
IsRefused-lack_of_rmids m s name true is = IsRefused-by m s (Dir (Ctrl name)) (plain OutOfRmids) is
IsRefused-lack_of_rmids m s name false is = IsRefused-by m s (Dir (Ctrl name)) (plain RmidsBusy) is

-- without a free RMID it is refused
pub IsRefused-no_rmid : (m : Parameters) (s : State) (name : NameId) (class : ℕ) → find (against m s (Dir (Ctrl name))) place_reasons ≡ None → free_class m s ≡ Some class → full_domain m s ≡ None → free_rmid m s ≡ None
    → IsRefused m s (Dir (Ctrl name)) (rmids_lack s)
IsRefused-no_rmid m s name class none is_class is_full is_rmid = IsRefused-lack_of_rmids m s name (eqb (length s.limbo) 0) (refusal-lacks_of m s name none ∙ rw (is_class, is_full, is_rmid) refl)

-- where nothing is lacking, nothing is against it
pub refusal-no_lack : (m : Parameters) (s : State) (name : NameId) (class rmid : ℕ) → find (against m s (Dir (Ctrl name))) place_reasons ≡ None → free_class m s ≡ Some class → full_domain m s ≡ None → free_rmid m s ≡ Some rmid
    → refusal m s (Mkdir (Dir (Ctrl name))) ≡ None
refusal-no_lack m s name class rmid none is_class is_full is_rmid = refusal-lacks_of m s name none ∙ rw (is_class, is_full, is_rmid) refl
