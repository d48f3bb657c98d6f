-- The use that an op is, and its entry.
use Rattle.std.proofs.Common.{◌≡◌, ◌≢◌, ℕ, ◌<◌, Bool, true, false, List, [], ◌∷◌, length, get_or, Option, None, Some, inl, inr, refl, sym, subst, ap, ap₂, ◌∙◌}
use Rattle.std.specs.Prelude.{◌==◌}
use Rattle.std.proofs.lemmas.Bool.{cases_Bool, eq-eqb, ne_eqb}
use Rattle.std.proofs.lemmas.Option.{slice_get-get_or}
use Rattle.cache_core.specs.declared.entry.What.TheVariants.{Access}
use Rattle.pair_windows.specs.Joined.{joined_of_op}
use Rattle.pair_windows.specs.Segments.{use_in}
use Rattle.pair_windows.specs.declared.line_uses.LineUse.{LineUse}
use Rattle.pair_law.specs.Epochs.{state_at}
use Rattle.pair_law.specs.State.{PairState, owner_of}
use Rattle.pair_text.specs.Values.{Fits, IsLawful, PairScriptValue, epoch_at, op_at}
use Rattle.pair_text.specs.declared.op.PairOp.{PairOp}
use Rattle.pair_text.specs.declared.op.PairOp.TheVariants as ops
use Rattle.pair_text.specs.declared.side.Side.TheVariants.{Second}
use Rattle.pair_windows.specs.Replays.{HasTaken, ReplayValue}
use Rattle.pair_law.specs.Entries.{entry}
use Rattle.pair_law.specs.JointWindows.{is_flush}
use Rattle.pair_law.specs.LevelRuns.{domain_on}
use Rattle.rc_base.specs.declared.names.Gid.{Gid}

module _ (script : PairScriptValue) (domain : ℕ) (hit : ℕ → Bool) (i : ℕ) where
  -- a use on a CPU of the domain is an entry
  pub joined_of_op-use : (op : Option PairOp) (u : LineUse) → use_in script (state_at script (epoch_at script i)) domain op ≡ Some u
      → joined_of_op script domain (λ k cpu line. hit k) i op ≡ entry i (epoch_at script i) (Access (hit i) 0 u.owner 0 0 u.line) ∷ []
  joined_of_op-use (Some (ops.Use task cpu line code)) u is = elim (cases_Bool (domain_on script Second cpu == domain)) [
    | inl here ↦
        let found : Some (record { owner = _; line = line }) ≡ Some u = rw here at is in
        rw here (ap (λ (o : LineUse). entry i (epoch_at script i) (Access (hit i) 0 o.owner 0 0 o.line) ∷ []) (let same : record { owner = _; line = line } ≡ u = cc in same))
    | inr there ↦ absurd (let none : None ≡ Some u = rw there at is in cc)
  ]
  joined_of_op-use (Some ops.Flush) u is = absurd (let none : None ≡ Some u = is in cc)
  joined_of_op-use (Some (ops.Mkdir name)) u is = absurd (let none : None ≡ Some u = is in cc)
  joined_of_op-use (Some (ops.Rmdir name)) u is = absurd (let none : None ≡ Some u = is in cc)
  joined_of_op-use (Some (ops.Write file text)) u is = absurd (let none : None ≡ Some u = is in cc)
  joined_of_op-use (Some (ops.Read file)) u is = absurd (let none : None ≡ Some u = is in cc)
  joined_of_op-use None u is = absurd (let none : None ≡ Some u = is in cc)

  -- any other op but a flush is none
  pub joined_of_op-none : (op : Option PairOp) → use_in script (state_at script (epoch_at script i)) domain op ≡ None → is_flush op ≡ false → joined_of_op script domain (λ k cpu line. hit k) i op ≡ []
  joined_of_op-none (Some (ops.Use task cpu line code)) is quiet = elim (cases_Bool (domain_on script Second cpu == domain)) [
    | inl here ↦ absurd (let some : Some (record { owner = _; line = line }) ≡ None = rw here at is in cc)
    | inr there ↦ rw there refl
  ]
  joined_of_op-none (Some ops.Flush) is quiet = absurd (let f : true ≡ false = quiet in cc)
  joined_of_op-none (Some (ops.Mkdir name)) is quiet = refl
  joined_of_op-none (Some (ops.Rmdir name)) is quiet = refl
  joined_of_op-none (Some (ops.Write file text)) is quiet = refl
  joined_of_op-none (Some (ops.Read file)) is quiet = refl
  joined_of_op-none None is quiet = refl

-- ---- an op as it was read

module _ (script : PairScriptValue) (i : ℕ) (all : List PairOp) (read : PairOp) (same : all ≡ script.ops) (is : read ≡ get_or all i read) (within : i < length script.ops) where
  -- it is the op of the script
  pub op_at-read : op_at script i ≡ Some read
  op_at-read = slice_get-get_or script.ops i read within ∙ ap (λ (op : PairOp). Some op) (ap (λ (l : List PairOp). get_or l i read) (sym same) ∙ sym is)

  -- it fits the script
  pub Fits-read : IsLawful script → (op : PairOp) → read ≡ op → Fits script op
  Fits-read lawful op named = subst (Fits script) (ap (λ (l : List PairOp). get_or l i read) (sym same) ∙ (sym is ∙ named)) (lawful.fit i read within)

-- a use by this group
abbrev use_by : ℕ → Gid → Option LineUse
use_by line owner = Some (record { owner = owner; line = line })

module _ (script : PairScriptValue) (s : PairState) (domain task cpu line : ℕ) (code : Bool) (d : ℕ) (here : d ≡ domain_on script Second cpu) where
  -- a use on a CPU of another domain
  pub use_in-other : d ≢ domain → None ≡ use_in script s domain (Some (ops.Use task cpu line code))
  use_in-other other = let not_here : domain_on script Second cpu ≢ domain = λ e. other (here ∙ e) in rw (ne_eqb (domain_on script Second cpu) domain not_here) refl

  -- and on one of the domain
  pub use_in-own : (owner : Gid) → owner ≡ owner_of s task → d ≡ domain → Some (record { owner = owner; line = line }) ≡ use_in script s domain (Some (ops.Use task cpu line code))
  use_in-own owner is own = rw (eq-eqb (domain_on script Second cpu) domain (sym here ∙ own)) (ap (use_by line) is)

-- any other op is no use
pub use_in-none : (script : PairScriptValue) (s : PairState) (domain : ℕ) (op : PairOp) → ((task cpu line : ℕ) (code : Bool) → op ≢ ops.Use task cpu line code) → None ≡ use_in script s domain (Some op)
use_in-none script s domain (ops.Use task cpu line code) other = absurd (other task cpu line code refl)
use_in-none script s domain ops.Flush other = refl
use_in-none script s domain (ops.Mkdir name) other = refl
use_in-none script s domain (ops.Rmdir name) other = refl
use_in-none script s domain (ops.Write file text) other = refl
use_in-none script s domain (ops.Read file) other = refl

-- ---- the entry of an op, as it is made

module _ (script : PairScriptValue) (domain : ℕ) (hit : ℕ → Bool) (r : ReplayValue) (taken : HasTaken script r) where
  -- the use, in the state of the epoch
  use_at : (o : Option LineUse) → o ≡ use_in script r.tree.state domain (op_at script r.place) → use_in script (state_at script (epoch_at script r.place)) domain (op_at script r.place) ≡ o
  use_at o found = ap (λ (s : PairState). use_in script s domain (op_at script r.place)) (sym (taken.state ∙ ap (state_at script) taken.epoch)) ∙ sym found

  pub entry-joined : (u : LineUse) (op epoch : ℕ) → Some u ≡ use_in script r.tree.state domain (op_at script r.place) → op ≡ r.place → epoch ≡ r.tree.epoch
      → entry op epoch (Access (hit op) 0 u.owner 0 0 u.line) ∷ [] ≡ joined_of_op script domain (λ k cpu line. hit k) r.place (op_at script r.place)
  entry-joined u op epoch found here now =
      ap₂ (λ (o e : ℕ). entry o e (Access (hit o) 0 u.owner 0 0 u.line) ∷ []) here (now ∙ taken.epoch)
      ∙ sym (joined_of_op-use script domain hit r.place (op_at script r.place) u (use_at (Some u) found))

  pub none-joined : None ≡ use_in script r.tree.state domain (op_at script r.place) → is_flush (op_at script r.place) ≡ false → joined_of_op script domain (λ k cpu line. hit k) r.place (op_at script r.place) ≡ []
  none-joined none quiet = joined_of_op-none script domain hit r.place (op_at script r.place) (use_at None none) quiet
