-- What the ops of a script ask of a cache of a level.
use Rattle.std.proofs.Common.{◌≡◌, ◌≢◌, ℕ, ◌-◌, Bool, true, false, ◌==◌, ◌&&◌, Option, None, Some, inl, inr, refl, List, ◌+◌, ◌<◌, sym, subst, ap, ◌∙◌, arith}
use Rattle.std.specs.List.{All, flat_map, range_with_len}
use Rattle.std.proofs.lemmas.Bool.{cases_Bool, true≢false, and_parts}
use Rattle.std.proofs.lemmas.List.Elements.{All-nil, All-weaker}
use Rattle.cache_core.specs.declared.entry.SliceEntry.{SliceEntry}
use Rattle.cache_core.specs.declared.entry.What.TheVariants as whats
use Rattle.cache_core.specs.declared.entry.What.{What}
use Rattle.lists.proofs.Tests.{All-one, All-from_none}
use Rattle.pair_law.specs.Epochs.{state_at}
use Rattle.pair_law.specs.Registers.{mask_of_group}
use Rattle.pair_law.specs.Entries.{entry, asked_by}
use Rattle.pair_law.specs.JointWindows as joint
use Rattle.pair_law.specs.LevelRuns.{LevelJournalsValue, asked_of_op, domain_on, reaches, user_at, asked_at, has_at}
use Rattle.pair_law.proofs.Positions.{All-unmap}
use Rattle.pair_law.proofs.Sides.{HasSide, mask_of_group-side}
use Rattle.pair_law.proofs.laws.Cuts.{All-flat_map_range, Cut, has_at-cut, range_with_len-All}
use Rattle.pair_law.proofs.laws.Epochs.{IsSound-state_at}
use Rattle.pair_text.specs.Values.{PairScriptValue, epoch_at, IsLawful, op_at, side_machine}
use Rattle.pair_text.specs.declared.op.PairOp.{PairOp}
use Rattle.pair_text.specs.declared.op.PairOp.TheVariants as ops
use Rattle.pair_text.specs.declared.side.Side.{Side}
use Rattle.pair_text.specs.declared.side.Side.TheVariants.{Second}
use Rattle.private_lru.specs.Covered.{is_use}
use Rattle.private_lru.specs.Isolation.{Respects}
use Rattle.rc_base.specs.declared.names.Gid.{Gid}

-- a use asks for one access or none
asked_of_op-use : (script : PairScriptValue) (j : LevelJournalsValue) (side : Side) (x k task cpu line : ℕ) (code : Bool) → (P : SliceEntry → Type 0)
    → (((domain_on script side cpu == x) && reaches script j side k cpu) ≡ true → P (entry k (epoch_at script k) (whats.Access false 0 (user_at script k task) 0 (mask_of_group (state_at script (epoch_at script k)) side x (user_at script k task)) line)))
    → All P (asked_of_op script j side x k (Some (ops.Use task cpu line code)))
asked_of_op-use script j side x k task cpu line code P each = elim (cases_Bool ((domain_on script side cpu == x) && reaches script j side k cpu)) [
  | inl e ↦ rw e (All-one P _ (each e))
  | inr e ↦ rw e (All-nil P)
]

-- what an op asks for is the op's
pub asked_of_op-op : (script : PairScriptValue) (j : LevelJournalsValue) (side : Side) (x k : ℕ) (o : Option PairOp) → All (λ (e : SliceEntry). e.op ≡ k) (asked_of_op script j side x k o)
asked_of_op-op script j side x k (Some (ops.Use task cpu line code)) = asked_of_op-use script j side x k task cpu line code (λ (e : SliceEntry). e.op ≡ k) (λ here. refl)
asked_of_op-op script j side x k (Some ops.Flush) = All-one (λ (e : SliceEntry). e.op ≡ k) _ refl
asked_of_op-op script j side x k (Some (ops.Mkdir name)) = All-nil (λ (e : SliceEntry). e.op ≡ k)
asked_of_op-op script j side x k (Some (ops.Rmdir name)) = All-nil (λ (e : SliceEntry). e.op ≡ k)
asked_of_op-op script j side x k (Some (ops.Write file text)) = All-nil (λ (e : SliceEntry). e.op ≡ k)
asked_of_op-op script j side x k (Some (ops.Read file)) = All-nil (λ (e : SliceEntry). e.op ≡ k)
asked_of_op-op script j side x k None = All-nil (λ (e : SliceEntry). e.op ≡ k)

-- what is said of each access that a use asks for is said of what any op but a flush asks for
pub asked_of_op-each : (script : PairScriptValue) (j : LevelJournalsValue) (side : Side) (x k : ℕ) (P : SliceEntry → Type 0) (o : Option PairOp) → joint.is_flush o ≡ false
    → ((task cpu line : ℕ) (code : Bool) → o ≡ Some (ops.Use task cpu line code) → ((domain_on script side cpu == x) && reaches script j side k cpu) ≡ true
    → P (entry k (epoch_at script k) (whats.Access false 0 (user_at script k task) 0 (mask_of_group (state_at script (epoch_at script k)) side x (user_at script k task)) line)))
    → All P (asked_of_op script j side x k o)
asked_of_op-each script j side x k P (Some (ops.Use task cpu line code)) calm each = asked_of_op-use script j side x k task cpu line code P (λ here. each task cpu line code refl here)
asked_of_op-each script j side x k P (Some ops.Flush) calm each = absurd (true≢false calm)
asked_of_op-each script j side x k P (Some (ops.Mkdir name)) calm each = All-nil P
asked_of_op-each script j side x k P (Some (ops.Rmdir name)) calm each = All-nil P
asked_of_op-each script j side x k P (Some (ops.Write file text)) calm each = All-nil P
asked_of_op-each script j side x k P (Some (ops.Read file)) calm each = All-nil P
asked_of_op-each script j side x k P None calm each = All-nil P

-- what another op asks for is not the op's
pub asked_at-other : (script : PairScriptValue) (j : LevelJournalsValue) (side : Side) (x i k : ℕ) → k ≢ i → All (λ (e : SliceEntry). e.op ≢ i) (asked_at script j side x k)
asked_at-other script j side x i k ne =
    All-weaker (λ (e : SliceEntry). e.op ≡ k) (λ (e : SliceEntry). e.op ≢ i) (λ e is_k same. ne (sym is_k ∙ same)) (asked_at script j side x k) (asked_of_op-op script j side x k (op_at script k))

-- where an op asks for one entry, its entry is the one that was asked for
pub has_at-asked : (script : PairScriptValue) (j : LevelJournalsValue) (side : Side) (x i n : ℕ) (es : List SliceEntry) (wanted : SliceEntry) → wanted.op ≡ i
    → (cut : Cut asked_by es (flat_map (asked_at script j side x) (range_with_len 0 i)) wanted (flat_map (asked_at script j side x) (range_with_len (i + 1) n))) (p : What → Bool) → has_at es i p ≡ p cut.here.what
has_at-asked script j side x i n es wanted its cut p =
    let f : ℕ → List SliceEntry = asked_at script j side x in
    let Other : SliceEntry → Type 0 = λ (y : SliceEntry). y.op ≢ i in
    ap (λ (l : List SliceEntry). has_at l i p) cut.whole
    ∙ has_at-cut cut.left cut.right cut.here i p
    (All-unmap Other asked_by cut.left (subst (All Other) (sym cut.left_is) (All-flat_map_range Other f 0 i (λ k low high. asked_at-other script j side x i k (λ same. omega arith)))))
    (All-unmap Other asked_by cut.right (subst (All Other) (sym cut.right_is) (All-flat_map_range Other f (i + 1) n (λ k low high. asked_at-other script j side x i k (λ same. omega arith)))))
    (ap (λ (y : SliceEntry). y.op) cut.here_is ∙ its)

-- ---- in a window

module _ (script : PairScriptValue) (j : LevelJournalsValue) (side : Side) (x : ℕ) (group : Gid) (mask from to : ℕ)
    (stays : (k : ℕ) → from < k → k < to → (joint.is_flush (op_at script k) ≡ false) × HasSide side x group mask (state_at script (epoch_at script k))) where
  -- each access respects the mask
  pub Respects-asked : IsLawful script → x < (side_machine script.machines side).domains → (k : ℕ) → from < k → k < to → All (λ (e : SliceEntry). Respects group.0 mask e.what) (asked_at script j side x k)
  Respects-asked lawful exists k late early =
      let s = stays k late early in
      asked_of_op-each script j side x k (λ (e : SliceEntry). Respects group.0 mask e.what) (op_at script k) s.0
      (λ task cpu line code is here. mask_of_group-side script.machines (state_at script (epoch_at script k)) (IsSound-state_at script (epoch_at script k) lawful) side x exists group mask s.1 task)

  -- a line that the group does not use in the window is used by no access of the group, where the cache is of CPUs of the domain
  pub is_use-asked : (domain line : ℕ) → ((k task cpu its : ℕ) (code : Bool) → op_at script k ≡ Some (ops.Use task cpu its code) → (domain_on script side cpu == x) ≡ true → (domain_on script Second cpu == domain) ≡ true)
      → joint.uses_line script domain group.0 from to line ≡ false → (k : ℕ) → from < k → k < to → All (λ (e : SliceEntry). is_use group.0 line e.what ≡ false) (asked_at script j side x k)
  is_use-asked domain line above none k late early =
      let all = range_with_len-All (λ (n : ℕ). joint.is_own_use script domain group.0 line n (op_at script n) ≡ false) (from + 1) (to - (from + 1))
      (All-from_none (λ (n : ℕ). joint.is_own_use script domain group.0 line n (op_at script n)) (range_with_len (from + 1) (to - (from + 1))) none) k (omega arith) (omega arith) in
      asked_of_op-each script j side x k (λ (e : SliceEntry). is_use group.0 line e.what ≡ false) (op_at script k) (stays k late early).0
      (λ task cpu its code is here.
      let there : (domain_on script Second cpu == domain) ≡ true = above k task cpu its code is (and_parts (domain_on script side cpu == x) (reaches script j side k cpu) here).0 in
      let whole : ((domain_on script Second cpu == domain) && ((user_at script k task).0 == group.0) && (its == line)) ≡ false = subst (λ (o : Option PairOp). joint.is_own_use script domain group.0 line k o ≡ false) is all in
      rw there at whole)
