-- Commands that are taken by the law.
use Rattle.std.proofs.Common.{◌≡◌, ℕ, ◌+◌, Bool, true, false, List, [], Option, None, Some, refl, sym, subst, ap, ◌∙◌}
use Rattle.path_names.specs.declared.path_ref.PathRef.{PathRef}
use Rattle.rc_base.specs.Replies.{refused}
use Rattle.rc_base.specs.declared.replies.Reply.{Reply}
use Rattle.rc_base.specs.declared.replies.Reply.TheVariants as replies
use Rattle.script_ops.specs.declared.op.Op.{Op}
use Rattle.script_ops.specs.declared.op.Op.TheVariants as ops
use Rattle.tree_core.proofs.Outcomes.{after-accepted, after-nothing, after-refused, next-accepted, next-refused, reply-next, state-quiet}
use Rattle.tree_core.proofs.WriteOutcomes.{Leaves}
use Rattle.tree_core.specs.Changes.{MakesGroup, Takes}
use Rattle.tree_core.specs.CpuFiles.{unless}
use Rattle.tree_core.specs.Values.{TreeValue}
use Rattle.tree_law.specs.Refusals.{Refusal, reply_of}
use Rattle.tree_law.specs.State.{Outcome, State}
use Rattle.tree_law.specs.Steps.{accepted, after, after_accepted, left, next, next_if, refusal, with_status}
use Rattle.tree_law.specs.commands.Mkdir as mkdir
use Rattle.tree_law.specs.declared.follow.Follow.{Follow}

-- the same command, with the same follow-ups
pub Takes-same : {op other : Op} {looks : List ℕ} {old new : TreeValue} {reply : Reply} {follows more : List Follow} → op ≡ other → follows ≡ more → Takes old other looks new reply more → Takes old op looks new reply follows
Takes-same {op} {other} {looks} {old} {new} {reply} {follows} {more} is same takes =
    subst (λ (o : Op). Takes old o looks new reply follows) (sym is) (subst (λ (fs : List Follow). Takes old other looks new reply fs) (sym same) takes)

-- from the tree that has counted it
pub Takes-counted : (old : TreeValue) {op : Op} {looks : List ℕ} {counted new : TreeValue} {reply : Reply} {follows : List Follow} → counted ≡ record old { epoch = old.epoch + 1 } → Takes counted op looks new reply follows → Takes (record old { epoch = old.epoch + 1 }) op looks new reply follows
Takes-counted old {op} {looks} {counted} {new} {reply} {follows} is takes = subst (λ (v : TreeValue). Takes v op looks new reply follows) is takes

module _ (op : Op) (looks : List ℕ) (old : TreeValue) {new : TreeValue} {reply : Reply} {follows : List Follow} where
  -- one that is refused
  pub Takes-refused : (r : Refusal) → refusal old.machine old.state op ≡ Some r → new ≡ record old { state = with_status op (refused r.why r.arg) (left old.state op) } → reply ≡ refused r.why r.arg → follows ≡ [] → Takes old op looks new reply follows
  Takes-refused r against tree said nothing =
      let next = next-refused old.machine old.state op r looks against in
      record {
        tree = tree ∙ ap (λ (o : Outcome). record old { state = o.state }) (sym next);
        reply = said ∙ ap (λ (o : Outcome). o.reply) (sym next);
        after = λ k is. nothing ∙ sym (after-refused old.machine old.state k op r against);
      }

  -- one that is accepted
  pub Takes-accepted : refusal old.machine old.state op ≡ None → new ≡ record old { state = with_status op replies.Ok (accepted old.machine old.state op looks) } → reply ≡ replies.Ok
      → ((k : ℕ) → k + 1 ≡ old.epoch → follows ≡ after_accepted old.machine old.state k op) → Takes old op looks new reply follows
  Takes-accepted free tree said more =
      let next = next-accepted old.machine old.state op looks free in
      record {
        tree = tree ∙ ap (λ (o : Outcome). record old { state = o.state }) (sym next);
        reply = said ∙ ap (λ (o : Outcome). o.reply) (sym next);
        after = λ k is. more k is ∙ sym (after-accepted old.machine old.state k op free);
      }

-- whether a command never changes a tree
abbrev pub is_quiet : Op → Bool
is_quiet (ops.Mkdir path) = false
is_quiet (ops.Rmdir path) = false
is_quiet (ops.Write path text) = false
is_quiet ops.Tick = false
is_quiet op = true

-- one that never does
pub Takes-quiet : (op : Op) (looks : List ℕ) (old : TreeValue) {reply : Reply} {follows : List Follow} → is_quiet op ≡ true → reply ≡ reply_of (refusal old.machine old.state op)
    → ((k : ℕ) → k + 1 ≡ old.epoch → follows ≡ after old.machine old.state k op) → Takes old op looks old reply follows
Takes-quiet op looks old quiet said more = record {
  tree = ap (λ (s : State). record old { state = s }) (sym (at op quiet));
  reply = said ∙ sym (reply-next old.machine old.state op looks);
  after = more;
}
  where
    at : (o : Op) → is_quiet o ≡ true → (next old.machine old.state o looks).state ≡ old.state
    at (ops.Mkdir path) e = absurd (let f : false ≡ true = e in cc)
    at (ops.Rmdir path) e = absurd (let f : false ≡ true = e in cc)
    at (ops.Write path text) e = absurd (let f : false ≡ true = e in cc)
    at ops.Tick e = absurd (let f : false ≡ true = e in cc)
    at (ops.Read path) e = state-quiet old.machine old.state (ops.Read path) looks refl refl (λ x. refl)
    at (ops.List path) e = state-quiet old.machine old.state (ops.List path) looks refl refl (λ x. refl)
    at (ops.Flush domain) e = state-quiet old.machine old.state (ops.Flush domain) looks refl refl (λ x. refl)
    at (ops.Touch cpu path task offset) e = state-quiet old.machine old.state (ops.Touch cpu path task offset) looks refl refl (λ x. refl)
    at (ops.DropLine addr) e = state-quiet old.machine old.state (ops.DropLine addr) looks refl refl (λ x. refl)
    at (ops.DropRegion path offset) e = state-quiet old.machine old.state (ops.DropRegion path offset) looks refl refl (λ x. refl)
    at (ops.Access task cpu addr) e = state-quiet old.machine old.state (ops.Access task cpu addr) looks refl refl (λ x. refl)

-- a write, by what is against it
pub Takes-leaves : {path : PathRef} {text looks : List ℕ} {old new : TreeValue} {said reply : Reply} {follows : List Follow} {o : Option Refusal} {later : State} → Leaves old.machine old.state path text looks o later
    → new ≡ record old { state = record later { status = said } } → said ≡ reply_of o → reply ≡ said → ((k : ℕ) → follows ≡ after old.machine old.state k (ops.Write path text)) → Takes old (ops.Write path text) looks new reply follows
Takes-leaves {path} {text} {looks} {old} {new} {said} {reply} {follows} {o} {later} leaves tree against same more = record {
  tree = tree ∙ ap (λ (r : Reply). record old { state = record later { status = r } }) against ∙ ap (λ (s : State). record old { state = s }) (sym leaves.state);
  reply = same ∙ against ∙ sym leaves.reply;
  after = λ k is. more k;
}

-- an mkdir, by what becomes of it but for the last status
pub Takes-mkdir : {path : PathRef} {looks : List ℕ} {old mid new : TreeValue} {said reply : Reply} → MakesGroup old path mid said
    → new ≡ record mid { state = record mid.state { status = said } } → reply ≡ said → Takes old (ops.Mkdir path) looks new reply []
unfolding next
Takes-mkdir {path} {looks} {old} {mid} {new} {said} {reply} decides tree same =
    let m = old.machine in let s = old.state in let op = ops.Mkdir path in
    record {
      tree = tree ∙ ap (λ (w : TreeValue). record w { state = record w.state { status = said } }) decides.tree
          ∙ ap (λ (r : Reply). record old { state = record (unless (refusal m s op) s (mkdir.accepted m s path)) { status = r } }) decides.reply
          ∙ ap (λ (x : State). record old { state = record x { status = reply_of (refusal m s op) } }) (at (refusal m s op));
      reply = same ∙ decides.reply ∙ sym (reply-next m s op looks);
      after = λ k is. sym (after-nothing m s k op refl);
    }
  where
    at : (o : Option Refusal) → unless o old.state (mkdir.accepted old.machine old.state path) ≡ next_if old.machine old.state (ops.Mkdir path) looks o
    at None = refl
    at (Some r) = refl
