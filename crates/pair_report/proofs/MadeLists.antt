-- The groups that were made, one command after the other.
use Rattle.std.proofs.Common.{◌≡◌, ℕ, ◌+◌, ◌≤◌, true, false, cond, List, [], ◌∷◌, ◌++◌, length, map, None, Some, inl, inr, refl, sym, subst, ap, ◌∙◌, append_assoc, arith}
use Rattle.std.specs.List.{All, slice_get}
use Rattle.std.proofs.lemmas.Bool.{cases_Bool}
use Rattle.std.proofs.lemmas.List.{append-nil, length-append, length-map, map-append}
use Rattle.std.proofs.lemmas.List.Elements.{All-append}
use Rattle.lists.proofs.Tests.{All-one}
use Rattle.pair_text.specs.Values.{PairScriptValue, epoch_at, is_command, op_at}
use Rattle.pair_text.specs.declared.op.PairOp.{PairOp}
use Rattle.pair_text.specs.declared.op.PairOp.TheVariants as ops
use Rattle.pair_report.specs.LinesBefore.{HasMade, commands_before, group_made, made_before, made_by, makes, path_made}
use Rattle.pair_report.specs.MadeGroups.{GroupPath, made_from}
use Rattle.pair_report.specs.declared.made.MadeGroup.{MadeGroup}
use Rattle.pair_law.proofs.laws.Playing.{epoch_at-command, epoch_at-use, filter-take_command, filter-take_use}
use Rattle.rc_base.specs.declared.replies.Reply.{Reply}
use Rattle.rc_base.specs.declared.replies.Reply.TheVariants as replies

-- the group of a command
abbrev group_by : ℕ → PairOp → Reply → List GroupPath
group_by gid op reply = cond (makes op reply) (record { gid = gid; path = path_made (Some op) } ∷ []) []

-- those of a command and of those after it
made_from-cons : (gid : ℕ) (op : PairOp) (commands : List PairOp) (reply : Reply) (rest : List Reply) → made_from gid (op ∷ commands) (reply ∷ rest) ≡ group_by gid op reply ++ made_from (gid + length (group_by gid op reply)) commands rest
made_from-cons gid (ops.Mkdir name) commands replies.Ok rest = refl
made_from-cons gid (ops.Mkdir name) commands (replies.Refused errno why arg) rest = let same : gid ≡ gid + 0 = omega arith in ap (λ n. made_from n commands rest) same
made_from-cons gid (ops.Rmdir name) commands reply rest = let same : gid ≡ gid + 0 = omega arith in ap (λ n. made_from n commands rest) same
made_from-cons gid (ops.Write file text) commands reply rest = let same : gid ≡ gid + 0 = omega arith in ap (λ n. made_from n commands rest) same
made_from-cons gid (ops.Read file) commands reply rest = let same : gid ≡ gid + 0 = omega arith in ap (λ n. made_from n commands rest) same
made_from-cons gid ops.Flush commands reply rest = let same : gid ≡ gid + 0 = omega arith in ap (λ n. made_from n commands rest) same
made_from-cons gid (ops.Use task cpu line code) commands reply rest = let same : gid ≡ gid + 0 = omega arith in ap (λ n. made_from n commands rest) same

-- one command more
made_from-push : (gid : ℕ) (commands : List PairOp) (op : PairOp) (all : List Reply) (reply : Reply) → slice_get all (length commands) ≡ Some reply
    → made_from gid (commands ++ op ∷ []) all ≡ made_from gid commands all ++ group_by (gid + length (made_from gid commands all)) op reply
made_from-push gid [] op [] reply at = absurd (let none : None ≡ Some reply = at in cc)
made_from-push gid [] op (r ∷ rs) reply at =
    let same : r ≡ reply = (let some : Some r ≡ Some reply = at in cc) in
    let zeroth : gid ≡ gid + 0 = omega arith in
    made_from-cons gid op [] r rs ∙ (append-nil (group_by gid op r) ∙ (ap (group_by gid op) same ∙ ap (λ n. group_by n op reply) zeroth))
made_from-push gid (o ∷ os) op [] reply at = absurd (let none : None ≡ Some reply = at in cc)
made_from-push gid (o ∷ os) op (r ∷ rs) reply at =
    let here : List GroupPath = group_by gid o r in
    let after : ℕ = gid + length here in
    let rest : List GroupPath = made_from after os rs in
    let whole : made_from gid (o ∷ os) (r ∷ rs) ≡ here ++ rest = made_from-cons gid o os r rs in
    let count : after + length rest ≡ gid + length (made_from gid (o ∷ os) (r ∷ rs)) = (let len = ap (λ (l : List GroupPath). length l) whole in let both = length-append here rest in omega (arith, len, both)) in
    made_from-cons gid o (os ++ op ∷ []) r rs
    ∙ (ap (λ (l : List GroupPath). here ++ l) (made_from-push after os op rs reply at)
    ∙ (sym (append_assoc here rest (group_by (after + length rest) op reply))
    ∙ (ap (λ (l : List GroupPath). l ++ group_by (after + length rest) op reply) (sym whole)
    ∙ ap (λ n. made_from gid (o ∷ os) (r ∷ rs) ++ group_by n op reply) count)))

-- a group by its place
group_made-by : (script : PairScriptValue) (op : PairOp) (reply : Reply) (gid place : ℕ) → op_at script place ≡ Some op → map (group_made script) (made_by op reply gid place) ≡ group_by gid op reply
group_made-by script op reply gid place at = elim (cases_Bool (makes op reply)) [
  | inl is ↦ rw is (ap (λ o. record { gid = gid; path = path_made o } ∷ []) at)
  | inr is_not ↦ rw is_not refl
]

module _ (script : PairScriptValue) (all : List Reply) (i : ℕ) (op : PairOp) (at : op_at script i ≡ Some op) (made : List MadeGroup) (so_far : map (group_made script) made ≡ made_before script all i) where
  -- the next op is a command
  pub made_before-command : (reply : Reply) → is_command op ≡ true → slice_get all (epoch_at script i) ≡ Some reply → map (group_made script) (made ++ made_by op reply (length made + 1) i) ≡ made_before script all (i + 1)
  made_before-command reply command told =
      let before : List PairOp = commands_before script i in
      let count : length made + 1 ≡ 1 + length (made_before script all i) = (let len = ap (λ (l : List GroupPath). length l) so_far in let same = length-map made (group_made script) in omega (arith, len, same)) in
      map-append (group_made script) made (made_by op reply (length made + 1) i)
      ∙ (ap (λ (l : List GroupPath). l ++ map (group_made script) (made_by op reply (length made + 1) i)) so_far
      ∙ (ap (λ (l : List GroupPath). made_before script all i ++ l) (group_made-by script op reply (length made + 1) i at ∙ ap (λ n. group_by n op reply) count)
      ∙ (sym (made_from-push 1 before op all reply told) ∙ ap (λ (l : List PairOp). made_from 1 l all) (sym (filter-take_command script i op at command)))))

  -- it is a use
  pub made_before-use : is_command op ≡ false → map (group_made script) made ≡ made_before script all (i + 1)
  made_before-use use_of = so_far ∙ ap (λ (l : List PairOp). made_from 1 l all) (sym (filter-take_use script i op at use_of))

-- ---- the groups so far

-- what a command makes has the number that it was given
small-made_by : (op : PairOp) (reply : Reply) (gid place most : ℕ) → gid ≤ most → All (λ (m : MadeGroup). m.gid ≤ most) (made_by op reply gid place)
small-made_by op reply gid place most le = elim (cases_Bool (makes op reply)) [
  | inl is ↦ rw is (All-one (λ (m : MadeGroup). m.gid ≤ most) (record { gid = gid; place = place }) le)
  | inr is_not ↦ rw is_not (λ k d within. absurd (omega (arith, within)))
]

length-made_by : (op : PairOp) (reply : Reply) (gid place : ℕ) → length (made_by op reply gid place) ≤ 1
length-made_by op reply gid place = elim (cases_Bool (makes op reply)) [
  | inl is ↦ rw is (omega arith)
  | inr is_not ↦ rw is_not (omega arith)
]

module _ (script : PairScriptValue) (all : List Reply) (i k : ℕ) (op : PairOp) (at : op_at script i ≡ Some op) (made : List MadeGroup) (before : HasMade script all i k made) where
  -- the next op is a command
  pub HasMade-command : (reply : Reply) → is_command op ≡ true → slice_get all k ≡ Some reply → HasMade script all (i + 1) (k + 1) (made ++ made_by op reply (length made + 1) i)
  HasMade-command reply command told =
      let few = before.few in
      record {
        commands = ap (λ n. n + 1) before.commands ∙ sym (epoch_at-command script i op at command);
        groups = made_before-command script all i op at made before.groups reply command (subst (λ n. slice_get all n ≡ Some reply) before.commands told);
        few = (let both = length-append made (made_by op reply (length made + 1) i) in let one = length-made_by op reply (length made + 1) i in omega (arith, both, one, few));
        small = All-append (λ (m : MadeGroup). m.gid ≤ k + 1) made (made_by op reply (length made + 1) i) (λ n d within. let le = before.small n d within in omega (arith, le)) (small-made_by op reply (length made + 1) i (k + 1) (omega (arith, few)));
      }

  -- it is a use
  pub HasMade-use : is_command op ≡ false → HasMade script all (i + 1) k made
  HasMade-use use_of = record {
    commands = before.commands ∙ sym (epoch_at-use script i op at use_of);
    groups = made_before-use script all i op at made before.groups use_of;
    few = before.few;
    small = before.small;
  }
