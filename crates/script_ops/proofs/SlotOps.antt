-- The ops in slots, while a command comes.
use Rattle.std.proofs.Common.{◌≡◌, ℕ, ◌+◌, ◌≤◌, Bool, true, false, cond, List, [], ◌∷◌, ◌++◌, length, length-append, slice_index_or, All, refl, ap, ◌∙◌, arith}
use Rattle.std.proofs.lemmas.List.{append-nil, get_or_append_left, get_or_at, map_push}
use Rattle.std.proofs.lemmas.List.Elements.{All-append, All-cons, All-nil, All-head, All-tail, filter-append}
use Rattle.std.specs.Prelude.{not}
use Rattle.script_ops.specs.declared.op.Op.{Op}
use Rattle.script_ops.specs.declared.op.Op.TheVariants as ops
use Rattle.script_ops.specs.declared.slot.Slot.{Slot}
use Rattle.script_ops.specs.declared.slot.Slot.TheVariants.{Access, Command}
use Rattle.script_ops.specs.Slots.{AreSlots, IsThere, commands_in, is_access, op_in, ops_in}

-- the op of a slot, with one command more
op_in-push : (commands : List Op) (c : Op) (s : Slot) → IsThere (length commands) s → op_in (commands ++ c ∷ []) s ≡ op_in commands s
op_in-push commands c (Access cpu task addr) h = refl
op_in-push commands c (Command k) h = get_or_append_left commands (c ∷ []) ops.Tick k h

-- the ops of slots, with one command more
pub ops_in-push : (commands : List Op) (c : Op) (slots : List Slot) → All (IsThere (length commands)) slots → ops_in (commands ++ c ∷ []) slots ≡ ops_in commands slots
ops_in-push commands c [] there = refl
ops_in-push commands c (s ∷ ss) there = rw (op_in-push commands c s (All-head (IsThere (length commands)) s ss there), ops_in-push commands c ss (All-tail (IsThere (length commands)) s ss there)) refl

-- the ops of slots and of a slot for the command that comes
pub ops_in-command : (commands : List Op) (c : Op) (slots : List Slot) → All (IsThere (length commands)) slots → ops_in (commands ++ c ∷ []) (slots ++ Command (length commands) ∷ []) ≡ ops_in commands slots ++ c ∷ []
ops_in-command commands c slots there =
    map_push (op_in (commands ++ c ∷ [])) slots (Command (length commands))
    ∙ ap (λ (op : Op). ops_in (commands ++ c ∷ []) slots ++ op ∷ []) (get_or_at commands c [] ops.Tick (length commands) refl)
    ∙ ap (λ (os : List Op). os ++ c ∷ []) (ops_in-push commands c slots there)

-- ---- the commands alone

-- an access more
commands_in-access : (ops : List Op) (op : Op) → is_access op ≡ true → commands_in (ops ++ op ∷ []) ≡ commands_in ops
commands_in-access ops op is = filter-append (λ (o : Op). not (is_access o)) ops (op ∷ []) ∙ ap (λ (b : Bool). commands_in ops ++ cond (not b) (op ∷ []) []) is ∙ append-nil (commands_in ops)

-- a command more
commands_in-command : (ops : List Op) (op : Op) → is_access op ≡ false → commands_in (ops ++ op ∷ []) ≡ commands_in ops ++ op ∷ []
commands_in-command ops op is = filter-append (λ (o : Op). not (is_access o)) ops (op ∷ []) ∙ ap (λ (b : Bool). commands_in ops ++ cond (not b) (op ∷ []) []) is

-- slots with an access more
pub AreSlots-access : (commands : List Op) (slots : List Slot) (cpu task addr : ℕ) → AreSlots commands slots → AreSlots commands (slots ++ Access cpu task addr ∷ [])
AreSlots-access commands slots cpu task addr are = record {
  there = All-append (IsThere (length commands)) slots (Access cpu task addr ∷ []) are.there (All-cons (IsThere (length commands)) (Access cpu task addr) [] tt (All-nil (IsThere (length commands))));
  apart = are.apart;
  once = ap commands_in (map_push (op_in commands) slots (Access cpu task addr)) ∙ commands_in-access (ops_in commands slots) (ops.Access task cpu addr) refl ∙ are.once;
}

-- a command that is one of so many is one of more
IsThere-more : (count more : ℕ) (s : Slot) → count ≤ more → IsThere count s → IsThere more s
IsThere-more count more (Access cpu task addr) le there = tt
IsThere-more count more (Command k) le there = omega (arith, le, there)

-- slots with a command more
pub AreSlots-command : (commands : List Op) (c : Op) (slots : List Slot) (n : ℕ) → n ≡ length commands → is_access c ≡ false → AreSlots commands slots → AreSlots (commands ++ c ∷ []) (slots ++ Command n ∷ [])
AreSlots-command commands c slots n last command are =
    let all : ℕ = length (commands ++ c ∷ []) in
    let one_more : all ≡ length commands + 1 = length-append commands (c ∷ []) in
    record {
      there = All-append (IsThere all) slots (Command n ∷ []) (λ k d within. IsThere-more (length commands) all (slice_index_or slots k d) (omega (arith, one_more)) (are.there k d within))
          (All-cons (IsThere all) (Command n) [] (omega (arith, one_more, last)) (All-nil (IsThere all)));
      apart = All-append (λ op. is_access op ≡ false) commands (c ∷ []) are.apart (All-cons (λ op. is_access op ≡ false) c [] command (All-nil (λ op. is_access op ≡ false)));
      once =
          ap (λ m. commands_in (ops_in (commands ++ c ∷ []) (slots ++ Command m ∷ []))) last
          ∙ ap commands_in (ops_in-command commands c slots are.there)
          ∙ commands_in-command (ops_in commands slots) c command
          ∙ ap (λ (cs : List Op). cs ++ c ∷ []) are.once;
    }
