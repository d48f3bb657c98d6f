-- The list of a command that noted a number more.
use Rattle.std.proofs.Common.{ℕ, ◌+◌, List, [], ◌∷◌, ◌++◌, sym, ap, ◌∙◌, subst, arith}
use Rattle.std.proofs.lemmas.List.{length_push, same_from_push}
use Rattle.rc_base.specs.Buffers.{Looks as LooksValue}
use Rattle.run_law.specs.LookLists.{AreReady, HasNoted}
use Rattle.script_ops.specs.Values.{ScriptValue}
use Rattle.step_world.specs.Worlds.{HasList, rooms_from}

-- the list of a command with a number more
pub list-noted : (script : ScriptValue) (t n : ℕ) (numbers : List ℕ) (lines : ℕ) (lists now : List LooksValue) → HasList script t n numbers lists → HasNoted lines lists now → HasList script t n (numbers ++ lines ∷ []) now
list-noted script t n numbers lines lists now has (front, last, after, was, is, more, spare) =
    let (fronts, lasts) = same_from_push front has.front last has.last (sym was ∙ has.is) in
    record {
      front = front;
      last = after;
      is = is;
      numbers_are = more ∙ ap (λ ns. ns ++ lines ∷ []) (ap (λ (l : LooksValue). l.numbers) lasts ∙ has.numbers_are);
      room = λ op there. omega (arith, has.room op there, length_push numbers lines, spare, ap (λ (l : LooksValue). l.spare) lasts);
      ready = subst (λ ls. AreReady (rooms_from script t (n + 1)) ls) (sym fronts) has.ready;
    }
