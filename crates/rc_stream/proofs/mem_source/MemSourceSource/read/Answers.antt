use Rattle.std.proofs.Common.{◌≡◌, ◌≤◌, List, ℕ, drop, take, length, ◌+◌, ◌++◌, arith, sym, ◌∙◌, ap}
use Rattle.std.proofs.lemmas.List.{take-append-drop, drop-drop, take-append-le, length-drop, length-take, length-append, drop_all, take_all, drop-take}
use Rattle.std.proofs.lemmas.Grind.{common_steps}
use Rattle.rc_stream.proofs.mem_source.MemSourceSource.read.Goals as goal

-- the bytes that were given stand in front of those that are left
given_then_left : (bytes given rest : List ℕ) (at n : ℕ) → at + n ≤ length bytes → given ≡ take n (drop at bytes)
    → drop at bytes ≡ take n (given ++ rest) ++ drop (at + n) bytes
given_then_left bytes given rest at n fits is =
    let len : n ≤ length given = rw is (omega (arith, length-take n (drop at bytes), length-drop at bytes)) in
    let all : take n given ≡ given = take_all n given (rw is (omega (arith, length-take n (drop at bytes), length-drop at bytes))) in
    rw (take-append-le n given rest len, all, is, ← drop-drop n at bytes) (sym (take-append-drop n (drop at bytes)))

pub returns-clause-bytes : goal.returns-clause-bytes
returns-clause-bytes c =
    let bytes = c.self.inside.bytes.items in
    let at = c.self.inside.at in
    let n = c.min-count.result in
    let given : c.copy_from_slice.new.self ≡ take n (drop at bytes) = grind (arith, common_steps, drop-take at n bytes) in
    let fits : at + n ≤ length bytes = omega arith in (
      ap (λ v. v.left) (sym c.self.view_is) ∙ given_then_left bytes c.copy_from_slice.new.self (drop n c.args.into.now) at n fits given,
      λ zero room. let short : length bytes ≤ at + n = omega (arith, room, length-append c.copy_from_slice.new.self (drop n c.args.into.now), length-drop n c.args.into.now, ap length given, length-take n (drop at bytes), length-drop at bytes) in drop_all (at + n) bytes short,
    )
