use Rattle.std.proofs.Common.{◌≡◌, ◌+◌, [], ◌∷◌, ◌++◌, length, length-append, arith}
use Rattle.std.proofs.lemmas.Grind.{common_steps}
use Rattle.path_names.proofs.NameTexts.{names_from-push, EndsRise-push}
use Rattle.path_names.proofs.name_list.NameList.push.Goals as goal

bytes_after : (c : goal.After-push) → c.extend_from_slice.new.self.items ≡ c.args.self.now.bytes.items ++ c.args.name.now
bytes_after c = grind (arith, common_steps)

ends_after : (c : goal.After-push) → c.push.new.self.items ≡ c.args.self.now.ends.items ++ (length c.args.self.now.bytes.items + length c.args.name.now) ∷ []
ends_after c =
    let bytes = bytes_after c in
    let len = c.extend_from_slice.new.self.ok.0 in
    grind (arith, common_steps, length-append c.args.self.now.bytes.items c.args.name.now)

pub invariant_of-self : goal.invariant_of-self
invariant_of-self c =
    let len : length c.extend_from_slice.new.self.items ≡ length c.args.self.now.bytes.items + length c.args.name.now = rw (bytes_after c) (length-append c.args.self.now.bytes.items c.args.name.now) in
    record { rising = rw (ends_after c, len) (EndsRise-push 0 c.args.self.now.ends.items (length c.args.self.now.bytes.items) (length c.args.name.now) c.args.self.now.rising) }

pub returns : goal.returns
returns c =
    let bytes : c.extend_from_slice.new.self.items ≡ c.args.self.now.bytes.items ++ c.args.name.now = grind (arith, common_steps) in
    let len = c.extend_from_slice.new.self.ok.0 in
    let ends : c.push.new.self.items ≡ c.args.self.now.ends.items ++ (length c.args.self.now.bytes.items + length c.args.name.now) ∷ [] = grind (arith, common_steps, length-append c.args.self.now.bytes.items c.args.name.now) in
    rw (bytes, ends) (names_from-push 0 c.args.self.now.bytes.items c.args.name.now c.args.self.now.ends.items c.args.self.now.rising)
