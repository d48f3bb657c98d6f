-- One op more, or some, keep the counts of what was read.
use Rattle.std.proofs.Common.{◌≡◌, ℕ, ◌+◌, ◌≤◌, ◌%◌, Bool, true, false, not, cond, ◌&&◌, eqb, leb, ltb, List, [], ◌∷◌, ◌++◌, length, map, filter, IsSome, Option, Some, None, option_and_then, Ok, Err, IfOk, IfSome, refl, sym, ap, subst, ◌∙◌, arith, ltb-false}
use Rattle.std.proofs.lemmas.List.{length-append}
use Rattle.std.proofs.lemmas.List.Elements.{filter-append}
use Rattle.machine.specs.Ranges.{is_machine}
use Rattle.pair_text.specs.Values.{Machines, is_command}
use Rattle.pair_text.specs.declared.op.PairOp.{PairOp}
use Rattle.pair_text.specs.Kinds.{is_start, may_stand}
use Rattle.pair_text.specs.PairKeys.{l2_from, machine_from, machines_from, machines_of, no_pair_keys, pair_keys_from}
use Rattle.pair_text.specs.PairLines.{PairState, with_command, with_uses}
use Rattle.pair_text.specs.declared.fault.PairFault.TheVariants.{Line}
use Rattle.pair_text.specs.declared.kind.Kind.TheVariants as kinds
use Rattle.pair_text.specs.declared.kind.PairKind.{PairKind}
use Rattle.pair_text.specs.declared.kind.PairKind.TheVariants.{Cdp, Levels}
use Rattle.pair_text.specs.declared.kind.Place.{Place}
use Rattle.pair_text.specs.declared.kind.Place.TheVariants as places
use Rattle.pair_text.specs.declared.pair_keys.PairKeys.{PairKeys}
use Rattle.script_lines.specs.declared.fault.LineFault.TheVariants.{TooLarge}

-- the machines of a script of this kind, where the machine line was read
abbrev pub AreOfKind : PairKind → Bool → Machines → Type 0
AreOfKind Cdp start m = m.l2 ≡ None
AreOfKind Levels true m = Unit {0}
AreOfKind Levels false m = IsSome m.l2

-- what the lines so far keep to
pub record IsCounted (kind : PairKind) (s : PairState) : Type 0 where
  pub commands : length (filter is_command s.ops) ≤ s.commands
  pub ops : length s.ops ≤ s.commands + s.uses
  pub few_commands : s.commands ≤ 20000
  pub few_uses : s.uses ≤ 2000000
  pub machines : AreOfKind kind (is_start s.place) s.machines

-- ---- machines

AreOfKind-machines_from : (kind : PairKind) (k : PairKeys) → IfSome (machines_from kind k) (AreOfKind kind false)
unfolding machines_from
AreOfKind-machines_from Cdp k = at (is_machine (machine_from Cdp k) && leb 2 (machine_from Cdp k).classes)
  where
    at : (b : Bool) → IfSome (cond b (Some (record { machine = machine_from Cdp k; l2 = None })) None) (AreOfKind Cdp false)
    at true = refl
    at false = tt
AreOfKind-machines_from Levels k = at (is_machine (machine_from Levels k) && (is_machine (l2_from k) && eqb ((l2_from k).domains % (machine_from Levels k).domains) 0))
  where
    at : (b : Bool) → IfSome (cond b (Some (record { machine = machine_from Levels k; l2 = Some (l2_from k) })) None) (AreOfKind Levels false)
    at true = refl
    at false = tt

-- the machines of a machine line
pub AreOfKind-machines_of : (kind : PairKind) (ws : List (List ℕ)) (m : Machines) → machines_of kind ws ≡ Some m → AreOfKind kind false m
AreOfKind-machines_of kind ws m e = at (pair_keys_from kind no_pair_keys ws) e
  where
    at : (o : Option PairKeys) → option_and_then (machines_from kind) o ≡ Some m → AreOfKind kind false m
    at None e = absurd cc
    at (Some k) e = subst (λ (o : Option Machines). IfSome o (AreOfKind kind false)) e (AreOfKind-machines_from kind k)

-- behind the machine line
pub AreOfKind-begun : (kind : PairKind) (s : PairState) → is_start s.place ≡ false → IsCounted kind s → AreOfKind kind false s.machines
AreOfKind-begun kind s begun counted = subst (λ (b : Bool). AreOfKind kind b s.machines) begun counted.machines

pub begun-not : (p : Place) → not (is_start p) ≡ true → is_start p ≡ false
begun-not places.Start h = absurd cc
begun-not places.Head h = refl
begun-not places.Body h = refl
begun-not (places.Trace task cpu) h = refl

pub begun-tasks : (p : Place) → may_stand kinds.Tasks p ≡ true → is_start p ≡ false
begun-tasks places.Start h = absurd cc
begun-tasks places.Head h = refl
begun-tasks places.Body h = absurd cc
begun-tasks (places.Trace task cpu) h = absurd cc

-- ---- ops

-- one command more
pub IsCounted-with_command : (kind : PairKind) (s : PairState) (op : PairOp) → is_start s.place ≡ false → IsCounted kind s → IfOk (with_command s op) (IsCounted kind)
IsCounted-with_command kind s op begun counted = at (ltb 20000 (s.commands + 1)) refl
  where
    one : (b : Bool) → length (cond b (op ∷ []) []) ≤ 1
    one true = omega arith
    one false = omega arith

    at : (b : Bool) → ltb 20000 (s.commands + 1) ≡ b → IfOk (cond b (Err (Line TooLarge)) (Ok (record s { place = places.Body; ops = s.ops ++ op ∷ []; commands = s.commands + 1 }))) (IsCounted kind)
    at true e = tt
    at false e = record {
      commands = omega (arith, ap length (filter-append is_command s.ops (op ∷ [])), length-append (filter is_command s.ops) (filter is_command (op ∷ [])), one (is_command op), counted.commands);
      ops = omega (arith, length-append s.ops (op ∷ []), counted.ops);
      few_commands = ltb-false _ _ e;
      few_uses = counted.few_uses;
      machines = AreOfKind-begun kind s begun counted;
    }

-- no use is a command
pub no_commands : {A : Type 0} (f : A → PairOp) → ((a : A) → is_command (f a) ≡ false) → (xs : List A) → filter is_command (map f xs) ≡ []
no_commands f uses [] = refl
no_commands f uses (x ∷ xs) = ap (λ b. cond b (f x ∷ filter is_command (map f xs)) (filter is_command (map f xs))) (uses x) ∙ no_commands f uses xs

-- some uses more
pub IsCounted-with_uses : (kind : PairKind) (s : PairState) (count : ℕ) (uses : List PairOp) → IsCounted kind s → length uses ≡ count → filter is_command uses ≡ [] → IfOk (with_uses s count uses) (IsCounted kind)
IsCounted-with_uses kind s count uses counted many none = at (ltb 2000000 (s.uses + count)) refl
  where
    at : (b : Bool) → ltb 2000000 (s.uses + count) ≡ b → IfOk (cond b (Err (Line TooLarge)) (Ok (record s { ops = s.ops ++ uses; uses = s.uses + count }))) (IsCounted kind)
    at true e = tt
    at false e = record {
      commands = omega (arith, ap length (filter-append is_command s.ops uses), length-append (filter is_command s.ops) (filter is_command uses), ap length none, counted.commands);
      ops = omega (arith, length-append s.ops uses, many, counted.ops);
      few_commands = counted.few_commands;
      few_uses = ltb-false _ _ e;
      machines = counted.machines;
    }

-- the place changes behind the machine line
pub IsCounted-at : (kind : PairKind) (s : PairState) (place : Place) → is_start place ≡ false → is_start s.place ≡ false → IsCounted kind s → IsCounted kind (record s { place = place })
IsCounted-at kind s place late begun counted = record {
  commands = counted.commands;
  ops = counted.ops;
  few_commands = counted.few_commands;
  few_uses = counted.few_uses;
  machines = subst (λ (b : Bool). AreOfKind kind b s.machines) (sym late) (AreOfKind-begun kind s begun counted);
}
