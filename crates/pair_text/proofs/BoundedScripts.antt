-- A script has no more commands and uses than the most, and machines of its kind.
use Rattle.std.proofs.Common.{◌≡◌, ℕ, ◌+◌, false, List, [], ◌∷◌, Result, Ok, Err, IfOk, refl, ap, subst, arith}
use Rattle.std.specs.Str.Lines.{lines}
use Rattle.pair_text.specs.Values.{PairScriptValue}
use Rattle.pair_text.specs.Kinds.{is_start}
use Rattle.pair_text.specs.PairLaws.{HasKind, IsWithinLimits}
use Rattle.pair_text.specs.PairLines.{PairState, line_meaning}
use Rattle.pair_text.specs.PairReading.{PairFaultAt, after_line, finished, finished_at, nothing_read, pair_script_of, reading_from, script_in}
use Rattle.pair_text.specs.declared.fault.PairFault.{PairFault}
use Rattle.pair_text.specs.declared.kind.PairKind.{PairKind}
use Rattle.pair_text.specs.declared.kind.PairKind.TheVariants.{Cdp, Levels}
use Rattle.pair_text.specs.declared.kind.Place.{Place}
use Rattle.pair_text.specs.declared.kind.Place.TheVariants as places
use Rattle.pair_text.proofs.CountedLines.{IsCounted-line_meaning}
use Rattle.pair_text.proofs.CountedOps.{AreOfKind, IsCounted, AreOfKind-begun}

-- before the first line
IsCounted-nothing_read : (kind : PairKind) → IsCounted kind nothing_read
IsCounted-nothing_read Cdp = record { commands = omega arith; ops = omega arith; few_commands = omega arith; few_uses = omega arith; machines = refl }
IsCounted-nothing_read Levels = record { commands = omega arith; ops = omega arith; few_commands = omega arith; few_uses = omega arith; machines = tt }

-- what is said of a script
pub record IsBounded (kind : PairKind) (script : PairScriptValue) : Type 0 where
  pub limits : IsWithinLimits script
  pub has_kind : HasKind kind script

HasKind-of : (kind : PairKind) (s : PairState) → AreOfKind kind false s.machines → HasKind kind (script_in s)
HasKind-of Cdp s h = h
HasKind-of Levels s h = h

IsBounded-script_in : (kind : PairKind) (s : PairState) → is_start s.place ≡ false → IsCounted kind s → IsBounded kind (script_in s)
IsBounded-script_in kind s begun counted = record {
  limits = record { commands = omega (arith, counted.commands, counted.few_commands); ops = omega (arith, counted.ops, counted.few_commands, counted.few_uses) };
  has_kind = HasKind-of kind s (AreOfKind-begun kind s begun counted);
}

IsBounded-finished : (kind : PairKind) (n : ℕ) (s : PairState) → IsCounted kind s → IfOk (finished n s) (IsBounded kind)
IsBounded-finished kind n s counted = at s.place refl
  where
    at : (p : Place) → s.place ≡ p → IfOk (finished_at n p s) (IsBounded kind)
    at places.Start e = tt
    at places.Head e = IsBounded-script_in kind s (ap is_start e) counted
    at places.Body e = IsBounded-script_in kind s (ap is_start e) counted
    at (places.Trace task cpu) e = tt

IsBounded-reading_from : (kind : PairKind) (n : ℕ) (s : PairState) (all : List (List ℕ)) → IsCounted kind s → IfOk (reading_from kind n s all) (IsBounded kind)
unfolding reading_from
IsBounded-reading_from kind n s [] counted = IsBounded-finished kind n s counted
IsBounded-reading_from kind n s (line ∷ all) counted = at (λ s' h. IsBounded-reading_from kind (n + 1) s' all h) (line_meaning kind s line) (IsCounted-line_meaning kind s line counted)
  where
    at : ((s' : PairState) → IsCounted kind s' → IfOk (reading_from kind (n + 1) s' all) (IsBounded kind)) → (r : Result PairState PairFault) → IfOk r (IsCounted kind) → IfOk (after_line (n + 1) r (λ s'. reading_from kind (n + 1) s' all)) (IsBounded kind)
    at rec (Ok s') h = rec s' h
    at rec (Err e) h = tt

-- each script
pub IsBounded-of : (kind : PairKind) (text : List ℕ) (script : PairScriptValue) → pair_script_of kind text ≡ Ok script → IsBounded kind script
IsBounded-of kind text script e = subst (λ (r : Result PairScriptValue PairFaultAt). IfOk r (IsBounded kind)) e (IsBounded-reading_from kind 0 nothing_read (lines text) (IsCounted-nothing_read kind))
