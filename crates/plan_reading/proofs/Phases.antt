-- A phase of writes after the lines of a script.
use Rattle.std.proofs.Common.{◌≡◌, ℕ, ◌+◌, ◌<◌, ◌≤◌, false, List, [], ◌∷◌, ◌++◌, length, map, Ok, refl, sym, ap, subst, ◌∙◌, arith, append_assoc}
use Rattle.std.specs.Prelude.{codes}
use Rattle.std.specs.List.{AllByRecursion, flat_map}
use Rattle.std.specs.Str.Lines.{lines}
use Rattle.std.proofs.lemmas.Bool.{le-ltb, lt-leb}
use Rattle.std.proofs.lemmas.List.{append-nil}
use Rattle.std.proofs.lemmas.List.Sums.{sum_by-cons}
use Rattle.rc_base.specs.Texts.{is_text}
use Rattle.script_ops.specs.Canonical.{op_text}
use Rattle.script_ops.specs.Values.{PhaseValue, ScriptValue, total_weight}
use Rattle.script_ops.specs.Weights.{weight_of, weights_of}
use Rattle.script_ops.specs.declared.limits.TheConstants.{MOST_PHASES, MOST_WEIGHT}
use Rattle.script_ops.specs.declared.op.Op.{Op}
use Rattle.script_text.specs.Kinds.{kind_of, part_kind}
use Rattle.script_text.specs.Meaning.{line_meaning, means, with_op, word_means}
use Rattle.script_text.specs.Reading.{nothing_read, reading_from, script_in, script_of}
use Rattle.script_text.specs.States.{ReaderState, close_phase, is_start}
use Rattle.script_text.specs.declared.kind.LinePosition.TheVariants as places
use Rattle.plan_reading.proofs.Meanings.{AllGood-script_of, AreRead-script_of, meaning_of, meaning_of-append, meaning_of-cons, reading_from-meaning_of}
use Rattle.plan_reading.proofs.Places.{may_stand-phase}
use Rattle.plan_reading.proofs.Tallies.{IsShut}
use Rattle.plan_reading.proofs.laws.TextLines.{lines-cons, lines-whole_lines}
use Rattle.plan_reading.proofs.laws.WriteLines.{IsGoodLine-group_write, line_meaning-group_write}
use Rattle.plan_reading.specs.GroupWrites.{IsGroupDir, IsGroupWrite, IsMadeDir}
use Rattle.plan_reading.specs.ReadBack.{HasRoom, PhasesReadBack, op_line, phase_text, whole_lines, with_phase}
use Rattle.plan_reading.proofs.ReadScripts.{IsShut-script_of, AllNamed-script_of}

-- the lines of a phase, whose one thread has these ops
abbrev phase_lines : List (List ℕ) → List Op → List (List ℕ)
phase_lines names writes = codes "phase" ∷ codes "thread" ∷ map (op_text names) writes

-- the lines of its text
lines-writes : (names : List (List ℕ)) (writes : List Op) → AllByRecursion (IsGroupWrite (IsGroupDir names)) writes → lines (flat_map (op_line names) writes) ≡ map (op_text names) writes
lines-writes names [] all = refl
lines-writes names (op ∷ writes) all =
    let good = IsGoodLine-group_write names op all.0 in
    ap lines (append_assoc (op_text names op) (10 ∷ []) (flat_map (op_line names) writes))
    ∙ lines-cons (op_text names op) (flat_map (op_line names) writes) good.0 good.1
    ∙ ap (λ (rest : List (List ℕ)). op_text names op ∷ rest) (lines-writes names writes all.1)

lines-phase_text : (names : List (List ℕ)) (writes : List Op) → AllByRecursion (IsGroupWrite (IsGroupDir names)) writes → lines (phase_text names writes) ≡ phase_lines names writes
lines-phase_text names writes all =
    lines-cons (codes "phase") (codes "thread" ++ 10 ∷ flat_map (op_line names) writes) (omega arith) refl
    ∙ ap (λ (rest : List (List ℕ)). codes "phase" ∷ rest) (lines-cons (codes "thread") (flat_map (op_line names) writes) (omega arith) refl
    ∙ ap (λ (rest : List (List ℕ)). codes "thread" ∷ rest) (lines-writes names writes all))

-- the line `phase`
line_meaning-phase : (s : ReaderState) → is_start s.place ≡ false → length (close_phase s).phases < MOST_PHASES → line_meaning s (codes "phase") ≡ Ok (record (close_phase s) { place = places.Opened })
unfolding line_meaning word_means kind_of part_kind is_text means
line_meaning-phase s begun few = rw (begun, may_stand-phase s.place begun, lt-leb MOST_PHASES (length (close_phase s).phases) few) refl

-- the line `thread` after it
line_meaning-thread : (s : ReaderState) → s.threads ≡ [] → line_meaning (record s { place = places.Opened }) (codes "thread") ≡ Ok (record s { place = places.Thread })
unfolding line_meaning word_means kind_of part_kind is_text means
line_meaning-thread s none = rw none refl

-- an op that is not too heavy
with_op-light : (s : ReaderState) (op : Op) → s.weight + weight_of s.machine op ≤ MOST_WEIGHT → with_op s op ≡ Ok (record s { ops = s.ops ++ op ∷ []; weight = s.weight + weight_of s.machine op })
with_op-light s op light = rw (le-ltb MOST_WEIGHT (s.weight + weight_of s.machine op) light) refl

-- a state with these ops and this weight
abbrev grown : ReaderState → List Op → ℕ → ReaderState
grown s ops weight = record s { ops = ops; weight = weight }

-- the lines of writes
meaning_of-writes : (writes : List Op) (s : ReaderState) → s.place ≡ places.Thread → AllByRecursion (IsGroupWrite (IsGroupDir s.names)) writes → s.weight + weights_of s.machine writes ≤ MOST_WEIGHT
    → meaning_of s (map (op_text s.names) writes) ≡ Ok (grown s (s.ops ++ writes) (s.weight + weights_of s.machine writes))
meaning_of-writes [] s thread all light =
    let weight : s.weight ≡ s.weight + weights_of s.machine [] = omega arith in
    ap (λ (o : List Op). Ok (grown s o s.weight)) (sym (append-nil s.ops)) ∙ ap (λ (w : ℕ). Ok (grown s (s.ops ++ []) w)) weight
meaning_of-writes (op ∷ more) s thread all light =
    let sum : weights_of s.machine (op ∷ more) ≡ weight_of s.machine op + weights_of s.machine more = sum_by-cons (weight_of s.machine) op more in
    let first : s.weight + weight_of s.machine op ≤ MOST_WEIGHT = omega (arith, sum, light) in
    let rest : s.weight + weight_of s.machine op + weights_of s.machine more ≤ MOST_WEIGHT = omega (arith, sum, light) in
    let next = grown s (s.ops ++ op ∷ []) (s.weight + weight_of s.machine op) in
    let weight : s.weight + weight_of s.machine op + weights_of s.machine more ≡ s.weight + weights_of s.machine (op ∷ more) = omega (arith, sum) in
    meaning_of-cons s next (op_text s.names op) (map (op_text s.names) more) (line_meaning-group_write s op thread all.0 ∙ with_op-light s op first)
    ∙ meaning_of-writes more next thread all.1 rest
    ∙ ap (λ (o : List Op). Ok (grown s o (s.weight + weight_of s.machine op + weights_of s.machine more))) (append_assoc s.ops (op ∷ []) more)
    ∙ ap (λ (w : ℕ). Ok (grown s (s.ops ++ op ∷ more) w)) weight

module _ (s : ReaderState) (writes : List Op) where
  -- the state in the thread, once the writes are there
  abbrev written : ReaderState
  written = record (close_phase s) { place = places.Thread; ops = (close_phase s).ops ++ writes; weight = (close_phase s).weight + weights_of (close_phase s).machine writes }

  -- the lines of the phase
  meaning_of-phase : is_start s.place ≡ false → IsShut (close_phase s) → length (close_phase s).phases < MOST_PHASES → AllByRecursion (IsGroupWrite (IsGroupDir (close_phase s).names)) writes
      → (close_phase s).weight + weights_of (close_phase s).machine writes ≤ MOST_WEIGHT → meaning_of s (phase_lines (close_phase s).names writes) ≡ Ok written
  meaning_of-phase begun shut few all light =
      let c = close_phase s in
      meaning_of-cons s (record c { place = places.Opened }) (codes "phase") (codes "thread" ∷ map (op_text c.names) writes) (line_meaning-phase s begun few)
      ∙ meaning_of-cons (record c { place = places.Opened }) (record c { place = places.Thread }) (codes "thread") (map (op_text c.names) writes) (line_meaning-thread c shut.no_threads)
      ∙ meaning_of-writes writes (record c { place = places.Thread }) refl all light

  -- the script that is closed then
  script_in-written : IsShut (close_phase s) → script_in (close_phase written) ≡ with_phase (script_in (close_phase s)) writes
  script_in-written shut =
      let c = close_phase s in
      ap (λ (p : PhaseValue). record (script_in c) { phases = c.phases ++ p ∷ [] })
      (ap (λ (o : List ℕ). record { order = o; threads = c.threads ++ (c.ops ++ writes) ∷ [] }) shut.no_order
      ∙ ap (λ (ts : List (List Op)). record { order = []; threads = ts ++ (c.ops ++ writes) ∷ [] }) shut.no_threads
      ∙ ap (λ (xs : List Op). record { order = []; threads = (xs ++ writes) ∷ [] }) shut.no_ops)

-- ---- the whole

-- a text with the lines of a script and then those of the phase
script_of-lines : (text longer : List ℕ) (script : ScriptValue) (writes : List Op) → script_of text ≡ Ok script → AllByRecursion (IsGroupWrite (IsMadeDir script)) writes → HasRoom script writes
    → lines longer ≡ lines text ++ phase_lines script.names writes → script_of longer ≡ Ok (with_phase script writes)
script_of-lines text longer script writes reads all room same =
    let read = AreRead-script_of text script reads in
    let s = read.last in
    let c = close_phase s in
    let shut = IsShut-script_of text script read in
    let names : script.names ≡ c.names = ap (λ (v : ScriptValue). v.names) read.is in
    let writes_named : AllByRecursion (IsGroupWrite (IsGroupDir c.names)) writes = subst (λ (ns : List (List ℕ)). AllByRecursion (IsGroupWrite (IsGroupDir ns)) writes) names (AllNamed-script_of text script writes reads all) in
    let few : length c.phases < MOST_PHASES = subst (λ (v : ScriptValue). length v.phases < MOST_PHASES) read.is room.phases in
    let heavy : total_weight (script_in c) + weights_of c.machine writes ≤ MOST_WEIGHT = subst (λ (v : ScriptValue). total_weight v + weights_of v.machine writes ≤ MOST_WEIGHT) read.is room.weight in
    let light : c.weight + weights_of c.machine writes ≤ MOST_WEIGHT = subst (λ (n : ℕ). n + weights_of c.machine writes ≤ MOST_WEIGHT) shut.weight heavy in
    let after : meaning_of nothing_read (lines text ++ phase_lines script.names writes) ≡ Ok (written s writes) =
    meaning_of-append (lines text) (phase_lines script.names writes) nothing_read s read.meaning
    ∙ ap (λ (ns : List (List ℕ)). meaning_of s (phase_lines ns writes)) names
    ∙ meaning_of-phase s writes read.begun shut few writes_named light in
    ap (reading_from 0 nothing_read) same
    ∙ reading_from-meaning_of (lines text ++ phase_lines script.names writes) 0 nothing_read (written s writes) after refl
    ∙ ap Ok (script_in-written s writes shut ∙ ap (λ (v : ScriptValue). with_phase v writes) (sym read.is))

-- a script is no empty text
some-script_of : (text : List ℕ) (script : ScriptValue) → script_of text ≡ Ok script → 0 < length text
unfolding reading_from
some-script_of [] script reads = absurd cc
some-script_of (b ∷ bs) script reads = omega arith

pub phases_back : PhasesReadBack
phases_back text script writes reads all room =
    script_of-lines text (whole_lines text ++ phase_text script.names writes) script writes reads all room
    (lines-whole_lines text (phase_text script.names writes) (some-script_of text script reads) (AllGood-script_of text script reads)
    ∙ ap (λ (rest : List (List ℕ)). lines text ++ rest) (lines-phase_text script.names writes (AllNamed-script_of text script writes reads all)))
