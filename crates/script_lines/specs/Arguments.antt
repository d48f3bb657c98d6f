-- The arguments of a line.
use Rattle.std.specs.Prelude.{◌≡◌, Bool, false, Result, Ok, Err, ℕ, ◌+◌, ◌-◌, ◌*◌, ◌^◌, ◌||◌, ◌==◌, nat_le, List, [], ◌∷◌, ◌++◌, Option, Some, None, if◌then◌else◌}
use Rattle.std.specs.Option.{option_and_then}
use Rattle.num_text.specs.Numbers.{dec_of, num_of, below, capped}
use Rattle.machine.specs.declared.parameters.Parameters.{Parameters}
use Rattle.script_lines.specs.declared.fault.LineError.{LineError}
use Rattle.script_lines.specs.declared.fault.LineError.TheVariants as errors
use Rattle.script_lines.specs.declared.fault.LineFault.TheVariants.{BadArgument}
use Rattle.script_lines.specs.declared.arguments.Use.{Use}
use Rattle.script_lines.specs.declared.arguments.Sweep.{Sweep}

-- a CPU of the machine
abbrev pub cpu_of : Parameters → List ℕ → Option ℕ
cpu_of m word = below m.cpus (dec_of word)

-- an address
abbrev pub addr_of : List ℕ → Option ℕ
addr_of word = below (2 ^ 48) (num_of word)

-- the words TASK CPU, and a place that is an address or an offset
unfoldable pub use_of : Parameters → List ℕ → List ℕ → Option ℕ → Option Use
use_of m task cpu place = option_and_then (λ t. option_and_then (λ c. option_and_then (λ at. Some (record { task = t; cpu = c; at = at })) place) (cpu_of m cpu)) (capped (dec_of task))

-- ADDR: an address alone
abbrev pub drop_line_of : List (List ℕ) → Option ℕ
drop_line_of (addr ∷ []) = addr_of addr
drop_line_of words = None

-- PATH OFFSET: the path, and the offset
unfoldable pub drop_region_of : List (List ℕ) → Option (List ℕ × ℕ)
drop_region_of (path ∷ offset ∷ []) = option_and_then (λ at. Some (path, at)) (below (2 ^ 64) (num_of offset))
drop_region_of words = None

-- whether the first word begins with a `/`
abbrev pub has_path : List (List ℕ) → Bool
has_path ((b ∷ bs) ∷ words) = b == 47
has_path words = false

-- the words TASK CPU ADDR
abbrev pub access_of : Parameters → List (List ℕ) → Option Use
access_of m (task ∷ cpu ∷ addr ∷ []) = use_of m task cpu (addr_of addr)
access_of m words = None

-- the words TASK CPU: the task and the CPU of a trace, at address 0
abbrev pub trace_of : Parameters → List (List ℕ) → Option Use
trace_of m (task ∷ cpu ∷ []) = use_of m task cpu (Some 0)
trace_of m words = None

-- an optional domain
abbrev pub flush_of : Parameters → List (List ℕ) → Option (Option ℕ)
flush_of m [] = Some None
flush_of m (word ∷ []) = option_and_then (λ d. Some (Some d)) (below m.domains (dec_of word))
flush_of m words = None

-- TASK CPU ADDR COUNT STRIDE: one access or more, and the last address is an address too
unfoldable pub sweep_of : Parameters → List (List ℕ) → Option Sweep
sweep_of m (task ∷ cpu ∷ addr ∷ count ∷ stride ∷ []) = option_and_then (λ (u : Use). option_and_then (λ n. option_and_then (λ d.
    if (n == 0) || nat_le (2 ^ 48) (u.at + (n - 1) * d) then None else Some (record { first = u; count = n; stride = d })) (below (2 ^ 64) (num_of stride))) (capped (dec_of count))) (use_of m task cpu (addr_of addr))
sweep_of m words = None

-- PATH OFFSET TASK CPU: the path, and the rest
unfoldable pub touch_of : Parameters → List (List ℕ) → Option (List ℕ × Use)
touch_of m (path ∷ offset ∷ task ∷ cpu ∷ []) = option_and_then (λ (u : Use). Some (path, u)) (use_of m task cpu (below (2 ^ 64) (num_of offset)))
touch_of m words = None

-- these numbers, and those of the words, each below 2 ^ 32
unfoldable pub order_from : List ℕ → List (List ℕ) → Option (List ℕ)
order_from numbers [] = Some numbers
order_from numbers (word ∷ words) = option_and_then (λ n. order_from (numbers ++ n ∷ []) words) (below (2 ^ 32) (dec_of word))

-- the numbers of an order, one or more
abbrev pub order_of : List (List ℕ) → Option (List ℕ)
order_of [] = None
order_of (word ∷ words) = order_from [] (word ∷ words)

-- the only word
abbrev pub only : List (List ℕ) → Option (List ℕ)
only (word ∷ []) = Some word
only words = None

-- the first word
abbrev pub first_of : List (List ℕ) → Option (List ℕ)
first_of [] = None
first_of (word ∷ words) = Some word

-- (For proofs.) After the call the numbers are this order, or memory ran out. BadArgument says that there is no order.
abbrev pub Orders : Result (Unit {0}) LineError → List ℕ → Option (List ℕ) → Type 0
Orders (Ok u) after order = order ≡ Some after
Orders (Err errors.NoMemory) after order = Unit {0}
Orders (Err (errors.Fault f)) after order = (f ≡ BadArgument) × (order ≡ None)
