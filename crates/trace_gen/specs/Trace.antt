-- The text of the trace of a number.
use Rattle.std.specs.Prelude.{ℕ, ◌+◌, ◌-◌, ◌*◌, ◌%◌, ◌^◌, List, [], ◌∷◌, ◌++◌, map, codes, decimal}
use Rattle.std.specs.List.{flat_map, join_with_byte, range_with_len}
use Rattle.trace_gen.specs.Draws.{draws_from}

-- the machine
abbrev pub machine_line : List ℕ
machine_line = codes "machine domains=2 sets=256 ways=16 classes=4 rmids=8 cpus=8"

-- its tasks, a first phase whose one thread makes two groups, and the second phase
abbrev pub group_lines : List (List ℕ)
group_lines =
    codes "tasks 1-4"
    ∷ codes "phase"
    ∷ codes "thread"
    ∷ codes "write /schemata L3:0=ff00;1=ff00"
    ∷ codes "mkdir /g1"
    ∷ codes "write /g1/schemata L3:0=000f;1=000f"
    ∷ codes "write /g1/mode exclusive"
    ∷ codes "mkdir /g2"
    ∷ codes "write /g2/schemata L3:0=00f0;1=00f0"
    ∷ codes "write /g1/tasks 1,3"
    ∷ codes "write /g2/tasks 2,4"
    ∷ codes "flush"
    ∷ codes "phase"
    ∷ []

-- the lines that every trace begins with
abbrev pub opening_lines : List (List ℕ)
opening_lines = machine_line ∷ group_lines

-- words with one space between
abbrev pub spaced : List (List ℕ) → List ℕ
spaced words = join_with_byte 32 words

-- the number of an order that a draw gives
abbrev pub order_number : ℕ → ℕ
order_number draw = 1 + draw % 4

-- the line of an order
abbrev pub order_line : List ℕ → List ℕ
order_line draws = spaced (codes "order" ∷ map (λ draw. decimal (order_number draw)) draws)

-- the CPU of a task
abbrev pub cpu_of : ℕ → ℕ
cpu_of task = 2 * (task - 1)

-- the address that a draw gives a task: that of one of 4,096 lines of its own
abbrev pub address : ℕ → ℕ → ℕ
address task draw = task * 2 ^ 30 + draw % 4096 * 64

-- the access that a draw gives a task
abbrev pub access_line : ℕ → ℕ → List ℕ
access_line task draw = spaced (codes "access" ∷ decimal task ∷ decimal (cpu_of task) ∷ decimal (address task draw) ∷ [])

-- the lines of a thread of a task
abbrev pub thread_lines : ℕ → List ℕ → List (List ℕ)
thread_lines task draws = codes "thread" ∷ map (access_line task) draws

-- the draws of the order: the first n
abbrev pub order_draws : ℕ → List ℕ
order_draws n = draws_from n 1 n

-- the draws of a task: the n after those of the order and of the tasks before it
abbrev pub task_draws : ℕ → ℕ → List ℕ
task_draws n task = draws_from n (task * n + 1) n

-- all lines: the second phase has an order, and a thread of each of the tasks 1 to 4
abbrev pub trace_lines : ℕ → List (List ℕ)
trace_lines n = opening_lines ++ order_line (order_draws n) ∷ flat_map (λ task. thread_lines task (task_draws n task)) (range_with_len 1 4)

-- a line with its newline
abbrev pub ended : List ℕ → List ℕ
ended line = line ++ 10 ∷ []

-- lines, each with its newline
abbrev pub text_of : List (List ℕ) → List ℕ
text_of lines = flat_map ended lines

-- the trace of a number
unfoldable pub trace_text : ℕ → List ℕ
trace_text n = text_of (trace_lines n)
