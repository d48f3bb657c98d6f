-- Beginnings of a trace.
use Rattle.std.specs.Prelude.{◌≡◌, ℕ, List, [], ◌∷◌, ◌++◌, IsOk}
use Rattle.way_curve.specs.TraceTexts.{trace_of}

-- No line of these bytes that has ended is bad: each beginning of them that ends with a newline is a trace.
abbrev pub HasNoBadLine : List ℕ → Type 0
HasNoBadLine bytes = (ended rest : List ℕ) → bytes ≡ ended ++ 10 ∷ rest → IsOk (trace_of (ended ++ 10 ∷ []))
