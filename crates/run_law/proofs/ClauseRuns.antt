-- A run is what meets all clauses.
use Rattle.run_law.specs.Clauses.{RunsByClauses}

pub run_by_clauses : RunsByClauses
run_by_clauses script j slices = (
  λ run. record {
    commands_once = run.in_order.commands_once;
    tree_legal = run.tree_legal;
    slices_legal = run.slices_legal;
    accesses_true = run.entries_true.accesses;
    others_true = run.entries_true.others;
    after_commands = λ i p q k e earlier command here there taken some made before apart. run.entries_true.after_commands i p q k e earlier command here there taken made before apart;
    looks_matched = run.looks_matched;
    entries_once = record { each = run.in_order.entries_once; no_others = run.in_order.no_others };
    marks = run.in_order.marks;
    entries_in_order = run.in_order.entries_in_order;
  },
  λ all. record {
    all_slices = slices;
    tree_legal = all.tree_legal;
    slices_legal = all.slices_legal;
    entries_true = record {
      accesses = all.accesses_true;
      others = all.others_true;
      after_commands = λ i p q k e earlier command here there taken made before apart. all.after_commands i p q k e earlier command here there taken (all.entries_once.no_others i p e here) made before apart;
    };
    looks_matched = all.looks_matched;
    in_order = record {
      commands_once = all.commands_once;
      entries_once = all.entries_once.each;
      no_others = all.entries_once.no_others;
      marks = all.marks;
      entries_in_order = all.entries_in_order;
    };
  },
)
