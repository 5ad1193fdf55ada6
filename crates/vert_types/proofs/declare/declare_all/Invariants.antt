use Rattle.std.proofs.Common.{◌≡◌, map, length, drop}
use Rattle.vert_types.specs.Findings.{first_from}
use Rattle.vert_types.specs.Tables.{items_from, sort_of, table_after, twice_in, typed_decl}
use Rattle.vert_types.proofs.declare.declare_all.Given as goal

-- what is left to declare leaves what all of it does
abbrev pub invariant-loop-i : goal.invariant-loop-i
invariant-loop-i l = record {
  table : table_after l.meanings.items (items_from (sort_of l.sort) l.i (map typed_decl (drop l.i l.decls)))
      ≡ table_after l.initial.meanings.items (items_from (sort_of l.sort) 0 (map typed_decl l.decls));
  wide : length l.meanings.items ≡ length l.initial.meanings.items;
  faults : first_from l.found.first (twice_in l.meanings.items
      (items_from (sort_of l.sort) l.i (map typed_decl (drop l.i l.decls))))
      ≡ first_from l.initial.found.first (twice_in l.initial.meanings.items
      (items_from (sort_of l.sort) 0 (map typed_decl l.decls)));
}
