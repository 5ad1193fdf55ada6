-- Parts of programs in memory, with the names of the reader that read them.
use Rattle.std.specs.Prelude.{List, map, option_map}
use Rattle.std.specs.declared.alloc.Global.{Global}
use Rattle.std.specs.declared.string.String.{String}
use Rattle.vert_tree.specs.declared.program.Program.{Program}
use Rattle.vert_tree.specs.Trees.{ProgramTree}
use Rattle.vert_tree.specs.Views.{view, view_block, view_declaration, view_dense, view_slot, view_sparse, view_total}
use Rattle.vert_grammar.specs.Reading.{DeclaredNames, Header, ProgramBlocks}
use Rattle.tree_reader.specs.declared.program.Head.{Head}
use Rattle.tree_reader.specs.declared.program.Declared.{Declared}
use Rattle.tree_reader.specs.declared.program.Blocks.{Blocks}
use Rattle.tree_reader.specs.declared.program.Later.{Later}
use Rattle.tree_reader.specs.Parts.{LaterBlocks}

abbrev pub view_head : Head → Header
view_head h = (h.version, ((h.mode_at, h.mode), (h.limit_at, h.limit)))

module _ (names : List (String Global)) where
  abbrev pub view_declared : Declared → DeclaredNames
  view_declared d = (
    map (view_declaration names) d.fields.items,
    (map (view_slot names) d.slots.items, map (view_total names) d.totals.items),
  )

  abbrev pub view_later : Later → LaterBlocks
  view_later b = (
    option_map (view_sparse names) b.sparse,
    (view_block names b.update.items, option_map (view names) b.stop),
  )

  abbrev pub view_blocks : Blocks → ProgramBlocks
  view_blocks b = (
    option_map (view_dense names) b.dense,
    (option_map (view_sparse names) b.sparse, (view_block names b.update.items, option_map (view names) b.stop)),
  )

  -- a program whose names have these texts
  abbrev pub view_named : Program → ProgramTree
  view_named p = record {
    version = p.version;
    mode = p.mode;
    mode_at = p.mode_at;
    limit = p.limit;
    limit_at = p.limit_at;
    fields = map (view_declaration names) p.fields.items;
    slots = map (view_slot names) p.slots.items;
    totals = map (view_total names) p.totals.items;
    start = view names p.start;
    dense = option_map (view_dense names) p.dense;
    sparse = option_map (view_sparse names) p.sparse;
    update = view_block names p.update.items;
    stop = option_map (view names) p.stop;
  }
