-- The text of the program that the demonstration runs: breadth first search.
use Rattle.std.specs.Prelude.{ℕ, List, ◌++◌, codes}

unfoldable pub demo_text : List ℕ
demo_text =
    codes "vertex 1;\n"
    ++ codes "mode auto;\n"
    ++ codes "limit 100;\n"
    ++ codes "field dist: int = id == 0 ? 0 : -1;\n"
    ++ codes "field parent: int = -1;\n"
    ++ codes "slot claim: first;\n"
    ++ codes "start id == 0;\n"
    ++ codes "dense when dist < 0 {\n"
    ++ codes "  for u {\n"
    ++ codes "    if u.active { emit claim u.id; break; }\n"
    ++ codes "  }\n"
    ++ codes "}\n"
    ++ codes "sparse when true {\n"
    ++ codes "  send from: int = id;\n"
    ++ codes "  if dist < 0 { emit claim from; }\n"
    ++ codes "}\n"
    ++ codes "update {\n"
    ++ codes "  if claim.got { dist = round; parent = claim.value; active = true; }\n"
    ++ codes "}\n"
