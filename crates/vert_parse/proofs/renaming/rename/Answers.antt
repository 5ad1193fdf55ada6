use Rattle.std.proofs.Common.{◌≡◌, refl, sym, ◌∙◌}
use Rattle.vert_tree.specs.Views.{text_of}
use Rattle.vert_parse.proofs.Renames.{found_text, not_lost}
use Rattle.vert_parse.proofs.renaming.rename.Goals as goal

pub returns-in-Some-clause-same : goal.returns-in-Some-clause-same
returns-in-Some-clause-same c =
    let e : text_of c.args.used.now.keys c.in-Some.place ≡ text_of c.args.names.now c.args.name.now.name =
    found_text c.args.used.now.keys c.text_of-text.result.now c.in-Some.place (sym c.get_index_of.ensures.index
    ∙ c.in-Some.is) ∙ c.text_of-text.ensures in
    rw e refl

pub returns-in_default-clause-same : goal.returns-in_default-clause-same
returns-in_default-clause-same c =
    absurd (not_lost c.args.used.now.keys c.text_of-text.result.now c.get_index_of.result
    (rw c.text_of-text.ensures c.requires.place) c.get_index_of.ensures.found c.in_default.is)
