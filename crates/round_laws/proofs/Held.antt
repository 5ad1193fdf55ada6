-- What stays of the messages held where one more is put among them.
use Rattle.std.proofs.Common.{◌≡◌, false, List, ap, ◌∙◌, Some}
use Rattle.std.specs.Prelude.{if◌then◌else◌}
use Rattle.vert_base.specs.declared.message.Name.{Name}
use Rattle.vert_base.specs.Letters.{Letter, found, placed}
use Rattle.vert_base.specs.Names.{same_name}
use Rattle.vert_base.proofs.LetterLaws.{placed_law}

-- under another name stands what stood there
pub still_found : (l : Letter) (held : List Letter) (x : Name) → same_name l.name x ≡ false →
    found x (placed l held) ≡ found x held
still_found l held x other = placed_law l held x ∙ ap (λ b. if b then Some l else found x held) other
