-- What a command sees of the outside: a shelf of files, a sink, and an input.
use Rattle.std.specs.Prelude.{ℕ, List, Option}
use Rattle.outside.specs.Files.{File}

-- the files of a shelf, where it tells them, and how many loads and stores failed
pub record Kept : Type 0 where
  pub files : Option (List File)
  pub loads : ℕ
  pub stores : ℕ

-- the bytes of a sink, where it tells them, how many puts failed, and how many bytes it is sure to take
pub record Held : Type 0 where
  pub bytes : Option (List ℕ)
  pub faults : ℕ
  pub spare : ℕ

-- the bytes left of an input, where it tells them, and how many takes failed
pub record Left : Type 0 where
  pub bytes : Option (List ℕ)
  pub faults : ℕ

pub record Outside : Type 0 where
  pub shelf : Kept
  pub out : Held
  pub input : Left

-- ---- the states of a program's values, by the ghost members of their types

abbrev pub shelf_state : {H : Type 0} → (H → Option (List File)) → (H → ℕ) → (H → ℕ) → H → Kept
shelf_state files loads stores shelf =
    record { files = files shelf; loads = loads shelf; stores = stores shelf }

abbrev pub sink_state : {O : Type 0} → (O → Option (List ℕ)) → (O → ℕ) → (O → ℕ) → O → Held
sink_state held faults spare sink =
    record { bytes = held sink; faults = faults sink; spare = spare sink }

abbrev pub input_state : {I : Type 0} → (I → Option (List ℕ)) → (I → ℕ) → I → Left
input_state left faults input = record { bytes = left input; faults = faults input }

abbrev pub outside : Kept → Held → Left → Outside
outside shelf out input = record { shelf = shelf; out = out; input = input }
