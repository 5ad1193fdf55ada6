-- The files of a shelf.
use Rattle.std.specs.Prelude.{◌≡◌, ◌≢◌, ℕ, List, [], ◌∷◌, Option, Some, None, Bool, true, ◌&&◌, is_none, bytes_eq, if◌then◌else◌, ⊤, map, String, Vec, string_bytes}

pub record File : Type 0 where
  pub name : List ℕ
  pub bytes : List ℕ

-- what stands under a name
abbrev pub file_named : List ℕ → List File → Option (List ℕ)
file_named name [] = None
file_named name (file ∷ files) =
    if bytes_eq file.name name then Some file.bytes else file_named name files

-- the files once these bytes stand under the name
abbrev pub with_file : List ℕ → List ℕ → List File → List File
with_file name bytes [] = record { name = name; bytes = bytes } ∷ []
with_file name bytes (file ∷ files) =
    if bytes_eq file.name name then record file { bytes = bytes } ∷ files else file ∷ with_file name bytes files

-- the same files under every other name, where they are told
abbrev pub SameBut : List ℕ → Option (List File) → Option (List File) → Type 0
SameBut name None None = ⊤
SameBut name None (Some new) = ⊥
SameBut name (Some old) None = ⊥
SameBut name (Some old) (Some new) = (other : List ℕ) → other ≢ name → file_named other new ≡ file_named other old

-- a list of names and contents, as files
abbrev pub files_of : {Z : Type 0} → List (String Z × Vec ℕ Z) → List File
files_of pairs = map (λ pair. record { name = string_bytes pair.0; bytes = pair.1.items }) pairs

-- no name stands twice
abbrev pub names_differ : List File → Bool
names_differ [] = true
names_differ (file ∷ files) = is_none (file_named file.name files) && names_differ files
