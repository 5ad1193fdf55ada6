-- A file's place among the files.
use Rattle.std.proofs.Common.{◌≡◌, ◌<◌, ℕ, ◌+◌, suc, List, [], ◌∷◌, ◌++◌, take, drop, map, length, get_or, set, sym, ap, ◌∙◌, add-one, drop-cons, append_assoc, Bool, true, false, arith}
use Rattle.std.proofs.lemmas.List.{drop-map, map-set, set_split, length-map}
use Rattle.std.proofs.Math.Seq.{take-add}
use Rattle.std.specs.Prelude.{Vec, String, string_bytes, bytes_eq, Some, if◌then◌else◌}
use Rattle.outside.specs.Files.{File, files_of, file_named, with_file}

-- an element at a place, and those after it
pub drop_map_at : {A B : Type 0} (f : A → B) (xs : List A) (at : ℕ) (x : A) → at < length xs → x ≡ get_or xs at x →
    drop at (map f xs) ≡ f x ∷ drop (at + 1) (map f xs)
drop_map_at {A} {B} f xs at x within is =
    let next : drop at xs ≡ get_or xs at x ∷ drop (suc at) xs = drop-cons xs at x within in
    let step : drop at xs ≡ x ∷ drop (at + 1) xs = rw add-one (next ∙ ap (λ (y : A). y ∷ drop (suc at) xs) (sym is)) in
    drop-map f at xs ∙ ap (map f) step ∙ ap (λ (r : List B). f x ∷ r) (sym (drop-map f (at + 1) xs))

-- past a file of another name
pub next_named : (files : List File) (at : ℕ) (file : File) (name : List ℕ) →
    drop at files ≡ file ∷ drop (at + 1) files → bytes_eq file.name name ≡ false →
    file_named name (drop (at + 1) files) ≡ file_named name (drop at files)
next_named files at file name here other =
    sym (ap (file_named name) here ∙ ap (λ (b : Bool). if b then Some file.bytes
    else file_named name (drop (at + 1) files)) other)

pub next_others : (files : List File) (at : ℕ) (file : File) (name bytes : List ℕ) →
    drop at files ≡ file ∷ drop (at + 1) files → bytes_eq file.name name ≡ false →
    take (at + 1) files ++ with_file name bytes (drop (at + 1) files) ≡ take at files
    ++ with_file name bytes (drop at files)
next_others files at file name bytes here other =
    let rest : List File = drop (at + 1) files in
    let passed : with_file name bytes (drop at files) ≡ file ∷ with_file name bytes rest =
    ap (with_file name bytes) here ∙ ap (λ (b : Bool). if b then record file { bytes = bytes } ∷ rest
    else file ∷ with_file name bytes rest) other in
    let more : take (at + 1) files ≡ take at files ++ (file ∷ []) = take-add at 1 files
    ∙ ap (λ (r : List File). take at files ++ take 1 r) here in
    ap (λ (r : List File). r ++ with_file name bytes rest) more
    ∙ append_assoc (take at files) (file ∷ []) (with_file name bytes rest)
    ∙ ap (λ (r : List File). take at files ++ r) (sym passed)

-- at the file of that name
pub found : (files : List File) (at : ℕ) (file : File) (name : List ℕ) → drop at files ≡ file ∷ drop (at + 1) files →
    bytes_eq file.name name ≡ true → file_named name (drop at files) ≡ Some file.bytes
found files at file name here same =
    ap (file_named name) here ∙ ap (λ (b : Bool). if b then Some file.bytes
    else file_named name (drop (at + 1) files)) same

pub replaced : (files : List File) (at : ℕ) (file : File) (name bytes : List ℕ) →
    drop at files ≡ file ∷ drop (at + 1) files → bytes_eq file.name name ≡ true →
    with_file name bytes (drop at files) ≡ record file { bytes = bytes } ∷ drop (at + 1) files
replaced files at file name bytes here same =
    ap (with_file name bytes) here ∙ ap (λ (b : Bool). if b then record file { bytes = bytes } ∷ drop (at + 1) files
    else file ∷ with_file name bytes (drop (at + 1) files)) same

pub files_at : {Z : Type 0} (pairs : List (String Z × Vec ℕ Z)) (at : ℕ) (pair : String Z × Vec ℕ Z) →
    at < length pairs → pair ≡ get_or pairs at pair →
    drop at (files_of pairs) ≡ record { name = string_bytes pair.0; bytes = pair.1.items }
    ∷ drop (at + 1) (files_of pairs)
files_at {Z} pairs at pair within is =
    drop_map_at (λ (p : String Z × Vec ℕ Z). record { name = string_bytes p.0; bytes = p.1.items }) pairs at pair
    within is

-- other bytes at the place of the file of that name
module _ {Z : Type 0} (pairs : List (String Z × Vec ℕ Z)) (at : ℕ) (pair : String Z × Vec ℕ Z) (fresh : Vec ℕ Z)
    (name bytes : List ℕ) where
  pub put_found : at < length pairs → pair ≡ get_or pairs at pair → bytes_eq (string_bytes pair.0) name ≡ true →
      fresh.items ≡ bytes →
      take at (files_of pairs) ++ with_file name bytes (drop at (files_of pairs)) ≡ with_file name bytes
      (files_of pairs) → files_of (set pairs at (pair.0, fresh)) ≡ with_file name bytes (files_of pairs)
  put_found within is same value others =
      let f : String Z × Vec ℕ Z → File = λ (p : String Z × Vec ℕ Z).
      record { name = string_bytes p.0; bytes = p.1.items } in
      let files : List File = files_of pairs in
      let file : File = f pair in
      let new : File = record { name = string_bytes pair.0; bytes = bytes } in
      let fits : at < length files = omega (arith, within, length-map pairs f) in
      let one : files_of (set pairs at (pair.0, fresh)) ≡ set files at (f (pair.0, fresh)) =
      map-set f pairs at (pair.0, fresh) in
      let two : set files at (f (pair.0, fresh)) ≡ set files at new =
      ap (λ (b : List ℕ). set files at (record { name = string_bytes pair.0; bytes = b })) value in
      let three : set files at new ≡ take at files ++ new ∷ drop (at + 1) files =
      rw add-one (set_split files at new fits) in
      let four : with_file name bytes (drop at files) ≡ new ∷ drop (at + 1) files =
      replaced files at file name bytes (files_at pairs at pair within is) same in
      one ∙ two ∙ three ∙ ap (λ (r : List File). take at files ++ r) (sym four) ∙ others
