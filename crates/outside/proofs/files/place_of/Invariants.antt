use Rattle.std.proofs.Common.{◌≡◌, ◌≤◌, ◌-◌, ℕ, List, ◌++◌, take, drop, length}
use Rattle.outside.specs.Files.{files_of, file_named, with_file}
use Rattle.outside.proofs.files.place_of.Given as goal

abbrev pub invariant-loop-at : goal.invariant-loop-at
invariant-loop-at l = record {
  within : l.at ≤ length l.files;
  named : file_named l.name (drop l.at (files_of l.files)) ≡ file_named l.name (files_of l.files);
  others : (bytes : List ℕ) → take l.at (files_of l.files) ++ with_file l.name bytes (drop l.at (files_of l.files))
      ≡ with_file l.name bytes (files_of l.files);
}

abbrev pub decreases-loop-at : goal.decreases-loop-at
decreases-loop-at l = length l.files - l.at
