-- The lines of a chunk's vertices, put one by one, and the file that they make.
use Rattle.std.proofs.Common.{◌≡◌, ℕ, ◌+◌, ◌-◌, ◌<◌, ◌≤◌, Bool, true, false, List, ◌++◌, get_or, length, refl, sym, ap, ◌∙◌, arith}
use Rattle.std.specs.List.{range_with_len}
use Rattle.std.specs.Prelude.{◌==◌, if◌then◌else◌}
use Rattle.std.proofs.lemmas.List.FromFn.{get_or-range_with_len, length-range_with_len}
use Rattle.array_text.specs.Tables.{header_text}
use Rattle.part_runs.specs.Serving.{own_lines, rows_file}
use Rattle.symple_face.specs.Parts.{PlainPart}
use Rattle.symple_face.specs.State.{State, machine}
use Rattle.symple_face.specs.Work.{Work}

-- a number of a range, by how far it is from the first one
pub number_at : (first n v : ℕ) → first ≤ v → v < first + n → v ≡ get_or (range_with_len first n) (v - first) 0
number_at first n v from below =
    let here : v ≡ first + (v - first) = omega arith in
    here ∙ sym (get_or-range_with_len first n (v - first) 0 (omega arith))

pub below_numbers : (first n v : ℕ) → first ≤ v → v < first + n → v - first < length (range_with_len first n)
below_numbers first n v from below = omega (arith, length-range_with_len first n)

pub all_numbers : (first n v : ℕ) → first + n ≤ v → length (range_with_len first n) ≤ v - first
all_numbers first n v all = omega (arith, length-range_with_len first n)

-- a bound of the chunk of a part that is the same
pub bound_is : (bound : List ℕ → ℕ → ℕ) (part same : PlainPart) (number : ℕ) → part ≡ same →
    number ≡ part.at.machine → bound part.ends number ≡ bound same.ends same.at.machine
bound_is bound part same number is at =
    ap (bound part.ends) at ∙ ap (λ (p : PlainPart). bound p.ends p.at.machine) is

choice_first : (b : Bool) (held other : List ℕ) → b ≡ true → held ≡ (if b then held else other)
choice_first true held other is = refl
choice_first false held other is = absurd (cc)

choice_second : (b : Bool) (held other : List ℕ) → b ≡ false → other ≡ (if b then held else other)
choice_second false held other is = refl
choice_second true held other is = absurd (cc)

module _ (work : Work) (s : State) where
  -- the file of machine 0, and of each other
  pub file_first : (machine s == 0) ≡ true → header_text s.split.program.program ++ own_lines work s ≡ rows_file work s
  file_first is = choice_first (machine s == 0) _ _ is

  pub file_later : (machine s == 0) ≡ false → own_lines work s ≡ rows_file work s
  file_later is = choice_second (machine s == 0) _ _ is
