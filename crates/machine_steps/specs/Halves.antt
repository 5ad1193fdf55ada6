-- The half of a chunk that a machine scans.
use Rattle.std.specs.Prelude.{◌≡◌, ◌≤◌, ◌<◌, ◌+◌, ◌-◌, ℕ, ℤ, List, [], ◌∷◌, length, map, slice_index, slice_index_or}
use Rattle.std.specs.List.{All}
use Rattle.vert_base.specs.declared.message.Name.{Name}
use Rattle.vert_base.specs.declared.value.Row.{Row}
use Rattle.vert_base.specs.Neighbours.{target}
use Rattle.circulant_plan.specs.Names.{refresh_name}
use Rattle.dep_layout.specs.Reading.{read_of}
use Rattle.dep_layout.specs.Spelling.{State as LoopState}
use Rattle.slot_merge.specs.declared.partial.Partial.{Partial}
use Rattle.instrument.specs.declared.split.Split.{Split}
use Rattle.symple_face.specs.declared.degree.Degree.{Degree}
use Rattle.symple_face.specs.CoreDense.{needed_dep, scan_chunk, scan_dep, scan_half, scan_update, scanned_at}
use Rattle.symple_face.specs.CoreScan.{fresh}
use Rattle.symple_face.specs.CoreSight.{held_body, targets_of, those_within}
use Rattle.symple_face.specs.Parts.{PlainPart, refresh_list}
use Rattle.symple_face.specs.Plans.{loop_carry}
use Rattle.symple_face.specs.Shapes.{words_in}
use Rattle.symple_face.specs.State.{State, machine, p_of}
use Rattle.machine_parts.specs.declared.spans.Span.{Span}
use Rattle.machine_parts.specs.Flat.{state_at, zip_with}
use Rattle.machine_parts.specs.Spans.{IsSpan, vertex_of}
use Rattle.machine_parts.proofs.SpanLaws.{no_span}
use Rattle.work_laws.specs.Sound.{members_in}
use Rattle.machine_steps.specs.Counts.{first_read}
use Rattle.vertex_work.specs.Known.{AreDegreesOf}
use Rattle.vertex_work.specs.Shown.{Shows}

-- before this place stand the spans of the vertices below one
pub record IsPlace (vertex : ℕ) (spans : List Span) (place : ℕ) : Type 0 where
  pub within : place ≤ length spans
  pub below : (i : ℕ) → i < place → vertex_of (slice_index_or spans i no_span) < vertex
  pub others : (i : ℕ) → place ≤ i → i < length spans → vertex ≤ vertex_of (slice_index_or spans i no_span)

-- the states received of so many vertices, by the body that spells them: not started where it has no byte
pub record AreReceived (split : Split) (size : ℕ) (dep : List ℕ) (states : List LoopState) : Type 0 where
  pub count : length states ≡ size
  pub each : (i : ℕ) → i < size → state_at states i ≡
      slice_index_or (read_of (words_in (loop_carry split.dense)) size dep) i (fresh split)

-- the body that a machine needs in a scan; no byte where it needs none
abbrev pub needed_body : State → List Name → List ℕ
needed_body s [] = []
needed_body s (x ∷ xs) = held_body s x

-- a state that shows what a scan of a half was given
pub record ShowsHalf (whole : PlainPart) (program : Split) (known : List ℤ) (own : List Row) (round step half : ℕ)
    (refresh dep : List ℕ) (s : State) : Type 0 where
  pub shown : Shows whole program known own s
  pub told : held_body s (refresh_name round (scan_chunk s step) (machine s)) ≡ refresh
  pub carried : needed_body s (needed_dep s round step half) ≡ dep

-- the vertices of another chunk, from the first to the second of two, that have members here: their spans and degrees,
-- and how many rows stand before theirs in the chunk's refresh
pub record AreMirrors (part : PlainPart) (chunk : ℕ) (range : ℕ × ℕ) (spans : List Span) (degrees : List Degree)
    (first : ℕ) : Type 0 where
  pub vertices : map vertex_of spans ≡ those_within range (targets_of part)
  pub each : All (IsSpan target part.scan) spans
  pub known : AreDegreesOf part (map vertex_of spans) degrees
  pub most : first + length spans ≤ length (refresh_list part.ends chunk part.at.machine part.scan)
  pub stand : (i : ℕ) → i < length spans →
      slice_index (refresh_list part.ends chunk part.at.machine part.scan) (first + i)
      ≡ slice_index (map vertex_of spans) i

-- what a scan of a half leaves: the bodies of the loop states and of the update, and how many members of each target
-- there were read
pub record IsHalfScan (s : State) (round step half : ℕ) (states update counts : List ℕ) : Type 0 where
  pub dep : states ≡ scan_dep s round step half
  pub told : update ≡ scan_update s round step half
  pub each : length counts ≡ length (those_within (scan_half s step half) (targets_of s.part))
  pub reads : zip_with (first_read s.part) (those_within (scan_half s step half) (targets_of s.part)) counts ≡
      map (λ v. (scanned_at s round step half v).reads) (those_within (scan_half s step half) (targets_of s.part))
  pub few : (i : ℕ) → i < length counts → slice_index counts i ≤
      length (members_in s.part (slice_index (those_within (scan_half s step half) (targets_of s.part)) i))

-- a state that shows what a scan of a half of its own chunk was given
pub record ShowsOwnHalf (whole : PlainPart) (program : Split) (known : List ℤ) (own : List Row) (round half : ℕ)
    (dep : List ℕ) (s : State) : Type 0 where
  pub shown : Shows whole program known own s
  pub carried : needed_body s (needed_dep s round (p_of s - 1) half) ≡ dep

-- a state has these partials, ring states and reads
pub record IsKept (s : State) (partials : List (List Partial)) (ring : List LoopState) (reading : List (List ℕ))
    : Type 0 where
  pub partials_are : partials ≡ s.partials
  pub ring_is : ring ≡ s.ring
  pub reading_is : reading ≡ s.reading
