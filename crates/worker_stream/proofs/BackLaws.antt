-- A part that was written is read back.
use Rattle.std.proofs.Common.{◌≡◌, ℕ, ◌*◌, ◌^◌, ◌<◌, ◌∙◌, Some, None, Ok, Err, List, [], ◌∷◌, ◌++◌, length, map, drop, get_or, refl, sym, ap, subst, arith, append-nil, FitsSigned}
use Rattle.std.specs.Prelude.{◌==◌, if◌then◌else◌, Result, slice_index}
use Rattle.std.specs.Int.{w32}
use Rattle.std.specs.List.{AllByRecursion, flat_map, range_with_len}
use Rattle.std.proofs.lemmas.List.{get_or_default}
use Rattle.std.proofs.lemmas.List.Elements.{recursion_from_All}
use Rattle.byteorder.specs.Endian.{little_number}
use Rattle.vert_base.specs.declared.graph.Edge.{Edge}
use Rattle.vert_base.specs.HeaderBytes.{four_bytes}
use Rattle.vert_base.specs.Neighbours.{source, target}
use Rattle.chunk_split.specs.Chunks.{vertices_of}
use Rattle.edge_reader.specs.EdgePairs.{units_of}
use Rattle.symple_face.specs.declared.degree.Degree.{Degree}
use Rattle.symple_face.specs.declared.part.Part.{Part}
use Rattle.symple_face.specs.Lawful.{AreCounts}
use Rattle.symple_face.specs.Parts.{IsPart, PlainPart, chunk_vertices, refresh_list}
use Rattle.symple_face.proofs.ChunkLaws.{chunk_within}
use Rattle.mirror_table.proofs.PartsMade.{all_from_map, known_below}
use Rattle.program_reader.specs.Accepted.{Refuses, Says}
use Rattle.program_reader.proofs.AcceptLaws.{accepted_is_unrefused}
use Rattle.program_reader.proofs.SmallTokens.{tokens_short}
use Rattle.worker_stream.specs.declared.fault.PartFault.{PartFault}
use Rattle.worker_stream.specs.declared.fault.PartFault.TheVariants.{Magic, Length, Number, Text, Want}
use Rattle.worker_stream.specs.Answers.{Begins, ReadsPart, ReadsSections}
use Rattle.worker_stream.specs.Back.{IsReadBack, IsWritable}
use Rattle.worker_stream.specs.PartFiles.{IsSound, PartFile, behind_count, degree_bytes, degree_of_unit, edge_bytes, edge_in, eight_bytes, file_of, head_bytes, part_in, spelled_part}
use Rattle.worker_stream.specs.Sections.{Sections, cut_at, counted, end_count, sections_of, with_degrees, with_ends, with_program, with_push, with_scan}
use Rattle.worker_stream.proofs.FewDegrees.{degrees_few}
use Rattle.worker_stream.proofs.PartMaking.{same_part}
use Rattle.worker_stream.proofs.EdgeOrderLaws.{IsInPlace, placed_below}
use Rattle.worker_stream.proofs.SoundLaws.{scan_below}
use Rattle.worker_stream.proofs.SpelledLaws.{counted_front, cut_front, degree_again, degree_length, edge_again, edge_length, eight_drop, eight_read, four_again, four_length, four_read, units_back, units_long}
use Rattle.std.proofs.lemmas.Option.{same_Some}

behind_twelve : (a b c : ℕ) → drop 12 (eight_bytes a ++ (four_bytes b ++ four_bytes c)) ≡ four_bytes c
unfolding four_bytes eight_bytes
behind_twelve a b c = refl

none_some : {X : Type 0} (x : X) → None ≡ Some x → ⊥
none_some x e = absurd cc

-- the vertices that a part knows, of so many machines
abbrev known_by : PlainPart → ℕ → List ℕ
known_by p count =
    flat_map (λ k. if k == p.at.machine then chunk_vertices p.ends k else refresh_list p.ends k p.at.machine p.scan)
    (range_with_len 0 count)

module _ (part : PlainPart) (program : List ℕ) (fits : IsWritable part program) where
  -- ---- the sections
  abbrev ends_bytes : List ℕ
  ends_bytes = flat_map four_bytes part.ends

  abbrev scan_bytes : List ℕ
  scan_bytes = flat_map edge_bytes part.scan

  abbrev push_bytes : List ℕ
  push_bytes = flat_map edge_bytes part.push

  abbrev degrees_bytes : List ℕ
  degrees_bytes = flat_map degree_bytes part.degrees

  abbrev made : Sections
  made = record {
    head = head_bytes part;
    ends = ends_bytes;
    program = program;
    scan = scan_bytes;
    push = push_bytes;
    degrees = degrees_bytes;
  }

  abbrev behind_push : List ℕ
  behind_push = behind_count (length part.degrees) degrees_bytes

  abbrev behind_scan : List ℕ
  behind_scan = behind_count (length part.push) push_bytes ++ behind_push

  abbrev behind_program : List ℕ
  behind_program = behind_count (length part.scan) scan_bytes ++ behind_scan

  abbrev behind_ends : List ℕ
  behind_ends = behind_count (length program) program ++ behind_program

  head_length : length (head_bytes part) ≡ 22
  unfolding four_bytes eight_bytes
  head_length = refl

  program_few : length program < 2 ^ 32
  program_few =
      let tree = fits.accepted.1 in
      let few = tokens_short program tree.placed tree.tokens in
      omega (arith, few)

  degrees_cut : with_degrees (head_bytes part) ends_bytes program scan_bytes push_bytes behind_push ≡ Some made
  degrees_cut =
      let few = degrees_few part fits.ends fits.whole in
      let low : length part.degrees < 2 ^ 32 = omega (arith, few) in
      let cut : counted 12 behind_push ≡ Some (degrees_bytes, []) =
      ap (counted 12) (sym (append-nil behind_push))
      ∙ counted_front 12 (length part.degrees) degrees_bytes [] low
      (units_long degree_bytes 12 part.degrees degree_length) in
      rw cut refl

  push_cut : with_push (head_bytes part) ends_bytes program scan_bytes behind_scan ≡ Some made
  push_cut =
      let few = fits.whole.few in
      let few_push = fits.whole.few_push in
      let low : length part.push < 2 ^ 32 = omega (arith, few, few_push) in
      let cut : counted 12 behind_scan ≡ Some (push_bytes, behind_push) =
      counted_front 12 (length part.push) push_bytes behind_push low (units_long edge_bytes 12 part.push edge_length) in
      rw cut degrees_cut

  scan_cut : with_scan (head_bytes part) ends_bytes program behind_program ≡ Some made
  scan_cut =
      let few = fits.whole.few in
      let few_scan = fits.whole.few_scan in
      let low : length part.scan < 2 ^ 32 = omega (arith, few, few_scan) in
      let cut : counted 12 behind_program ≡ Some (scan_bytes, behind_scan) =
      counted_front 12 (length part.scan) scan_bytes behind_scan low (units_long edge_bytes 12 part.scan edge_length) in
      rw cut push_cut

  program_cut : with_program (head_bytes part) ends_bytes behind_ends ≡ Some made
  program_cut =
      let len : length program ≡ 1 * length program = omega arith in
      let cut : counted 1 behind_ends ≡ Some (program, behind_program) =
      counted_front 1 (length program) program behind_program program_few len in
      rw cut scan_cut

  ends_cut : with_ends (head_bytes part) (ends_bytes ++ behind_ends) ≡ Some made
  ends_cut =
      let len : length ends_bytes ≡ 4 * end_count (head_bytes part) =
      units_long four_bytes 4 part.ends four_length ∙ ap (λ q. 4 * q) (sym fits.whole.machine) in
      let cut : cut_at (4 * end_count (head_bytes part)) (ends_bytes ++ behind_ends) ≡ Some (ends_bytes, behind_ends) =
      cut_front (4 * end_count (head_bytes part)) ends_bytes behind_ends len in
      rw cut program_cut

  pub cut_again : sections_of (spelled_part part program) ≡ Some made
  cut_again =
      let cut : cut_at 22 (spelled_part part program) ≡ Some (head_bytes part, ends_bytes ++ behind_ends) =
      cut_front 22 (head_bytes part) (ends_bytes ++ behind_ends) head_length in
      rw cut ends_cut

  -- ---- the numbers
  few_vertices : vertices_of part.ends < 2 ^ 32
  few_vertices = let within = fits.whole.within in omega (arith, within)

  machine_within : part.at.machine < length part.ends
  machine_within = subst (λ (q : ℕ). part.at.machine < q) fits.whole.machine fits.place

  draws_again : little_number 8 (drop 6 (head_bytes part)) ≡ part.draws
  draws_again = eight_read part.draws (four_bytes (vertices_of part.ends) ++ four_bytes part.edges) fits.draws

  vertices_again : little_number 4 (drop 14 (head_bytes part)) ≡ vertices_of part.ends
  vertices_again =
      ap (little_number 4) (eight_drop part.draws (four_bytes (vertices_of part.ends) ++ four_bytes part.edges))
      ∙ four_read (vertices_of part.ends) (four_bytes part.edges) few_vertices

  edges_again : little_number 4 (drop 18 (head_bytes part)) ≡ part.edges
  edges_again =
      let few = fits.whole.few in
      let low : part.edges < 2 ^ 32 = omega (arith, few) in
      ap (little_number 4) (behind_twelve part.draws (vertices_of part.ends) part.edges) ∙ four_again part.edges low

  ends_again : map (little_number 4) (units_of 4 ends_bytes) ≡ part.ends
  ends_again = units_back (little_number 4) four_bytes 4 part.ends (omega arith)
      (recursion_from_All (λ n. (length (four_bytes n) ≡ 4) × (little_number 4 (four_bytes n) ≡ n)) part.ends
      (λ k d lt.
      let top = chunk_within 64 part.ends fits.ends k lt in
      let same : get_or part.ends k d ≡ slice_index part.ends k = get_or_default part.ends k d 0 lt in
      let low : get_or part.ends k d < 2 ^ 32 = let few = few_vertices in omega (arith, top, few, same) in
      (four_length (get_or part.ends k d), four_again (get_or part.ends k d) low)))

  edges_back : (es : List Edge) → AllByRecursion (λ e. (source e < 2 ^ 32) × (target e < 2 ^ 32)) es →
      AllByRecursion (λ e. FitsSigned w32 e.weight) es → map edge_in (units_of 12 (flat_map edge_bytes es)) ≡ es
  edges_back es low weights = units_back edge_in edge_bytes 12 es (omega arith) (each es low weights)
    where
      each : (es : List Edge) → AllByRecursion (λ e. (source e < 2 ^ 32) × (target e < 2 ^ 32)) es →
          AllByRecursion (λ e. FitsSigned w32 e.weight) es →
          AllByRecursion (λ e. (length (edge_bytes e) ≡ 12) × (edge_in (edge_bytes e) ≡ e)) es
      each [] low weights = tt
      each (e ∷ es) low weights = (
        (edge_length e, edge_again e low.0.0 low.0.1 weights.0),
        each es low.1 weights.1,
      )

  both_low : (es : List Edge) → AllByRecursion (λ e. (target e < vertices_of part.ends) × (source e <
      vertices_of part.ends)) es → AllByRecursion (λ e. (source e < 2 ^ 32) × (target e < 2 ^ 32)) es
  both_low [] all = tt
  both_low (e ∷ es) all =
      let few = few_vertices in
      let first = all.0.0 in
      let second = all.0.1 in
      ((omega (arith, few, second), omega (arith, few, first)), both_low es all.1)

  both_low' : (es : List Edge) → AllByRecursion (λ e. (source e < vertices_of part.ends) × (target e <
      vertices_of part.ends)) es → AllByRecursion (λ e. (source e < 2 ^ 32) × (target e < 2 ^ 32)) es
  both_low' [] all = tt
  both_low' (e ∷ es) all =
      let few = few_vertices in
      let first = all.0.0 in
      let second = all.0.1 in
      ((omega (arith, few, first), omega (arith, few, second)), both_low' es all.1)

  scan_again : map edge_in (units_of 12 scan_bytes) ≡ part.scan
  scan_again = edges_back part.scan
      (both_low part.scan (placed_below target source part.ends part.at.machine fits.ends machine_within part.scan
      (record { order = fits.whole.scan_order; chunk = fits.whole.scan_chunk })))
      (recursion_from_All (λ e. FitsSigned w32 e.weight) part.scan fits.scan)

  push_again : map edge_in (units_of 12 push_bytes) ≡ part.push
  push_again = edges_back part.push
      (both_low' part.push (placed_below source target part.ends part.at.machine fits.ends machine_within part.push
      (record { order = fits.whole.push_order; chunk = fits.whole.push_chunk })))
      (recursion_from_All (λ e. FitsSigned w32 e.weight) part.push fits.push)

  known_low : AllByRecursion (λ d. d.id.0 < vertices_of part.ends) part.degrees
  known_low =
      let place : IsInPlace target source part.ends part.at.machine part.scan =
      record { order = fits.whole.scan_order; chunk = fits.whole.scan_chunk } in
      all_from_map (λ d. d.id.0) (vertices_of part.ends) part.degrees
      (subst (λ (vs : List ℕ). AllByRecursion (λ v. v < vertices_of part.ends) vs)
      (sym (fits.whole.known ∙ ap (known_by part) fits.whole.machine))
      (known_below 64 part.ends part.scan fits.ends
      (scan_below part.ends fits.ends part.at.machine machine_within part.scan place) part.at.machine machine_within))

  degrees_again : map degree_of_unit (units_of 12 degrees_bytes) ≡ part.degrees
  degrees_again = units_back degree_of_unit degree_bytes 12 part.degrees (omega arith)
      (each part.degrees known_low (recursion_from_All AreCounts part.degrees fits.degrees))
    where
      each : (ds : List Degree) → AllByRecursion (λ d. d.id.0 < vertices_of part.ends) ds →
          AllByRecursion AreCounts ds →
          AllByRecursion (λ d. (length (degree_bytes d) ≡ 12) × (degree_of_unit (degree_bytes d) ≡ d)) ds
      each [] low counts = tt
      each (d ∷ ds) low counts =
          let few = few_vertices in
          let first = low.0 in
          let id : d.id.0 < 2 ^ 32 = omega (arith, few, first) in
          let count = counts.0 in
          ((degree_length d, degree_again d id count.ins count.outs), each ds low.1 counts.1)

  -- ---- the file
  abbrev written : PartFile
  written = record {
    machine = part.at.machine;
    machines = part.at.machines;
    draws = part.draws;
    vertices = vertices_of part.ends;
    edges = part.edges;
    ends = part.ends;
    program = program;
    scan = part.scan;
    push = part.push;
    degrees = part.degrees;
  }

  file_again : file_of made ≡ written
  file_again =
      let q = file_of made in
      ap (λ (x : ℕ). record q { draws = x }) draws_again
      ∙ (ap (λ (x : ℕ). record q { draws = part.draws; vertices = x }) vertices_again
      ∙ (ap (λ (x : ℕ). record q { draws = part.draws; vertices = vertices_of part.ends; edges = x }) edges_again
      ∙ (ap (λ (x : List ℕ). record written {
        ends = x;
        scan = q.scan;
        push = q.push;
        degrees = q.degrees;
      }) ends_again
      ∙ (ap (λ (x : List Edge). record written { scan = x; push = q.push; degrees = q.degrees }) scan_again
      ∙ (ap (λ (x : List Edge). record written { push = x; degrees = q.degrees }) push_again
      ∙ ap (λ (x : List Degree). record written { degrees = x }) degrees_again)))))

  part_again : part_in written ≡ part
  part_again =
      same_part (part_in written) part refl refl refl refl refl refl refl (sym fits.whole.refresh_to)
      (sym fits.whole.refresh_of) (sym fits.whole.push_to) (sym fits.whole.push_of)

  part_back : part_in (file_of made) ≡ part
  part_back = ap part_in file_again ∙ part_again

  sound_again : IsSound (file_of made)
  sound_again =
      subst (λ (f : PartFile). IsSound f) (sym file_again)
      (record {
        place = fits.place;
        ends = fits.ends;
        last = refl;
        part = subst (λ (p : PlainPart). IsPart p) (sym part_again) fits.whole;
      })

  -- ---- and what is read is the part
  sections_read : (s : Sections) (r : Result Part PartFault) → s ≡ made → ReadsSections s r → IsReadBack part program r
  sections_read s (Ok read) is given = (
    given.1 ∙ (ap (λ q. part_in (file_of q)) is ∙ part_back),
    subst (λ (q : List ℕ). Says q read.split.value.program.program) (ap (λ q. q.program) is) given.2,
  )
  sections_read s (Err Magic) is given = given
  sections_read s (Err Length) is given = given
  sections_read s (Err Number) is given =
      given (subst (λ (q : Sections). IsSound (file_of q)) (sym is) sound_again)
  sections_read s (Err Text) is given =
      accepted_is_unrefused program given.1.0 fits.accepted
      (subst (λ (q : List ℕ). Refuses q given.1.0) (ap (λ q. q.program) is) given.1.1)
  sections_read s (Err Want) is given = tt

  one_cut : (s : Sections) → sections_of (spelled_part part program) ≡ Some s → s ≡ made
  one_cut s cut = same_Some s made (sym cut ∙ cut_again)

  -- whatever the sections of the file are, they say the part and the text
  pub sections_again : (s : Sections) → sections_of (spelled_part part program) ≡ Some s →
      (part_in (file_of s) ≡ part) × (s.program ≡ program)
  sections_again s cut =
      let same = one_cut s cut in
      (ap (λ q. part_in (file_of q)) same ∙ part_back, ap (λ q. q.program) same)

  pub read_back : (bytes : List ℕ) (r : Result Part PartFault) → bytes ≡ spelled_part part program →
      ReadsPart bytes r → IsReadBack part program r
  read_back bytes (Ok read) is given =
      sections_read given.1.0 (Ok read) (one_cut given.1.0 (ap sections_of (sym is) ∙ given.1.1)) given.1.2
  read_back bytes (Err Magic) is given =
      given (subst (λ (q : List ℕ). Begins q) (sym is) refl)
  read_back bytes (Err Length) is given =
      absurd (none_some made (sym given.1 ∙ (ap sections_of is ∙ cut_again)))
  read_back bytes (Err Number) is given =
      sections_read given.1.0 (Err Number) (one_cut given.1.0 (ap sections_of (sym is) ∙ given.1.1)) given.1.2
  read_back bytes (Err Text) is given =
      sections_read given.1.0 (Err Text) (one_cut given.1.0 (ap sections_of (sym is) ∙ given.1.1)) given.1.2
  read_back bytes (Err Want) is given = tt
