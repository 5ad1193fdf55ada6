-- Each image that a run by cores stores is read as what stands before a round of the source's run.
use Rattle.std.proofs.Common.{◌≡◌, ℕ, List, [], ◌∷◌, ◌++◌, map, length, Some, refl, sym, ap, subst, ◌∙◌, arith}
use Rattle.std.proofs.lemmas.List.{map-append}
use Rattle.check_point.specs.Images.{image_bytes}
use Rattle.check_point.specs.Judgement.{IsOwn, IsWholeOf}
use Rattle.check_point.specs.Keys.{key_bytes}
use Rattle.check_point.specs.Laws.{ImageReadsBack, told_start}
use Rattle.command_steps.specs.Orders.{Course, Fails, IsOver, Keeps, Origin, Play, Prints, Takes}
use Rattle.instrument.specs.declared.split.Split.{Split}
use Rattle.machine_runs.proofs.FirstLaws.{splits_are_one}
use Rattle.outside.specs.Files.{File}
use Rattle.schedule_laws.specs.Laws.{whole_run}
use Rattle.schedule_laws.specs.Runs.{IsSourceRun}
use Rattle.schedule_laws.proofs.Stands.{few}
use Rattle.schedule_laws.proofs.Whole.{whole_is_a_run}
use Rattle.sha2.proofs.Facts256.{length-sha256}
use Rattle.symple_face.specs.Parts.{PlainPart}
use Rattle.symple_face.specs.PartsOf.{part_of}
use Rattle.symple_face.specs.Restarts.{IsStart}
use Rattle.symple_face.specs.Work.{PlainStart}
use Rattle.symple_run.specs.Continued.{run_played}
use Rattle.symple_run.specs.Interrupted.{Store, files_in, stores_in}
use Rattle.symple_run.specs.KeptImages.{flags_of, key_for}
use Rattle.symple_run.specs.Resumes.{Tells}
use Rattle.symple_run.specs.SourceImages.{files_kept, image_file, later_rounds, start_before}
use Rattle.symple_run.specs.SourceTexts.{HasParts}
use Rattle.symple_run.specs.StoredImages.{EveryStoredImageIsRead, IsReadAsStart}
use Rattle.symple_run.proofs.ContinuedLaws.{job_on}
use Rattle.symple_run.proofs.StartLaws.{later_start, no_rounds}
use Rattle.vert_eval.specs.SourceRun.{Job, Played, source_run}
use Rattle.word_kinds.specs.Fits.{IsFitting}

-- ---- the file of a store is that of a round
-- the files of a course's stores
files_are : (front : List ℕ) (course : Course) → files_in (stores_in front course) ≡ files_kept course
files_are front IsOver = refl
files_are front (Fails fault) = refl
files_are front (Prints text rest) = files_are (front ++ text) rest
files_are front (Keeps name bytes rest) =
    ap (λ (fs : List File). record { name = name; bytes = bytes } ∷ fs) (files_are front rest)
files_are front (Takes used text rest) = refl

-- the rounds in two parts, before and behind one whose file this is
record IsFileOf (f : Played → File) (rounds : List Played) (file : File) : Type 0 where
  before : List Played
  at : Played
  behind : List Played
  rounds_are : rounds ≡ before ++ at ∷ behind
  file_is : f at ≡ file

first_file : (x y : File) (xs ys : List File) → x ∷ xs ≡ y ∷ ys → x ≡ y
first_file x y xs ys is = cc

other_files : (x y : File) (xs ys : List File) → x ∷ xs ≡ y ∷ ys → xs ≡ ys
other_files x y xs ys is = cc

no_files : {X : Type 0} (before : List File) (file : File) (behind : List File) → [] ≡ before ++ file ∷ behind → X
no_files [] file behind is = cc
no_files (b ∷ before) file behind is = cc

file_of : (f : Played → File) (rounds : List Played) (before : List File) (file : File) (behind : List File) →
    map f rounds ≡ before ++ file ∷ behind → IsFileOf f rounds file
file_of f [] before file behind is = no_files before file behind is
file_of f (p ∷ ps) [] file behind is = record {
  before = [];
  at = p;
  behind = ps;
  rounds_are = refl;
  file_is = first_file (f p) file (map f ps) behind is;
}
file_of f (p ∷ ps) (b ∷ before) file behind is =
    let rest = file_of f ps before file behind (other_files (f p) b (map f ps) (before ++ file ∷ behind) is) in
    record {
      before = p ∷ rest.before;
      at = rest.at;
      behind = rest.behind;
      rounds_are = ap (λ (qs : List Played). p ∷ qs) rest.rounds_are;
      file_is = rest.file_is;
    }

-- a later round is one but the first
but_first : (rounds before : List Played) (at : Played) (behind : List Played) →
    later_rounds rounds ≡ before ++ at ∷ behind → (first : Played) × (rounds ≡ (first ∷ before) ++ at ∷ behind)
but_first [] before at behind is = no_rounds before at behind is
but_first (first ∷ others) before at behind is = (first, ap (λ (ps : List Played). first ∷ ps) is)

-- ---- it is read
module _ (reads_back : ImageReadsBack) (play : Play) (origin : Origin) (on : HasParts play)
    (fits : IsFitting on.split.program.program) where
  abbrev key : List ℕ
  key = key_for play origin

  key_long : length key ≡ 32
  key_long = length-sha256 (key_bytes origin.program origin.graph origin.form.vertices (flags_of origin.form)
      play.machines play.draws)

  abbrev whole : PlainPart
  whole = part_of on.of_graph.one.ends on.of_graph.one.draws on.of_graph.one.edges 0

  run : IsSourceRun (whole_run on.split on.parts on.of_graph.one)
  run = whole_is_a_run on.split on.parts on.of_graph.one fits

  module _ (start : PlainStart) (is : IsStart whole on.split start) where
    abbrev IsRead : ℕ → Type 0
    IsRead vertices =
        IsWholeOf on.split vertices (image_bytes key start) × IsOwn on.split vertices key (image_bytes key start)
        × (told_start on.split vertices (image_bytes key start) ≡ start)

    read_here : IsRead play.graph.vertices
    read_here =
        let low = is.within in
        let most = few (whole_run on.split on.parts on.of_graph.one) run in
        subst IsRead on.of_graph.sized
        (reads_back whole on.split key start key_long (omega (arith, low, most)) run.graph.vertices is)

    read_by : (split : Split) → split.program.program ≡ play.program →
        Tells split play.graph.vertices key (Some (image_bytes key start)) (Some start)
    read_by split same =
        subst (λ (s : Split). Tells s play.graph.vertices key (Some (image_bytes key start)) (Some start))
        (splits_are_one on.split split (on.program_is ∙ sym same))
        (record { whole = read_here.0; own = read_here.1 }, sym read_here.2)

  file_read : (image : List ℕ) (file : File) →
      IsFileOf (image_file key image) (later_rounds (run_played play).rounds) file →
      IsReadAsStart play origin image file
  file_read image file has =
      let first = but_first (run_played play).rounds has.before has.at has.behind has.rounds_are in
      let start : PlainStart = start_before has.at in
      let ready = later_start on.split on.parts on.of_graph.one fits run whole refl first.0 has.before has.at has.behind
      (ap (λ (j : Job). (source_run j).rounds) (job_on play on) ∙ first.1) in
      let P : List ℕ → Type 0 = λ bytes. (split : Split) → split.program.program ≡ play.program →
      Tells split play.graph.vertices key (Some bytes) (Some start) in
      record {
        start = start;
        leaves = record {
          first = first.0;
          others = has.before;
          at = has.at;
          behind = has.behind;
          rounds_are = first.1;
          start_is = refl;
        };
        name_is = ap (λ (f : File). f.name) (sym has.file_is);
        bytes_are = ap (λ (f : File). f.bytes) (sym has.file_is);
        read = subst P (ap (λ (f : File). f.bytes) has.file_is) (read_by start ready);
      }

pub every_stored_image_is_read : ImageReadsBack → EveryStoredImageIsRead
every_stored_image_is_read reads_back play origin image course is before store behind there =
    let files = sym (map-append (λ (s : Store). s.file) before (store ∷ behind))
    ∙ sym (ap files_in there) ∙ files_are [] course ∙ is.images in
    file_read reads_back play origin is.on is.fits image store.file
    (file_of (image_file (key_for play origin) image) (later_rounds (run_played play).rounds) (files_in before)
    store.file (files_in behind) (sym files))
