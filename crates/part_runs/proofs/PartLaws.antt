-- What storing part files leaves of a shelf, one after another.
use Rattle.std.proofs.Common.{◌≡◌, ℕ, ◌+◌, ◌<◌, ◌≤◌, List, ◌∷◌, drop, get_or, length, map, Some, None, Option, refl, ap, sym, subst, ◌∙◌}
use Rattle.std.specs.List.{All}
use Rattle.std.specs.Prelude.{Ok}
use Rattle.std.proofs.lemmas.List.{drop_all, drop_more}
use Rattle.std.proofs.lemmas.List.Elements.{All-weaker}
use Rattle.command_steps.specs.Commands.{part_name}
use Rattle.command_steps.specs.declared.failure.Failure.{Failure}
use Rattle.command_steps.specs.Faults.{fault_of}
use Rattle.command_steps.specs.FileWalks.{NotKept, StoresFile}
use Rattle.command_steps.specs.Leaves.{Leaves}
use Rattle.command_steps.specs.Notes.{Fault}
use Rattle.command_steps.specs.Orders.{NoTask, follows}
use Rattle.command_steps.specs.States.{Held, Kept, Left, Outside, outside}
use Rattle.command_steps.proofs.FileLaws.{store_goes, store_stops}
use Rattle.instrument.specs.declared.split.Split.{Split}
use Rattle.part_runs.specs.Parting.{parted}
use Rattle.program_reader.specs.Accepted.{Says}
use Rattle.symple_face.specs.declared.part.Part.{Part}
use Rattle.symple_face.specs.Parts.{PlainPart}
use Rattle.symple_face.specs.PartViews.{plain_of}
use Rattle.worker_stream.specs.PartFiles.{spelled_part}

-- each part has the program that the text says
pub say_all : (parts : List Part) (split : Split) → All (λ (part : Part). part.split.value ≡ split) parts →
    (text : List ℕ) → Says text split.program.program →
    All (λ (part : Part). Says text part.split.value.program.program) parts
say_all parts split same text says =
    All-weaker (λ (part : Part). part.split.value ≡ split)
    (λ (part : Part). Says text part.split.value.program.program)
    (λ part is. subst (λ (s : Split). Says text s.program.program) (sym is) says) parts same

module _ (prefix program : List ℕ) where
  -- what is left of the parts from a shelf on is left of more of them from another
  abbrev pub StoresTo : List PlainPart → Kept → List PlainPart → Kept → Type 0
  StoresTo parts old rest mid =
      (out : Held) (input : Left) (after : Outside) (outcome : Option Fault) →
      Leaves NoTask (follows (parted prefix program rest)) (outside mid out input) after outcome →
      Leaves NoTask (follows (parted prefix program parts)) (outside old out input) after outcome

  abbrev pub name_for : Part → List ℕ
  name_for part = part_name prefix (plain_of part).at.machine

  abbrev pub file_for : Part → List ℕ
  file_for part = spelled_part (plain_of part) program

  module _ (parts : List Part) (i : ℕ) (d part : Part) (below : i < length parts) (is : part ≡ get_or parts i d) where
    rest_is : map plain_of (drop i parts) ≡ plain_of part ∷ map plain_of (drop (i + 1) parts)
    rest_is = ap (map plain_of) (drop_more parts i d below)
        ∙ ap (λ (p : Part). plain_of p ∷ map plain_of (drop (i + 1) parts)) (sym is)

    -- the file of one more was stored
    pub part_goes : (all : List PlainPart) (old mid new : Kept) → StoresTo all old (map plain_of (drop i parts)) mid →
        StoresFile (name_for part) (file_for part) mid new (Ok tt) →
        StoresTo all old (map plain_of (drop (i + 1) parts)) new
    part_goes all old mid new before stored = λ out input after outcome leaves.
        before out input after outcome
        (subst (λ (ps : List PlainPart). Leaves NoTask (follows (parted prefix program ps)) (outside mid out input)
        after outcome) (sym rest_is)
        (store_goes NoTask (name_for part) (file_for part) mid new stored
        (follows (parted prefix program (map plain_of (drop (i + 1) parts)))) out input after outcome leaves))

    -- that of one more was not
    module _ (all : List PlainPart) (old mid new : Kept) (why : Failure) where
      pub part_stops : StoresTo all old (map plain_of (drop i parts)) mid →
          NotKept (name_for part) mid new (fault_of why) → (out : Held) (input : Left) →
          Leaves NoTask (follows (parted prefix program all)) (outside old out input) (outside new out input)
          (Some (fault_of why))
      part_stops before stops out input =
          before out input (outside new out input) (Some (fault_of why))
          (subst (λ (ps : List PlainPart). Leaves NoTask (follows (parted prefix program ps)) (outside mid out input)
          (outside new out input) (Some (fault_of why))) (sym rest_is)
          (store_stops NoTask (name_for part) (file_for part) mid new (fault_of why) stops
          (follows (parted prefix program (map plain_of (drop (i + 1) parts)))) out input))

  -- all were stored
  module _ (parts : List Part) (i : ℕ) (all : List PlainPart) (old new : Kept) where
    pub parts_done : length parts ≤ i → StoresTo all old (map plain_of (drop i parts)) new →
        (out : Held) (input : Left) →
        Leaves NoTask (follows (parted prefix program all)) (outside old out input) (outside new out input) None
    parts_done end before out input =
        before out input (outside new out input) None
        (subst (λ (ps : List Part). Leaves NoTask (follows (parted prefix program (map plain_of ps)))
        (outside new out input) (outside new out input) None) (sym (drop_all i parts end))
        (record { same = refl; fine = refl }))
