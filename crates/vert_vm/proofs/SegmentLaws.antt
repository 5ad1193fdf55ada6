-- One turn of the loop over the neighbours that a feed gives.
use Rattle.std.proofs.Common.{◌≡◌, ℕ, zero, suc, ◌+◌, true, List, [], ◌∷◌, ◌++◌, length, map, refl, sym, ap, ◌∙◌, append_assoc, append-nil}
use Rattle.std.proofs.lemmas.List.{map-append}
use Rattle.vert_tree.specs.Places.{Counts}
use Rattle.vert_eval.specs.declared.environment.Env.{Env}
use Rattle.vert_eval.specs.declared.environment.Flow.{Flow}
use Rattle.vert_eval.specs.declared.environment.Flow.TheVariants.{Going, Broke}
use Rattle.vert_eval.specs.Frames.{SameFrame, beside}
use Rattle.vert_eval.specs.Runs.{Ran, after, by_flow, followed_by}
use Rattle.vert_eval.specs.Values.{counts_of}
use Rattle.vert_eval.proofs.RunLaws.{followed-Broke, followed-Going}
use Rattle.vert_eval.proofs.FrameLaws.{next_reads}
use Rattle.vert_code.specs.declared.instr.Instr.{Instr}
use Rattle.vert_code.specs.declared.instr.Instr.TheVariants.{Push, Word, Field, Local, Sent, Total, Got, Value, OtherField, OtherWord, Draw, Neg, Not, Op, Least, Greatest, ToLocal, ToField, ToActive, Emit, Jump, JumpUnless, Break}
use Rattle.vert_code.specs.Machine.{goes_on, step}
use Rattle.vert_code.specs.Valid.{list_names}
use Rattle.vert_vm.specs.Segments.{Fed, IsWide, Member, at_neighbour, counts_at, id_of, loop_code, member_code}

-- ---- code reads no neighbour
step_reads : (i : Instr) (place : ℕ) (stack : List _) (env : Env) → (step i place stack env).ran.reads ≡ []
step_reads (Push x) place stack env = refl
step_reads (Word w) place stack env = refl
step_reads (Field k) place stack env = refl
step_reads (Local k) place stack env = refl
step_reads (Sent k) place stack env = refl
step_reads (Total k) place stack env = refl
step_reads (Got k) place stack env = refl
step_reads (Value k) place stack env = refl
step_reads (OtherField k) place stack env = refl
step_reads (OtherWord w) place stack env = refl
step_reads (Draw k) place stack env = refl
step_reads Neg place stack env = refl
step_reads Not place stack env = refl
step_reads (Op op) place stack env = refl
step_reads Least place stack env = refl
step_reads Greatest place stack env = refl
step_reads (ToLocal op k) place stack env = refl
step_reads (ToField op k) place stack env = refl
step_reads ToActive place stack env = refl
step_reads (Emit k) place stack env = refl
step_reads (Jump target) place stack env = refl
step_reads (JumpUnless target) place stack env = refl
step_reads Break place stack env = refl

list_reads : (list : List Instr) (place over : ℕ) (stack : List _) (env : Env) →
    (goes_on place list over stack env).reads ≡ []
list_reads [] place over stack env = refl
list_reads (i ∷ rest) place (suc over) stack env = list_reads rest (place + 1) over stack env
list_reads (i ∷ rest) place zero stack env =
    let s = step i place stack env in
    next_reads s.ran.flow s.ran (goes_on (place + 1) rest s.over s.stack s.ran.env) (step_reads i place stack env)
    (list_reads rest (place + 1) s.over s.stack s.ran.env)

member_reads : (list : List Instr) (m : Member) (env : Env) → (member_code list m env).reads ≡ id_of m ∷ []
member_reads list m env = ap (λ us. id_of m ∷ us) (list_reads list 0 0 [] (at_neighbour m env))

-- ---- what a feed has given so far, with the reads that are left and those of the whole loop
pub record Feeding (given left now_given now_left : List Member) (rest whole : List ℕ) : Type 0 where
  pub read : List Member
  pub gave : now_given ≡ given ++ read
  pub keeps : left ≡ read ++ now_left
  pub ids : map id_of read ++ rest ≡ whole

pub feeding_none : (given left : List Member) (whole : List ℕ) → Feeding given left given left whole whole
feeding_none given left whole = record { read = []; gave = sym (append-nil given); keeps = refl; ids = refl }

module _ (given left g l h k : List Member) (m : Member) (rest others whole : List ℕ) where
  pub feeding_more : l ≡ m ∷ k → h ≡ g ++ m ∷ [] → rest ≡ id_of m ∷ others → Feeding given left g l rest whole →
      Feeding given left h k others whole
  feeding_more first more is f = record {
    read = f.read ++ m ∷ [];
    gave = more ∙ ap (λ xs. xs ++ m ∷ []) f.gave ∙ append_assoc given f.read (m ∷ []);
    keeps = f.keeps ∙ ap (λ xs. f.read ++ xs) first ∙ sym (append_assoc f.read (m ∷ []) k);
    ids =
        ap (λ us. us ++ others) (map-append id_of f.read (m ∷ []))
        ∙ append_assoc (map id_of f.read) (id_of m ∷ []) others
        ∙ ap (λ us. map id_of f.read ++ us) (sym is)
        ∙ f.ids;
  }

pub fed_of : (given left h k : List Member) (whole : List ℕ) → Feeding given left h k [] whole →
    Fed given left h k whole
fed_of given left h k whole f = record {
  read = f.read;
  now_given = f.gave;
  now_left = f.keeps;
  ids = sym (append-nil (map id_of f.read)) ∙ f.ids;
}

-- ---- a turn
module _ (list : List Instr) (members others : List Member) (m : Member) (env : Env) (first : members ≡ m ∷ others)
  where
    pub turn_is : loop_code list members env ≡ followed_by (member_code list m env) (loop_code list others)
    turn_is = ap (λ ms. loop_code list ms env) first

    pub going_reads : (left : Env) → left ≡ (member_code list m env).env → Going ≡ (member_code list m env).flow →
        (loop_code list members env).reads ≡ id_of m ∷ (loop_code list others left).reads
    going_reads left e goes =
        let r = member_code list m env in
        ap (λ x. x.reads) (turn_is ∙ followed-Going r (loop_code list others) (sym goes))
        ∙ ap (λ us. us ++ (loop_code list others r.env).reads) (member_reads list m env)
        ∙ ap (λ x. id_of m ∷ (loop_code list others x).reads) (sym e)

    pub broke_reads : Broke ≡ (member_code list m env).flow → (loop_code list members env).reads ≡ id_of m ∷ []
    broke_reads broke =
        ap (λ x. x.reads) (turn_is ∙ followed-Broke (member_code list m env) (loop_code list others) (sym broke))
        ∙ member_reads list m env

-- what stays the same at a neighbour
pub beside_from : (env new : Env) (m : Member) → SameFrame (at_neighbour m env) new → SameFrame (beside env new) new
beside_from env new m k = record {
  counts = k.counts ∙ ap (λ row. let counts : Counts = record (counts_of env)
      { other_fields = length row.words.items } in counts) (sym k.other_row);
  id = k.id;
  n = k.n;
  round = k.round;
  indeg = k.indeg;
  outdeg = k.outdeg;
  draws = k.draws;
  active = k.active;
  other = refl;
  other_row = refl;
  sends = k.sends;
  slots = k.slots;
  totals = k.totals;
  key = k.key;
}

pub beside-refl : (env : Env) → SameFrame (beside env env) env
beside-refl env = record {
  counts = refl;
  id = refl;
  n = refl;
  round = refl;
  indeg = refl;
  outdeg = refl;
  draws = refl;
  active = refl;
  other = refl;
  other_row = refl;
  sends = refl;
  slots = refl;
  totals = refl;
  key = refl;
}

-- the names at a neighbour
module _ (start env : Env) (m : Member) (list loop : List Instr) where
  pub names_there : SameFrame (beside start env) env → IsWide start m → list ≡ loop →
      list_names (counts_at start) loop ≡ true → list_names (counts_of (at_neighbour m env)) list ≡ true
  names_there k wide is h =
      let widened : Counts → Counts = λ c. record c { other_fields = length m.1.words.items } in
      ap (λ c. list_names c list) (ap widened k.counts
      ∙ ap (λ n. let counts : Counts = record (counts_of start) { other_fields = n } in counts) wide)
      ∙ ap (list_names (counts_at start)) is
      ∙ h
